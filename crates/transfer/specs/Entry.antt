-- What may be entered. Document 01, "Calls of the desk": "enter: joins the end of the line, with kind, index, sub-index, data, and a
-- reply budget of 1 to 65,535." Assumes nothing.
use Rattle.std.specs.Prelude.{ℕ, Bool, true, false, eqb, ltb, Option, Some, None}
use Rattle.wire.specs.Words.{pick, either}
use Rattle.mailbox.specs.declared.sub_index.SubIndex.TheVariants.{Complete, Index}
use Rattle.transfer.specs.Stage.{first_request_due}
use Rattle.transfer.specs.declared.Order.{Order}
use Rattle.transfer.specs.declared.Transfer.{Transfer}
use Rattle.transfer.specs.declared.entry.Kind.{Kind}
use Rattle.transfer.specs.declared.entry.Kind.TheVariants.{Upload, Download, ObjectList, Quantities}

-- document 02, [12]: "The default in the programs and in the linked functions that name no budget becomes 1,024."
abbrev pub default_budget : ℕ
default_budget = 1024

-- the kinds by number; "Complete access sets its bit and sub-index 1", whatever sub-index the order has
unfoldable pub kind_of : ℕ → ℕ → Option Kind
kind_of kind sub =
    pick (eqb kind 1) (Some (Upload (Index sub)))
    (pick (eqb kind 2) (Some (Upload Complete))
    (pick (eqb kind 3) (Some (Download (Index sub)))
    (pick (eqb kind 4) (Some ObjectList)
    (pick (eqb kind 5) (Some Quantities)
    (pick (eqb kind 6) (Some (Download Complete))
    None)))))

unfoldable pub outside : ℕ → ℕ → ℕ → Bool
outside low high n = either (ltb n low) (ltb high n)

-- "data length not 1-4, list kind not 1-5"; and a kind that is none
abbrev pub unfit_as : Option Kind → Order → Bool
unfit_as (Some (Upload access)) o = false
unfit_as (Some (Download access)) o = outside 1 4 o.len
unfit_as (Some ObjectList) o = outside 1 5 o.index
unfit_as (Some Quantities) o = false
unfit_as None o = true

-- "15: entry: data length not 1-4, list kind not 1-5, budget 0"
unfoldable pub unfit_of : Order → Bool
unfit_of o = pick (eqb o.budget 0) true (unfit_as (kind_of o.kind o.sub) o)

-- a transfer as it is entered: the first segment's toggle is 0, no chunk has come, and the whole budget is left
abbrev pub opened_of : Order → Transfer
opened_of o = record { order = o; stage = first_request_due; toggle = 0; left = o.budget; sum = 0 }
