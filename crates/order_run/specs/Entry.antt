-- Line one of an order file. Document 01, "The order program": "Line one is the entry: 01 index sub, 02 index (complete), 03 index sub
-- data, 04 kind, 05 (quantities)." Assumes nothing.
use Rattle.std.specs.Prelude.{ℕ, ◌-◌, Bool, false, List, eqb, ltb, leb, length, Option, Some, None}
use Rattle.wire.specs.Words.{pick}
use Rattle.wire.specs.Bytes.{byte_at, word_at, long_at}
use Rattle.transfer.specs.Entry.{default_budget}
use Rattle.transfer.specs.declared.Order.{Order}

-- a frame of least to most bytes that begins with the number of a form
unfoldable pub is_form : ℕ → ℕ → ℕ → List ℕ → Bool
is_form form least most s = pick (eqb (byte_at s 0) form) (pick (ltb (length s) least) false (leb (length s) most)) false

-- an order file names no budget, so that each order, a list's too, has the default
abbrev pub order_with : ℕ → ℕ → ℕ → ℕ → ℕ → Order
order_with kind sub index value len =
    record { kind = kind; sub = sub; index = index; value = value; len = len; budget = default_budget }

-- the data are what stands behind the sub-index; that they are 1 to 4 bytes is the desk's to judge, as 15
abbrev pub download_of : List ℕ → Order
download_of s = order_with 3 (byte_at s 3) (word_at s 1) (long_at s 4) (length s - 4)

-- the desk's kinds have the numbers of the forms; a list's kind stands in the order's index
unfoldable pub form_of : List ℕ → Option Order
form_of s =
    pick (is_form 1 4 4 s) (Some (order_with 1 (byte_at s 3) (word_at s 1) 0 0))
    (pick (is_form 2 3 3 s) (Some (order_with 2 0 (word_at s 1) 0 0))
    (pick (is_form 3 4 8 s) (Some (download_of s))
    (pick (is_form 4 2 2 s) (Some (order_with 4 0 (byte_at s 1) 0 0))
    (pick (is_form 5 1 1 s) (Some (order_with 5 0 0 0 0))
    None))))
