-- Demand 3: "Any sequence of calls from a fresh desk gives each transfer exactly what it would get alone, one after another, in order of
-- entry." The equality is `Demand3Of` (line/specs/Alone), of any desk that is offered. Here it is said of the shipped one, with what
-- ties it to the functions; and what it excludes. Assumes nothing.
use Rattle.std.specs.Prelude.{◌≡◌, List, ℕ}
use Rattle.wire.specs.Words.{pick, within}
use Rattle.line.specs.Lists.{Each}
use Rattle.line.specs.Desk.{pass_at}
use Rattle.line.specs.Stand.{Stand, calls, trace}
use Rattle.line.specs.Transfers.{OneTransfer}
use Rattle.line.specs.Alone.{Demand3Of, LosesNone, listed_of}
use Rattle.line.specs.Alone as line
use Rattle.transfer.specs.Coe.{Told, coe_machine}
use Rattle.desk.specs.Record.{counter_from}
use Rattle.desk.specs.Calls as desk
use Rattle.desk.specs.Stand.{lent_by, desk_stand, is_answered}
use Rattle.desk.specs.declared.Called as given
use Rattle.desk.specs.declared.Desk.{Desk}
use Rattle.promises.specs.Standing.{Called}
use Rattle.promises.specs.Whole.{Follows}

-- the shipped desk has it
abbrev pub Demand3 : Type 0
Demand3 = Demand3Of desk_stand is_answered

-- and what it lists has every accepted call: those for a seat are, in their order, those of the transfers that entered there
abbrev pub NoCallLost : Type 0
NoCallLost = LosesNone desk_stand is_answered

-- The shipped desk is what the functions give. `enter` and `leave` ensure `Gives`, `send` and `receive` ensure `GivesLent`: the answer,
-- the record and the lent buffer that they give are the stand's. `client::run` makes such calls one after another, and its contract is
-- a run of the stand (client/specs/RunSeen).
pub record ByTheFunctions : Type 0 where
  pub told : (d : Desk) (k : Called) (r : given.Called) → desk.Gives d k r
      → (r.answer ≡ (desk_stand.answers d k).0) × (r.desk ≡ desk_stand.next d k)
  pub told_lent : (d : Desk) (k : Called) (r : given.Called) (after : List ℕ) → desk.GivesLent d k r (lent_by k) after
      → (r.answer ≡ (desk_stand.answers d k).0) × (r.desk ≡ desk_stand.next d k) × (after ≡ (desk_stand.answers d k).1)
  pub fresh : (c : ℕ) (d : Desk) → desk.Fresh c d → d ≡ desk_stand.fresh (pass_at c)
  -- `fresh_at` ensures `Fresh (counter_from c)`: a desk begins at any counter from 1 to 7, and at 1 whatever else it is handed
  pub fresh_at : (c : ℕ) (d : Desk) → desk.Fresh (counter_from c) d → d ≡ desk_stand.fresh (pass_at (pick (within 1 7 c) c 1))

-- the runs that it speaks of exist: every sequence of calls has one, at every record
abbrev pub RunsExist : Type 0
RunsExist = (d : Desk) (ks : List Called) → calls (trace desk_stand d ks) ≡ ks

-- ---- with demand 2

-- of any desk: each of its single runs, where it is one transfer's, follows demand 2's rules
abbrev pub SinglesFollow : Stand coe_machine Told → Type 0
SinglesFollow S = line.HoldsAlone S (λ t. OneTransfer is_answered t → Follows t)

-- then so does every transfer that it serves beside others
abbrev pub ServedTruly : Stand coe_machine Told → Type 0
ServedTruly S = Demand3Of S is_answered → SinglesFollow S → (ks : List Called) → Each Follows (listed_of S is_answered ks)
