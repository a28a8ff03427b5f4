-- The desk's calls as a host makes them, on one record that it lends. Document 01: "The desk is one record that the host lends to every call
-- and finds updated afterwards." Assumes nothing.
use Rattle.std.specs.Prelude.{◌≡◌, List, [], ℕ}
use Rattle.wire.specs.Words.{first_of}
use Rattle.judge.specs.declared.Answer.{Answer}
use Rattle.line.specs.Desk.{first, enter, send, receive, leave}
use Rattle.transfer.specs.Entry.{default_budget}
use Rattle.desk.specs.Record.{Good, view_of}
use Rattle.desk.specs.Stand.{desk_stand}
use Rattle.desk.specs.declared.Desk.{Desk}
use Rattle.promises.specs.Standing.{Called}
use Rattle.promises.specs.Table.{conditions, answer_by, buffer_by}
use Rattle.surface.specs.Entry.{entry_of}

-- a fresh desk: the record afterwards, whatever stood in it. The values of the first counter and of the default budget are said in promises
-- (`Defaults`).
pub record Opens (after : Desk) : Type 0 where
  pub empty : after ≡ desk_stand.fresh first
  pub good : Good after

-- a call k at the record d: the answer and the lent buffer by the first condition of the Table that holds, and the record that demand 3's
-- desk has next
pub record Does (d : Desk) (k : Called) (answer : Answer) (after : Desk) (lent : List ℕ) : Type 0 where
  pub told : answer ≡ answer_by (view_of d) k (first_of (conditions (view_of d) k))
  pub left : lent ≡ buffer_by (view_of d) k (first_of (conditions (view_of d) k))
  pub next : after ≡ desk_stand.next d k
  pub good : Good after

-- the exported functions, each by what it is handed; `coe_desk_enter` has the default budget
abbrev pub Enters : Desk → ℕ → ℕ → ℕ → ℕ → List ℕ → Answer → Desk → Type 0
Enters d seat kind index sub sent answer after = Does d (enter seat (entry_of kind index sub sent default_budget)) answer after []

abbrev pub EntersWithin : Desk → ℕ → ℕ → ℕ → ℕ → List ℕ → ℕ → Answer → Desk → Type 0
EntersWithin d seat kind index sub sent budget answer after = Does d (enter seat (entry_of kind index sub sent budget)) answer after []

abbrev pub Sends : Desk → ℕ → List ℕ → Answer → Desk → List ℕ → Type 0
Sends d seat frame = Does d (send seat frame)

abbrev pub Receives : Desk → ℕ → List ℕ → List ℕ → Answer → Desk → List ℕ → Type 0
Receives d seat reply buffer = Does d (receive seat (reply, buffer))

abbrev pub Leaves : Desk → ℕ → Answer → Desk → Type 0
Leaves d seat answer after = Does d (leave seat) answer after []
