-- The desk's record and calls as a stand of line, for demand 3. What is told of a call is the answer, and the lent buffer as it is
-- afterwards. Assumes nothing.
use Rattle.std.specs.Prelude.{Bool, not, List, [], ℕ}
use Rattle.line.specs.Desk.{pass_at, Call, enter, send, receive, leave, step}
use Rattle.line.specs.Stand.{Stand}
use Rattle.line.specs.Alone.{Demand3Of, LosesNone}
use Rattle.line.specs.Numbers.{is1x}
use Rattle.transfer.specs.Coe.{Told, coe_machine}
use Rattle.desk.specs.Record.{view_of, empty_at}
use Rattle.desk.specs.Calls.{lent_after, called_of}
use Rattle.desk.specs.declared.Desk.{Desk}

-- the buffer that a call lends
unfoldable pub lent_by : Call coe_machine → List ℕ
lent_by (enter s o) = []
lent_by (send s b) = b
lent_by (receive s l) = l.1
lent_by (leave s) = []

-- what `Gives` and `GivesLent` promise of the calls, and `Fresh` of a fresh desk
abbrev pub desk_stand : Stand coe_machine Told
desk_stand = record {
  State = Desk;
  fresh = λ p. empty_at p.counter;
  pass = λ d. pass_at d.counter;
  answers = λ d k.
      let r = step coe_machine (view_of d) k in
      ((called_of r).answer, lent_after (lent_by k) r.1);
  next = λ d k. (called_of (step coe_machine (view_of d) k)).desk;
}

-- "Accepted calls are those not answered 1x."
abbrev pub is_answered : Told → Bool
is_answered t = not (is1x t.0.number)

-- demand 3
abbrev pub Demand3Desk : Type 0
Demand3Desk = Demand3Of desk_stand is_answered

-- and its transfers have every call that was not answered 1x
abbrev pub LosesNoneDesk : Type 0
LosesNoneDesk = LosesNone desk_stand is_answered
