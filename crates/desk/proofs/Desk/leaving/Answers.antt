-- `leaving` meets its contract: 10, 12, else the line closes up behind the seat.
use borrow.Author.Tests.{lt-ltb, le-ltb}
use mathlib.Core.Path.{sym, ◌∙◌}
use Prim.Native.Nat.{◌<◌}
use native.Mathlib.Omega.{arith}
use Rattle.line.proofs.Steps.{leave_10, leave_12}
use Rattle.transfer.specs.Coe.{coe_machine}
use Rattle.desk.specs.Record.{view_of, place_in}
use Rattle.desk.proofs.Held.{placed, unplaced, good_length}
use Rattle.desk.proofs.Told.{refuses}
use Rattle.desk.proofs.Outcomes.{leaves}
use Rattle.desk.proofs.Desk.leaving.Goals as goal

pub returns-then-seat-gt7 : goal.returns-then-seat-gt7
returns-then-seat-gt7 c = refuses _ c.requires _ _ (leave_10 coe_machine _ _ (lt-ltb 7 _ c.if-seat-gt7.true))

pub returns-in_default : goal.returns-in_default
returns-in_default c =
    let free = unplaced c.args.seat (view_of c.args.self).line (sym c.in_default.is ∙ c.place.ensures) in
    refuses _ c.requires _ _ (leave_12 coe_machine _ _ (le-ltb 7 _ c.if-seat-gt7.false) free)

pub closes-requires : goal.closes-requires
closes-requires c =
    let at = placed c.args.seat (view_of c.args.self).line _ (sym c.in-Some.is ∙ c.place.ensures) in
    omega (arith, good_length _ c.requires)

pub returns : goal.returns
returns c =
    let l = (view_of c.args.self).line in
    let at = placed c.args.seat l _ (sym c.in-Some.is ∙ c.place.ensures) in
    let h : place_in c.args.seat l < c.args.self.waiting = omega (arith, good_length _ c.requires) in
    rw (c.closes.ensures, c.plain.ensures, at.at)
    (leaves _ c.requires c.args.seat (le-ltb 7 _ c.if-seat-gt7.false) at.taken h)
