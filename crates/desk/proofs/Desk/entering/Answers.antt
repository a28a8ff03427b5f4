-- `entering` meets its contract: 10, 11, 15, else the transfer joins the line. Past the second test the seat is free, and the line has room
-- for it.
use borrow.Author.Rules.{rules}
use borrow.Author.Tests.{lt-ltb, le-ltb}
use mathlib.Core.Path.{◌≡◌, sym}
use Prim.Native.Nat.{◌<◌}
use native.Mathlib.Omega.{arith}
use lib.ListN.{length}
use Rattle.std.specs.Prelude.{Err}
use Rattle.line.proofs.Steps.{enter_10, enter_11, enter_15}
use Rattle.transfer.specs.Entry.{opened_of}
use Rattle.transfer.specs.Coe.{coe_machine}
use Rattle.desk.specs.Record.{view_of}
use Rattle.desk.proofs.Held.{seated_is, good_length, good_room}
use Rattle.desk.proofs.Told.{refuses}
use Rattle.desk.proofs.Outcomes.{enters}
use Rattle.desk.proofs.Desk.entering.Goals as goal

pub returns-then-seat-gt7 : goal.returns-then-seat-gt7
returns-then-seat-gt7 c = refuses _ c.requires _ _ (enter_10 coe_machine _ _ _ (lt-ltb 7 _ c.if-seat-gt7.true))

pub returns-then-is_some : goal.returns-then-is_some
returns-then-is_some c =
    let l = (view_of c.args.self).line in
    let taken = seated_is c.args.seat l c.place.ensures c.is_some.ensures c.if-is_some.true in
    refuses _ c.requires _ _ (enter_11 coe_machine _ _ _ (le-ltb 7 _ c.if-seat-gt7.false) taken)

pub returns-in_err-transfer : goal.returns-in_err-transfer
returns-in_err-transfer c =
    let l = (view_of c.args.self).line in
    let free = seated_is c.args.seat l c.place.ensures c.is_some.ensures c.if-is_some.false in
    let r : c.from_residual.result ≡ Err c.in_err-transfer.field-0.0 = search rules in
    rw r (refuses _ c.requires _ _ (enter_15 coe_machine _ c.args.seat c.args.order _ (le-ltb 7 _ c.if-seat-gt7.false) free (sym c.in_err-transfer.ensures)))

pub joins-requires : goal.joins-requires
joins-requires c =
    let l = (view_of c.args.self).line in
    let free = seated_is c.args.seat l c.place.ensures c.is_some.ensures c.if-is_some.false in
    let short = good_room _ c.requires c.args.seat (opened_of c.args.order) (omega arith) free in
    omega (arith, short, good_length _ c.requires)

pub returns : goal.returns
returns c =
    let l = (view_of c.args.self).line in
    let free = seated_is c.args.seat l c.place.ensures c.is_some.ensures c.if-is_some.false in
    let short : length l < 8 = good_room _ c.requires c.args.seat (opened_of c.args.order) (omega arith) free in
    rw c.joins.ensures (enters _ c.requires c.args.seat c.args.order _ (le-ltb 7 _ c.if-seat-gt7.false) free short (sym c.in_ok-transfer.ensures))
