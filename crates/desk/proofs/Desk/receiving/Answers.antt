-- `receiving` meets its contract: 10, 12, 13, then 14 and 16 as the transfer rules, else the head's transfer is over or goes on.
use borrow.Author.Rules.{rules}
use mathlib.Core.Path.{◌≡◌, sym, ap, ◌∙◌}
use Rattle.std.specs.Prelude.{Err}
use Rattle.line.proofs.Steps.{receive_refused}
use Rattle.transfer.specs.Coe.{coe_machine, data_of}
use Rattle.desk.specs.Record.{view_of}
use Rattle.desk.proofs.Changed.{changes_lent}
use Rattle.desk.proofs.Told.{refuses, lent_same, step_refused, step_judged}
use Rattle.desk.proofs.Outcomes.{waits, receive_refuses, moves, data_received}
use Rattle.desk.proofs.Desk.receiving.Goals as goal

pub returns-in_err-head : goal.returns-in_err-head
returns-in_err-head c =
    let e = receive_refused coe_machine (view_of c.args.self) c.args.seat (c.args.reply.now, c.args.buffer.now) _ (sym c.in_err-head.ensures) in
    let r : c.from_residual.result ≡ Err c.in_err-head.field-0.0 = search rules in
    rw r (changes_lent (refuses _ c.requires _ _ e) (lent_same _ c.requires _ _ e _))

pub returns-in_err-answer : goal.returns-in_err-answer
returns-in_err-answer c =
    let v = step_refused _ _ c.in_err-answer.ensures.0 in
    let e = receive_refuses c.args.self c.requires c.args.seat _ (sym c.in_ok-head.ensures) c.args.reply.now c.args.buffer.now _ v in
    let r : c.from_residual-in_err-answer.result ≡ Err c.in_err-answer.field-0.0 = search rules in
    rw r (changes_lent (refuses _ c.requires _ _ e) (c.receive.ensures.1 ∙ ap (data_of c.args.buffer.now) v ∙ lent_same _ c.requires _ _ e _))

pub moves_on-requires : goal.moves_on-requires
moves_on-requires c = waits c.args.self c.requires c.args.seat _ (sym c.in_ok-head.ensures)

pub returns : goal.returns
returns c =
    let turned = sym c.in_ok-head.ensures in
    let p = c.args.reply.now in
    let b = c.args.buffer.now in
    let j = step_judged _ b _ _ c.in_ok-answer.ensures.0 in
    rw (c.moves_on.ensures, j.next)
    (changes_lent (moves c.args.self c.requires c.args.seat _ turned p b _ _ _ j.is)
    (c.receive.ensures.1 ∙ data_received c.args.self c.requires c.args.seat _ turned p b _ _ _ j.is))
