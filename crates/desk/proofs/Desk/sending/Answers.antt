-- `sending` meets its contract: 10, 12, 13, then 14 and 16 as the transfer rules, else the frame is written and the counter goes on.
use borrow.Author.Rules.{rules}
use mathlib.Core.Path.{◌≡◌, sym, ap, ◌∙◌}
use Rattle.std.specs.Prelude.{Err}
use Rattle.line.proofs.Steps.{send_refused}
use Rattle.transfer.specs.Coe.{coe_machine, frame_of}
use Rattle.desk.specs.Record.{view_of}
use Rattle.desk.proofs.Changed.{changes_lent}
use Rattle.desk.proofs.Told.{refuses, lent_same, sending_refused, sending_sent}
use Rattle.desk.proofs.Outcomes.{send_refuses, sends, frame_sent}
use Rattle.desk.proofs.Desk.sending.Goals as goal

pub returns-in_err-head : goal.returns-in_err-head
returns-in_err-head c =
    let e = send_refused coe_machine (view_of c.args.self) c.args.seat c.args.frame.now _ (sym c.in_err-head.ensures) in
    let r : c.from_residual.result ≡ Err c.in_err-head.field-0.0 = search rules in
    rw r (changes_lent (refuses _ c.requires _ _ e) (lent_same _ c.requires _ _ e _))

pub returns-in_err-sent : goal.returns-in_err-sent
returns-in_err-sent c =
    let v = sending_refused _ _ c.in_err-sent.ensures.0 in
    let e = send_refuses c.args.self c.requires c.args.seat _ (sym c.in_ok-head.ensures) c.args.frame.now _ v in
    let r : c.from_residual-in_err-sent.result ≡ Err c.in_err-sent.field-0.0 = search rules in
    rw r (changes_lent (refuses _ c.requires _ _ e) (c.send.ensures.1 ∙ ap (frame_of c.args.frame.now) v ∙ lent_same _ c.requires _ _ e _))

pub returns : goal.returns
returns c =
    let turned = sym c.in_ok-head.ensures in
    let b = c.args.frame.now in
    let v = sending_sent _ b _ c.in_ok-sent.ensures.0 in
    rw (c.heads.ensures, c.following.ensures, c.plain.ensures)
    (changes_lent (sends c.args.self c.requires c.args.seat _ turned b _ _ v)
    (c.send.ensures.1 ∙ frame_sent c.args.self c.requires c.args.seat _ turned b _ _ v))
