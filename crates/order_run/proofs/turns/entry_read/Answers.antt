-- `entry_read` meets its contract, by the form and by the desk's answer.
use mathlib.Core.Path.{sym, ◌∙◌}
use Rattle.order_run.proofs.Read.{entered_yes, entered_no}
use Rattle.order_run.proofs.turns.entry_read.Goals as goal

pub returns-in-Ok : goal.returns-in-Ok
returns-in-Ok c =
    λ k. entered_yes c.args.frame.now c.requires (sym c.form_of.ensures ∙ c.in_ok-order.was) c.in-Ok.ensures k

pub returns-in-Err : goal.returns-in-Err
returns-in-Err c =
    λ k. entered_no c.args.frame.now c.requires (sym c.form_of.ensures ∙ c.in_ok-order.was) c.in-Err.ensures
