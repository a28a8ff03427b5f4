-- `request` meets its contract: the frame that the desk sent is printed.
use Rattle.order_run.proofs.Spoken.{request_turned}
use borrow.Author.Rules.{rules}
use Rattle.order_run.proofs.turns.request.Goals as goal

pub returns : goal.returns
returns c =
    let a = c.args in
    let s = c.send-sent in
    let e = c.print_line-end.ensures in
    request_turned a.desk s.result _ a.out.now _ a.at _ s.ensures (search rules) c.requires.at_in_bounds e.0 e.1
