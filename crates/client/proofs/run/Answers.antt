-- `run` meets its contract: each call's promise is one step of the run, and the record that it gives is good for the next.
use Rattle.client.proofs.Steps.{four}
use Rattle.client.proofs.run.Goals as goal

pub returns : goal.returns
returns c =
    let a = c.args in
    four a.seat a.order a.frame.now a.reply.now a.buffer.now _ _ _ _ _ _ _
    c.fresh.ensures c.enter-entered.ensures c.send-sent.ensures c.receive-received.ensures c.leave-left.ensures
