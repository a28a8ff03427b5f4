-- `surface::lending::receive` meets its contract, which follows from that of `coe_desk_receive`. Assumes nothing.
use Rattle.surface.proofs.Calls.{receives}
use Rattle.surface.proofs.lending.receive.Goals as goal

pub returns : goal.returns
returns c =
    let a = c.args in
    let r = c.coe_desk_receive in
    receives a.desk.now c.requires r.result r.new.desk a.seat a.reply.now a.buffer.now r.new.buffer r.ensures
