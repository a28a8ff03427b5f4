-- `surface::lending::send` meets its contract, which follows from that of `coe_desk_send`. Assumes nothing.
use Rattle.surface.proofs.Calls.{sends}
use Rattle.surface.proofs.lending.send.Goals as goal

pub returns : goal.returns
returns c =
    let a = c.args in
    let r = c.coe_desk_send in
    sends a.desk.now c.requires r.result r.new.desk a.seat a.frame.now r.new.frame r.ensures
