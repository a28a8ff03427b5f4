-- `surface::lending::leave` meets its contract, which follows from that of `coe_desk_leave`. Assumes nothing.
use Rattle.surface.proofs.Calls.{leaves}
use Rattle.surface.proofs.lending.leave.Goals as goal

pub returns : goal.returns
returns c =
    let a = c.args in
    let r = c.coe_desk_leave in
    leaves a.desk.now c.requires r.result r.new.desk a.seat r.ensures
