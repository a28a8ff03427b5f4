-- `surface::lending::enter_within` meets its contract, which follows from that of `coe_desk_enter_within`. Assumes nothing.
use Rattle.surface.proofs.Calls.{enters}
use Rattle.surface.proofs.lending.enter_within.Goals as goal

pub returns : goal.returns
returns c =
    let a = c.args in
    let r = c.coe_desk_enter_within in
    enters a.desk.now c.requires r.result r.new.desk a.seat a.kind a.index a.sub a.bytes.now a.budget r.ensures
