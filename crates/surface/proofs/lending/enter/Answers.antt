-- `surface::lending::enter` meets its contract, which follows from that of `coe_desk_enter`. Assumes nothing.
use Rattle.transfer.specs.Entry.{default_budget}
use Rattle.surface.proofs.Calls.{enters}
use Rattle.surface.proofs.lending.enter.Goals as goal

pub returns : goal.returns
returns c =
    let a = c.args in
    let r = c.coe_desk_enter in
    enters a.desk.now c.requires r.result r.new.desk a.seat a.kind a.index a.sub a.bytes.now default_budget r.ensures
