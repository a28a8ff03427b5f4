-- `surface::frames::list` meets its contract: what the exported writer states, by conditions and fields.
use Rattle.surface.proofs.Writers.{list_frame}
use Rattle.surface.proofs.frames.list.Goals as goal

pub returns : goal.returns
returns c = list_frame c.args.counter c.args.kind c.coe_list_frame.ensures
