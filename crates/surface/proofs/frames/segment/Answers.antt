-- `surface::frames::segment` meets its contract: what the exported writer states, by conditions and fields.
use Rattle.surface.proofs.Writers.{segment_frame}
use Rattle.surface.proofs.frames.segment.Goals as goal

pub returns : goal.returns
returns c = segment_frame c.args.counter c.args.toggle c.coe_segment_frame.ensures
