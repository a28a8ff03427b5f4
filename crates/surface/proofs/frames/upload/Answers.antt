-- `surface::frames::upload` meets its contract: what the exported writer states, by conditions and fields.
use Rattle.surface.proofs.Writers.{upload_frame}
use Rattle.surface.proofs.frames.upload.Goals as goal

pub returns : goal.returns
returns c =
    let a = c.args in
    upload_frame a.counter a.index a.sub a.complete c.ranges.index.fits c.ranges.sub.fits c.coe_upload_frame.ensures
