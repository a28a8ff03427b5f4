-- `surface::frames::download` meets its contract: what the exported writer states, by conditions and fields.
use Rattle.surface.proofs.Writers.{download_frame}
use Rattle.surface.proofs.frames.download.Goals as goal

pub returns : goal.returns
returns c =
    let a = c.args in
    download_frame a.counter a.index a.sub a.complete a.sent.now c.ranges.index.fits c.ranges.sub.fits c.coe_download_frame.ensures
