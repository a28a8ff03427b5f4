-- `line_end` meets its contract: a whole frame is read, and an odd line is bad.
use mathlib.Core.Path.{◌∙◌}
use Rattle.order_run.specs.Part.{part}
use Rattle.order_run.specs.Feed.{st}
use Rattle.order_run.proofs.Characters.{end_whole, end_odd}
use Rattle.order_run.proofs.line_end.Goals as goal

pub returns-in-None : goal.returns-in-None
returns-in-None c =
    let a = c.args in
    let p = c.part.inside in
    let e = end_whole (st a.desk a.phase (part p.count p.half) a.frame.now a.«data».now) c.in-None.is in
    let r = c.frame_read.ensures in
    rw (← c.part.view_is) (rw e.0 at r.0, r.1 ∙ e.1)

pub returns-in-Some : goal.returns-in-Some
returns-in-Some c =
    let a = c.args in
    let p = c.part.inside in
    rw (← c.part.view_is) (end_odd (st a.desk a.phase (part p.count p.half) a.frame.now a.«data».now) c.in-Some.is)
