-- `surface::judging::told` meets its contract: what the exported judge states, by the rules.
use Rattle.surface.proofs.Judge.{judges_reply}
use Rattle.surface.proofs.judging.told.Goals as goal

pub returns : goal.returns
returns c =
    let a = c.args in
    judges_reply a.index a.sub a.earlier a.reply.now a.buffer.now a.kind c.coe_judge.ensures
