-- `leave` meets its contract: the change is made.
use mathlib.Core.Path.{◌∙◌}
use Rattle.desk.proofs.Kept.{gives}
use Rattle.desk.proofs.Desk.leave.Goals as goal

pub returns : goal.returns
returns c =
    gives _ c.requires _ _ (c.called.ensures ∙ c.leaving.ensures.makes)
