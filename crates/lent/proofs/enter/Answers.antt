-- `lent::enter` meets its contract: what is changed in the record gives the desk by value.
use mathlib.Core.Path.{◌∙◌}
use Rattle.desk.proofs.Changed.{both_called}
use Rattle.desk.proofs.Kept.{gives}
use Rattle.lent.proofs.enter.Goals as goal

pub returns : goal.returns
returns c = gives _ c.requires _ _ (both_called c.settle.ensures ∙ c.entering-decided.ensures.makes)
