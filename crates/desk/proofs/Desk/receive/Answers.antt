-- `receive` meets its contract: the change is made.
use mathlib.Core.Path.{◌∙◌}
use Rattle.desk.proofs.Kept.{gives_lent}
use Rattle.desk.proofs.Desk.receive.Goals as goal

pub returns : goal.returns
returns c =
    let e = c.receiving-decided.ensures in
    gives_lent _ c.requires _ _ (c.called.ensures ∙ e.changes.makes) _ _ e.lent
