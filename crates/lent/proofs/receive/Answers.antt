-- `lent::receive` meets its contract: what is changed in the record gives the desk by value.
use mathlib.Core.Path.{◌∙◌}
use Rattle.desk.proofs.Changed.{both_called}
use Rattle.desk.proofs.Kept.{gives_lent}
use Rattle.lent.proofs.receive.Goals as goal

pub returns : goal.returns
returns c =
    let e = c.receiving-decided.ensures in
    gives_lent _ c.requires _ _ (both_called c.settle.ensures ∙ e.changes.makes) _ _ e.lent
