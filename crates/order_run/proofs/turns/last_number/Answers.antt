-- `last_number` meets its contract.
use mathlib.Core.List.{[], ◌∷◌}
use native.Mathlib.Omega.{arith}
use Rattle.order_run.proofs.Spoken.{last_turned}
use Rattle.order_run.proofs.turns.last_number.Goals as goal

pub returns : goal.returns
returns c =
    let a = c.args in
    let e = c.print_line-end.ensures in
    last_turned a.desk (a.number ∷ []) a.out.now _ a.at _ c.requires.good (omega arith) e.0 e.1
