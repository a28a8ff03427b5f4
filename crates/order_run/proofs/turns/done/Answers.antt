-- `done` meets its contract: 00, and as much of the payload as is stored.
use Rattle.order_run.proofs.Spoken.{done_turned}
use Rattle.order_run.proofs.turns.done.Goals as goal

pub returns : goal.returns
returns c =
    let a = c.args in
    let f = c.encode_at-from.ensures in
    let e = c.print_line-end.ensures in
    done_turned a.desk a.«data».now a.out.now _ _ a.at _ _ a.payload _ c.requires.good c.requires.data_in_bounds
    c.min-stored.ensures f.0 f.1 e.0 e.1
