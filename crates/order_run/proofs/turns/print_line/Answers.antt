-- `print_line` meets its contract: all bytes, and a line's end behind them.
use Rattle.order_run.proofs.Printing.{line_laid}
use Rattle.order_run.proofs.turns.print_line.Goals as goal

pub returns : goal.returns
returns c =
    let a = c.args in
    let e = c.encode_at-end.ensures in
    line_laid a.out.now a.bytes.now a.at _ _ c.requires e.0 e.1
