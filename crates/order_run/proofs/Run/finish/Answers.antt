-- `Run::finish` meets its contract: the last line, and then what is left to say.
use mathlib.Core.Path.{sym, ◌∙◌}
use Rattle.order_run.specs.Feed.{st_in}
use Rattle.order_run.proofs.Closing.{closed_over, closed_all}
use Rattle.order_run.proofs.Run.finish.Goals as goal

pub returns-then-is_over : goal.returns-then-is_over
returns-then-is_over c =
    closed_over (st_in c.args.self c.args.buffers.now) c.last_line-fed.ensures c.ended.view_is (sym c.is_over.ensures ∙ c.if-is_over.true)

pub returns : goal.returns
returns c =
    closed_all (st_in c.args.self c.args.buffers.now) c.last_line-fed.ensures c.ended.view_is (sym c.is_over.ensures ∙ c.if-is_over.false)
    c.all_read-turn.ensures c.nothing-part.ensures
