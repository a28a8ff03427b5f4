-- `Run::last_line` meets its contract.
use mathlib.Core.Path.{sym, ap, ◌∙◌}
use borrow.Author.Rules.{rules}
use Rattle.order_run.specs.Run.{Run}
use Rattle.order_run.specs.Feed.{begun, st_in}
use Rattle.order_run.proofs.Closing.{ended_here, nothing_fed}
use Rattle.order_run.proofs.Run.last_line.Goals as goal

pub returns-then-is_begun : goal.returns-then-is_begun
returns-then-is_begun c =
    let a = c.args in
    let b = sym (ap (λ (r : Run). begun r.part) c.self.view_is) ∙ sym c.is_begun.ensures ∙ c.if-is_begun.true in
    rw (ended_here (st_in a.self a.buffers.now) b) at c.feed.ensures

pub returns : goal.returns
returns c =
    let a = c.args in
    let b = sym (ap (λ (r : Run). begun r.part) c.self.view_is) ∙ sym c.is_begun.ensures ∙ c.if-is_begun.false in
    nothing_fed a.self a.buffers.now.frame a.buffers.now.«data» a.buffers.now.out (search rules) b
