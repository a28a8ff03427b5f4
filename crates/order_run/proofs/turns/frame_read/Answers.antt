-- `frame_read` meets its contract: line one is the entry, the others are replies.
use mathlib.Core.Path.{sym, ◌∙◌}
use Rattle.order_run.proofs.Read.{reply_says, reply_kept, frame_entry, frame_reply}
use Rattle.order_run.proofs.turns.frame_read.Goals as goal

pub returns-then-is_entry : goal.returns-then-is_entry
returns-then-is_entry c =
    let a = c.args in
    let f = frame_entry a.phase a.desk a.frame.now a.«data».now (sym c.is_entry.ensures ∙ c.if-is_entry.true) in
    (rw f.0 at (c.entry_read.ensures a.«data».now), f.1)

pub returns : goal.returns
returns c =
    let a = c.args in
    let f = frame_reply a.phase a.desk a.frame.now a.«data».now (sym c.is_entry.ensures ∙ c.if-is_entry.false) in
    let r = c.receiving.ensures in
    (rw f.0 at (reply_says c.requires r), reply_kept c.requires r ∙ f.1)
