-- `order_text::decode` meets its contract: the tests are those of `line_of`, and `store` lays what a good line says.
use mathlib.Core.Path.{sym, ◌∙◌}
use lib.ListN.{length}
use Rattle.order_text.specs.Lines.{line_of}
use Rattle.order_text.proofs.Refused.{bad_character, odd_line, overlong_line, good_line}
use Rattle.order_text.proofs.Answers.{told_bad, told_good}
use Rattle.order_text.proofs.decode.Goals as goal

pub returns-then-has_bad : goal.returns-then-has_bad
returns-then-has_bad c =
    let a = c.args in
    let s = a.line.now in
    let f = a.frame.now in
    told_bad f (line_of (length f) s) (bad_character (length f) s (sym c.has_bad.ensures ∙ c.if-has_bad.true))

pub returns-then-line-eq1 : goal.returns-then-line-eq1
returns-then-line-eq1 c =
    search (told_bad, odd_line)

pub returns-then-frame-count : goal.returns-then-frame-count
returns-then-frame-count c =
    search (told_bad, overlong_line)

pub returns : goal.returns
returns c =
    let a = c.args in
    let s = a.line.now in
    let f = a.frame.now in
    told_good f c.store.new.frame s (line_of (length f) s)
    (good_line (length f) s (sym c.has_bad.ensures ∙ c.if-has_bad.false) c.if-line-eq1.false c.if-frame-count.false)
    c.if-frame-count.false
    c.store.ensures
