-- `DigitTable::byte` meets its contract: the tests are those of `byte_of`, and the table has the digits.
use mathlib.Core.Path.{sym, ap, ◌∙◌}
use native.Mathlib.Omega.{arith}
use Rattle.std.specs.Prelude.{Some}
use Rattle.order_text.proofs.Digits.{byte_high, byte_low, byte_digits, no_byte, one_byte}
use Rattle.order_run.proofs.table.DigitTable.byte.Goals as goal
use Rattle.order_run.proofs.table.DigitTable.byte.Goals.{then-high-gt15-via-then-high-gt15, then-high-gt15-via-else-high-gt15+then-low-gt15}

pub returns-then-high-gt15 : goal.returns-then-high-gt15
returns-then-high-gt15 c =
    let a = c.args in
    let high = c.digit-high.ensures in
    let low = c.digit-low.ensures in
    no_byte a.a a.b
    (elim c.then-high-gt15.branch [
      | then-high-gt15-via-then-high-gt15 w ↦ omega (arith, byte_high a.a a.b (omega (arith, high, w.if-high-gt15.true)))
      | then-high-gt15-via-else-high-gt15+then-low-gt15 w ↦ omega (arith, byte_low a.a a.b (omega (arith, high, w.if-high-gt15.false)) (omega (arith, low, w.if-low-gt15.true)))
    ])

pub returns : goal.returns
returns c =
    let a = c.args in
    let high = c.digit-high.ensures in
    let low = c.digit-low.ensures in
    let e = byte_digits a.a a.b (omega (arith, high, c.if-high-gt15.false)) (omega (arith, low, c.if-low-gt15.false)) in
    rw (high, low) (ap Some (sym e) ∙ one_byte a.a a.b (omega (arith, e, high, low, c.if-high-gt15.false, c.if-low-gt15.false)))
