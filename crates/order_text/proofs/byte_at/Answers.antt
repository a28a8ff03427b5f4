-- `order_text::byte_at` meets its contract: two characters of a line of digits are a byte.
use mathlib.Core.Path.{sym, ◌∙◌}
use Rattle.std.proofs.Common.{rules}
use Rattle.order_text.proofs.Lines.{byte_some}
use Rattle.order_text.proofs.byte_at.Goals as goal

pub unwrap-requires : goal.unwrap-requires
unwrap-requires c =
    let a = c.args in
    rw (c.byte_of.ensures, ← byte_some a.line.now a.k c.requires.line_value c.requires.bytes_in_bounds) (search rules)

pub returns : goal.returns
returns c =
    let a = c.args in
    let is = c.byte_of.ensures ∙ sym (byte_some a.line.now a.k c.requires.line_value c.requires.bytes_in_bounds) in
    search (rules, c.unwrap.ensures, is)
