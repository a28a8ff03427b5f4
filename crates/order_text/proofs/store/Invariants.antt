-- `order_text::store` meets its contract. The invariant: the first k bytes of the line stand at the front of the buffer's part.
use mathlib.Core.Path.{◌≡◌}
use lib.Seq.{paste}
use Rattle.order_text.specs.Lines.{bytes_of}
use Rattle.order_text.proofs.store.Given as goal

abbrev pub invariant-loop-k : goal.invariant-loop-k
invariant-loop-k l = l.byte-items ≡ paste l.initial.byte-items 0 (bytes_of l.line) l.k
