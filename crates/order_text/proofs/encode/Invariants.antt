-- `order_text::encode` meets its contract. The invariant: the text of the first i bytes stands at the front of `out`.
use mathlib.Core.Path.{◌≡◌}
use Prim.Native.Nat.{◌*◌}
use lib.ListN.{length}
use lib.Seq.{paste}
use Rattle.order_text.specs.Text.{hex_text}
use Rattle.order_text.proofs.encode.Given as goal

abbrev pub invariant-loop-i : goal.invariant-loop-i
invariant-loop-i l = (length l.out ≡ length l.initial.out) × (l.out ≡ paste l.initial.out 0 (hex_text l.bytes) (2 * l.i))
