-- `order_text::encode_at` meets its contract.
use mathlib.Core.Path.{◌≡◌}
use Prim.Native.Nat.{◌-◌}
use native.Mathlib.Omega.{arith}
use lib.ListN.{length, length-take, length-drop, take, drop}
use Rattle.order_text.proofs.Text.{text_past, text_fits}
use Rattle.order_text.proofs.encode_at.Goals as goal

pub returns-then-out-at : goal.returns-then-out-at
returns-then-out-at c = text_past _ _ _ c.if-out-at.true

pub overflow_add-result : goal.overflow_add-result
overflow_add-result c =
    let a = c.args in
    let n : length (take (length a.out.now - a.at) (drop a.at a.out.now)) ≡ length a.out.now - a.at = simp (length-take, length-drop) (omega arith) in
    omega (arith, c.encode.ensures.0, text_fits (length (take (length a.out.now - a.at) (drop a.at a.out.now))) a.bytes.now)
