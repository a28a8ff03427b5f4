-- `order_text::encode` meets its contract. A turn writes the two characters of byte i.
use mathlib.Core.Path.{◌≡◌, ap, ◌∙◌}
use Prim.Native.Nat.{ℕ, ◌/◌, ◌%◌, ◌*◌}
use native.Mathlib.Omega.{arith}
use lib.ListN.{get_or, length, length-set, length-take, take}
use lib.Seq.{paste, get_or-take}
use Rattle.order_text.specs.Text.{hex_text}
use Rattle.order_text.proofs.Text.{text_turn, encoded}
use Rattle.order_text.proofs.encode.Goals as goal

pub loop-i-preserved : goal.loop-i-preserved
loop-i-preserved c =
    let a = c.args in
    let i : ℕ = c.loop-i.i in
    let b : ℕ = get_or a.bytes.now i 0 in
    let n : length (take c.min-count.result a.bytes.now) ≡ c.min-count.result = simp length-take (omega arith) in
    let it : get_or (take c.min-count.result a.bytes.now) i 0 ≡ b = get_or-take c.min-count.result a.bytes.now i 0 (omega arith) in
    let high : b / 16 % 16 ≡ b / 16 = omega (arith, c.type_inv.bytes i) in (
      simp length-set (omega arith),
      rw (c.loop-i.invariant.1, c.glyph.ensures, c.glyph-in-loop-i.ensures, it, high)
          (text_turn a.out.now a.bytes.now i (omega arith) (omega arith)),
    )

pub returns : goal.returns
returns c =
    let a = c.args in
    let k = c.min-count in
    let n : length (take k.result a.bytes.now) ≡ k.result = simp length-take (omega arith) in
    let all : c.loop-i.i ≡ k.result = omega arith in
    encoded a.out.now a.bytes.now k.result k.ensures c.loop-i.out (c.loop-i.invariant.1 ∙ ap (λ i. paste a.out.now 0 (hex_text a.bytes.now) (2 * i)) all)
