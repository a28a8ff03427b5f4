-- What decode's answer and the buffer say of the line, in both directions. Assumes nothing.
use Prim.Native.Nat.{ℕ, ◌+◌, ◌-◌, ◌/◌, ◌≤◌, min}
use mathlib.Core.Path.{◌≡◌, refl, sym, ap, ◌∙◌}
use mathlib.Core.List.{List}
use native.Mathlib.Omega.{arith}
use lib.ListN.{length, take}
use lib.Seq.{paste, take-paste, take-length}
use Rattle.wire.specs.Store.{laid}
use Rattle.order_text.specs.Lines.{bytes_of, Line, good, bad, line_of, answer_of, left_in}
use Rattle.std.specs.Prelude.{Some, None}
use Rattle.order_text.proofs.Lines.{length-bytes}
use Rattle.order_text.proofs.Refused.{good_only}

abbrev pub ToldBad : List ℕ → Line → Type 0
ToldBad f l = (None ≡ answer_of l) × (f ≡ left_in f l)

pub told_bad : (f : List ℕ) (l : Line) → l ≡ bad → ToldBad f l
told_bad f l e = (ap answer_of (sym e), ap (left_in f) (sym e))

-- the bytes of a line that fit, pasted in front, are what a good line leaves
pub told_good : (f g s : List ℕ) (l : Line) → l ≡ good (bytes_of s) → length s / 2 ≤ length f → g ≡ paste f 0 (bytes_of s) (length s / 2)
    → (Some (length s / 2) ≡ answer_of l) × (g ≡ left_in f l)
told_good f g s l e h q =
    let n : length (bytes_of s) ≡ length s / 2 = length-bytes s in
    let k : length s / 2 ≡ min (length (bytes_of s)) (length f - 0) = omega arith in (
      ap Some (sym n) ∙ ap answer_of (sym e),
      q ∙ ap (paste f 0 (bytes_of s)) k ∙ ap (left_in f) (sym e),
    )

-- ---- what a caller learns

-- Bytes k: the line is good, and its bytes are the first k of the buffer
pub heard_good : (f : List ℕ) (l : Line) (k : ℕ) → answer_of l ≡ Some k → k ≤ length f → l ≡ good (take k (left_in f l))
heard_good f bad k e h = let z : ◌≡◌ {A = ℕ} 0 1 = cc in absurd (omega arith)
heard_good f (good s) k e h = ap good (sym front)
  where
    front : take k (laid f 0 s) ≡ s
    front =
        let n : length s ≡ k = cc in
        let m : min (length s) (length f - 0) ≡ length s = omega arith in
        let z : k ≡ 0 + length s = omega arith in
        ap (λ (j : ℕ). take k (paste f 0 s j)) m
        ∙ ap (λ (j : ℕ). take j (paste f 0 s (length s))) z
        ∙ take-paste f 0 s (length s) (omega arith) (omega arith)
        ∙ take-length s

pub heard_bad : (l : Line) → answer_of l ≡ None → l ≡ bad
heard_bad bad e = refl
heard_bad (good s) e = let z : ◌≡◌ {A = ℕ} 0 1 = cc in absurd (omega arith)

-- and k is at most the room that there was
pub heard_fits : (n : ℕ) (s : List ℕ) (k : ℕ) → answer_of (line_of n s) ≡ Some k → k ≤ n
heard_fits n s k e = go (line_of n s) refl e
  where
    go : (l : Line) → line_of n s ≡ l → answer_of l ≡ Some k → k ≤ n
    go bad p q = let z : ◌≡◌ {A = ℕ} 0 1 = cc in absurd (omega arith)
    go (good t) p q =
        let g = good_only n s t p in
        let m : length t ≡ k = cc in
        omega (arith, ap length g.bytes, length-bytes s, g.fits)
