-- Laws of the text of bytes that its writer goes by: its length, the characters of each byte, and a turn of the loop.
-- Assumes nothing.
use Prim.Native.Nat.{ℕ, zero, suc, ◌+◌, ◌-◌, ◌*◌, ◌/◌, ◌%◌, ◌<◌, min, ◌≤◌}
use mathlib.Core.Path.{◌≡◌, refl, sym, ap, ◌∙◌}
use mathlib.Core.List.{List, [], ◌∷◌}
use native.Mathlib.Omega.{arith}
use lib.ListN.{length, get_or, set, length-take, take}
use lib.Seq.{paste, paste-zero, take-nil}
use Rattle.wire.specs.Store.{laid}
use Rattle.wire.proofs.Store.{paste_turn, paste_part}
use Rattle.order_text.specs.Digits.{char_of}
use Rattle.order_text.specs.Text.{hex_text, text_in}

pub length-text : (s : List ℕ) → length (hex_text s) ≡ 2 * length s
unfolding hex_text
length-text [] = refl
length-text (x ∷ s) = let e = length-text s in omega arith

pub high_at : (s : List ℕ) (i : ℕ) → i < length s → get_or (hex_text s) (2 * i) 0 ≡ char_of (get_or s i 0 / 16)
unfolding hex_text
high_at [] i h = absurd (omega arith)
high_at (x ∷ s) zero h = refl
high_at (x ∷ s) (suc i) h = let e : 2 * suc i ≡ suc (suc (2 * i)) = omega arith in rw e (high_at s i (omega arith))

pub low_at : (s : List ℕ) (i : ℕ) → i < length s → get_or (hex_text s) (2 * i + 1) 0 ≡ char_of (get_or s i 0 % 16)
unfolding hex_text
low_at [] i h = absurd (omega arith)
low_at (x ∷ s) zero h = refl
low_at (x ∷ s) (suc i) h = let e : 2 * suc i + 1 ≡ suc (suc (2 * i + 1)) = omega arith in rw e (low_at s i (omega arith))

-- a turn of the loop that writes the characters
pub text_turn : (o s : List ℕ) (i : ℕ) → 2 * i + 1 < length o → i < length s
    → set (set (paste o 0 (hex_text s) (2 * i)) (2 * i) (char_of (get_or s i 0 / 16))) (2 * i + 1) (char_of (get_or s i 0 % 16))
    ≡ paste o 0 (hex_text s) (2 * (i + 1))
text_turn o s i h l =
    let t : List ℕ = hex_text s in
    let n : 2 * i + 1 < length t = rw (length-text s) (omega arith) in
    let first : set (paste o 0 t (2 * i)) (2 * i) (get_or t (2 * i) 0) ≡ paste o 0 t (2 * i + 1) =
    paste_turn o 0 t (2 * i) (2 * i) (omega arith) (omega arith) (omega arith) in
    let second : set (paste o 0 t (2 * i + 1)) (2 * i + 1) (get_or t (2 * i + 1) 0) ≡ paste o 0 t (2 * i + 1 + 1) =
    paste_turn o 0 t (2 * i + 1) (2 * i + 1) (omega arith) h n in
    let e : 2 * (i + 1) ≡ 2 * i + 1 + 1 = omega arith in
    rw (← high_at s i l, ← low_at s i l, e) (ap (λ (d : List ℕ). set d (2 * i + 1) (get_or t (2 * i + 1) 0)) first ∙ second)

-- the text of the first bytes is the first part of the text
text-take : (m : ℕ) (s : List ℕ) → hex_text (take m s) ≡ take (2 * m) (hex_text s)
unfolding hex_text
text-take zero s = refl
text-take (suc m) [] = sym (take-nil (2 * suc m))
text-take (suc m) (x ∷ s) =
    let e : 2 * suc m ≡ suc (suc (2 * m)) = omega arith in
    rw (e, text-take m s)

-- the text of as many bytes as n characters have room for: its length, and what its characters leave over n of them
module _ (o s : List ℕ) (count : ℕ) (e : count ≡ min (length s) (length o / 2)) where
  pub length_text_in : length (text_in (length o) s) ≡ 2 * count
  unfolding text_in
  length_text_in = length-text (take (length o / 2) s) ∙ simp length-take (omega arith)

  pub text_laid : paste o 0 (hex_text s) (2 * count) ≡ laid o 0 (text_in (length o) s)
  unfolding text_in
  text_laid =
      let m : ℕ = length o / 2 in
      let l : length (hex_text (take m s)) ≡ 2 * count = length_text_in in
      let k : 2 * count ≡ min (length (hex_text (take m s))) (length o - 0) = omega arith in
      paste_part o 0 (hex_text s) (2 * count) (2 * m) (omega arith)
      ∙ ap (λ (t : List ℕ). paste o 0 t (2 * count)) (sym (text-take m s))
      ∙ ap (paste o 0 (hex_text (take m s))) k

  -- what `encode` answers and leaves
  pub encoded : (o' : List ℕ) → o' ≡ paste o 0 (hex_text s) (2 * count) → (2 * count ≡ length (text_in (length o) s)) × (o' ≡ laid o 0 (text_in (length o) s))
  encoded o' w = (sym length_text_in, w ∙ text_laid)

-- a text takes no more characters than have room
pub text_fits : (n : ℕ) (s : List ℕ) → length (text_in n s) ≤ n
unfolding text_in
text_fits n s = simp (length-text, length-take) (omega arith)

module _ (o s : List ℕ) (at : ℕ) where
  -- what `encode_at` answers and leaves where the buffer has no part from the place on
  pub text_past : length o < at
      → (at ≡ at + length (text_in (length o - at) s)) × (o ≡ laid o at (text_in (length o - at) s))
  text_past h =
      let n : length (text_in (length o - at) s) ≡ 0 = omega (arith, text_fits (length o - at) s) in
      let k : 0 ≡ min (length (text_in (length o - at) s)) (length o - at) = omega arith in
      (omega arith, paste-zero o at (text_in (length o - at) s) ∙ ap (paste o at (text_in (length o - at) s)) k)
