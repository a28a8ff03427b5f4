-- Which lines are bad: a line with a character that is no lower-case hexadecimal, an odd line and an overlong line are, and
-- nothing else is. Assumes nothing.
use Prim.Native.Nat.{ℕ, zero, suc, ◌/◌, ◌%◌, ◌<◌, ◌≤◌}
use mathlib.Core.Path.{◌≡◌, refl}
use mathlib.Core.Bool.{Bool, true, false}
use mathlib.Core.List.{List, [], ◌∷◌, ◌++◌}
use native.Mathlib.Omega.{arith}
use lib.Dec.{ltb}
use lib.ListN.{length, get_or}
use borrow.Author.Tests.{lt-ltb, le-ltb, eq-eqb, ne_eqb, ltb-false, eqb-false}
use Rattle.wire.specs.Words.{pick, either}
use Rattle.order_text.specs.Digits.{digit_of}
use Rattle.order_text.specs.Lines.{has_bad, odd, overlong, bytes_of, Line, good, bad, line_of}

either_way : {A : Type 0} (b : Bool) (a : A) → pick b a a ≡ a
either_way true a = refl
either_way false a = refl

module _ (n : ℕ) (s : List ℕ) where
  pub bad_character : has_bad s ≡ true → line_of n s ≡ bad
  unfolding line_of
  bad_character e = rw e

  pub odd_line : length s % 2 ≡ 1 → line_of n s ≡ bad
  unfolding line_of
  odd_line e = rw (eq-eqb (length s % 2) 1 e) (either_way (has_bad s) bad)

  pub overlong_line : n < length s / 2 → line_of n s ≡ bad
  unfolding line_of
  overlong_line h = rw (lt-ltb n (length s / 2) h, either_way (odd s) bad) (either_way (has_bad s) bad)

  -- every other line is good
  pub good_line : has_bad s ≡ false → (length s % 2 ≡ 1 → ⊥) → length s / 2 ≤ n → line_of n s ≡ good (bytes_of s)
  unfolding line_of
  good_line e o h = rw (e, ne_eqb (length s % 2) 1 o, le-ltb n (length s / 2) h)

-- a pick that came out good did not take the bad side
good_side : (b : Bool) (l : Line) (t : List ℕ) → pick b bad l ≡ good t → (b ≡ false) × (l ≡ good t)
good_side true l t e = let z : ◌≡◌ {A = ℕ} 0 1 = cc in absurd (omega arith)
good_side false l t e = (refl, e)

-- and a good line is none of the three
pub record Good (n : ℕ) (s t : List ℕ) : Type 0 where
  pub digits : has_bad s ≡ false
  pub even : length s % 2 ≡ 1 → ⊥
  pub fits : length s / 2 ≤ n
  pub bytes : t ≡ bytes_of s

pub good_only : (n : ℕ) (s t : List ℕ) → line_of n s ≡ good t → Good n s t
unfolding line_of
good_only n s t e =
    let p = good_side (has_bad s) (pick (odd s) bad (pick (overlong n s) bad (good (bytes_of s)))) t e in
    let q = good_side (odd s) (pick (overlong n s) bad (good (bytes_of s))) t p.1 in
    let r = good_side (overlong n s) (good (bytes_of s)) t q.1 in
    record { digits = p.0; even = eqb-false (length s % 2) 1 q.0; fits = ltb-false n (length s / 2) r.0; bytes = cc }

-- ---- by characters

-- a line with a character, anywhere in it, that is no lower-case hexadecimal
pub has_bad_lem : (p t : List ℕ) (c : ℕ) → 15 < digit_of c → has_bad (p ++ c ∷ t) ≡ true
unfolding has_bad
has_bad_lem [] t c h = rw (lt-ltb 15 (digit_of c) h)
has_bad_lem (a ∷ p) t c h = rw (has_bad_lem p t c h) (or-true (ltb 15 (digit_of a)))
  where
    or-true : (b : Bool) → either b true ≡ true
    or-true true = refl
    or-true false = refl

-- a line of lower-case hexadecimal throughout
pub none_bad : (s : List ℕ) → ((i : ℕ) → i < length s → digit_of (get_or s i 0) ≤ 15) → has_bad s ≡ false
unfolding has_bad
none_bad [] h = refl
none_bad (c ∷ s) h = rw (le-ltb 15 (digit_of c) (h zero (omega arith))) (none_bad s (λ i l. h (suc i) (omega arith)))
