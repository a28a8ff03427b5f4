-- Laws of lines that the loops over one go by: what is left of a line, and the byte at a place. Assumes nothing.
use Prim.Native.Nat.{ℕ, zero, suc, ◌+◌, ◌*◌, ◌/◌, ◌<◌, ◌≤◌}
use mathlib.Core.Path.{◌≡◌, refl, ◌∙◌}
use mathlib.Core.Bool.{Bool, true, false, ◌||◌}
use mathlib.Core.List.{List, [], ◌∷◌}
use native.Mathlib.Numerals.{add-one}
use native.Mathlib.Omega.{arith}
use lib.Dec.{ltb}
use lib.ListN.{length, get_or, set}
use lib.Seq.{paste}
use borrow.Author.Tests.{ltb-false}
use Rattle.std.specs.Prelude.{Option, Some}
use Rattle.std.specs.List.{list_any}
use Rattle.wire.specs.Words.{either}
use Rattle.wire.proofs.Store.{paste_turn}
use Rattle.order_text.specs.Digits.{digit_of, byte_of, byte_in}
use Rattle.order_text.specs.Lines.{has_bad, bytes_of}
use Rattle.order_text.proofs.Digits.{byte_digits, one_byte}

-- a character that is no digit
abbrev pub is_bad : ℕ → Bool
is_bad c = ltb 15 (digit_of c)

pub has_bad-any : (s : List ℕ) → has_bad s ≡ list_any is_bad s
unfolding has_bad
has_bad-any [] = refl
has_bad-any (c ∷ s) = rw (has_bad-any s) (either_or (is_bad c) (list_any is_bad s))
  where
    either_or : (a b : Bool) → either a b ≡ (a || b)
    either_or true b = refl
    either_or false b = refl

either_left : (a b : Bool) → either a b ≡ false → a ≡ false
either_left true b e = e
either_left false b e = refl

either_right : (a b : Bool) → either a b ≡ false → b ≡ false
either_right true b e = absurd (let z : ◌≡◌ {A = ℕ} 0 1 = cc in omega arith)
either_right false b e = e

-- the first character of a line with no bad one, and the others
pub head_digit : (c : ℕ) (s : List ℕ) → has_bad (c ∷ s) ≡ false → digit_of c ≤ 15
unfolding has_bad
head_digit c s e = ltb-false 15 (digit_of c) (either_left (ltb 15 (digit_of c)) (has_bad s) e)

pub tail_good : (c : ℕ) (s : List ℕ) → has_bad (c ∷ s) ≡ false → has_bad s ≡ false
unfolding has_bad
tail_good c s e = either_right (ltb 15 (digit_of c)) (has_bad s) e

-- every character of a line with no bad one is a digit
pub digit_at : (s : List ℕ) (i : ℕ) → has_bad s ≡ false → i < length s → digit_of (get_or s i 0) ≤ 15
digit_at [] i e h = absurd (omega arith)
digit_at (c ∷ s) zero e h = head_digit c s e
digit_at (c ∷ s) (suc i) e h = digit_at s i (tail_good c s e) (omega arith)

pub length-bytes : (s : List ℕ) → length (bytes_of s) ≡ length s / 2
unfolding bytes_of
length-bytes [] = refl
length-bytes (a ∷ []) = refl
length-bytes (a ∷ b ∷ s) = let e = length-bytes s in omega arith

-- the byte at a place is that of two characters
pub byte_at : (s : List ℕ) (k : ℕ) → 2 * k + 1 < length s → get_or (bytes_of s) k 0 ≡ byte_of (get_or s (2 * k) 0) (get_or s (2 * k + 1) 0)
unfolding bytes_of
byte_at [] k h = absurd (omega arith)
byte_at (a ∷ []) k h = absurd (omega arith)
byte_at (a ∷ b ∷ s) zero h = refl
byte_at (a ∷ b ∷ s) (suc k) h =
    let e : 2 * suc k ≡ suc (suc (2 * k)) = omega arith in
    let f : 2 * suc k + 1 ≡ suc (suc (2 * k + 1)) = omega arith in
    rw (e, add-one) (byte_at s k (omega arith) ∙ rw add-one)

-- and below 256 in a line with no bad character
pub byte_less : (s : List ℕ) (k : ℕ) → has_bad s ≡ false → 2 * k + 1 < length s → byte_of (get_or s (2 * k) 0) (get_or s (2 * k + 1) 0) < 256
byte_less s k e h =
    let high : digit_of (get_or s (2 * k) 0) ≤ 15 = digit_at s (2 * k) e (omega arith) in
    let low : digit_of (get_or s (2 * k + 1) 0) ≤ 15 = digit_at s (2 * k + 1) e h in
    rw (byte_digits (get_or s (2 * k) 0) (get_or s (2 * k + 1) 0) high low) (omega arith)

-- so there is one
pub byte_some : (s : List ℕ) (k : ℕ) → has_bad s ≡ false → 2 * k + 1 < length s
    → ◌≡◌ {A = Option ℕ} (Some (byte_of (get_or s (2 * k) 0) (get_or s (2 * k + 1) 0))) (byte_in (get_or s (2 * k) 0) (get_or s (2 * k + 1) 0))
byte_some s k e h = one_byte (get_or s (2 * k) 0) (get_or s (2 * k + 1) 0) (omega (arith, byte_less s k e h))

-- a turn of a loop that stores the bytes from a place on
pub byte_turn : (f s : List ℕ) (at k j : ℕ) → j ≡ at + k → j < length f → 2 * k + 1 < length s
    → set (paste f at (bytes_of s) k) j (byte_of (get_or s (2 * k) 0) (get_or s (2 * k + 1) 0)) ≡ paste f at (bytes_of s) (k + 1)
byte_turn f s at k j e h l =
    rw (← byte_at s k l) (paste_turn f at (bytes_of s) k j e h (rw (length-bytes s) (omega arith)))
