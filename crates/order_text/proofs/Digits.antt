-- Laws of characters and digits: which characters are digits, and that a digit and its character go to each other and back.
-- Assumes nothing.
use Prim.Native.Nat.{ℕ, ◌+◌, ◌-◌, ◌*◌, ◌/◌, ◌%◌, ◌<◌, ◌≤◌}
use mathlib.Core.Path.{◌≡◌, sym, ◌∙◌}
use native.Mathlib.Omega.{arith}
use lib.Dec.{ltb}
use borrow.Author.Tests.{lt-ltb, le-ltb, le-leb, lt-leb, ltb-true, ltb-false}
use Rattle.std.specs.Prelude.{Option, Some, None}
use Rattle.wire.proofs.Cases.{by}
use Rattle.order_text.specs.Digits.{digit_of, char_of, byte_of, byte_in}

module _ (c : ℕ) where
  pub digit_number : 48 ≤ c → c < 58 → digit_of c ≡ c - 48
  unfolding digit_of
  digit_number l h = rw (le-leb 48 c l, le-leb c 57 (omega arith))

  pub digit_letter : 97 ≤ c → c < 103 → digit_of c ≡ c - 97 + 10
  unfolding digit_of
  digit_letter l h = simp (le-leb 48 c (omega arith), lt-leb c 57 (omega arith), le-leb 97 c l, le-leb c 102 (omega arith))

  pub below_numbers : c < 48 → digit_of c ≡ 16
  unfolding digit_of
  below_numbers h = simp (lt-leb 48 c h, lt-leb 97 c (omega arith))

  pub between : 58 ≤ c → c < 97 → digit_of c ≡ 16
  unfolding digit_of
  between l h = simp (le-leb 48 c (omega arith), lt-leb c 57 (omega arith), lt-leb 97 c h)

  pub above_letters : 103 ≤ c → digit_of c ≡ 16
  unfolding digit_of
  above_letters l = simp (le-leb 48 c (omega arith), lt-leb c 57 (omega arith), le-leb 97 c (omega arith), lt-leb c 102 (omega arith))

-- a character is 0 to 9, a to f, or no digit
pub data Kind (c : ℕ) : Type 0 where
  number : 48 ≤ c → c < 58 → Kind c
  letter : 97 ≤ c → c < 103 → Kind c
  other : digit_of c ≡ 16 → Kind c

pub kind : (c : ℕ) → Kind c
kind c =
    by (ltb c 48) (λ e. other (below_numbers c (ltb-true c 48 e)))
    (λ e. by (ltb c 58) (λ f. number (ltb-false c 48 e) (ltb-true c 58 f))
    (λ f. by (ltb c 97) (λ g. other (between c (ltb-false c 58 f) (ltb-true c 97 g)))
    (λ g. by (ltb c 103) (λ h. letter (ltb-false c 97 g) (ltb-true c 103 h)) (λ h. other (above_letters c (ltb-false c 103 h))))))

char_number : (d : ℕ) → d < 10 → char_of d ≡ 48 + d
unfolding char_of
char_number d h = rw (lt-ltb d 10 h)

char_letter : (d : ℕ) → 10 ≤ d → char_of d ≡ 87 + d
unfolding char_of
char_letter d h = rw (le-ltb d 10 h)

-- a digit goes to its character and comes back
pub digit_char : (d : ℕ) → d < 16 → digit_of (char_of d) ≡ d
digit_char d h =
    by (ltb d 10)
    (λ e. let l : d < 10 = ltb-true d 10 e in rw (char_number d l, digit_number (48 + d) (omega arith) (omega arith)) (omega arith))
    (λ e. let l : 10 ≤ d = ltb-false d 10 e in rw (char_letter d l, digit_letter (87 + d) (omega arith) (omega arith)) (omega arith))

-- a character that is a digit comes back
pub char_digit : (c : ℕ) → digit_of c ≤ 15 → char_of (digit_of c) ≡ c
char_digit c h = go (kind c)
  where
    go : Kind c → char_of (digit_of c) ≡ c
    go (number l u) = rw (digit_number c l u, char_number (c - 48) (omega arith)) (omega arith)
    go (letter l u) = rw (digit_letter c l u, char_letter (c - 97 + 10) (omega arith)) (omega arith)
    go (other e) = absurd (omega arith)

-- two digits make a byte
pub byte_digits : (a b : ℕ) → digit_of a ≤ 15 → digit_of b ≤ 15 → byte_of a b ≡ 16 * digit_of a + digit_of b
unfolding byte_of
byte_digits a b h k = rw (le-ltb 15 (digit_of a) h, le-ltb 15 (digit_of b) k)

pub byte_high : (a b : ℕ) → 15 < digit_of a → byte_of a b ≡ 256
unfolding byte_of
byte_high a b h = rw (lt-ltb 15 (digit_of a) h)

pub byte_low : (a b : ℕ) → digit_of a ≤ 15 → 15 < digit_of b → byte_of a b ≡ 256
unfolding byte_of
byte_low a b h k = rw (le-ltb 15 (digit_of a) h, lt-ltb 15 (digit_of b) k)

module _ (a b : ℕ) where
  pub no_byte : 255 < byte_of a b → ◌≡◌ {A = Option ℕ} None (byte_in a b)
  no_byte h = sym (rw (lt-leb (byte_of a b) 255 h))

  pub one_byte : byte_of a b ≤ 255 → ◌≡◌ {A = Option ℕ} (Some (byte_of a b)) (byte_in a b)
  one_byte h = sym (rw (le-leb (byte_of a b) 255 h))

-- a byte's two characters make the byte
pub byte_chars : (x : ℕ) → x < 256 → byte_of (char_of (x / 16)) (char_of (x % 16)) ≡ x
byte_chars x h =
    let high : digit_of (char_of (x / 16)) ≡ x / 16 = digit_char (x / 16) (omega arith) in
    let low : digit_of (char_of (x % 16)) ≡ x % 16 = digit_char (x % 16) (omega arith) in
    byte_digits (char_of (x / 16)) (char_of (x % 16)) (omega arith) (omega arith) ∙ omega arith
