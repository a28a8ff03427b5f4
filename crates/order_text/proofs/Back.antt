-- Both round trips: a text of bytes says those bytes, and the bytes of a good line have that line as their text.
-- Assumes nothing.
use Prim.Native.Nat.{ℕ, suc, ◌+◌, ◌*◌, ◌/◌, ◌%◌, ◌<◌, ◌≤◌}
use mathlib.Core.Path.{◌≡◌, refl, ap, ◌∙◌}
use mathlib.Core.Bool.{false}
use mathlib.Core.List.{List, [], ◌∷◌}
use native.Mathlib.Omega.{arith}
use lib.Dec.{ltb}
use lib.ListN.{length}
use borrow.Author.Tests.{le-ltb}
use Rattle.wire.specs.Bytes.{Bytes}
use Rattle.order_text.specs.Digits.{digit_of, char_of, byte_of}
use Rattle.order_text.specs.Lines.{has_bad, bytes_of, good, line_of}
use Rattle.order_text.specs.Text.{hex_text}
use Rattle.order_text.proofs.Digits.{digit_char, char_digit, byte_digits, byte_chars}
use Rattle.order_text.proofs.Lines.{head_digit, tail_good}
use Rattle.order_text.proofs.Text.{length-text}
use Rattle.order_text.proofs.Refused.{good_line, good_only}

char_good : (d : ℕ) → d < 16 → ltb 15 (digit_of (char_of d)) ≡ false
char_good d h = rw (digit_char d h) (le-ltb 15 d (omega arith))

-- every character of a text is a digit
text_good : (s : List ℕ) → Bytes s → has_bad (hex_text s) ≡ false
unfolding has_bad hex_text
text_good [] h = refl
text_good (x ∷ s) h =
    let b : x < 256 = h 0 in
    rw (char_good (x / 16) (omega arith), char_good (x % 16) (omega arith)) (text_good s (λ (i : ℕ). h (suc i)))

-- and its pairs say the bytes
text-bytes : (s : List ℕ) → Bytes s → bytes_of (hex_text s) ≡ s
unfolding bytes_of hex_text
text-bytes [] h = refl
text-bytes (x ∷ s) h = rw (byte_chars x (h 0), text-bytes s (λ (i : ℕ). h (suc i)))

-- decode (encode s) is s, for every list of bytes that has room
pub decode-encode : (n : ℕ) (s : List ℕ) → Bytes s → length s ≤ n → line_of n (hex_text s) ≡ good s
decode-encode n s b h =
    let l : length (hex_text s) ≡ 2 * length s = length-text s in
    good_line n (hex_text s) (text_good s b) (λ e. omega arith) (omega arith) ∙ ap good (text-bytes s b)

-- two characters that are digits are the text of their byte
pair_text : (a b : ℕ) → digit_of a ≤ 15 → digit_of b ≤ 15 → (char_of (byte_of a b / 16) ≡ a) × (char_of (byte_of a b % 16) ≡ b)
pair_text a b h k =
    let e : byte_of a b ≡ 16 * digit_of a + digit_of b = byte_digits a b h k in
    let high : byte_of a b / 16 ≡ digit_of a = omega arith in
    let low : byte_of a b % 16 ≡ digit_of b = omega arith in
    (ap char_of high ∙ char_digit a h, ap char_of low ∙ char_digit b k)

pub bytes-text : (s : List ℕ) → has_bad s ≡ false → (length s % 2 ≡ 1 → ⊥) → hex_text (bytes_of s) ≡ s
unfolding bytes_of hex_text
bytes-text [] e o = refl
bytes-text (a ∷ []) e o = absurd (o refl)
bytes-text (a ∷ b ∷ s) e o =
    let t : has_bad (b ∷ s) ≡ false = tail_good a (b ∷ s) e in
    let p = pair_text a b (head_digit a (b ∷ s) e) (head_digit b s t) in
    rw (p.0, p.1, bytes-text s (tail_good b s t) (λ q. o (omega arith)))

-- encode (decode s) is s, for every good line
pub encode-decode : (n : ℕ) (s t : List ℕ) → line_of n s ≡ good t → hex_text t ≡ s
encode-decode n s t e = let g = good_only n s t e in ap hex_text g.bytes ∙ bytes-text s g.digits g.even
