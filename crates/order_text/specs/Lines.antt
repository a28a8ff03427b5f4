-- What a line says. Document 01, "The order program": "lines of lower-case hexadecimal, one frame a line, at most 1,486 bytes
-- each". How many bytes have room is a parameter here. Assumes nothing.
use Rattle.std.specs.Prelude.{ℕ, ◌/◌, ◌%◌, Bool, false, Option, Some, None, List, [], ◌∷◌, ltb, eqb, length}
use Rattle.wire.specs.Words.{pick, either}
use Rattle.wire.specs.Store.{laid}
use Rattle.order_text.specs.Digits.{digit_of, byte_of}

-- "The first character that is not lower-case hexadecimal"
unfoldable pub has_bad : List ℕ → Bool
has_bad [] = false
has_bad (c ∷ s) = either (ltb 15 (digit_of c)) (has_bad s)

-- "an odd line"
abbrev pub odd : List ℕ → Bool
odd s = eqb (length s % 2) 1

-- "an overlong line": one of more than n bytes
abbrev pub overlong : ℕ → List ℕ → Bool
overlong n s = ltb n (length s / 2)

-- the bytes of a line, two characters each
unfoldable pub bytes_of : List ℕ → List ℕ
bytes_of [] = []
bytes_of (a ∷ []) = []
bytes_of (a ∷ b ∷ s) = byte_of a b ∷ bytes_of s

pub data Line : Type 0 where
  good : List ℕ → Line
  bad : Line

-- what a line says where n bytes have room
unfoldable pub line_of : ℕ → List ℕ → Line
line_of n s = pick (has_bad s) bad (pick (odd s) bad (pick (overlong n s) bad (good (bytes_of s))))

-- the answer to a line, and what it leaves in a buffer: a bad line leaves all unchanged
abbrev pub answer_of : Line → Option ℕ
answer_of (good s) = Some (length s)
answer_of bad = None

abbrev pub left_in : List ℕ → Line → List ℕ
left_in f (good s) = laid f 0 s
left_in f bad = f
