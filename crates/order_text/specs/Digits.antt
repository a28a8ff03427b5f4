-- Lower-case hexadecimal: the characters 0 to 9 are 48 to 57, and a to f are 97 to 102. Assumes nothing.
use Rattle.std.specs.Prelude.{ℕ, ◌+◌, ◌-◌, ◌*◌, ltb, leb, Option, Some, None}
use Rattle.wire.specs.Words.{pick, within}

-- the digit that a character is; 16 for a character that is none
unfoldable pub digit_of : ℕ → ℕ
digit_of c = pick (within 48 57 c) (c - 48) (pick (within 97 102 c) (c - 97 + 10) 16)

-- the character of a digit
unfoldable pub char_of : ℕ → ℕ
char_of d = pick (ltb d 10) (48 + d) (87 + d)

-- the byte that two characters say, the high digit first; 256 where one of them is no digit
unfoldable pub byte_of : ℕ → ℕ → ℕ
byte_of a b = pick (ltb 15 (digit_of a)) 256 (pick (ltb 15 (digit_of b)) 256 (16 * digit_of a + digit_of b))

-- the same, if both are digits
abbrev pub byte_in : ℕ → ℕ → Option ℕ
byte_in a b = pick (leb (byte_of a b) 255) (Some (byte_of a b)) None
