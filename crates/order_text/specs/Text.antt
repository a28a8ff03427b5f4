-- The text of bytes: two characters each, the high digit first. Assumes nothing.
use Rattle.std.specs.Prelude.{ℕ, ◌/◌, ◌%◌, List, [], ◌∷◌, take}
use Rattle.order_text.specs.Digits.{char_of}

unfoldable pub hex_text : List ℕ → List ℕ
hex_text [] = []
hex_text (x ∷ s) = char_of (x / 16) ∷ char_of (x % 16) ∷ hex_text s

-- the text of as many bytes as n characters have room for
unfoldable pub text_in : ℕ → List ℕ → List ℕ
text_in n s = hex_text (take (n / 2) s)
