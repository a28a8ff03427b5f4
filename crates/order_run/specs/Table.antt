-- What is kept of the characters' digits. Assumes nothing.
use Rattle.std.specs.Prelude.{ℕ, ◌<◌, ◌≡◌, List, length, get_or}
use Rattle.order_text.specs.Digits.{digit_of}

-- the digits of all characters
pub record Table (t : List ℕ) : Type 0 where
  pub long : length t ≡ 256
  pub digits : (c : ℕ) → c < 256 → get_or t c 0 ≡ digit_of c
