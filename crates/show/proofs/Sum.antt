-- The check of bytes as a fold. Assumes nothing.
use Prim.Native.Nat.{ℕ, ◌+◌, ◌*◌, ◌%◌}
use mathlib.Core.Path.{◌≡◌, refl}
use mathlib.Core.List.{List, [], ◌∷◌}
use Rattle.std.specs.List.{fold}
use Rattle.show.specs.Check.{check_of}

-- the sum with one more byte
abbrev pub turned : ℕ → ℕ → ℕ
turned sum x = (31 * sum + x) % 65521

pub check_of-fold : (sum : ℕ) (s : List ℕ) → check_of sum s ≡ fold turned sum s
unfolding check_of
check_of-fold sum [] = refl
check_of-fold sum (x ∷ s) = check_of-fold (turned sum x) s
