-- The check of bytes: a sum in which every byte and its place count. Assumes nothing.
use Rattle.std.specs.Prelude.{ℕ, ◌+◌, ◌*◌, ◌%◌, List, [], ◌∷◌}

unfoldable pub check_of : ℕ → List ℕ → ℕ
check_of sum [] = sum
check_of sum (x ∷ s) = check_of ((31 * sum + x) % 65521) s
