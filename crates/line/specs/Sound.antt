-- A line as calls make it from a fresh desk. Assumes nothing.
use Rattle.std.specs.Prelude.{◌≡◌, false, [], ◌∷◌, ℕ, ◌<◌, ◌≤◌, length}
use Rattle.line.specs.Lists.{Each}
use Rattle.line.specs.Line.{Line, seated}

module _ {A : Type 0} where
  -- no seat twice
  abbrev pub Distinct : Line A → Type 0
  Distinct [] = Unit {0}
  Distinct (q ∷ l) = (seated q.0 l ≡ false) × Distinct l

  -- every seat in the line is below n
  abbrev pub Below : ℕ → Line A → Type 0
  Below n = Each (λ q. q.0 < n)

  -- "Seats are 0 to 7. A transfer is one entry; its seat is free again when it ends."
  pub record Sound (l : Line A) : Type 0 where
    pub distinct : Distinct l
    pub below : Below 8 l
    pub few : length l ≤ 8
