-- A line as its digits come. Assumes nothing.
use Rattle.std.specs.Prelude.{ℕ, ◌<◌, ◌≤◌, ◌≡◌, Option, Some, None}

-- a line so far: count bytes at the front of the frame, and the digit of one that is begun
pub record Part : Type 0 where
  pub count : ℕ
  pub half : Option ℕ

abbrev pub part : ℕ → Option ℕ → Part
part count half = record { count = count; half = half }

-- a part of a line as digits make it
pub record Begun (p : Part) : Type 0 where
  pub room : p.count ≤ 1486
  pub digit : (high : ℕ) → p.half ≡ Some high → (high ≤ 15) × (p.count < 1486)

abbrev pub nothing : Part
nothing = part 0 None
