-- What a judged reply leaves in the data buffer. Assumes nothing.
use Rattle.std.specs.Prelude.{List, [], ℕ}
use Rattle.wire.specs.Store.{laid, part}
use Rattle.judge.specs.declared.Verdict.{Verdict}
use Rattle.judge.specs.declared.Verdict.TheVariants.{Done, Segment, Fragment}

-- the bytes of the reply that a verdict takes
abbrev pub taken : Verdict → List ℕ → List ℕ
taken (Done from p) s = part s from p
taken (Segment from len sum last) s = part s from len
taken (Fragment from len sum last) s = part s from len
taken other s = []

-- "Each call writes only its own chunk, at the sum of the earlier ones." As far as the buffer d reaches.
unfoldable pub stored : Verdict → List ℕ → ℕ → List ℕ → List ℕ
stored v s at d = laid d at (taken v s)
