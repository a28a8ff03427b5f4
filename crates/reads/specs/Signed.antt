-- Signed integers of n bytes: INTEGER8, INTEGER16 and INTEGER32 of CiA 301 and ETG.1000.6, at every n. Assumes nothing.
use Rattle.std.specs.Prelude.{ℕ, ◌-◌, ◌/◌, ◌^◌, ◌<◌, ltb, ℤ, pos, negsuc}
use Rattle.wire.specs.Words.{pick}

-- the number whose one bit is the highest of n bytes
abbrev pub half : ℕ → ℕ
half n = 256 ^ n / 2

-- n bytes with every bit turned
abbrev pub turned : ℕ → ℕ → ℕ
turned n x = 256 ^ n - 1 - x

-- "unsigned or two's complement": CiA 301, INTEGERn. Where the highest bit is 0 the bits' value, and where it is 1 minus the
-- value of the turned bits, minus 1. negsuc k is -k - 1.
unfoldable pub signed_of : ℕ → ℕ → ℤ
signed_of n x = pick (ltb x (half n)) (pos x) (negsuc (turned n x))

-- the other way: the bits of a number
abbrev pub bits_of : ℕ → ℤ → ℕ
bits_of n (pos k) = k
bits_of n (negsuc k) = turned n k

-- the numbers that n bytes hold: from minus half to half minus 1
abbrev pub Held : ℕ → ℤ → Type 0
Held n (pos k) = k < half n
Held n (negsuc k) = k < half n
