-- Typed reads, at every width. Assumes nothing.
use Rattle.std.specs.Prelude.{ℕ, ℤ, List, ltb, length, take, Result}
use Rattle.wire.specs.Bytes.{value}
use Rattle.wire.specs.declared.refusal.Refusal.{Refusal}
use Rattle.reads.specs.Refusal.{read_unless}
use Rattle.reads.specs.Signed.{signed_of}

-- "Typed reads take the first 1, 2 or 4 bytes of a payload, unsigned or two's complement; a shorter payload is 20."
unfoldable pub integer_read : {T : Type 0} → ℕ → (ℕ → T) → List ℕ → Result T Refusal
integer_read n of_bits s = read_unless (ltb (length s) n) (of_bits (value (take n s)))

abbrev pub unsigned_of : ℕ → ℕ
unsigned_of bits = bits

abbrev pub unsigned_read : ℕ → List ℕ → Result ℕ Refusal
unsigned_read n = integer_read n unsigned_of

abbrev pub signed_read : ℕ → List ℕ → Result ℤ Refusal
signed_read n = integer_read n (signed_of n)
