-- Laws of typed reads over the width: what is shown of the code at each width, and that what was written reads back.
-- Assumes nothing.
use mathlib.Core.Path.{◌≡◌, ap, ◌∙◌}
use Rattle.std.specs.Prelude.{Ok, Err}
use mathlib.Core.List.{List, ◌++◌}
use Prim.Native.Nat.{ℕ, ◌^◌, ◌<◌, ◌≤◌}
use native.Mathlib.Nat.{mod-eq_of_lt}
use native.Mathlib.Omega.{arith}
use borrow.Author.Tests.{lt-ltb, le-ltb}
use lib.IntN.{ℤ}
use lib.ListN.{length, take, length-append}
use lib.Seq.{take_at}
use Rattle.wire.specs.Bytes.{bytes, value, window}
use Rattle.wire.proofs.Bytes.{length-bytes, value-bytes, window_is}
use Rattle.wire.specs.declared.refusal.Refusal.TheVariants.{Undecodable}
use Rattle.reads.specs.Signed.{signed_of, bits_of, Held}
use Rattle.reads.specs.Typed.{integer_read, unsigned_of, unsigned_read, signed_read}
use Rattle.reads.proofs.Signed.{bits_less, signed_bits}

first-is : (n : ℕ) (s : List ℕ) → n ≤ length s → value (window n s 0) ≡ value (take n s)
first-is n s h = ap value (window_is n 0 s (omega arith))

module _ {T : Type 0} (n : ℕ) (of_bits : ℕ → T) (s : List ℕ) where
  pub integer_short : length s < n → integer_read n of_bits s ≡ Err Undecodable
  unfolding integer_read
  integer_short h = rw (lt-ltb (length s) n h)

  pub integer_is : n ≤ length s → integer_read n of_bits s ≡ Ok (of_bits (value (window n s 0)))
  unfolding integer_read
  integer_is h = rw (le-ltb (length s) n h, first-is n s h)

pub ruleset integers = (integer_short, integer_is)

-- the n bytes in front of anything are the first n bytes
in_front : (n x : ℕ) (rest : List ℕ) → x < 256 ^ n → value (take n (bytes n x ++ rest)) ≡ x
in_front n x rest h =
    ap value (take_at (bytes n x) rest n (length-bytes n x)) ∙ value-bytes n x ∙ mod-eq_of_lt h

long_enough : (n x : ℕ) (rest : List ℕ) → n ≤ length (bytes n x ++ rest)
long_enough n x rest = rw (length-append (bytes n x) rest, length-bytes n x) (omega arith)

-- every number whose bits n bytes hold is read back from its bytes, whatever follows them
integer_back : {T : Type 0} (n : ℕ) (of_bits : ℕ → T) (x : ℕ) (rest : List ℕ) → x < 256 ^ n
    → integer_read n of_bits (bytes n x ++ rest) ≡ Ok (of_bits x)
unfolding integer_read
integer_back n of_bits x rest h = rw (le-ltb _ _ (long_enough n x rest), in_front n x rest h)

pub unsigned_back : (n x : ℕ) (rest : List ℕ) → x < 256 ^ n → unsigned_read n (bytes n x ++ rest) ≡ Ok x
unsigned_back n = integer_back n unsigned_of

-- a signed one from its two's complement
pub signed_back : (n : ℕ) (z : ℤ) (rest : List ℕ) → Held n z → signed_read n (bytes n (bits_of n z) ++ rest) ≡ Ok z
signed_back n z rest h =
    integer_back n (signed_of n) (bits_of n z) rest (bits_less n z h) ∙ ap Ok (signed_bits n z h)
