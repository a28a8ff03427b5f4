-- What the exported reads state is what the payload's bytes say. Assumes nothing.
use mathlib.Core.Path.{◌≡◌, refl, sym, ap, ◌∙◌}
use mathlib.Core.List.{List}
use Prim.Native.Nat.{ℕ, ◌-◌, ◌<◌, ◌≤◌, ◌^◌}
use native.Mathlib.Omega.{arith}
use borrow.Author.Tests.{ltb-false, lt-ltb}
use lib.Dec.{ltb}
use lib.IntN.{negsuc}
use lib.ListN.{length, take}
use Rattle.wire.specs.Bytes.{Bytes, value, window, word_at}
use Rattle.wire.proofs.Cases.{by}
use Rattle.wire.proofs.Bytes.{window_is}
use Rattle.reads.specs.Signed as reads
use Rattle.reads.specs.Typed.{integer_read, unsigned_read, signed_read}
use Rattle.reads.specs.List.{odd, item_at}
use Rattle.reads.specs.Quantities.{quantities_read}
use Rattle.linked.specs.Reading.{unsigned_of, signed_of, item_of, quantities_of}
use Rattle.surface.specs.Reads.{one_byte, two_from, four_bytes, unsigned_in, twos, signed_in, read_u8, read_u16, read_u32, read_i8, read_i16, read_i32, item_in, quantities_with, quantities_in}

-- the number that the first n bytes make, where they are there
abbrev Makes : ℕ → ℕ → List ℕ → Type 0
Makes n x s = n ≤ length s → value (take n s) ≡ x

first_bytes : (n : ℕ) (s : List ℕ) → n ≤ length s → value (take n s) ≡ value (window n s 0)
first_bytes n s h = ap value (sym (window_is n 0 s (omega arith)))

makes_one : (s : List ℕ) → Makes 1 (one_byte s) s
makes_one s h = first_bytes 1 s h ∙ omega arith

makes_two : (s : List ℕ) → Makes 2 (two_from s 0) s
makes_two s h = first_bytes 2 s h ∙ omega arith

makes_four : (s : List ℕ) → Makes 4 (four_bytes s) s
makes_four s h = first_bytes 4 s h ∙ omega arith

-- ---- unsigned

unsigned_in_lem : (n x : ℕ) (s : List ℕ) → Makes n x s → unsigned_of (unsigned_read n s) ≡ unsigned_in n x s
unfolding integer_read
unsigned_in_lem n x s m = by (ltb (length s) n) (λ y. rw y) (λ e. rw (e, m (ltb-false (length s) n e)))

pub u8_in : (s : List ℕ) → unsigned_of (unsigned_read 1 s) ≡ read_u8 s
u8_in s = unsigned_in_lem 1 (one_byte s) s (makes_one s)

pub u16_in : (s : List ℕ) → unsigned_of (unsigned_read 2 s) ≡ read_u16 s
u16_in s = unsigned_in_lem 2 (two_from s 0) s (makes_two s)

pub u32_in : (s : List ℕ) → unsigned_of (unsigned_read 4 s) ≡ read_u32 s
u32_in s = unsigned_in_lem 4 (four_bytes s) s (makes_four s)

-- ---- signed: half of all is where the highest bit is 1

signed_is : (n half all x : ℕ) → reads.half n ≡ half → 256 ^ n ≡ all → x < all → reads.signed_of n x ≡ twos half all x
unfolding reads.signed_of
signed_is n half all x h a l =
    rw (h, a) (by (ltb x half) (λ y. rw y) (λ e. rw (e, lt-ltb x all l) (ap negsuc (omega arith))))

signed_in_lem : (n half all x : ℕ) (s : List ℕ) → Makes n x s → reads.half n ≡ half → 256 ^ n ≡ all → x < all
    → signed_of (signed_read n s) ≡ signed_in n (twos half all x) s
unfolding integer_read
signed_in_lem n half all x s m h a l =
    by (ltb (length s) n)
    (λ y. rw y)
    (λ e. rw (e, m (ltb-false (length s) n e), signed_is n half all x h a l))

pub i8_in : (s : List ℕ) → Bytes s → signed_of (signed_read 1 s) ≡ read_i8 s
i8_in s h = signed_in_lem 1 128 256 (one_byte s) s (makes_one s) refl refl (h 0)

pub i16_in : (s : List ℕ) → Bytes s → signed_of (signed_read 2 s) ≡ read_i16 s
i16_in s h = signed_in_lem 2 32768 65536 (two_from s 0) s (makes_two s) refl refl (omega (arith, h 0, h 1))

pub i32_in : (s : List ℕ) → Bytes s → signed_of (signed_read 4 s) ≡ read_i32 s
i32_in s h = signed_in_lem 4 2147483648 4294967296 (four_bytes s) s (makes_four s) refl refl (omega (arith, h 0, h 1, h 2, h 3))

-- ---- lists and quantities

two_is : (s : List ℕ) (i : ℕ) → word_at s i ≡ two_from s i
two_is s i = omega arith

pub item_in_lem : (s : List ℕ) (at : ℕ) → item_of at (item_at s at) ≡ item_in s at
unfolding item_at
item_in_lem s at =
    by (odd s)
    (λ y. rw y)
    (λ e. rw e (by (ltb (length s - at) 2) (λ y. rw y) (λ n. rw (n, two_is s at))))

pub quantities_in_lem : (s : List ℕ) → quantities_of (quantities_read s) ≡ quantities_in s
unfolding quantities_read
quantities_in_lem s =
    by (ltb (length s) 10)
    (λ y. rw y)
    (λ e. rw e (λ i. quantities_with 0x00 (two_is s 0 i) (two_is s 2 i) (two_is s 4 i) (two_is s 6 i) (two_is s 8 i)))
