-- The law of the integers that are read. Assumes nothing.
use Rattle.std.specs.Prelude.{ℕ, ◌≡◌, ◌^◌, ◌<◌, ltb}
use Rattle.std.proofs.Common.{arith}
use Rattle.wire.proofs.Cases.{by}
use Rattle.reads.specs.Signed.{half, turned, signed_of, bits_of}

-- bits of n bytes are the bits of the number that they read as
pub bits_signed : (n x : ℕ) → x < 256 ^ n → bits_of n (signed_of n x) ≡ x
unfolding signed_of
bits_signed n x h =
    by (ltb x (half n))
    (λ e. rw e)
    (λ e. let back : turned n (turned n x) ≡ x = omega arith in rw e back)
