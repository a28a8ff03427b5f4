-- What the machine makes of n bytes at a width of so many bits is two's complement of n bytes. Assumes nothing.
use mathlib.Core.Path.{◌≡◌, refl, ap}
use Prim.Native.Nat.{ℕ, ◌^◌}
use native.Mathlib.Omega.{arith}
use lib.Dec.{ltb}
use lib.IntN.{negsuc}
use mir.Syntax.{Width, w8, w16, w32}
use mir.Val.{bits, hbits, to_z}
use mir.Facts.{to_z-of_z}
use Rattle.wire.proofs.Cases.{by}
use Rattle.reads.specs.Signed.{half, signed_of}

cast_is : (w : Width) (n : ℕ) → 2 ^ hbits w ≡ half n → 2 ^ bits w ≡ 256 ^ n → (x : ℕ) → to_z w x ≡ signed_of n x
unfolding signed_of
cast_is w n top all x =
    rw (top, all) (by (ltb x (half n)) (λ e. rw e) (λ e. rw e (ap negsuc (omega arith))))

pub cast_8 : (x : ℕ) → to_z w8 x ≡ signed_of 1 x
cast_8 = cast_is w8 1 refl refl

pub cast_16 : (x : ℕ) → to_z w16 x ≡ signed_of 2 x
cast_16 = cast_is w16 2 refl refl

pub cast_32 : (x : ℕ) → to_z w32 x ≡ signed_of 4 x
cast_32 = cast_is w32 4 refl refl

pub ruleset casts = (to_z-of_z, cast_8, cast_16, cast_32)
