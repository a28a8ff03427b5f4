-- Laws of two's complement over the number of bytes: a number is read from its bits, the range, and that the number is the bits, or the
-- bits less 256 ^ n. That bits are those of the number that they read as is in specs/Integers. Assumes nothing.
use mathlib.Core.Path.{◌≡◌, ap, ◌∙◌}
use Prim.Native.Nat.{ℕ, suc, ◌-◌, ◌*◌, ◌^◌, ◌<◌, ◌≤◌}
use native.Mathlib.Nat.{one-le-pow, pow-suc}
use native.Mathlib.Omega.{arith}
use borrow.Author.Tests.{lt-ltb, le-ltb, ltb-true, ltb-false}
use lib.Dec.{ltb, lit<}
use lib.IntN.{ℤ, pos, negsuc, sub_ℕ}
use Rattle.wire.proofs.Cases.{by}
use Rattle.reads.specs.Signed.{half, turned, signed_of, bits_of, Held}

pub signed_low : (n x : ℕ) → x < half n → signed_of n x ≡ pos x
unfolding signed_of
signed_low n x h = rw (lt-ltb x (half n) h)

pub signed_high : (n x : ℕ) → half n ≤ x → signed_of n x ≡ negsuc (turned n x)
unfolding signed_of
signed_high n x h = rw (le-ltb x (half n) h)

full : (n : ℕ) → 0 < 256 ^ n
full n = one-le-pow n 256 (lit< tt)

-- a number that n bytes hold has bits of n bytes, and they read as that number
pub bits_less : (n : ℕ) (z : ℤ) → Held n z → bits_of n z < 256 ^ n
bits_less n (pos k) h = omega arith
bits_less n (negsuc k) h = omega (arith, full n)

pub signed_bits : (n : ℕ) (z : ℤ) → Held n z → signed_of n (bits_of n z) ≡ z
signed_bits n (pos k) h = signed_low n k h
signed_bits n (negsuc k) h =
    let back : turned n (turned n k) ≡ k = omega arith in
    signed_high n (turned n k) (omega arith) ∙ ap negsuc back

-- bits of n bytes read as a number that n bytes hold, where there is a byte at all
pub signed_held : (n x : ℕ) → x < 256 ^ suc n → Held (suc n) (signed_of (suc n) x)
signed_held n x h =
    let even : 256 ^ suc n ≡ 256 ^ n * 256 = pow-suc 256 n in
    by (ltb x (half (suc n)))
    (λ e. rw (signed_low (suc n) x (ltb-true _ _ e)) (ltb-true _ _ e))
    (λ e. let high : half (suc n) ≤ x = ltb-false _ _ e in
    rw (signed_high (suc n) x high) (omega arith))

-- from half on the number is x - 256 ^ n
pub signed_minus : (n x : ℕ) → half n ≤ x → x < 256 ^ n → signed_of n x ≡ sub_ℕ x (256 ^ n)
signed_minus n x h l =
    let e : turned n x ≡ 256 ^ n - suc x = omega arith in
    rw (lt-ltb x (256 ^ n) l) (signed_high n x h ∙ ap negsuc e)
