-- Fields that leave no bit out leave one list of bytes. Assumes nothing.
use mathlib.Core.Path.{◌≡◌, sym, ap, ◌∙◌}
use mathlib.Core.List.{List, [], ◌∷◌, ◌++◌, map, map-map, map-append}
use Prim.Native.Nat.{ℕ, zero, suc, ◌+◌, ◌-◌, ◌*◌, ◌/◌, ◌%◌, ◌^◌, ◌<◌, ◌≤◌}
use native.Mathlib.Nat.{mod-one}
use native.Mathlib.Numerals.{one-add}
use native.Mathlib.Omega.{arith}
use lib.Dec.{T, leb, leb→le, ltb, ltb→lt}
use lib.ListN.{length}
use lib.Pow.{shr-shr, mod-pow-add}
use Rattle.wire.specs.Words.{both}
use Rattle.wire.specs.Bytes.{bytes, value, Bytes}
use Rattle.wire.specs.Fields.{Field, end, get, read}
use Rattle.wire.proofs.Bits.{get_below}
use Rattle.wire.proofs.Bytes.{bytes-value, value-bytes}
use Rattle.wire.proofs.Cases.{by}
use Rattle.wire.proofs.Fields.{bytes_bits}
use Rattle.mailbox.specs.Fields.{Name, place}
use Rattle.promises.specs.Fields.{in_one, covers, Packs, PacksOne}
use Rattle.promises.proofs.Fields.{parts}

-- ---- bits

abbrev bit : ℕ → Field
bit i = record { first = i; width = 1 }

-- a bit of a field is a bit of the number that the field holds
bit_of_lem : (f : Field) (x i : ℕ) → f.first ≤ i → i < end f → get (bit i) x ≡ get (bit (i - f.first)) (get f x)
bit_of_lem f x i l h =
    let e : i ≡ f.first + (i - f.first) = omega arith in
    ap (λ (k : ℕ). x / 2 ^ k % 2) e
    ∙ ap (λ (q : ℕ). q % 2) (sym (shr-shr x f.first (i - f.first)))
    ∙ sym (get_below (bit (i - f.first)) (x / 2 ^ f.first) f.width (omega arith))

abbrev all_of : ℕ → List Field → List ℕ
all_of x fs = map (λ (f : Field). get f x) fs

module _ (x y : ℕ) where
  same_bit : (fs : List Field) → all_of x fs ≡ all_of y fs → (i : ℕ) → T (in_one fs i) → get (bit i) x ≡ get (bit i) y
  same_bit [] e i t = absurd t
  same_bit (f ∷ fs) e i t =
      by (both (leb f.first i) (ltb i (end f)))
      (λ here.
      let sides = parts (leb f.first i) (ltb i (end f)) (rw here tt) in
      let l = leb→le f.first i sides.0 in
      let h = ltb→lt i (end f) sides.1 in
      let same : get f x ≡ get f y = cc in
      bit_of_lem f x i l h ∙ ap (get (bit (i - f.first))) same ∙ sym (bit_of_lem f y i l h))
      (λ other. same_bit fs (cc) i (rw other at t))

  same_low : (fs : List Field) → all_of x fs ≡ all_of y fs → (n : ℕ) → T (covers n fs) → x % 2 ^ n ≡ y % 2 ^ n
  same_low fs e zero t = mod-one x ∙ sym (mod-one y)
  same_low fs e (suc n) t =
      let both_hold = parts (in_one fs n) (covers n fs) t in
      rw (← one-add n, mod-pow-add x 1 n, mod-pow-add y 1 n, same_bit fs e n both_hold.0, same_low fs e n both_hold.1)

-- ---- bytes

from_low : (n : ℕ) (s : List ℕ) → Bytes s → length s ≡ n → s ≡ bytes n (value s % 2 ^ (8 * n))
from_low n s h l =
    let whole : bytes n (value s) ≡ s = rw l at (bytes-value s h) in
    sym whole
    ∙ ap (bytes n) (ap value (sym whole) ∙ value-bytes n (value s) ∙ ap (λ (p : ℕ). value s % p) (bytes_bits n))

module _ (n : ℕ) (fields : List (Name × ℕ)) (gs : List Field) where
  abbrev places : List Field
  places = map (λ (r : Name × ℕ). place r.0) fields ++ gs

  all_are : (s : List ℕ) → Packs n fields gs s
      → all_of (value s) places ≡ map (λ (r : Name × ℕ). r.1) fields ++ map (λ (f : Field). 0) gs
  unfolding read
  all_are s p =
      let get_from : Field → ℕ = λ f. get f (value s) in
      map-append get_from (map (λ (r : Name × ℕ). place r.0) fields) gs
      ∙ rw (map-map get_from (λ (r : Name × ℕ). place r.0) fields, p.holds, p.else_zero)

pub packs_one : PacksOne
packs_one n fields gs a b ha hb p q =
    let same = all_are n fields gs a p ∙ sym (all_are n fields gs b q) in
    from_low n a ha p.long
    ∙ ap (bytes n) (same_low (value a) (value b) (places n fields gs) same (8 * n) (rw p.every_bit tt))
    ∙ sym (from_low n b hb q.long)
