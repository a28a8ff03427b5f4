-- Tests of numbers, and what an accepted judgement tells of the tests before it. Assumes nothing.
use mathlib.Core.Path.{◌≡◌, refl, sym, subst}
use mathlib.Core.Bool.{Bool, true, false, false≢true}
use Prim.Native.Nat.{ℕ, ◌≤◌}
use borrow.Author.Tests.{eq-eqb, ne_eqb, eqb-false, leb-true, le-leb}
use lib.Dec.{eqb, leb}
use Rattle.wire.specs.Words.{pick, within}
use Rattle.wire.proofs.Cases.{by}
use Rattle.line.specs.Machine.{Ruling, refuse, accept}

pub eqb_self : (s : ℕ) → eqb s s ≡ true
eqb_self s = eq-eqb s s refl

pub eqb_sym : (s q : ℕ) → eqb s q ≡ false → eqb q s ≡ false
eqb_sym s q e = ne_eqb q s λ p. eqb-false s q e (sym p)

pub within_of : (low high n : ℕ) → low ≤ n → n ≤ high → within low high n ≡ true
within_of low high n a b = rw (le-leb low n a, le-leb n high b)

pub within_true : (low high n : ℕ) → within low high n ≡ true → (low ≤ n) × (n ≤ high)
within_true low high n h =
    by (leb low n)
    (λ y. (leb-true low n y, leb-true n high (rw y at h)))
    (λ m. absurd (false≢true (rw m at h)))

abbrev Accepts : {A : Type 0} → Ruling A → Type 0
Accepts (refuse n) = ⊥
Accepts (accept a) = Unit {0}

pub refuse≢accept : {A : Type 0} {n : ℕ} {a : A} → ◌≡◌ {A = Ruling A} (refuse n) (accept a) → ⊥
refuse≢accept e = subst Accepts (sym e) tt

module _ {A : Type 0} where
  pub pick_accept : (b : Bool) (n : ℕ) (v : Ruling A) {a : A} → pick b (refuse n) v ≡ accept a → (b ≡ false) × (v ≡ accept a)
  pick_accept true n v e = absurd (refuse≢accept e)
  pick_accept false n v e = (refl, e)

  pub accept_eq : {a b : A} → ◌≡◌ {A = Ruling A} (accept a) (accept b) → a ≡ b
  accept_eq e = cc
