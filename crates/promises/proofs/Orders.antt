-- What an order asks for is what the table has for its kind's number. Assumes nothing.
use mathlib.Core.Path.{◌≡◌, refl, sym, ◌∙◌}
use mathlib.Core.Bool.{Bool, true, false, not, false≢true}
use mathlib.Core.List.{[], ◌∷◌}
use mathlib.Core.Option.{Option, none, some}
use Prim.Native.Nat.{ℕ, zero, suc, ◌<◌, ◌≤◌}
use native.Mathlib.Omega.{arith}
use borrow.Author.Tests.{ltb-true, ltb-false, lt-leb, le-leb, ne_eqb}
use lib.Dec.{eqb, ltb}
use Rattle.std.specs.Prelude.{None}
use Rattle.wire.specs.Words.{pick, within, either, first_of}
use Rattle.wire.proofs.Cases.{by}
use Rattle.mailbox.specs.declared.sub_index.SubIndex.TheVariants.{Complete, Index}
use Rattle.services.specs.Requests.{packed_of}
use Rattle.transfer.specs.Entry.{kind_of, outside, unfit_as, unfit_of}
use Rattle.transfer.specs.Due.{first_request, first_reply}
use Rattle.transfer.specs.declared.Order.{Order}
use Rattle.promises.specs.Orders.{unfit, Fit, Defaults, Asking, asks, Asked, AsksAsListed}
use Rattle.promises.proofs.Fields.{upload_packs, download_packs, information_packs}

-- a kind's number: one of the six, or none of them
data Among : ℕ → Type 0 where
  one : Among 1
  two : Among 2
  three : Among 3
  four : Among 4
  five : Among 5
  six : Among 6
  less : Among 0
  more : (k : ℕ) → 7 ≤ k → Among k

among : (k : ℕ) → Among k
among zero = less
among (suc zero) = one
among (suc (suc zero)) = two
among (suc (suc (suc zero))) = three
among (suc (suc (suc (suc zero)))) = four
among (suc (suc (suc (suc (suc zero))))) = five
among (suc (suc (suc (suc (suc (suc zero)))))) = six
among (suc (suc (suc (suc (suc (suc (suc k))))))) = more (suc (suc (suc (suc (suc (suc (suc k))))))) (omega arith)

-- ---- 15

-- a number below a range or above it, or within it
pub ranged : {X : Type 0} (low high n : ℕ) (f : Bool → Bool → X) (g : Bool → X)
    → ((b : Bool) → f true b ≡ g false) → f false true ≡ g false → f false false ≡ g true → f (ltb n low) (ltb high n) ≡ g (within low high n)
ranged low high n f g under over within =
    by (ltb n low)
    (λ y. rw (y, lt-leb low n (ltb-true n low y)) (under _))
    (λ a. rw (a, le-leb low n (ltb-false n low a))
    (by (ltb high n)
    (λ y. rw (y, lt-leb n high (ltb-true high n y)) over)
    (λ b. rw (b, le-leb n high (ltb-false high n b)) within)))

outside_15 : (low high n : ℕ) → pick {A = Option ℕ} (outside low high n) (some 0x15) none ≡ pick (not (within low high n)) (some 0x15) none
unfolding outside
outside_15 low high n = ranged low high n (λ a b. pick (either a b) (some 0x15) none) (λ w. pick (not w) (some 0x15) none) (λ b. refl) refl refl

-- a condition that is tested before others
before : (b c : Bool) (x : Option ℕ) → pick c (some 0x15) none ≡ x → pick (pick b true c) (some 0x15) none ≡ pick b (some 0x15) x
before true c x e = refl
before false c x e = e

-- a kind above the six
module _ (k : ℕ) (h : 7 ≤ k) where
  not_listed : (sub : ℕ) → kind_of k sub ≡ None
  unfolding kind_of
  not_listed sub =
      rw (
        ne_eqb k 1 (λ e. omega arith),
        ne_eqb k 2 (λ e. omega arith),
        ne_eqb k 3 (λ e. omega arith),
        ne_eqb k 4 (λ e. omega arith),
        ne_eqb k 5 (λ e. omega arith),
        ne_eqb k 6 (λ e. omega arith),
      )

  not_within : within 1 6 k ≡ false
  not_within = rw (le-leb 1 k (omega arith), lt-leb k 6 (omega arith))

module _ (sub index value len budget : ℕ) where
  abbrev order : ℕ → Order
  order k = record { kind = k; sub = sub; index = index; value = value; len = len; budget = budget }

  unfit_at : {k : ℕ} → Among k → first_of {A = ℕ} ((unfit_of (order k), 0x15) ∷ []) ≡ first_of {A = ℕ} (unfit (order k))
  unfolding unfit_of kind_of first_of
  unfit_at one = before (eqb budget 0) _ _ refl
  unfit_at two = before (eqb budget 0) _ _ refl
  unfit_at three = before (eqb budget 0) _ _ (outside_15 1 4 len)
  unfit_at four = before (eqb budget 0) _ _ (outside_15 1 5 index)
  unfit_at five = before (eqb budget 0) _ _ refl
  unfit_at six = before (eqb budget 0) _ _ (outside_15 1 4 len)
  unfit_at less = before (eqb budget 0) _ _ refl
  unfit_at (more k h) = rw (not_listed k h sub, not_within k h) (before (eqb budget 0) _ _ refl)

-- the conditions are transfer's own
pub unfit_is : (o : Order) → first_of {A = ℕ} ((unfit_of o, 0x15) ∷ []) ≡ first_of {A = ℕ} (unfit o)
unfit_is o = unfit_at o.sub o.index o.value o.len o.budget (among o.kind)

-- an order that none of them refuses is fit, and the other way round
pub fit_is : (o : Order) → unfit_of o ≡ false → Fit o
unfolding first_of
fit_is o e = sym (unfit_is o) ∙ rw e

pub is_fit : (o : Order) → Fit o → unfit_of o ≡ false
unfolding first_of
is_fit o f = go (unfit_of o) (unfit_is o ∙ f)
  where
    go : (b : Bool) → pick {A = Option ℕ} b (some 0x15) none ≡ none → b ≡ false
    go true e = cc
    go false e = refl

pub defaults : Defaults
defaults = record { counter = refl; budget = refl }

-- ---- the first request and its reply

pub fit_kind : (o : Order) → unfit_of o ≡ false → unfit_as (kind_of o.kind o.sub) o ≡ false
unfolding unfit_of
fit_kind o = by (eqb o.budget 0) (λ y. rw y λ e. absurd (false≢true (sym e))) (λ n. rw n λ e. e)

pub inside : (low high n : ℕ) → outside low high n ≡ false → (low ≤ n) × (n ≤ high)
unfolding outside
inside low high n =
    by (ltb n low)
    (λ y. rw y λ e. absurd (false≢true (sym e)))
    (λ a. rw a λ b. (ltb-false n low a, ltb-false high n b))

module _ (c sub index value len budget : ℕ) (hc : c < 8) (hi : index < 65536) (hb : sub < 256) where
  abbrev ordered : ℕ → Order
  ordered = order sub index value len budget

  asks_at : {k : ℕ} → Among k → unfit_as (kind_of k sub) (ordered k) ≡ false
      → (a : Asking) × (first_of (asks (ordered k) c) ≡ some a) × Asked a (packed_of c (first_request (ordered k))) (first_reply (ordered k))
  unfolding kind_of first_of first_request first_reply
  asks_at one e = (_, refl, record { packs = upload_packs c index (Index sub) hc hi hb; held = refl })
  asks_at two e = (_, refl, record { packs = upload_packs c index Complete hc hi (omega arith); held = refl })
  asks_at three e =
      let w = inside 1 4 len e in
      (_, refl, record { packs = download_packs c index (Index sub) value len hc hi hb w.0 w.1; held = refl })
  asks_at four e = (_, refl, record { packs = information_packs c index hc (inside 1 5 index e).1; held = refl })
  asks_at five e = (_, refl, record { packs = information_packs c 0 hc (omega arith); held = refl })
  asks_at six e =
      let w = inside 1 4 len e in
      (_, refl, record { packs = download_packs c index Complete value len hc hi (omega arith) w.0 w.1; held = refl })
  asks_at less e = absurd (false≢true (sym e))
  asks_at (more k h) e = absurd (false≢true (sym (rw (not_listed k h sub) at e)))

pub asks_as_listed : AsksAsListed
asks_as_listed o c hc hi hb f =
    asks_at c o.sub o.index o.value o.len o.budget hc hi hb (among o.kind) (fit_kind o (is_fit o f))
