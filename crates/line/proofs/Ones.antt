-- What `transfers` reads off accepted calls are transfers, an entry and accepted calls of its own, and no call is lost by it.
-- Assumes nothing.
use mathlib.Core.Path.{◌≡◌, refl, sym, ap, ◌∙◌}
use mathlib.Core.Bool.{Bool, true}
use mathlib.Core.List.{List, [], ◌∷◌, ◌++◌, flatten}
use Prim.Native.Nat.{ℕ}
use borrow.Author.Tests.{eqb-true}
use lib.Dec.{eqb}
use Rattle.wire.proofs.Cases.{by}
use Rattle.line.specs.Lists.{Each, keep}
use Rattle.line.specs.Machine.{Machine}
use Rattle.line.specs.Stand.{Event}
use Rattle.line.specs.Transfers.{seat_of, is_enter, own, transfers, enters_at, served_at, made_at, Later, OneTransfer, AllCalls}

pub each_keep : {A : Type 0} (p : A → Bool) (xs : List A) → Each (λ x. p x ≡ true) (keep p xs)
unfolding keep
each_keep p [] = tt
each_keep p (x ∷ xs) = by (p x) (λ y. rw y (y, each_keep p xs)) (λ n. rw n (each_keep p xs))

module _ {M : Machine} {T : Type 0} (ok : T → Bool) where
  abbrev Accepted : List (Event M T) → Type 0
  Accepted = Each (λ x. ok x.told ≡ true)

  own_later : (s : ℕ) (xs : List (Event M T)) → Accepted xs → Each (Later ok s) (own s xs)
  unfolding own
  own_later s [] h = tt
  own_later s (x ∷ xs) h =
      by (eqb s (seat_of x.call))
      (λ y. by (is_enter x.call) (λ e. rw (y, e) tt)
      (λ n. rw (y, n) (record { seat = y; same = n; accepted = h.0 }, own_later s xs h.1)))
      (λ n. rw n (own_later s xs h.1))

  pub each-one : (xs : List (Event M T)) → Accepted xs → Each (OneTransfer ok) (transfers xs)
  unfolding transfers OneTransfer
  each-one [] h = tt
  each-one (x ∷ xs) h =
      by (is_enter x.call)
      (λ y. rw y ((y, h.0, own_later (seat_of x.call) xs h.1), each-one xs h.1))
      (λ n. rw n (each-one xs h.1))

pub all_calls : {M : Machine} {T : Type 0} → AllCalls M T
unfolding own transfers enters_at served_at made_at keep flatten
all_calls s [] = refl
all_calls s (x ∷ xs) =
    by (eqb s (seat_of x.call))
    (λ y. by (is_enter x.call)
    (λ e. rw (y, e, y) (ap (λ r. x ∷ own r xs ++ served_at s xs) (sym (eqb-true s (seat_of x.call) y)) ∙ ap (λ r. x ∷ r) (all_calls s xs)))
    (λ n. rw (y, n) (ap (λ r. x ∷ r) (all_calls s xs))))
    (λ n. by (is_enter x.call)
    (λ e. rw (n, e, n) (all_calls s xs))
    (λ m. rw (n, m) (all_calls s xs)))

-- where nothing comes before the first entry
pub entered_first : {M : Machine} {T : Type 0} (s : ℕ) (xs : List (Event M T)) → own s xs ≡ [] → served_at s xs ≡ made_at s xs
entered_first s xs h = rw h at (all_calls s xs)
