-- Laws of an ascending list of numbers. Assumes nothing.
use mathlib.Core.Path.{◌≡◌, ap}
use mathlib.Core.Logic.{◌⊎◌, inl, inr}
use mathlib.Core.List.{List, [], ◌∷◌}
use Prim.Native.Nat.{ℕ, zero, suc, ◌≤◌, ◌<◌}
use native.Mathlib.Nat.{le_of_suc-le-suc, not-suc-le-zero, le_of_eq, le_of_lt, eq-or-lt_of_le}
use lib.Dec.{T, ltb}
use lib.ListN.{length, get_or}
use mir.Facts.{and_yes, ltb_yes}
use Rattle.mailbox.specs.Listed.{every, ascending}
use Rattle.mailbox.proofs.Listed.{at_each}

-- from the test of the whole list to any two of its places
pub ascends : (l : List ℕ) → T (ascending l) → (j k : ℕ) → j < k → k < length l → get_or l j 0 < get_or l k 0
ascends [] t j k b h = absurd (not-suc-le-zero h)
ascends (a ∷ l) t j zero b h = absurd (not-suc-le-zero b)
ascends (a ∷ l) t zero (suc k) b h =
    ltb_yes (at_each (λ i. ltb a) 0 l (and_yes (every (λ i. ltb a) l) (ascending l) t).0 k (le_of_suc-le-suc h))
ascends (a ∷ l) t (suc j) (suc k) b h =
    ascends l (and_yes (every (λ i. ltb a) l) (ascending l) t).1 j k (le_of_suc-le-suc b) (le_of_suc-le-suc h)

pub climbs : (l : List ℕ) → T (ascending l) → (j k : ℕ) → j ≤ k → k < length l → get_or l j 0 ≤ get_or l k 0
climbs l t j k b h = go (eq-or-lt_of_le b)
  where
    go : (j ≡ k) ⊎ (j < k) → get_or l j 0 ≤ get_or l k 0
    go (inl e) = le_of_eq (ap (λ i. get_or l i 0) e)
    go (inr s) = le_of_lt (ascends l t j k s h)
