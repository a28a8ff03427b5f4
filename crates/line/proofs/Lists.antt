-- Laws of the words about lists. Assumes nothing.
use mathlib.Core.Path.{◌≡◌, refl, ap}
use mathlib.Core.Bool.{Bool, true, false, true≢false}
use mathlib.Core.List.{List, [], ◌∷◌, ◌++◌, map}
use Rattle.wire.specs.Words.{pick, either}
use Rattle.line.specs.Lists.{Each, keep}

pub either_false : (a b : Bool) → either a b ≡ false → (a ≡ false) × (b ≡ false)
either_false true b h = absurd (true≢false h)
either_false false b h = (refl, h)

module _ {A : Type 0} (P : A → Type 0) where
  pub each : ((x : A) → P x) → (xs : List A) → Each P xs
  each h [] = tt
  each h (x ∷ xs) = (h x, each h xs)

  pub each_map : {Q : A → Type 0} (xs : List A) → ((x : A) → P x → Q x) → Each P xs → Each Q xs
  each_map [] f h = tt
  each_map (x ∷ xs) f h = (f x h.0, each_map xs f h.1)

  pub each_snoc : (xs : List A) (y : A) → Each P xs → P y → Each P (xs ++ (y ∷ []))
  each_snoc [] y h p = (p, tt)
  each_snoc (x ∷ xs) y h p = (h.0, each_snoc xs y h.1 p)

-- a test of what f makes of the elements
module _ {A B : Type 0} (f : A → B) (p : B → Bool) (q : A → Bool) where
  pub keep_map : (xs : List A) → Each (λ x. p (f x) ≡ q x) xs → keep p (map f xs) ≡ map f (keep q xs)
  unfolding keep
  keep_map [] h = refl
  keep_map (x ∷ xs) h = go (p (f x)) (q x) h.0 (keep_map xs h.1)
    where
      go : (a b : Bool) → a ≡ b → keep p (map f xs) ≡ map f (keep q xs)
          → pick a (f x ∷ keep p (map f xs)) (keep p (map f xs)) ≡ map f (pick b (x ∷ keep q xs) (keep q xs))
      go a true e k = rw e (ap {B = List B} (λ r. f x ∷ r) k)
      go a false e k = rw e k
