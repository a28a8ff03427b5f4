-- Transfers are the same however their calls are told, as long as it is told which were accepted. Assumes nothing.
use mathlib.Core.Path.{◌≡◌, refl, ap, ap₂, ◌∙◌}
use mathlib.Core.Bool.{Bool, true, false}
use mathlib.Core.List.{List, [], ◌∷◌, ◌++◌, map}
use Prim.Native.Nat.{ℕ}
use lib.Dec.{eqb}
use Rattle.wire.specs.Words.{pick, either}
use Rattle.line.specs.Lists.{Each, keep, some_of}
use Rattle.line.specs.Machine.{Machine}
use Rattle.line.specs.Desk.{Call}
use Rattle.line.specs.Stand.{Event, calls}
use Rattle.line.specs.Transfers.{seat_of, is_enter, is_send, own, transfers, sent_frame, listed}
use Rattle.line.proofs.Lists.{each, keep_map}

module _ {M : Machine} {T U : Type 0} (says : Call M → T → U) where
  -- the same call, told another way
  abbrev pub retold : Event M T → Event M U
  retold x = record { call = x.call; told = says x.call x.told }

  pub calls_retold : (xs : List (Event M T)) → calls (map retold xs) ≡ calls xs
  unfolding calls
  calls_retold [] = refl
  calls_retold (x ∷ xs) = ap {B = List (Call M)} (λ r. x.call ∷ r) (calls_retold xs)

  pub all_calls_retold : (ts : List (List (Event M T))) → map calls (map (map retold) ts) ≡ map calls ts
  all_calls_retold [] = refl
  all_calls_retold (t ∷ ts) = ap₂ {C = List (List (Call M))} (λ a b. a ∷ b) (calls_retold t) (all_calls_retold ts)

  own_retold : (s : ℕ) (xs : List (Event M T)) → own s (map retold xs) ≡ map retold (own s xs)
  unfolding own
  own_retold s [] = refl
  own_retold s (x ∷ xs) = go (eqb s (seat_of x.call)) (is_enter x.call) (own s xs) (own_retold s xs)
    where
      go : (a b : Bool) (zs : List (Event M T)) {ys : List (Event M U)} → ys ≡ map retold zs
          → pick a (pick b [] (retold x ∷ ys)) ys ≡ map retold (pick a (pick b [] (x ∷ zs)) zs)
      go true true zs h = refl
      go true false zs h = ap {B = List (Event M U)} (λ r. retold x ∷ r) h
      go false b zs h = h

  transfers_retold : (xs : List (Event M T)) → transfers (map retold xs) ≡ map (map retold) (transfers xs)
  unfolding transfers
  transfers_retold [] = refl
  transfers_retold (x ∷ xs) = go (is_enter x.call) (own (seat_of x.call) xs) (transfers xs) (own_retold (seat_of x.call) xs) (transfers_retold xs)
    where
      go : (b : Bool) (zs : List (Event M T)) (us : List (List (Event M T))) {ys : List (Event M U)} {ts : List (List (Event M U))}
          → ys ≡ map retold zs → ts ≡ map (map retold) us
          → pick b ((retold x ∷ ys) ∷ []) [] ++ ts ≡ map (map retold) (pick b ((x ∷ zs) ∷ []) [] ++ us)
      go true zs us e h = ap₂ (λ (o : List (Event M U)) (ts : List (List (Event M U))). (retold x ∷ o) ∷ ts) e h
      go false zs us e h = h

  sent_retold : (xs : List (Event M T)) → sent_frame (map retold xs) ≡ sent_frame xs
  unfolding sent_frame some_of
  sent_retold [] = refl
  sent_retold (x ∷ xs) = ap (λ (b : Bool). either (is_send x.call) b) (sent_retold xs)

  -- where the two ways agree on which calls were accepted
  module _ (ok : U → Bool) (ok₀ : T → Bool) (xs : List (Event M T)) (h : Each (λ x. ok (retold x).told ≡ ok₀ x.told) xs) where
    accepted_retold : keep (λ x. ok x.told) (map retold xs) ≡ map retold (keep (λ x. ok₀ x.told) xs)
    accepted_retold = keep_map retold (λ x. ok x.told) (λ x. ok₀ x.told) xs h

    pub own_accepted_retold : (s : ℕ) → own s (keep (λ x. ok x.told) (map retold xs)) ≡ map retold (own s (keep (λ x. ok₀ x.told) xs))
    own_accepted_retold s = ap (own s) accepted_retold ∙ own_retold s (keep (λ (x : Event M T). ok₀ x.told) xs)

    pub entries_retold : transfers (keep (λ x. ok x.told) (map retold xs)) ≡ map (map retold) (transfers (keep (λ x. ok₀ x.told) xs))
    entries_retold = ap transfers accepted_retold ∙ transfers_retold (keep (λ (x : Event M T). ok₀ x.told) xs)

    pub listed_retold : listed ok (map retold xs) ≡ map (map retold) (listed ok₀ xs)
    unfolding listed
    listed_retold =
        let ts = transfers (keep (λ (x : Event M T). ok₀ x.told) xs) in
        ap (keep sent_frame) entries_retold ∙ keep_map (map retold) sent_frame sent_frame ts (each _ sent_retold ts)
