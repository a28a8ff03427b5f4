-- From demand 3 alone: every transfer that is listed of a stand is that stand's own single run. Assumes nothing.
use mathlib.Core.Path.{◌≡◌, refl, ap, subst}
use mathlib.Core.Bool.{Bool}
use mathlib.Core.List.{List, [], ◌∷◌, map}
use Rattle.line.specs.Lists.{Each}
use Rattle.line.specs.Machine.{Machine}
use Rattle.line.specs.Desk.{Pass, first, Call}
use Rattle.line.specs.Stand.{Stand, calls, trace, after}
use Rattle.line.specs.Alone.{one_by_one, listed_of, Begins, at_first, behind, Single, Served, NoPretender}
use Rattle.line.proofs.Lists.{each_map}

module _ {M : Machine} {T : Type 0} (S : Stand M T) where
  -- the runs that demand 3 speaks of exist: any sequence of calls, from any state, has a trace that makes these calls
  pub calls_trace : (s : S.State) (ks : List (Call M)) → calls (trace S s ks) ≡ ks
  unfolding trace calls
  calls_trace s [] = refl
  calls_trace s (k ∷ ks) = ap {B = List (Call M)} (λ r. k ∷ r) (calls_trace (S.next s k) ks)

  pub single : (p : Pass) (ks : List (Call M)) → Begins S p → Single S (trace S (S.fresh p) ks)
  single p ks b = record { from = p; begins = b; run = ap (trace S (S.fresh p)) (calls_trace (S.fresh p) ks) }

  each_single : (p : Pass) (kss : List (List (Call M))) → Begins S p → Each (Single S) (one_by_one S p kss)
  unfolding one_by_one
  each_single p [] b = tt
  each_single p (ks ∷ kss) b = (single p ks b, each_single (S.pass (after S (S.fresh p) ks)) kss (behind ks b))

  module _ (ok : T → Bool) where
    pub served_of : Served S ok
    served_of D ks = subst (Each (Single S)) (D ks) (each_single first (map calls (listed_of S ok ks)) at_first)

    pub no_pretender : NoPretender S ok
    no_pretender D R F ks = each_map (Single S) (listed_of S ok ks) (λ t s. subst R s.run (F s.from (calls t) s.begins)) (served_of D ks)
