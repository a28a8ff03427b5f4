-- A stand of another make, whose states stand for desks of the line and which tells of each call what the line's desk gives, has
-- demand 3 and loses no call. For whoever builds a desk: `Models` is what is owed. Assumes nothing.
use mathlib.Core.Path.{◌≡◌, refl, sym, ap, ap₂, ◌∙◌, subst}
use mathlib.Core.Bool.{Bool}
use mathlib.Core.List.{List, [], ◌∷◌, map}
use Rattle.line.specs.Lists.{Each, keep}
use Rattle.line.specs.Machine.{Machine}
use Rattle.line.specs.Line.{seated}
use Rattle.line.specs.Desk.{Pass, first, Call, Outcome, Desk, fresh_at, step}
use Rattle.line.specs.Stand.{Stand, Event, calls, trace, after, line_stand, is_accepted}
use Rattle.line.specs.Transfers.{own, transfers, listed}
use Rattle.line.specs.Alone.{one_by_one, listed_of, Demand3Of, Begins, at_first, behind, LosesNone}
use Rattle.line.proofs.Demand.{none_before, demand3}
use Rattle.line.proofs.Ones.{entered_first}
use Rattle.line.proofs.Told.{retold, all_calls_retold, own_accepted_retold, entries_retold, listed_retold}

pub record Models {M : Machine} {T : Type 0} (S : Stand M T) (ok : T → Bool) : Type 1 where
  pub Good : S.State → Type 0
  pub view : S.State → Desk M
  pub says : Call M → Outcome M → T
  pub first_good : Good (S.fresh first)
  pub again_good : (s : S.State) → Good s → Good (S.fresh (S.pass s))
  pub next_good : (s : S.State) (k : Call M) → Good s → Good (S.next s k)
  pub fresh_view : (p : Pass) → view (S.fresh p) ≡ fresh_at M p
  pub next_view : (s : S.State) (k : Call M) → Good s → view (S.next s k) ≡ (step M (view s) k).0
  pub pass_view : (s : S.State) → S.pass s ≡ (view s).pass
  pub answer : (s : S.State) (k : Call M) → Good s → S.answers s k ≡ says k (step M (view s) k).1
  pub accepts : (d : Desk M) (k : Call M) → ok (says k (step M d k).1) ≡ is_accepted M (step M d k).1

module _ {M : Machine} {T : Type 0} (S : Stand M T) (ok : T → Bool) (H : Models S ok) where
  open H use {Good, view, says, first_good, again_good, next_good, fresh_view, next_view, pass_view, answer, accepts}

  abbrev Events : Type 0
  Events = List (Event M T)

  pub trace_is : (s : S.State) (ks : List (Call M)) → Good s → trace S s ks ≡ map (retold says) (trace (line_stand M) (view s) ks)
  unfolding trace
  trace_is s [] g = refl
  trace_is s (k ∷ ks) g =
      let rest = rw (next_view s k g) at (trace_is (S.next s k) ks (next_good s k g)) in
      let a = answer s k g in
      λ i. record { call = k; told = a i } ∷ rest i

  pub after_is : (s : S.State) (ks : List (Call M)) → Good s
      → Good (after S s ks) × (view (after S s ks) ≡ after (line_stand M) (view s) ks)
  unfolding after
  after_is s [] g = (g, refl)
  after_is s (k ∷ ks) g = rw (next_view s k g) at (after_is (S.next s k) ks (next_good s k g))

  pub fresh_trace : (p : Pass) (ks : List (Call M)) → Good (S.fresh p)
      → trace S (S.fresh p) ks ≡ map (retold says) (trace (line_stand M) (fresh_at M p) ks)
  fresh_trace p ks g =
      trace_is (S.fresh p) ks g ∙ ap (λ (d : Desk M). map (retold says) (trace (line_stand M) d ks)) (fresh_view p)

  -- where a single run stops
  fresh_stop : (p : Pass) (ks : List (Call M)) → Good (S.fresh p)
      → S.pass (after S (S.fresh p) ks) ≡ (after (line_stand M) (fresh_at M p) ks).pass
  fresh_stop p ks g =
      pass_view (after S (S.fresh p) ks)
      ∙ ap (λ (d : Desk M). d.pass) ((after_is (S.fresh p) ks g).1 ∙ ap (λ (d : Desk M). after (line_stand M) d ks) (fresh_view p))

  -- single runs begin at good states, and where the line's do
  pub begins_good : {p : Pass} → Begins S p → Good (S.fresh p)
  begins_good at_first = first_good
  begins_good (behind {p = p} ks b) = again_good (after S (S.fresh p) ks) (after_is (S.fresh p) ks (begins_good b)).0

  pub begins_view : {p : Pass} → Begins S p → Begins (line_stand M) p
  begins_view at_first = at_first
  begins_view (behind {p = p} ks b) =
      subst (Begins (line_stand M)) (sym (fresh_stop p ks (begins_good b))) (behind ks (begins_view b))

  one_by_one_is : (p : Pass) (kss : List (List (Call M))) → Good (S.fresh p)
      → one_by_one S p kss ≡ map (map (retold says)) (one_by_one (line_stand M) p kss)
  unfolding one_by_one
  one_by_one_is p [] g = refl
  one_by_one_is p (ks ∷ kss) g =
      let s = after S (S.fresh p) ks in
      ap₂ (λ (t : Events) (ts : List Events). t ∷ ts) (fresh_trace p ks g)
      (one_by_one_is (S.pass s) kss (again_good s (after_is (S.fresh p) ks g).0)
      ∙ ap (λ (q : Pass). map (map (retold says)) (one_by_one (line_stand M) q kss)) (fresh_stop p ks g))

  agree : (d : Desk M) (ks : List (Call M))
      → Each (λ (x : Event M (Outcome M)). ok (retold says x).told ≡ is_accepted M x.told) (trace (line_stand M) d ks)
  unfolding trace
  agree d [] = tt
  agree d (k ∷ ks) = (accepts d k, agree (step M d k).0 ks)

  pub entries_is : (s : S.State) (ks : List (Call M)) → Good s
      → transfers (keep (λ x. ok x.told) (trace S s ks))
      ≡ map (map (retold says)) (transfers (keep (λ x. is_accepted M x.told) (trace (line_stand M) (view s) ks)))
  entries_is s ks g =
      ap (λ (xs : Events). transfers (keep (λ x. ok x.told) xs)) (trace_is s ks g)
      ∙ entries_retold says ok (is_accepted M) (trace (line_stand M) (view s) ks) (agree (view s) ks)

  pub listed_is : (ks : List (Call M)) → listed_of S ok ks ≡ map (map (retold says)) (listed_of (line_stand M) (is_accepted M) ks)
  listed_is ks =
      ap (listed ok) (fresh_trace first ks first_good)
      ∙ listed_retold says ok (is_accepted M) (trace (line_stand M) (fresh_at M first) ks) (agree (fresh_at M first) ks)

  pub demand3_of : Demand3Of S ok
  demand3_of ks =
      let ts = listed_of (line_stand M) (is_accepted M) ks in
      ap (λ (us : List Events). one_by_one S first (map calls us)) (listed_is ks)
      ∙ ap (one_by_one S first) (all_calls_retold says ts)
      ∙ one_by_one_is first (map calls ts) first_good
      ∙ ap (map (map (retold says))) (demand3 M ks)
      ∙ sym (listed_is ks)

  pub loses_none_of : LosesNone S ok
  unfolding seated
  loses_none_of p ks s b =
      entered_first s _
      (ap (λ (xs : Events). own s (keep (λ x. ok x.told) xs)) (fresh_trace p ks (begins_good b))
      ∙ own_accepted_retold says ok (is_accepted M) (trace (line_stand M) (fresh_at M p) ks) (agree (fresh_at M p) ks) s
      ∙ ap (map (retold says)) (none_before M ks (fresh_at M p) tt s refl))
