-- The exported functions, called one after another on one record, make a run of the desk of which demand 3 speaks. Assumes nothing.
use mathlib.Core.Path.{◌≡◌, refl, sym, ap, ◌∙◌, subst}
use mathlib.Core.List.{List, [], ◌∷◌, map}
use Prim.Native.Nat.{ℕ}
use Rattle.wire.specs.Words.{first_of}
use Rattle.line.specs.Lists.{Each, keep}
use Rattle.line.specs.Desk as desk
use Rattle.line.specs.Desk.{first}
use Rattle.line.specs.Stand.{calls, trace}
use Rattle.line.specs.Transfers.{listed, served_at, made_at}
use Rattle.line.specs.Alone.{one_by_one, at_first}
use Rattle.judge.specs.declared.Answer.{Answer}
use Rattle.transfer.specs.Coe.{Told}
use Rattle.transfer.specs.Entry.{default_budget}
use Rattle.desk.specs.Record.{Good, view_of}
use Rattle.desk.specs.Stand.{desk_stand, is_answered}
use Rattle.desk.specs.declared.Desk.{Desk}
use Rattle.desk.proofs.Kept.{good_step}
use Rattle.promises.specs.Standing.{Called, Deed}
use Rattle.promises.specs.Table.{conditions, buffer_by}
use Rattle.promises.specs.Whole.{Follows}
use Rattle.promises.proofs.Table.{table_at_records}
use Rattle.promises.proofs.Demand3.{demand3, no_call_lost, served_truly, singles_follow}
use Rattle.surface.specs.Entry.{entry_of}
use Rattle.surface.specs.Calls.{Does}
use Rattle.surface.specs.Demand3.{Hosted, enter, enter_within, send, receive, leave, Found, Stated, Step, Session, call_of, seen_of, Served, HostDemand3, SessionsExist}
use Rattle.surface.proofs.Calls.{entering_lends_none, leaving_lends_none}

-- ---- one call

stated_does : (d : Desk) (h : Hosted) (f : Found) → Stated d h f → Does d (call_of h) f.answer f.record_after f.lent
unfolding Stated call_of
stated_does d (enter s k i b x) f S = subst (Does d (desk.enter s (entry_of k i b x default_budget)) f.answer f.record_after) (sym S.1) S.0
stated_does d (enter_within s k i b x n) f S = subst (Does d (desk.enter s (entry_of k i b x n)) f.answer f.record_after) (sym S.1) S.0
stated_does d (send s b) f S = S
stated_does d (receive s r b) f S = S
stated_does d (leave s) f S = subst (Does d (desk.leave s) f.answer f.record_after) (sym S.1) S.0

pub answers_are : {d : Desk} {k : Called} {r : Answer} {after : Desk} {lent : List ℕ} → Good d → Does d k r after lent
    → desk_stand.answers d k ≡ (r, lent)
answers_are {d} {k} g D = table_at_records d g k ∙ (λ i. (sym D.told i, sym D.left i))

-- ---- one after another

runs_on : (d : Desk) → Good d → (xs : List Step) → Session d xs → trace desk_stand d (calls (seen_of xs)) ≡ seen_of xs
unfolding Session trace calls
runs_on d g [] S = refl
runs_on d g (x ∷ xs) S =
    let D = stated_does d x.0 x.1 S.0 in
    let told = answers_are g D in
    let rest : trace desk_stand (desk_stand.next d (call_of x.0)) (calls (seen_of xs)) ≡ seen_of xs =
    ap (λ (e : Desk). trace desk_stand e (calls (seen_of xs))) (sym D.next) ∙ runs_on x.1.record_after D.good xs S.1 in
    λ i. record { call = call_of x.0; told = told i } ∷ rest i

served : (seen : List Deed) → trace desk_stand (desk_stand.fresh first) (calls seen) ≡ seen → Served seen
served seen run = record {
  run = run;
  alone = subst (λ (ys : List Deed). one_by_one desk_stand first (map calls (listed is_answered ys)) ≡ listed is_answered ys) run (demand3 (calls seen));
  truly = subst (λ (ys : List Deed). Each Follows (listed is_answered ys)) run (served_truly desk_stand demand3 singles_follow (calls seen));
  none_lost = λ s. subst
      (λ (ys : List Deed). let xs = keep (λ x. is_answered x.told) ys in served_at s xs ≡ made_at s xs) run
      (no_call_lost first (calls seen) s at_first);
}

pub host_demand3 : HostDemand3
host_demand3 d O xs S =
    served (seen_of xs)
    (ap (λ (e : Desk). trace desk_stand e (calls (seen_of xs))) (sym O.empty) ∙ runs_on d O.good xs S)

-- ---- and there are such sessions

module _ (d : Desk) (g : Good d) where
  abbrev given : Called → List ℕ → Found
  given k lent = record { answer = (desk_stand.answers d k).0; record_after = desk_stand.next d k; lent = lent }

  gives : (k : Called) (lent : List ℕ) → lent ≡ buffer_by (view_of d) k (first_of (conditions (view_of d) k)) → Does d k (given k lent).answer (given k lent).record_after lent
  gives k lent left = record { told = ap (λ (t : Told). t.0) (table_at_records d g k); left = left; next = refl; good = good_step d k g }

  lends : (k : Called) → Does d k (desk_stand.answers d k).0 (desk_stand.next d k) (desk_stand.answers d k).1
  lends k = gives k (desk_stand.answers d k).1 (ap (λ (t : Told). t.1) (table_at_records d g k))

  found : (h : Hosted) → (f : Found) × Stated d h f
  unfolding Stated call_of
  found (enter s k i b x) = let e = desk.enter s (entry_of k i b x default_budget) in (given e [], (gives e [] (entering_lends_none (view_of d) s _ _), refl))
  found (enter_within s k i b x n) = let e = desk.enter s (entry_of k i b x n) in (given e [], (gives e [] (entering_lends_none (view_of d) s _ _), refl))
  found (send s b) = (given (desk.send s b) _, lends (desk.send s b))
  found (receive s r b) = (given (desk.receive s (r, b)) _, lends (desk.receive s (r, b)))
  found (leave s) = (given (desk.leave s) [], (gives (desk.leave s) [] (leaving_lends_none (view_of d) s _), refl))

pub sessions_exist : SessionsExist
unfolding Session
sessions_exist d g [] = ([], refl, tt)
sessions_exist d g (h ∷ hs) =
    let f = found d g h in
    let rest = sessions_exist f.0.record_after (stated_does d h f.0 f.1).good hs in
    ((h, f.0) ∷ rest.0, ap (λ (l : List Hosted). h ∷ l) rest.1, (f.1, rest.2))
