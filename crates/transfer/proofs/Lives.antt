-- What a transfer keeps is true of its life: the sum, the count against the budget, the toggle. Assumes nothing.
use mathlib.Core.Path.{◌≡◌, refl, sym, ap, ap₂, ◌∙◌, subst}
use mathlib.Core.Bool.{Bool, true, false, true≢false}
use mathlib.Core.List.{List}
use mathlib.Core.Option.{some}
use Prim.Native.Nat.{ℕ, suc, ◌+◌, ◌-◌, ◌%◌, ◌≤◌, ◌<◌}
use native.Mathlib.Omega.{arith}
use borrow.Author.Tests.{leb-true, leb-false, eq-eqb, ne_eqb, eqb-false, eqb-true}
use lib.Dec.{eqb, leb}
use lib.ListN.{length, length-append}
use Rattle.wire.proofs.Cases.{by}
use Rattle.services.specs.declared.Request.TheVariants as request
use Rattle.judge.specs.Storage.{taken}
use Rattle.judge.specs.Replies.{sum_after}
use Rattle.judge.specs.declared.Verdict.{Verdict}
use Rattle.judge.specs.declared.Verdict.TheVariants.{Refused, Emergency, Aborted, Done, SegmentsFollow, Segment, Fragment, ReplyDue}
use Rattle.judge.proofs.Payload.{segment_sound, list_sound}
use Rattle.transfer.specs.Stage.{first_request_due, first_reply_due, segment_request_due, segment_reply_due, later_fragment_due}
use Rattle.transfer.specs.Entry.{unfit_of}
use Rattle.transfer.specs.Due.{due_of, flipped_of, awaiting_of}
use Rattle.transfer.specs.Judgement.{judge_reply, goes_on, budgeted, judged_as, advanced_to, next_of}
use Rattle.transfer.specs.Coe.{reply_in, judged}
use Rattle.transfer.specs.Life.{Life, begun, asked, fetched, replied, TogglesAlternate, BudgetKept, LengthIsSum}
use Rattle.transfer.specs.declared.Order.{Order}
use Rattle.transfer.specs.declared.Transfer.{Transfer}
use Rattle.transfer.specs.declared.due.Due.TheVariants as due
use Rattle.transfer.proofs.Chunks.{Ends, reply_adds, first_ends, by_reply, not_spent, done_unsettled}

-- ---- one step

-- what a reply after which the transfer goes on does to it
pub record Went (t u : Transfer) (v : Verdict) (s : List ℕ) : Type 0 where
  pub order : u.order ≡ t.order
  pub left : u.left ≡ t.left - 1
  pub sum : u.sum ≡ sum_after t.sum v
  pub toggle : u.toggle ≡ t.toggle
  pub on : goes_on v ≡ true
  pub early : u.stage ≤ 1 → (t.stage ≤ 1) × (length (taken v s) ≡ 0)

advances : (t u : Transfer) (v : Verdict) (s : List ℕ) (stage sum : ℕ) → advanced_to t stage sum ≡ u → sum ≡ sum_after t.sum v → goes_on v ≡ true
    → (stage ≤ 1 → (t.stage ≤ 1) × (length (taken v s) ≡ 0)) → Went t u v s
advances t u v s stage sum h a o e = record {
  order = ap (λ (x : Transfer). x.order) (sym h);
  left = ap (λ (x : Transfer). x.left) (sym h);
  sum = ap (λ (x : Transfer). x.sum) (sym h) ∙ a;
  toggle = ap (λ (x : Transfer). x.toggle) (sym h);
  on = o;
  early = λ k. let z : u.stage ≡ stage = ap (λ (x : Transfer). x.stage) (sym h) in e (omega arith);
}

pub went : (t u : Transfer) (v : Verdict) (s : List ℕ) → next_of t v ≡ some u → Went t u v s
unfolding next_of
went t u (Refused k) s e = cc
went t u (Emergency m) s e = cc
went t u (Aborted b i c) s e = cc
went t u (Done f p) s e = cc
went t u SegmentsFollow s e =
    let h : advanced_to t segment_request_due t.sum ≡ u = cc in
    advances t u SegmentsFollow s segment_request_due t.sum h refl refl (λ k. absurd (omega arith))
went t u (Segment f k sum true) s e = cc
went t u (Segment f k sum false) s e =
    let h : advanced_to t segment_request_due sum ≡ u = cc in
    advances t u (Segment f k sum false) s segment_request_due sum h refl refl (λ k. absurd (omega arith))
went t u (Fragment f k sum true) s e = cc
went t u (Fragment f k sum false) s e =
    let h : advanced_to t later_fragment_due sum ≡ u = cc in
    advances t u (Fragment f k sum false) s later_fragment_due sum h refl refl (λ k. absurd (omega arith))
went t u ReplyDue s e =
    let h : advanced_to t t.stage t.sum ≡ u = cc in
    advances t u ReplyDue s t.stage t.sum h refl refl (λ k. (k, refl))

-- a first request sent, and one for a segment
asking : (t : Transfer) → t.stage ≡ first_request_due
    → awaiting_of t ≡ record { order = t.order; stage = first_reply_due; toggle = t.toggle; left = t.left; sum = t.sum }
unfolding awaiting_of
asking t h = rw (ne_eqb t.stage segment_request_due (λ e. omega arith))

fetching : (t : Transfer) → t.stage ≡ segment_request_due
    → awaiting_of t ≡ record { order = t.order; stage = segment_reply_due; toggle = flipped_of t.toggle; left = t.left; sum = t.sum }
unfolding awaiting_of
fetching t h = rw (eq-eqb t.stage segment_request_due h)

flips : (toggle n : ℕ) → toggle ≡ n % 2 → flipped_of toggle ≡ suc n % 2
flips toggle n h =
    by (eqb toggle 1)
    (λ y. let e = eqb-true toggle 1 y in rw y (omega arith))
    (λ m. let e : toggle ≡ 1 → ⊥ = eqb-false toggle 1 m in rw m (omega (arith, e)))

has_budget : (o : Order) → unfit_of o ≡ false → 0 < o.budget
unfolding unfit_of
has_budget o h =
    by (eqb o.budget 0)
    (λ y. absurd (true≢false (rw y at h)))
    (λ m. let e : o.budget ≡ 0 → ⊥ = eqb-false o.budget 0 m in omega (arith, e))

-- ---- every step

pub record True (o : Order) (t : Transfer) (replies segments : ℕ) (payload : List ℕ) : Type 0 where
  pub order : t.order ≡ o
  pub sum : t.sum ≡ length payload
  pub left : t.left + replies ≡ o.budget
  pub more : 0 < t.left
  pub early : t.stage ≤ 1 → length payload ≡ 0
  pub toggle : t.toggle ≡ segments % 2

sends : (o : Order) (t u : Transfer) (replies k m : ℕ) (payload : List ℕ) → True o t replies k payload → u.order ≡ t.order → u.left ≡ t.left → u.sum ≡ t.sum
    → (u.stage ≤ 1 → t.stage ≤ 1) → u.toggle ≡ m % 2 → True o u replies m payload
sends o t u replies k m payload T i l s e g = record {
  order = i ∙ T.order;
  sum = s ∙ T.sum;
  left = omega (arith, l, T.left);
  more = omega (arith, l, T.more);
  early = λ h. T.early (e h);
  toggle = g;
}

pub life_true : {o : Order} {t : Transfer} {replies segments : ℕ} {payload : List ℕ} → Life o t replies segments payload
    → True o t replies segments payload
unfolding judged judged_as
life_true {o} (begun f) = record { order = refl; sum = refl; left = omega arith; more = has_budget o f; early = λ h. refl; toggle = refl }
life_true {o} (asked {t = t} {replies = r} {segments = k} {payload = p} h L) =
    let T = life_true L in
    rw (asking t h) (sends o t _ r k k p T refl refl refl (λ e. omega arith) T.toggle)
life_true {o} (fetched {t = t} {replies = r} {segments = k} {payload = p} h L) =
    let T = life_true L in
    rw (fetching t h) (sends o t _ r k (suc k) p T refl refl refl (λ e. absurd (omega arith)) (flips t.toggle k T.toggle))
life_true {o} (replied {t = t} {u = u} {replies = r} {segments = k} {payload = p} d s n L e) =
    let T = life_true L in
    let v = judge_reply (reply_in (due_of t)) t.sum (length d) s in
    let W = went t u (judged t (length d) s) s e in
    let N = not_spent (leb t.left 1) v W.on in
    let l = leb-false t.left 1 N.0 in
    let A = reply_adds t.sum (length d) s (reply_in (due_of t)) (rw N.1 at W.on) in
    let a : u.sum ≡ t.sum + length (taken (judged t (length d) s) s) = rw N.1 (W.sum ∙ rw N.1 A.sum) in
    let c = length-append p (taken (judged t (length d) s) s) in
    record {
      order = W.order ∙ T.order;
      sum = omega (arith, a, c, T.sum);
      left = omega (arith, W.left, T.left, l);
      more = omega (arith, W.left, l);
      early = λ h. let z = W.early h in omega (arith, c, T.early z.0, z.1);
      toggle = W.toggle ∙ T.toggle;
    }

-- ---- what follows

pub toggles_alternate : TogglesAlternate
unfolding due_of
toggles_alternate o t r k p L h =
    rw (ne_eqb t.stage 0 (λ e. omega arith), ne_eqb t.stage 1 (λ e. omega arith), eq-eqb t.stage 2 h)
    (ap (λ (x : ℕ). due.Request (request.Segment (eqb x 1))) (life_true L).toggle)

last_reply : (o : Order) (t : Transfer) (r k : ℕ) (p : List ℕ) → True o t r k p → leb t.left 1 ≡ eqb (suc r) o.budget
last_reply o t r k p T =
    by (leb t.left 1)
    (λ e. e ∙ sym (eq-eqb (suc r) o.budget (omega (arith, leb-true t.left 1 e, T.left, T.more))))
    (λ e. e ∙ sym (ne_eqb (suc r) o.budget (λ h. omega (arith, leb-false t.left 1 e, T.left, h))))

pub budget_kept : BudgetKept
unfolding judged judged_as
budget_kept o t r k p L n s =
    let T = life_true L in
    ap₂ (λ (b : Bool) (x : ℕ). budgeted b (judge_reply (reply_in (due_of t)) x n s)) (last_reply o t r k p T) T.sum

reply_ends : (t : Transfer) (d s : List ℕ) → (t.stage ≤ 1 → t.sum ≡ 0)
    → Ends t.sum s (judge_reply (reply_in (due_of t)) t.sum (length d) s)
unfolding judge_reply
reply_ends t d s z =
    by_reply t
    (λ e. rw e (segment_sound t.sum (length d) s).ends)
    (λ e. rw e (list_sound t.sum (length d) s true).ends)
    (λ h. subst (λ (x : ℕ). Ends x s (judge_reply (reply_in (due_of t)) x (length d) s)) (sym (z h)) (first_ends (reply_in (due_of t)) d s))

pub length_is_sum : LengthIsSum
unfolding judged judged_as
length_is_sum o t r k p L d s e =
    let T = life_true L in
    let v = judge_reply (reply_in (due_of t)) t.sum (length d) s in
    let q : budgeted (leb t.left 1) v ≡ v = done_unsettled (leb t.left 1) v e in
    let w = reply_ends t d s (λ h. T.sum ∙ T.early h) (rw q at e) in
    rw q (omega (arith, w, T.sum, length-append p (taken v s)))
