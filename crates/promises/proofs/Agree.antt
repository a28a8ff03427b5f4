-- A transfer of the machine stands where its own calls say: what is due, which request, and how a reply is judged. Assumes nothing.
use mathlib.Core.Path.{◌≡◌, refl, sym, ap, ◌∙◌, subst}
use mathlib.Core.Bool.{true, false, false≢true, true≢false}
use mathlib.Core.List.{◌++◌}
use mathlib.Core.Option.{none, some, none-ne-some, some_inj}
use Prim.Native.Nat.{ℕ, suc, ◌%◌}
use lib.Dec.{eqb}
use lib.ListN.{length}
use Rattle.services.specs.declared.Request.TheVariants as request
use Rattle.judge.specs.Storage.{taken}
use Rattle.judge.specs.declared.Verdict.{Verdict}
use Rattle.judge.specs.declared.Verdict.TheVariants as verdict
use Rattle.transfer.specs.Due.{due_of, request_due, awaiting_of}
use Rattle.transfer.specs.Judgement.{judge_reply, budgeted, next_of}
use Rattle.transfer.specs.Coe.{Lends, request_in, reply_in, judged}
use Rattle.transfer.specs.Life.{Life, asked, fetched, replied}
use Rattle.transfer.specs.declared.Order.{Order}
use Rattle.transfer.specs.declared.Transfer.{Transfer}
use Rattle.transfer.specs.declared.due.Reply.{Reply}
use Rattle.transfer.proofs.Lives.{life_true, budget_kept}
use Rattle.promises.specs.Standing.{Due, first_request, first_reply, segment_request, segment_reply, later_fragment, nothing, Standing, is_request, is_reply, is_over, request_at, reply_at, verdict_of, due_after}
use Rattle.promises.specs.Standing as standing

-- the stage in which a transfer keeps what is due; 5 is none of its stages
abbrev pub stage_of : Due → ℕ
stage_of first_request = 0
stage_of first_reply = 1
stage_of segment_request = 2
stage_of segment_reply = 3
stage_of later_fragment = 4
stage_of nothing = 5

abbrev staged : Transfer → ℕ → Transfer
staged t n = record { order = t.order; stage = n; toggle = t.toggle; left = t.left; sum = t.sum }

restaged : (t : Transfer) (n : ℕ) → t.stage ≡ n → t ≡ staged t n
restaged t n e = λ i. staged t (e i)

-- the transfer t of order o, which stands at w
pub record Stands (o : Order) (w : Standing) (t : Transfer) : Type 0 where
  pub life : Life o t w.replies w.segments w.payload
  pub stage : t.stage ≡ stage_of w.due
  pub live : is_over w.due ≡ false

pub request_at_lem : (t : Transfer) (d : Due) → t.stage ≡ stage_of d → is_over d ≡ false → request_due t ≡ is_request d
unfolding request_due due_of is_request is_over
request_at_lem t first_request e h = ap request_due (restaged t 0 e)
request_at_lem t first_reply e h = ap request_due (restaged t 1 e)
request_at_lem t segment_request e h = ap request_due (restaged t 2 e)
request_at_lem t segment_reply e h = ap request_due (restaged t 3 e)
request_at_lem t later_fragment e h = ap request_due (restaged t 4 e)
request_at_lem t nothing e h = absurd (true≢false h)

reply_or_request : (d : Due) → is_over d ≡ false → is_request d ≡ false → is_reply d ≡ true
unfolding is_request is_reply is_over
reply_or_request first_request h e = absurd (true≢false e)
reply_or_request first_reply h e = refl
reply_or_request segment_request h e = absurd (true≢false e)
reply_or_request segment_reply h e = refl
reply_or_request later_fragment h e = refl
reply_or_request nothing h e = absurd (true≢false h)

module _ {o : Order} {w : Standing} {t : Transfer} (S : Stands o w t) where
  pub asks : request_due t ≡ true → is_request w.due ≡ true
  asks h = sym (request_at_lem t w.due S.stage S.live) ∙ h

  pub hears : request_due t ≡ false → is_reply w.due ≡ true
  hears h = reply_or_request w.due S.live (sym (request_at_lem t w.due S.stage S.live) ∙ h)

request_in_lem : (t : Transfer) (n : ℕ) (d : Due) → t.toggle ≡ n % 2 → t.stage ≡ stage_of d → is_request d ≡ true
    → request_in (due_of t) ≡ request_at t.order n d
unfolding due_of is_request request_at
request_in_lem t n first_request g e h = ap (λ (x : Transfer). request_in (due_of x)) (restaged t 0 e)
request_in_lem t n first_reply g e h = absurd (false≢true h)
request_in_lem t n segment_request g e h =
    ap (λ (x : Transfer). request_in (due_of x)) (restaged t 2 e) ∙ ap (λ (x : ℕ). request.Segment (eqb x 1)) g
request_in_lem t n segment_reply g e h = absurd (false≢true h)
request_in_lem t n later_fragment g e h = absurd (false≢true h)
request_in_lem t n nothing g e h = absurd (false≢true h)

reply_in_lem : (t : Transfer) (d : Due) → t.stage ≡ stage_of d → is_reply d ≡ true → reply_in (due_of t) ≡ reply_at t.order d
unfolding due_of is_reply reply_at
reply_in_lem t first_request e h = absurd (false≢true h)
reply_in_lem t first_reply e h = ap (λ (x : Transfer). reply_in (due_of x)) (restaged t 1 e)
reply_in_lem t segment_request e h = absurd (false≢true h)
reply_in_lem t segment_reply e h = ap (λ (x : Transfer). reply_in (due_of x)) (restaged t 3 e)
reply_in_lem t later_fragment e h = ap (λ (x : Transfer). reply_in (due_of x)) (restaged t 4 e)
reply_in_lem t nothing e h = absurd (false≢true h)

module _ {o : Order} {w : Standing} {t : Transfer} (S : Stands o w t) where
  pub request_is : is_request w.due ≡ true → request_in (due_of t) ≡ standing.request_of o w
  request_is h =
      request_in_lem t w.segments w.due (life_true S.life).toggle S.stage h
      ∙ ap (λ (x : Order). request_at x w.segments w.due) (life_true S.life).order

  pub verdict_is : (l : Lends) → is_reply w.due ≡ true → judged t (length l.1) l.0 ≡ verdict_of o w l
  unfolding verdict_of
  verdict_is l h =
      let p = reply_in_lem t w.due S.stage h ∙ ap (λ (x : Order). reply_at x w.due) (life_true S.life).order in
      budget_kept o t w.replies w.segments w.payload S.life (length l.1) l.0
      ∙ ap (λ (r : Reply). budgeted (eqb (suc w.replies) o.budget) (judge_reply r (length w.payload) (length l.1) l.0)) p

-- ---- where it stands after a request

awaiting_at : (t : Transfer) (n : ℕ) → t.stage ≡ n → (awaiting_of t).stage ≡ (awaiting_of (staged t n)).stage
awaiting_at t n e = ap (λ (x : Transfer). (awaiting_of x).stage) (restaged t n e)

stands_asked : (o : Order) (w : Standing) (t : Transfer) (d : Due) → Life o t w.replies w.segments w.payload → t.stage ≡ stage_of d
    → is_request d ≡ true → Stands o (standing.asked w d) (awaiting_of t)
unfolding awaiting_of is_request is_over standing.asked
stands_asked o w t first_request L e h = record { life = asked e L; stage = awaiting_at t 0 e; live = refl }
stands_asked o w t first_reply L e h = absurd (false≢true h)
stands_asked o w t segment_request L e h = record { life = fetched e L; stage = awaiting_at t 2 e; live = refl }
stands_asked o w t segment_reply L e h = absurd (false≢true h)
stands_asked o w t later_fragment L e h = absurd (false≢true h)
stands_asked o w t nothing L e h = absurd (false≢true h)

pub asked_stands : {o : Order} {w : Standing} {t : Transfer} (S : Stands o w t) → is_request w.due ≡ true
    → Stands o (standing.asked w w.due) (awaiting_of t)
asked_stands {o} {w} {t} S h = stands_asked o w t w.due S.life S.stage h

-- ---- and after a reply

data After (t : Transfer) (v : Verdict) (d : Due) : Type 0 where
  over : next_of t v ≡ none → due_after d v ≡ nothing → After t v d
  on : (u : Transfer) → next_of t v ≡ some u → u.stage ≡ stage_of (due_after d v) → is_over (due_after d v) ≡ false → After t v d

after_verdict : (t : Transfer) (v : Verdict) (d : Due) → t.stage ≡ stage_of d → is_over d ≡ false → After t v d
unfolding next_of due_after is_over
after_verdict t (verdict.Refused n) d e h = over refl refl
after_verdict t (verdict.Emergency m) d e h = over refl refl
after_verdict t (verdict.Aborted b i c) d e h = over refl refl
after_verdict t (verdict.Done f p) d e h = over refl refl
after_verdict t verdict.SegmentsFollow d e h = on _ refl refl refl
after_verdict t (verdict.Segment f k sum true) d e h = over refl refl
after_verdict t (verdict.Segment f k sum false) d e h = on _ refl refl refl
after_verdict t (verdict.Fragment f k sum true) d e h = over refl refl
after_verdict t (verdict.Fragment f k sum false) d e h = on _ refl refl refl
after_verdict t verdict.ReplyDue d e h = on _ refl e h

module _ {o : Order} {w : Standing} {t : Transfer} (S : Stands o w t) (l : Lends) (e : request_due t ≡ false) where
  abbrev verdict_here : Verdict
  verdict_here = judged t (length l.1) l.0

  told : verdict_here ≡ verdict_of o w l
  told = verdict_is S l (hears S e)

  pub heard_stands : (u : Transfer) → next_of t verdict_here ≡ some u → Stands o (standing.heard o w l) u
  heard_stands u n = go (after_verdict t verdict_here w.due S.stage S.live)
    where
      go : After t verdict_here w.due → Stands o (standing.heard o w l) u
      go (over m z) = absurd (none-ne-some u (sym m ∙ n))
      go (on u₁ m s h) = record {
        life = subst (λ (x : Verdict). Life o u (suc w.replies) w.segments (w.payload ++ taken x l.0)) told (replied l.1 l.0 e S.life n);
        stage = ap (λ (x : Transfer). x.stage) (some_inj.0 (sym n ∙ m)) ∙ s ∙ ap (λ (x : Verdict). stage_of (due_after w.due x)) told;
        live = ap (λ (x : Verdict). is_over (due_after w.due x)) (sym told) ∙ h;
      }

  pub heard_over : next_of t verdict_here ≡ none → (standing.heard o w l).due ≡ nothing
  heard_over n = go (after_verdict t verdict_here w.due S.stage S.live)
    where
      go : After t verdict_here w.due → due_after w.due (verdict_of o w l) ≡ nothing
      go (over m z) = ap (due_after w.due) (sym told) ∙ z
      go (on u m s h) = absurd (none-ne-some u (sym n ∙ m))
