-- Over all calls of a transfer: no more replies than its budget, P, and where 27 comes. Assumes nothing.
use mathlib.Core.Path.{◌≡◌, refl, sym, ap, ◌∙◌, subst}
use mathlib.Core.Bool.{Bool, true, false, false≢true, true≢false}
use mathlib.Core.List.{List, [], ◌∷◌, ◌++◌}
use mathlib.Core.Option.{Option, none, some}
use Prim.Native.Nat.{suc, ◌+◌, ◌≤◌, ◌<◌}
use native.Mathlib.Omega.{arith}
use borrow.Author.Tests.{eqb-true}
use lib.Dec.{eqb}
use lib.ListN.{length}
use Rattle.judge.specs.Answers.{done_with, answer_of}
use Rattle.judge.specs.Storage.{taken}
use Rattle.judge.specs.declared.Verdict.{Verdict}
use Rattle.judge.specs.declared.Verdict.TheVariants as verdict
use Rattle.line.specs.Desk.{enter, send, receive, leave}
use Rattle.transfer.specs.Due.{request_due, awaiting_of}
use Rattle.transfer.specs.Judgement.{judge_reply, budgeted, next_of}
use Rattle.transfer.specs.Coe.{Told, Lends, judged}
use Rattle.transfer.specs.declared.Order.{Order}
use Rattle.transfer.specs.declared.Transfer.{Transfer}
use Rattle.transfer.proofs.Numbers.{of_reply, reply_number}
use Rattle.transfer.proofs.Lives.{life_true, length_is_sum}
use Rattle.promises.specs.Standing.{Called, Deed, Due, first_request, first_reply, segment_request, segment_reply, later_fragment, nothing, Standing, is_over, is_request, is_reply, reply_at, verdict_of, moved, GivesAt, Goes}
use Rattle.promises.specs.Standing as standing
use Rattle.promises.specs.Whole.{heard_by, reply_count, SumsOn, Sums}
use Rattle.promises.proofs.Agree.{Stands, asked_stands, heard_stands, heard_over, verdict_is, request_at_lem}

-- ---- what is due, and what is not

not_request : (d : Due) → is_reply d ≡ true → is_request d ≡ false
unfolding is_request is_reply
not_request first_request h = absurd (false≢true h)
not_request first_reply h = refl
not_request segment_request h = absurd (false≢true h)
not_request segment_reply h = refl
not_request later_fragment h = refl
not_request nothing h = absurd (false≢true h)

-- a transfer that is over makes no call
pub none_over : {X : Type 0} (o : Order) (w : Standing) (k : Called) (t : Told) → w.due ≡ nothing → GivesAt o w k t → X
unfolding GivesAt is_request is_reply is_over
none_over o w (enter s e) t z G = absurd G
none_over o w (send s b) t z G = absurd (false≢true (rw z at G.0))
none_over o w (receive s l) t z G = absurd (false≢true (rw z at G.0))
none_over o w (leave s) t z G = absurd (true≢false (rw z at G.0))

module _ {o : Order} {w : Standing} {t : Transfer} (S : Stands o w t) where
  pub reply_due : is_reply w.due ≡ true → request_due t ≡ false
  reply_due h = request_at_lem t w.due S.stage S.live ∙ not_request w.due h

  unspent : w.replies < o.budget
  unspent = let T = life_true S.life in omega (arith, T.left, T.more)

-- ---- P, and the budget

-- "00: done, payload length P", and nothing beside
done_alone : (v : Verdict) → (answer_of v).number ≡ 0x00 → answer_of v ≡ done_with (answer_of v).length
unfolding answer_of
done_alone (verdict.Refused n) h = λ i. record { number = h i; sub = 0; index = 0; code = 0; length = 0; «data» = 0 }
done_alone (verdict.Emergency m) h = absurd (omega arith)
done_alone (verdict.Aborted b i c) h = absurd (omega arith)
done_alone (verdict.Done f p) h = refl
done_alone verdict.SegmentsFollow h = absurd (omega arith)
done_alone (verdict.Segment f k sum true) h = refl
done_alone (verdict.Segment f k sum false) h = absurd (omega arith)
done_alone (verdict.Fragment f k sum true) h = refl
done_alone (verdict.Fragment f k sum false) h = absurd (omega arith)
done_alone verdict.ReplyDue h = absurd (omega arith)

-- 27 is the budget's number, and no reply's
spent_27 : (spent : Bool) (v : Verdict) → of_reply (answer_of v).number ≡ true → (answer_of (budgeted spent v)).number ≡ 0x27 → spent ≡ true
unfolding budgeted
spent_27 true v r h = refl
spent_27 false v r h = absurd (false≢true (sym (ap of_reply h) ∙ r))

module _ {o : Order} {w : Standing} {t : Transfer} (S : Stands o w t) (l : Lends) (h : is_reply w.due ≡ true) where
  done_is : (answer_of (verdict_of o w l)).number ≡ 0x00 → answer_of (verdict_of o w l) ≡ done_with (length (standing.heard o w l).payload)
  done_is e =
      let v = verdict_is S l h in
      let n = subst (λ (x : Verdict). (answer_of x).number ≡ 0x00) (sym v) e in
      let P = subst (λ (x : Verdict). (answer_of x).length ≡ length (w.payload ++ taken x l.0)) v
      (length_is_sum o t w.replies w.segments w.payload S.life l.1 l.0 n) in
      done_alone (verdict_of o w l) e ∙ ap done_with P

  spent_is : (answer_of (verdict_of o w l)).number ≡ 0x27 → suc w.replies ≡ o.budget
  unfolding verdict_of
  spent_is e =
      let v = judge_reply (reply_at o w.due) (length w.payload) (length l.1) l.0 in
      eqb-true (suc w.replies) o.budget
      (spent_27 (eqb (suc w.replies) o.budget) v (reply_number (reply_at o w.due) (length w.payload) (length l.1) l.0) e)

pub data Counted (o : Order) (w : Standing) : Type 0 where
  live : (t : Transfer) → Stands o w t → Counted o w
  over : w.due ≡ nothing → w.replies ≤ o.budget → Counted o w

asked_replies : (w : Standing) (d : Due) → (standing.asked w d).replies ≡ w.replies
unfolding standing.asked
asked_replies w first_request = refl
asked_replies w first_reply = refl
asked_replies w segment_request = refl
asked_replies w segment_reply = refl
asked_replies w later_fragment = refl
asked_replies w nothing = refl

sums_call : (o : Order) (w : Standing) (t : Transfer) (k : Called) (x : Told) → Stands o w t → GivesAt o w k x → SumsOn o (moved o w k) k x
unfolding GivesAt moved SumsOn
sums_call o w t (enter s e) x S G = absurd G
sums_call o w t (send s b) x S G = tt
sums_call o w t (receive s l) x S G =
    let number = ap (λ (z : Told). z.0.number) (sym G.1) in (
      λ e. ap (λ (z : Told). z.0) G.1 ∙ done_is S l G.0 (number ∙ e),
      λ e. spent_is S l G.0 (number ∙ e),
    )
sums_call o w t (leave s) x S G = tt

counted_call : (o : Order) (w : Standing) (t : Transfer) (k : Called) (x : Told) → Stands o w t → GivesAt o w k x
    → ((moved o w k).replies ≡ heard_by k + w.replies) × Counted o (moved o w k)
unfolding GivesAt moved heard_by
counted_call o w t (enter s e) x S G = absurd G
counted_call o w t (send s b) x S G = (let z = asked_replies w w.due in omega arith, live (awaiting_of t) (asked_stands S G.0))
counted_call o w t (receive s l) x S G = (omega arith, next (next_of t (judged t (length l.1) l.0)) refl)
  where
    next : (u : Option Transfer) → next_of t (judged t (length l.1) l.0) ≡ u → Counted o (standing.heard o w l)
    next none n = over (heard_over S l (reply_due S G.0) n) (unspent S)
    next (some u) n = live u (heard_stands S l (reply_due S G.0) u n)
counted_call o w t (leave s) x S G = (omega arith, over refl (let z = unspent S in omega arith))

pub counts : (o : Order) (xs : List Deed) (w : Standing) → Counted o w → Goes o w xs → w.replies + reply_count xs ≤ o.budget
unfolding Goes reply_count
counts o [] w (live t S) G = let z = unspent S in omega arith
counts o [] w (over e b) G = omega arith
counts o (x ∷ xs) w (live t S) G =
    let C = counted_call o w t x.call x.told S G.0 in
    omega (arith, counts o xs (moved o w x.call) C.1 G.1, C.0)
counts o (x ∷ xs) w (over e b) G = none_over o w x.call x.told e G.0

pub sums : (o : Order) (xs : List Deed) (w : Standing) → Counted o w → Goes o w xs → Sums o w xs
unfolding Goes Sums
sums o [] w C G = tt
sums o (x ∷ xs) w (live t S) G = (
  sums_call o w t x.call x.told S G.0,
  sums o xs (moved o w x.call) (counted_call o w t x.call x.told S G.0).1 G.1,
)
sums o (x ∷ xs) w (over e b) G = none_over o w x.call x.told e G.0
