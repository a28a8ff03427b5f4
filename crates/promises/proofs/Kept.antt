-- Over all calls of a transfer: the payload in the one buffer that was lent. Assumes nothing.
use mathlib.Core.Path.{◌≡◌, refl, sym, ap, ◌∙◌, subst}
use mathlib.Core.Bool.{true, false≢true}
use mathlib.Core.List.{List, [], ◌∷◌, ◌++◌}
use mathlib.Core.Option.{Option, none, some}
use Prim.Native.Nat.{ℕ, suc}
use lib.ListN.{length}
use Rattle.judge.specs.Answers.{answer_of}
use Rattle.judge.specs.Storage.{taken, stored}
use Rattle.judge.specs.Replies.{holding}
use Rattle.judge.specs.declared.Verdict.{Verdict}
use Rattle.line.specs.Desk.{enter, send, receive, leave}
use Rattle.transfer.specs.Due.{awaiting_of}
use Rattle.transfer.specs.Judgement.{next_of}
use Rattle.transfer.specs.Coe.{Told, judged}
use Rattle.transfer.specs.Life.{Filled, asks, fetches, hears}
use Rattle.transfer.specs.declared.Order.{Order}
use Rattle.transfer.specs.declared.Transfer.{Transfer}
use Rattle.transfer.proofs.Lives.{life_true}
use Rattle.transfer.proofs.Payload.{payload_lies}
use Rattle.promises.specs.Standing.{Called, Deed, Due, first_request, first_reply, segment_request, segment_reply, later_fragment, nothing, Standing, is_request, is_reply, verdict_of, moved, GivesAt, Goes}
use Rattle.promises.specs.Standing as standing
use Rattle.promises.specs.Whole.{Lent, left_by, OneBuffer, KeptOn, Kept}
use Rattle.promises.proofs.Agree.{stage_of, Stands, asked_stands, heard_stands, heard_over, verdict_is}
use Rattle.promises.proofs.Sums.{none_over, reply_due}

module _ (o : Order) (d₀ : List ℕ) where
  -- the transfer, and the buffer with its chunks so far
  pub data Holds (w : Standing) (d : List ℕ) : Type 0 where
    live : (t : Transfer) → Stands o w t → Filled o d₀ t w.replies w.segments w.payload d → Holds w d
    over : w.due ≡ nothing → Holds w d

  filled_asked : (w : Standing) (t : Transfer) (d : List ℕ) (x : Due) → t.stage ≡ stage_of x → is_request x ≡ true
      → Filled o d₀ t w.replies w.segments w.payload d
      → let v = standing.asked w x in Filled o d₀ (awaiting_of t) v.replies v.segments v.payload d
  unfolding is_request standing.asked
  filled_asked w t d first_request e h F = asks e F
  filled_asked w t d first_reply e h F = absurd (false≢true h)
  filled_asked w t d segment_request e h F = fetches e F
  filled_asked w t d segment_reply e h F = absurd (false≢true h)
  filled_asked w t d later_fragment e h F = absurd (false≢true h)
  filled_asked w t d nothing e h F = absurd (false≢true h)

  -- a reply, with the one buffer lent
  module _ (w : Standing) (t : Transfer) (s d : List ℕ) (S : Stands o w t) (F : Filled o d₀ t w.replies w.segments w.payload d)
      (h : is_reply w.due ≡ true) where
    abbrev v : Verdict
    v = verdict_of o w (s, d)

    is : judged t (length d) s ≡ v
    is = verdict_is S (s, d) h

    at_sum : t.sum ≡ length w.payload
    at_sum = (life_true S.life).sum

    lies : (answer_of v).number ≡ 0x00 → stored v s (length w.payload) d ≡ holding (w.payload ++ taken v s) d₀
    lies e =
        let n = subst (λ (x : Verdict). (answer_of x).number ≡ 0x00) (sym is) e in
        ap (λ (x : ℕ). stored v s x d) (sym at_sum)
        ∙ subst (λ (x : Verdict). stored x s t.sum d ≡ holding (w.payload ++ taken x s) d₀) is
        (payload_lies o t w.replies w.segments w.payload d₀ d F s n)

    holds_heard : Holds (standing.heard o w (s, d)) (stored v s (length w.payload) d)
    holds_heard = next (next_of t (judged t (length d) s)) refl
      where
        next : (u : Option Transfer) → next_of t (judged t (length d) s) ≡ u → Holds (standing.heard o w (s, d)) (stored v s (length w.payload) d)
        next none n = over (heard_over S (s, d) (reply_due S h) n)
        next (some u) n =
            live u (heard_stands S (s, d) (reply_due S h) u n)
            (subst (λ (x : ℕ). Filled o d₀ u (suc w.replies) w.segments (w.payload ++ taken v s) (stored v s x d)) at_sum
            (subst (λ (x : Verdict). Filled o d₀ u (suc w.replies) w.segments (w.payload ++ taken x s) (stored x s t.sum d)) is
            (hears s (reply_due S h) F n)))

  kept_call : (w : Standing) (t : Transfer) (d : List ℕ) (k : Called) (x : Told) → Stands o w t
      → Filled o d₀ t w.replies w.segments w.payload d → GivesAt o w k x → Lent d k
      → KeptOn d₀ (moved o w k).payload k x × Holds (moved o w k) (left_by d k x)
  unfolding GivesAt moved Lent KeptOn left_by
  kept_call w t d (enter s e) x S F G B = absurd G
  kept_call w t d (send s b) x S F G B = (tt, live (awaiting_of t) (asked_stands S G.0) (filled_asked w t d w.due S.stage G.0 F))
  kept_call w t d (receive s l) x S F G B =
      let lent = subst (λ (z : List ℕ). Filled o d₀ t w.replies w.segments w.payload z) (sym B) F in (
        λ e. ap (λ (z : Told). z.1) G.1 ∙ lies w t l.0 l.1 S lent G.0 (ap (λ (z : Told). z.0.number) (sym G.1) ∙ e),
        subst (λ (z : Told). Holds (standing.heard o w l) z.1) (sym G.1) (holds_heard w t l.0 l.1 S lent G.0),
      )
  kept_call w t d (leave s) x S F G B = (tt, over refl)

  pub keeps : (xs : List Deed) (w : Standing) (d : List ℕ) → Holds w d → Goes o w xs → OneBuffer d xs → Kept o w d₀ xs
  unfolding Goes OneBuffer Kept
  keeps [] w d H G B = tt
  keeps (x ∷ xs) w d (live t S F) G B =
      let K = kept_call w t d x.call x.told S F G.0 B.0 in
      (K.0, keeps xs (moved o w x.call) (left_by d x.call x.told) K.1 G.1 B.1)
  keeps (x ∷ xs) w d (over e) G B = none_over o w x.call x.told e G.0
