-- What a verdict of a transfer brings: the sum that it carries, that its chunk fits, and P. Assumes nothing.
use mathlib.Core.Path.{◌≡◌, refl, sym, ◌∙◌}
use mathlib.Core.Bool.{Bool, true, false}
use mathlib.Core.List.{List}
use Prim.Native.Nat.{ℕ, ◌+◌, ◌≤◌}
use native.Mathlib.Nat.{zero-add}
use native.Mathlib.Omega.{arith}
use borrow.Author.Tests.{eqb-true}
use lib.Dec.{eqb}
use lib.ListN.{length}
use Rattle.wire.specs.Words.{pick, both}
use Rattle.wire.proofs.Cases.{by}
use Rattle.wire.specs.Refusal.{number_of}
use Rattle.wire.specs.declared.refusal.Refusal.TheVariants.{BudgetSpent}
use Rattle.judge.specs.Answers.{answer_of}
use Rattle.judge.specs.Download.{judge_download}
use Rattle.judge.specs.Upload.{judge_upload}
use Rattle.judge.specs.Storage.{taken}
use Rattle.judge.specs.Replies.{sum_after}
use Rattle.judge.specs.declared.Verdict.{Verdict}
use Rattle.judge.specs.declared.Verdict.TheVariants.{Refused}
use Rattle.judge.proofs.Cases.{Alarming, upload_cases, download_cases}
use Rattle.judge.proofs.Payload.{Sound, segment_sound, list_sound, upload_kept, download_kept}
use Rattle.transfer.specs.Due.{due_of}
use Rattle.transfer.specs.Judgement.{judge_reply, goes_on, budgeted}
use Rattle.transfer.specs.Coe.{reply_in}
use Rattle.transfer.specs.declared.Transfer.{Transfer}
use Rattle.transfer.specs.declared.due.Reply.{Reply}
use Rattle.transfer.specs.declared.due.Reply.TheVariants as reply

-- ---- a verdict that goes on

pub record Adds (earlier n : ℕ) (s : List ℕ) (v : Verdict) : Type 0 where
  pub sum : sum_after earlier v ≡ earlier + length (taken v s)
  pub fits : earlier ≤ n → earlier + length (taken v s) ≤ n

module _ (earlier n : ℕ) (s : List ℕ) where
  abbrev AddsOn : Verdict → Type 0
  AddsOn v = goes_on v ≡ true → Adds earlier n s v

  over : {v : Verdict} → goes_on v ≡ false → AddsOn v
  over h e = cc

  alarming : Alarming AddsOn
  alarming = record { refused = over refl; emergency = λ m. over refl; aborted = λ b i c. over refl; other = over refl }

  adds : {v : Verdict} → Sound earlier n s v → AddsOn v
  adds S e = record { sum = S.sum; fits = S.fits }

  pub reply_adds : (due : Reply) → AddsOn (judge_reply due earlier n s)
  unfolding judge_reply
  reply_adds (reply.Upload index sub) =
      upload_cases AddsOn s (over refl) (λ from p h. over refl) index sub n alarming (over refl)
      (λ e. record { sum = omega arith; fits = λ h. omega arith })
  reply_adds (reply.Download index sub) = download_cases AddsOn index sub s alarming (over refl)
  reply_adds reply.Segment = adds (segment_sound earlier n s)
  reply_adds (reply.Fragment begun) = adds (list_sound earlier n s begun)

-- ---- a verdict that is the last: P, and that a chunk fits

abbrev pub Ends : ℕ → List ℕ → Verdict → Type 0
Ends earlier s v = (answer_of v).number ≡ 0x00 → (answer_of v).length ≡ earlier + length (taken v s)

-- of a first reply no chunk came before
pub first_ends : (due : Reply) (d s : List ℕ) → Ends 0 s (judge_reply due 0 (length d) s)
unfolding judge_reply
first_ends (reply.Upload index sub) d s e =
    (upload_kept index sub d s e).length_is ∙ sym (zero-add (length (taken (judge_upload index sub (length d) s) s)))
first_ends (reply.Download index sub) d s e =
    (download_kept index sub d s e).length_is ∙ sym (zero-add (length (taken (judge_download index sub s) s)))
first_ends reply.Segment d s e = (segment_sound 0 (length d) s).ends e
first_ends (reply.Fragment begun) d s e = (list_sound 0 (length d) s begun).ends e

-- what is due after the first: a segment or a fragment
pub by_reply : {X : Type 0} (t : Transfer) → (reply_in (due_of t) ≡ reply.Segment → X) → (reply_in (due_of t) ≡ reply.Fragment true → X)
    → (t.stage ≤ 1 → X) → X
unfolding due_of
by_reply t segment fragment first =
    by (eqb t.stage 0) (λ y. let e = eqb-true t.stage 0 y in first (omega arith))
    (λ a. by (eqb t.stage 1) (λ y. let e = eqb-true t.stage 1 y in first (omega arith))
    (λ b. by (eqb t.stage 2) (λ y. segment (rw (a, b, y)))
    (λ c. by (eqb t.stage 3) (λ y. segment (rw (a, b, c, y)))
    (λ d. fragment (rw (a, b, c, d))))))

-- ---- with the budget looked at

-- a verdict that goes on, or is done, was not cut off by the budget
pub not_spent : (spent : Bool) (v : Verdict) → goes_on (budgeted spent v) ≡ true → (spent ≡ false) × (budgeted spent v ≡ v)
unfolding budgeted
not_spent false v e = (refl, refl)
not_spent true v e = go (goes_on v) refl e
  where
    go : (b : Bool) → goes_on v ≡ b → goes_on (pick b (Refused (number_of BudgetSpent)) v) ≡ true → (true ≡ false) × (pick b (Refused (number_of BudgetSpent)) v ≡ v)
    go true h k = cc
    go false h k = cc

pub done_unsettled : (spent : Bool) (v : Verdict) → (answer_of (budgeted spent v)).number ≡ 0x00 → budgeted spent v ≡ v
unfolding budgeted answer_of
done_unsettled spent v = go (both spent (goes_on v))
  where
    go : (b : Bool) → (answer_of (pick b (Refused (number_of BudgetSpent)) v)).number ≡ 0x00 → pick b (Refused (number_of BudgetSpent)) v ≡ v
    go true e = cc
    go false e = refl
