-- A spent budget: 27 in the place of 01 and 02, and of nothing else. Assumes nothing.
use mathlib.Core.Path.{◌≡◌, refl, sym, ap, ◌∙◌}
use mathlib.Core.Bool.{Bool, true, false, not}
use mathlib.Core.List.{List}
use Prim.Native.Nat.{ℕ}
use lib.Dec.{eqb}
use Rattle.wire.specs.Words.{pick, both, either}
use Rattle.wire.specs.Refusal.{number_of}
use Rattle.wire.specs.declared.refusal.Refusal.TheVariants.{BudgetSpent}
use Rattle.judge.specs.Answers.{done_or, answer_of}
use Rattle.judge.specs.declared.Verdict.{Verdict}
use Rattle.judge.specs.declared.Verdict.TheVariants.{Refused}
use Rattle.judge.proofs.Cases.{Alarming, upload_cases, download_cases, segment_cases, list_cases}
use Rattle.transfer.specs.Judgement.{judge_reply, goes_on, budgeted}
use Rattle.transfer.specs.declared.due.Reply.{Reply}
use Rattle.transfer.specs.declared.due.Reply.TheVariants as reply
use Rattle.promises.specs.Finding.{finding}
use Rattle.promises.specs.Rules.{BudgetRule}

abbrev due : ℕ → Bool
due number = either (eqb number 0x01) (eqb number 0x02)

-- a verdict goes on where its number is 01 or 02
abbrev Numbered : Verdict → Type 0
Numbered v = goes_on v ≡ due (answer_of v).number

unless_last_lem : (last : Bool) (sum number : ℕ) → due number ≡ true → not last ≡ due (done_or last sum number).number
unless_last_lem true sum number h = refl
unless_last_lem false sum number h = sym h

alarming : Alarming Numbered
unfolding answer_of
alarming = record { refused = refl; emergency = λ m. refl; aborted = λ b i c. refl; other = refl }

numbered : (r : Reply) (earlier n : ℕ) (s : List ℕ) → Numbered (judge_reply r earlier n s)
unfolding judge_reply answer_of
numbered (reply.Upload i b) earlier n s = upload_cases Numbered s refl (λ from p h. refl) i b n alarming refl refl
numbered (reply.Download i b) earlier n s = download_cases Numbered i b s alarming refl
numbered reply.Segment earlier n s =
    segment_cases Numbered s earlier n refl refl alarming λ from len last h k. unless_last_lem last _ 0x01 refl
numbered (reply.Fragment begun) earlier n s =
    list_cases Numbered s earlier n refl refl begun refl refl λ from len last h k. unless_last_lem last _ 0x02 refl

told_either : (b : Bool) (v w : Verdict) (s : List ℕ) → finding (pick b v w) s ≡ pick b (finding v s) (finding w s)
told_either true v w s = refl
told_either false v w s = refl

pub budget_rule : BudgetRule
unfolding budgeted answer_of
budget_rule spent r earlier n s =
    let v = judge_reply r earlier n s in
    ap (λ (g : Bool). finding (pick (both spent g) (Refused (number_of BudgetSpent)) v) s) (numbered r earlier n s)
    ∙ told_either (both spent (due (answer_of v).number)) (Refused (number_of BudgetSpent)) v s
