-- The exported judge: one reply, without desk and budget. Assumes nothing.
use Rattle.std.specs.Prelude.{◌≡◌, Bool, true, false, List, ℕ, eqb, ltb, length, Option, Some, None}
use Rattle.wire.specs.Words.{pick}
use Rattle.mailbox.specs.Headers.{bit}
use Rattle.line.specs.Machine.{Ruling, refuse, accept}
use Rattle.judge.specs.Answers.{plain_of, answer_of}
use Rattle.judge.specs.Storage.{stored}
use Rattle.judge.specs.declared.Answer.{Answer}
use Rattle.judge.specs.declared.Verdict.{Verdict}
use Rattle.judge.specs.declared.Verdict.TheVariants as verdict
use Rattle.transfer.specs.Judgement.{judge_reply}
use Rattle.transfer.specs.declared.due.Reply.{Reply}
use Rattle.transfer.specs.declared.due.Reply.TheVariants.{Upload, Download, Segment, Fragment}

-- what the reply answers: the kinds are 1 upload, 3 download, 4 list not begun, 7 segment, 8 list begun; "an unknown kind" is 15
unfoldable pub asked : ℕ → ℕ → ℕ → Option Reply
asked kind index sub =
    pick (eqb kind 1) (Some (Upload index sub))
    (pick (eqb kind 3) (Some (Download index sub))
    (pick (eqb kind 4) (Some (Fragment false))
    (pick (eqb kind 7) (Some Segment)
    (pick (eqb kind 8) (Some (Fragment true))
    None))))

abbrev pub has_begun : Reply → Bool
has_begun (Fragment begun) = begun
has_begun due = false

-- "Each call writes only its own chunk, at the sum of the earlier ones." The reply to an upload or a download has none before it.
abbrev pub place_for : Reply → ℕ → ℕ
place_for (Upload index sub) earlier = 0
place_for (Download index sub) earlier = 0
place_for due earlier = earlier

-- ---- the answer: as the desk's, and where more replies follow this reply's chunk, and 1 once a list has begun

abbrev pub went_on : ℕ → ℕ → ℕ → Answer
went_on number begun len = record { number = number; sub = begun; index = 0; code = 0; length = len; «data» = 0 }

abbrev pub goes_on : Bool → Answer → ℕ → ℕ → ℕ → Answer
goes_on last answer number begun len = pick last answer (went_on number begun len)

-- whether the list had begun plays a part where this reply does not begin it
unfoldable pub told_of : Bool → Verdict → Answer
told_of begun (verdict.Segment from len sum last) = goes_on last (answer_of (verdict.Segment from len sum last)) 0x01 0 len
told_of begun (verdict.Fragment from len sum last) = goes_on last (answer_of (verdict.Fragment from len sum last)) 0x02 1 len
told_of begun verdict.ReplyDue = went_on 0x02 (bit begun) 0
told_of begun v = answer_of v

-- ---- "15 .. stands before 16"; 16: "reply above 1,486, N above 131,070"

-- the answer, and the data buffer afterwards
abbrev pub judged_by : Reply → Verdict → ℕ → List ℕ → List ℕ → Answer × List ℕ
judged_by due v earlier s d = (told_of (has_begun due) v, stored v s (place_for due earlier) d)

abbrev pub on_asked : {A : Type 0} → Option Reply → (Reply → Ruling A) → Ruling A
on_asked None f = refuse 0x15
on_asked (Some due) f = f due

unfoldable pub ruling_for : ℕ → ℕ → ℕ → ℕ → List ℕ → List ℕ → Ruling (Answer × List ℕ)
ruling_for kind index sub earlier s d =
    on_asked (asked kind index sub) λ due.
    pick (ltb 1486 (length s)) (refuse 0x16)
    (pick (ltb 131070 (length d)) (refuse 0x16)
    (accept (judged_by due (judge_reply due earlier (length d) s) earlier s d)))

-- "all unchanged, also for all 1x"
abbrev pub given_by : Ruling (Answer × List ℕ) → List ℕ → Answer × List ℕ
given_by (refuse n) d = (plain_of n, d)
given_by (accept r) d = r

-- the promise of `coe_judge`, of the reply s and the data buffer d
abbrev pub Judges : ℕ → ℕ → ℕ → ℕ → List ℕ → List ℕ → Answer → List ℕ → Type 0
Judges kind index sub earlier s d answer after =
    (answer ≡ (given_by (ruling_for kind index sub earlier s d) d).0) × (after ≡ (given_by (ruling_for kind index sub earlier s d) d).1)
