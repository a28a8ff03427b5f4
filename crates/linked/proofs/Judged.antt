-- What the exported judge's answers have in common. Assumes nothing.
use mathlib.Core.Path.{◌≡◌, refl}
use mathlib.Core.Bool.{Bool, true, false}
use mathlib.Core.List.{List}
use Prim.Native.Nat.{ℕ}
use Rattle.std.specs.Prelude.{None}
use Rattle.line.specs.Machine.{refuse}
use Rattle.judge.specs.Answers.{answer_of}
use Rattle.judge.specs.declared.Verdict.{Verdict}
use Rattle.judge.specs.declared.Verdict.TheVariants.{Refused, Emergency, Aborted, Done, SegmentsFollow, Segment, Fragment, ReplyDue}
use Rattle.transfer.specs.Judgement.{judge_reply}
use Rattle.linked.specs.Judging.{asked, told_of, ruling_for}

-- "There 15 also covers .. an unknown kind, and stands before 16": whatever the lengths are
pub kind_first : (kind index sub earlier : ℕ) (s d : List ℕ) → asked kind index sub ≡ None → ruling_for kind index sub earlier s d ≡ refuse 0x15
unfolding ruling_for
kind_first kind index sub earlier s d unknown = simp unknown

-- an upload's reply and a download's are judged and stored the same, whatever came earlier
pub upload_alone : (index sub e f : ℕ) (s d : List ℕ) → ruling_for 1 index sub e s d ≡ ruling_for 1 index sub f s d
unfolding ruling_for asked judge_reply
upload_alone index sub e f s d = refl

pub download_alone : (index sub e f : ℕ) (s d : List ℕ) → ruling_for 3 index sub e s d ≡ ruling_for 3 index sub f s d
unfolding ruling_for asked judge_reply
download_alone index sub e f s d = refl

-- the number is the desk's, of the same verdict
pub same_number : (begun : Bool) (v : Verdict) → (told_of begun v).number ≡ (answer_of v).number
unfolding told_of answer_of
same_number begun (Refused n) = refl
same_number begun (Emergency message) = refl
same_number begun (Aborted sub index code) = refl
same_number begun (Done from p) = refl
same_number begun SegmentsFollow = refl
same_number begun (Segment from len sum true) = refl
same_number begun (Segment from len sum false) = refl
same_number begun (Fragment from len sum true) = refl
same_number begun (Fragment from len sum false) = refl
same_number begun ReplyDue = refl
