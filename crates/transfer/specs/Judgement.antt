-- What a judged reply comes to. Document 01, "Judging a reply". Assumes nothing.
use Rattle.std.specs.Prelude.{ℕ, ◌-◌, Bool, true, false, not, List, [], ◌∷◌, leb}
use Rattle.std.specs.Prelude as rust
use Rattle.std.proofs.Math.Option.{Option, none, some}
use Rattle.wire.specs.Words.{pick, both}
use Rattle.wire.specs.Refusal.{number_of}
use Rattle.wire.specs.declared.refusal.Refusal.TheVariants.{BudgetSpent}
use Rattle.judge.specs.Download.{judge_download}
use Rattle.judge.specs.Upload.{judge_upload}
use Rattle.judge.specs.Segment.{judge_segment}
use Rattle.judge.specs.Information.{judge_list}
use Rattle.judge.specs.declared.Verdict.{Verdict}
use Rattle.judge.specs.declared.Verdict.TheVariants.{Refused, SegmentsFollow, Segment, Fragment, ReplyDue}
use Rattle.transfer.specs.Stage.{segment_request_due, later_fragment_due}
use Rattle.transfer.specs.declared.Transfer.{Transfer}
use Rattle.transfer.specs.declared.due.Reply.{Reply}
use Rattle.transfer.specs.declared.due.Reply.TheVariants as reply

-- by what it answers; sum is that of the earlier chunks, n this call's N
unfoldable pub judge_reply : Reply → ℕ → ℕ → List ℕ → Verdict
judge_reply (reply.Upload index sub) sum n s = judge_upload index sub n s
judge_reply (reply.Download index sub) sum n s = judge_download index sub s
judge_reply reply.Segment sum n s = judge_segment sum n s
judge_reply (reply.Fragment begun) sum n s = judge_list begun sum n s

-- "the answer would be 01 or 02"
abbrev pub goes_on : Verdict → Bool
goes_on SegmentsFollow = true
goes_on (Segment from len sum last) = not last
goes_on (Fragment from len sum last) = not last
goes_on ReplyDue = true
goes_on other = false

-- "When the count reaches the budget and the answer would be 01 or 02, it is 27 and the chunk is not stored."
unfoldable pub budgeted : Bool → Verdict → Verdict
budgeted spent v = pick (both spent (goes_on v)) (Refused (number_of BudgetSpent)) v

-- the count reaches the budget where at most one reply is left
unfoldable pub judged_as : Transfer → Reply → ℕ → List ℕ → Verdict
judged_as t due n s = budgeted (leb t.left 1) (judge_reply due t.sum n s)

-- "Numbers the desk gives back": those that a judged reply can be answered
abbrev pub judged_numbers : List ℕ
judged_numbers = 0x00 ∷ 0x01 ∷ 0x02 ∷ 0x20 ∷ 0x21 ∷ 0x22 ∷ 0x23 ∷ 0x24 ∷ 0x25 ∷ 0x26 ∷ 0x27 ∷ []

-- "Every judged reply counts one against the budget."
abbrev pub advanced_to : Transfer → ℕ → ℕ → Transfer
advanced_to t stage sum = record { order = t.order; stage = stage; toggle = t.toggle; left = t.left - 1; sum = sum }

abbrev pub unless_last : Bool → Transfer → Option Transfer
unless_last last t = pick last none (some t)

-- the transfer afterwards, if it is not over. "Otherwise segments follow"; "Incomplete set: reply due; clear: done"; "Operation
-- other than 2: reply due, nothing stored."
unfoldable pub next_of : Transfer → Verdict → Option Transfer
next_of t SegmentsFollow = some (advanced_to t segment_request_due t.sum)
next_of t (Segment from len sum last) = unless_last last (advanced_to t segment_request_due sum)
next_of t (Fragment from len sum last) = unless_last last (advanced_to t later_fragment_due sum)
next_of t ReplyDue = some (advanced_to t t.stage t.sum)
next_of t other = none

-- as the code gives it back
abbrev pub next_with : Option Transfer → rust.Option Transfer
next_with none = rust.None
next_with (some t) = rust.Some t
