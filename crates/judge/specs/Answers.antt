-- Document 01, "Numbers the desk gives back": the number of each verdict and the values that go with it. "Where an answer is an
-- enum, a definition gives this paper's number and values for each of its cases." Assumes nothing.
use Rattle.std.specs.Prelude.{Bool, false, List, [], ◌∷◌, ℕ, ◌-◌, ◌*◌, eqb}
use Rattle.wire.specs.Words.{pick, either}
use Rattle.wire.specs.Fields.{get}
use Rattle.mailbox.specs.Fields.{Name, place, emergency_code, error_register, emergency_data}
use Rattle.judge.specs.Places.{message_at}
use Rattle.judge.specs.declared.Verdict.{Verdict}
use Rattle.judge.specs.declared.Verdict.TheVariants.{Refused, Emergency, Aborted, Done, SegmentsFollow, Segment, Fragment, ReplyDue}
use Rattle.judge.specs.declared.Answer.{Answer}

-- a number that no value goes with
abbrev pub plain_of : ℕ → Answer
plain_of n = record { number = n; sub = 0; index = 0; code = 0; length = 0; «data» = 0 }

-- "00: done, payload length P"
abbrev pub done_with : ℕ → Answer
done_with p = record { number = 0x00; sub = 0; index = 0; code = 0; length = p; «data» = 0 }

-- "After the last, P is the sum of chunks."
abbrev pub done_or : Bool → ℕ → ℕ → Answer
done_or last sum n = pick last (done_with sum) (plain_of n)

-- a field of an emergency in its eight bytes
abbrev pub in_message : Name → ℕ → ℕ
in_message f message = get (record { first = (place f).first - 8 * message_at; width = (place f).width }) message

-- "21 emergency: code, register"; document 02, [5]: "Answer 21 now also hands back the five bytes"; "22 aborted: code, index, sub-index";
-- "01, 02 request due, reply due"
unfoldable pub answer_of : Verdict → Answer
answer_of (Refused n) = plain_of n
answer_of (Emergency message) =
    record {
      number = 0x21;
      sub = in_message error_register message;
      index = 0;
      code = in_message emergency_code message;
      length = 0;
      «data» = in_message emergency_data message;
    }
answer_of (Aborted sub index code) = record { number = 0x22; sub = sub; index = index; code = code; length = 0; «data» = 0 }
answer_of (Done from p) = done_with p
answer_of SegmentsFollow = plain_of 0x01
answer_of (Segment from len sum last) = done_or last sum 0x01
answer_of (Fragment from len sum last) = done_or last sum 0x02
answer_of ReplyDue = plain_of 0x02

-- ---- the numbers that each kind of reply can be answered

abbrev pub one_of : List ℕ → ℕ → Bool
one_of [] n = false
one_of (a ∷ l) n = either (eqb n a) (one_of l n)

abbrev pub upload_numbers : List ℕ
upload_numbers = 0x00 ∷ 0x01 ∷ 0x20 ∷ 0x21 ∷ 0x22 ∷ 0x23 ∷ 0x24 ∷ 0x25 ∷ []

abbrev pub download_numbers : List ℕ
download_numbers = 0x00 ∷ 0x20 ∷ 0x21 ∷ 0x22 ∷ 0x23 ∷ []

abbrev pub segment_numbers : List ℕ
segment_numbers = 0x00 ∷ 0x01 ∷ 0x20 ∷ 0x21 ∷ 0x22 ∷ 0x23 ∷ 0x25 ∷ 0x26 ∷ []

abbrev pub list_numbers : List ℕ
list_numbers = 0x00 ∷ 0x02 ∷ 0x20 ∷ 0x25 ∷ 0x26 ∷ []
