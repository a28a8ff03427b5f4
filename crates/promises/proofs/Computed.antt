-- What antt computes of whole runs: the shipped desk's examples, and two desks that are offered in its place. Assumes nothing.
use mathlib.Core.Path.{◌≡◌, refl, ap}
use mathlib.Core.List.{List, [], ◌∷◌, map, foldr}
use Prim.Native.Nat.{ℕ, ◌+◌}
use native.Mathlib.Omega.{arith}
use Rattle.wire.specs.Front.{in_front}
use Rattle.wire.specs.Fields.{read, packed}
use Rattle.mailbox.specs.Numbers.{priority_of, type_of, service_of, command_of, operation_of}
use Rattle.mailbox.specs.Headers.{read_mailbox_header, read_coe_header, read_sdo_header, read_segmented, read_sdo_info}
use Rattle.services.specs.Requests.{packed_of, cut_to}
use Rattle.judge.specs.Answers.{answer_of}
use Rattle.judge.specs.Headers.{read_front, read_headers, read_segment_headers, read_information_headers, wrong_type, wrong_address}
use Rattle.judge.specs.Alarm.{message_in, emergency_in, abort_in}
use Rattle.judge.specs.Chunk.{lacking, chunk_at}
use Rattle.judge.specs.Reply.{in_order, reply_to}
use Rattle.judge.specs.Download.{download_of, judge_download}
use Rattle.judge.specs.Upload.{expedited_of, whole_of, normal_of, upload_of, judge_upload}
use Rattle.judge.specs.Segment.{chunk_length, segment_of, judge_segment}
use Rattle.judge.specs.Information.{fragment_at, fragment_of, judge_list}
use Rattle.judge.specs.Storage.{stored}
use Rattle.line.specs.Machine.{and_then}
use Rattle.line.specs.Line.{seated, find, headed, head, vacate, place}
use Rattle.line.specs.Desk.{judge, step}
use Rattle.line.specs.Desk as line
use Rattle.line.specs.Stand.{trace}
use Rattle.transfer.specs.Entry.{kind_of, outside, unfit_of}
use Rattle.transfer.specs.Due.{first_request, first_reply, due_of, request_due, awaiting_of}
use Rattle.transfer.specs.Judgement.{judge_reply, judged_as, next_of}
use Rattle.transfer.specs.Judgement as budget
use Rattle.transfer.specs.Coe.{begins_with, sends_with, judged, receives_with}
use Rattle.desk.specs.Record.{view_of, desk_of}
use Rattle.desk.specs.Calls.{answer_for, lent_after}
use Rattle.desk.specs.Stand.{lent_by}
use Rattle.promises.specs.Runs.{runs, listings}
use Rattle.line.specs.Lists.{keep, some_of}
use Rattle.line.specs.Desk.{first, enter, send, receive}
use Rattle.line.specs.Stand.{calls, after}
use Rattle.line.specs.Transfers.{seat_of, is_enter, is_send, own, transfers, sent_frame, listed}
use Rattle.line.specs.Alone.{Demand3Of, one_by_one}
use Rattle.judge.specs.declared.Answer.{Answer}
use Rattle.desk.specs.Stand.{is_answered}
use Rattle.promises.specs.Standing.{Called, Deed, request_at, asked, reply_at, verdict_of, due_after, moved}
use Rattle.promises.specs.Whole.{SumsOn, Sums}
use Rattle.promises.specs.Worthless.{changed, pretender, inventor, SumsAndBudget}
use Rattle.promises.specs.Runs.{upload, blank, expedited}
use Rattle.promises.proofs.Whole.{sums_of}

-- an upload, from entry to 00
abbrev one : List Called
one = enter 0 (upload 1) ∷ send 0 (blank 16) ∷ receive 0 (expedited, blank 4) ∷ []

-- and the same again
abbrev two : List Called
two = enter 0 (upload 1) ∷ send 0 (blank 16) ∷ receive 0 (expedited, blank 4) ∷ one

-- every P that was told, added up
abbrev lengths : List (List Deed) → ℕ
lengths = foldr (λ t n. foldr (λ x m. x.told.0.length + m) 0 t + n) 0

abbrev pub firsts : {A : Type 0} → List (A × A) → List A
firsts l = map (λ e. e.0) l

abbrev pub seconds : {A : Type 0} → List (A × A) → List A
seconds l = map (λ e. e.1) l

record Facts : Type 0 where
  holds : firsts runs ≡ seconds runs
  lists : firsts listings ≡ seconds listings
  pretends : Demand3Of pretender is_answered → ⊥
  invents : SumsAndBudget inventor → ⊥

facts : Facts
unfolding trace step judge line.settled and_then seated find headed head vacate place view_of desk_of answer_for lent_after lent_by begins_with unfit_of kind_of outside sends_with receives_with judged judged_as budget.budgeted next_of due_of request_due awaiting_of first_request first_reply judge_reply packed_of packed cut_to read priority_of type_of service_of command_of operation_of read_mailbox_header read_coe_header read_sdo_header read_segmented read_sdo_info answer_of read_front read_headers read_segment_headers read_information_headers wrong_type wrong_address message_in emergency_in abort_in lacking chunk_at in_order reply_to download_of judge_download expedited_of whole_of normal_of upload_of judge_upload chunk_length segment_of judge_segment fragment_at fragment_of judge_list stored in_front keep some_of calls after seat_of is_enter is_send own transfers sent_frame listed one_by_one request_at asked reply_at verdict_of due_after moved SumsOn Sums changed
facts = record {
  holds = refl;
  lists = refl;
  pretends = λ D. let z : ◌≡◌ {A = ℕ} 8 4 = ap lengths (D two) in omega arith;
  invents = λ B.
      let S = (sums_of (B first refl one).0).1 in
      let z : ◌≡◌ {A = ℕ} 5 4 = ap (λ (a : Answer). a.length) (S.1.0.0 refl) in
      omega arith;
}

pub runs_hold : firsts runs ≡ seconds runs
runs_hold = facts.holds

pub listings_hold : firsts listings ≡ seconds listings
listings_hold = facts.lists

pub pretender_out : Demand3Of pretender is_answered → ⊥
pretender_out = facts.pretends

pub inventor_out : SumsAndBudget inventor → ⊥
inventor_out = facts.invents
