-- The CoE transfer as a machine of `line`, and how this crate's functions give its rulings back. Assumes nothing.
use Rattle.std.specs.Prelude.{ℕ, false, List, ltb, length, Result, Ok, Err}
use Rattle.std.specs.Prelude as rust
use Rattle.std.proofs.Math.Option.{Option}
use Rattle.wire.specs.Refusal.{number_of}
use Rattle.wire.specs.declared.refusal.Refusal.{Refusal}
use Rattle.wire.specs.Words.{pick}
use Rattle.wire.specs.Front.{in_front}
use Rattle.services.specs.Requests.{packed_of}
use Rattle.services.specs.Written.{fits}
use Rattle.services.specs.declared.Request.{Request}
use Rattle.services.specs.declared.Request.TheVariants as request
use Rattle.judge.specs.Answers.{answer_of}
use Rattle.judge.specs.Storage.{stored}
use Rattle.judge.specs.declared.Answer.{Answer}
use Rattle.judge.specs.declared.Verdict.{Verdict}
use Rattle.line.specs.Machine.{Ruling, refuse, accept, Machine}
use Rattle.transfer.specs.Entry.{unfit_of, opened_of}
use Rattle.transfer.specs.Due.{due_of, request_due, awaiting_of}
use Rattle.transfer.specs.Judgement.{judged_as, next_of, next_with}
use Rattle.transfer.specs.declared.Order.{Order}
use Rattle.transfer.specs.declared.Transfer.{Transfer}
use Rattle.transfer.specs.declared.due.Due.{Due}
use Rattle.transfer.specs.declared.due.Due.TheVariants as due
use Rattle.transfer.specs.declared.due.Reply.{Reply}
use Rattle.transfer.specs.declared.due.Reply.TheVariants as reply

-- the reply, and the data buffer as it is lent
abbrev pub Lends : Type 0
Lends = List ℕ × List ℕ

-- what is told of a call: the number with its values, and the lent buffer afterwards
abbrev pub Told : Type 0
Told = Answer × List ℕ

unfoldable pub begins_with : Order → Ruling Transfer
begins_with o = pick (unfit_of o) (refuse 0x15) (accept (opened_of o))

-- The machine is asked for a request where one is due, and for a judgement where a reply is: the desk answers 14 before. The
-- second line of each stands for what is never asked.
abbrev pub request_in : Due → Request
request_in (due.Request r) = r
request_in (due.Reply p) = request.Segment false

abbrev pub reply_in : Due → Reply
reply_in (due.Reply p) = p
reply_in (due.Request r) = reply.Segment

-- "send: writes the head's due request"; 16: "frame buffer not 16 to 1,486 bytes"
unfoldable pub sends_with : Transfer → ℕ → List ℕ → Ruling (List ℕ × Transfer)
sends_with t counter frame =
    pick (fits (length frame))
    (accept (in_front (packed_of counter (request_in (due_of t))) (length frame), awaiting_of t))
    (refuse 0x16)

unfoldable pub judged : Transfer → ℕ → List ℕ → Verdict
judged t n s = judged_as t (reply_in (due_of t)) n s

-- "Each call writes only its own chunk, at the sum of the earlier ones."
abbrev pub receipt : Transfer → List ℕ → List ℕ → Told × Option Transfer
receipt t s d =
    let v = judged t (length d) s in
    ((answer_of v, stored v s t.sum d), next_of t v)

-- 16: "reply above 1,486, N above 131,070"
unfoldable pub receives_with : Transfer → Lends → Ruling (Told × Option Transfer)
receives_with t l =
    pick (ltb 1486 (length l.0)) (refuse 0x16)
    (pick (ltb 131070 (length l.1)) (refuse 0x16)
    (accept (receipt t l.0 l.1)))

abbrev pub coe_machine : Machine
coe_machine = record {
  Entry = Order;
  Lent = List ℕ;
  Frame = List ℕ;
  Reply = Lends;
  Answer = Told;
  Transfer = Transfer;
  begin = begins_with;
  send_due = request_due;
  sends = sends_with;
  receives = receives_with;
}

-- ---- the functions of this crate judge 14 themselves, before 16

unfoldable pub sends_if_due : Transfer → ℕ → List ℕ → Ruling (List ℕ × Transfer)
sends_if_due t counter frame = pick (request_due t) (sends_with t counter frame) (refuse 0x14)

unfoldable pub receives_if_due : Transfer → List ℕ → List ℕ → Ruling (Told × Option Transfer)
receives_if_due t s d = pick (request_due t) (refuse 0x14) (receives_with t (s, d))

-- ---- what the code gives back, and each lent buffer as it is afterwards: "all unchanged, also for all 1x"

-- a result as the ruling that it stands for, which no other result does (Refusals, OneResult)
abbrev pub ruling_of : {A : Type 0} → Result A Refusal → Ruling A
ruling_of (Err e) = refuse (number_of e)
ruling_of (Ok a) = accept a

abbrev pub sending_of : Ruling (List ℕ × Transfer) → Ruling Transfer
sending_of (refuse n) = refuse n
sending_of (accept r) = accept r.1

abbrev pub frame_of : List ℕ → Ruling (List ℕ × Transfer) → List ℕ
frame_of frame (refuse n) = frame
frame_of frame (accept r) = r.0

abbrev pub step_of : Ruling (Told × Option Transfer) → Ruling (Answer × rust.Option Transfer)
step_of (refuse n) = refuse n
step_of (accept r) = accept (r.0.0, next_with r.1)

abbrev pub data_of : List ℕ → Ruling (Told × Option Transfer) → List ℕ
data_of d (refuse n) = d
data_of d (accept r) = r.0.1
