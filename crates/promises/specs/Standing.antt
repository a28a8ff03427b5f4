-- What each call of a transfer gives, by the transfer's own calls before it: from the order that was entered, the true count of its
-- replies, the true number of its segment requests and the true sum of its chunks. Nothing of the desk's record stands here.
-- Assumes nothing.
use Rattle.std.specs.Prelude.{◌≡◌, Bool, true, false, List, [], ◌∷◌, ◌++◌, ℕ, suc, ◌%◌, eqb, length}
use Rattle.wire.specs.Words.{pick}
use Rattle.wire.specs.Front.{in_front}
use Rattle.services.specs.Requests.{packed_of}
use Rattle.services.specs.Written.{fits}
use Rattle.services.specs.declared.Request.{Request}
use Rattle.services.specs.declared.Request.TheVariants as request
use Rattle.judge.specs.Answers.{answer_of}
use Rattle.judge.specs.Storage.{taken, stored}
use Rattle.judge.specs.declared.Verdict.{Verdict}
use Rattle.judge.specs.declared.Verdict.TheVariants as verdict
use Rattle.line.specs.Desk.{following, Call, enter, send, receive, leave}
use Rattle.line.specs.Stand.{Event}
use Rattle.transfer.specs.Due as begins
use Rattle.transfer.specs.Judgement.{judge_reply, budgeted}
use Rattle.transfer.specs.Coe.{Told, Lends, coe_machine}
use Rattle.transfer.specs.declared.Order.{Order}
use Rattle.transfer.specs.declared.due.Reply.{Reply}
use Rattle.transfer.specs.declared.due.Reply.TheVariants as reply
use Rattle.promises.specs.Finding.{number}

abbrev pub Called : Type 0
Called = Call coe_machine

abbrev pub Deed : Type 0
Deed = Event coe_machine Told

-- what is due of a transfer
pub data Due : Type 0 where
  first_request : Due
  first_reply : Due  -- of a list, any reply before its first fragment
  segment_request : Due
  segment_reply : Due
  later_fragment : Due
  nothing : Due  -- it is over

-- where a transfer stands, by its own accepted calls
pub record Standing : Type 0 where
  pub due : Due
  pub counter : ℕ  -- of its next frame
  pub replies : ℕ  -- judged so far
  pub segments : ℕ  -- requested so far
  pub payload : List ℕ  -- the chunks so far, joined

-- as it is entered, where the next frame has the counter c
abbrev pub opened : ℕ → Standing
opened c = record { due = first_request; counter = c; replies = 0; segments = 0; payload = [] }

-- ---- what is sent

unfoldable pub is_request : Due → Bool
is_request first_request = true
is_request first_reply = false
is_request segment_request = true
is_request segment_reply = false
is_request later_fragment = false
is_request nothing = false

-- the request that is due, after n requests for a segment: "the first request with toggle 0, then alternating". The last four lines
-- stand for what is never asked.
unfoldable pub request_at : Order → ℕ → Due → Request
request_at o n first_request = begins.first_request o
request_at o n segment_request = request.Segment (eqb (n % 2) 1)
request_at o n first_reply = request.Segment false
request_at o n segment_reply = request.Segment false
request_at o n later_fragment = request.Segment false
request_at o n nothing = request.Segment false

abbrev pub request_of : Order → Standing → Request
request_of o w = request_at o w.segments w.due

-- the request sent, its reply is due
unfoldable pub asked : Standing → Due → Standing
asked w first_request = record { due = first_reply; counter = following w.counter; replies = w.replies; segments = w.segments; payload = w.payload }
asked w segment_request = record { due = segment_reply; counter = following w.counter; replies = w.replies; segments = suc w.segments; payload = w.payload }
asked w first_reply = w
asked w segment_reply = w
asked w later_fragment = w
asked w nothing = w

-- ---- what is heard

unfoldable pub is_reply : Due → Bool
is_reply first_request = false
is_reply first_reply = true
is_reply segment_request = false
is_reply segment_reply = true
is_reply later_fragment = true
is_reply nothing = false

-- "Information replies: one request, many replies"; the last three lines stand for what is never asked
unfoldable pub reply_at : Order → Due → Reply
reply_at o first_reply = begins.first_reply o
reply_at o segment_reply = reply.Segment
reply_at o later_fragment = reply.Fragment true
reply_at o first_request = reply.Segment
reply_at o segment_request = reply.Segment
reply_at o nothing = reply.Segment

-- "Every judged reply counts one against the budget. When the count reaches the budget and the answer would be 01 or 02, it is 27":
-- by the order's own budget, the true count and the true sum
unfoldable pub verdict_of : Order → Standing → Lends → Verdict
verdict_of o w l =
    budgeted (eqb (suc w.replies) o.budget) (judge_reply (reply_at o w.due) (length w.payload) (length l.1) l.0)

-- what is due after a verdict, where d was
unfoldable pub due_after : Due → Verdict → Due
due_after d verdict.SegmentsFollow = segment_request
due_after d (verdict.Segment from len sum last) = pick last nothing segment_request
due_after d (verdict.Fragment from len sum last) = pick last nothing later_fragment
due_after d verdict.ReplyDue = d
due_after d other = nothing

abbrev pub heard : Order → Standing → Lends → Standing
heard o w l = record {
  due = due_after w.due (verdict_of o w l);
  counter = w.counter;
  replies = suc w.replies;
  segments = w.segments;
  payload = w.payload ++ taken (verdict_of o w l) l.0;
}

-- ---- its calls

abbrev pub gone : Standing → Standing
gone w = record { due = nothing; counter = w.counter; replies = w.replies; segments = w.segments; payload = w.payload }

-- where it stands after a call
unfoldable pub moved : Order → Standing → Called → Standing
moved o w (enter s e) = w
moved o w (send s b) = asked w w.due
moved o w (receive s l) = heard o w l
moved o w (leave s) = gone w

unfoldable pub is_over : Due → Bool
is_over first_request = false
is_over first_reply = false
is_over segment_request = false
is_over segment_reply = false
is_over later_fragment = false
is_over nothing = true

-- what the call gives: the answer, and the lent buffer afterwards. "send: writes the head's due request with the next counter and
-- answers 02"; "Each call writes only its own chunk, at the sum of the earlier ones"; "03: buffers unchanged"
unfoldable pub GivesAt : Order → Standing → Called → Told → Type 0
GivesAt o w (enter s e) t = ⊥
GivesAt o w (send s b) t =
    (is_request w.due ≡ true)
    × (fits (length b) ≡ true)
    × (t ≡ (number 0x02, in_front (packed_of w.counter (request_of o w)) (length b)))
GivesAt o w (receive s l) t =
    (is_reply w.due ≡ true)
    × (t ≡ (answer_of (verdict_of o w l), stored (verdict_of o w l) l.0 (length w.payload) l.1))
GivesAt o w (leave s) t = (is_over w.due ≡ false) × (t ≡ (number 0x03, []))

-- and so for each of its calls
unfoldable pub Goes : Order → Standing → List Deed → Type 0
Goes o w [] = Unit {0}
Goes o w (x ∷ xs) = GivesAt o w x.call x.told × Goes o (moved o w x.call) xs
