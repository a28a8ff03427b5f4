-- What is due of a transfer, and how a request that is sent moves it on. Assumes nothing.
use Rattle.std.specs.Prelude.{ℕ, Bool, true, false, eqb, Option, Some, None}
use Rattle.wire.specs.Words.{pick}
use Rattle.mailbox.specs.Headers.{sub_index_of}
use Rattle.services.specs.declared.Request.{Request}
use Rattle.services.specs.declared.Request.TheVariants as request
use Rattle.transfer.specs.Stage.{first_reply_due, segment_request_due, segment_reply_due, stage_of}
use Rattle.transfer.specs.Entry.{kind_of}
use Rattle.transfer.specs.declared.stage.Stage.{Stage}
use Rattle.transfer.specs.declared.stage.Stage.TheVariants.{FirstRequest, FirstReply, SegmentRequest, SegmentReply, LaterFragment}
use Rattle.transfer.specs.declared.Order.{Order}
use Rattle.transfer.specs.declared.Transfer.{Transfer}
use Rattle.transfer.specs.declared.entry.Kind.{Kind}
use Rattle.transfer.specs.declared.entry.Kind.TheVariants.{Upload, Download, ObjectList, Quantities}
use Rattle.transfer.specs.declared.due.Due.{Due}
use Rattle.transfer.specs.declared.due.Due.TheVariants as due
use Rattle.transfer.specs.declared.due.Reply.{Reply}
use Rattle.transfer.specs.declared.due.Reply.TheVariants as reply

-- "kind 1-5, or 0 for quantities"
abbrev pub request_as : Option Kind → Order → Request
request_as (Some (Upload access)) o = request.Upload o.index access
request_as (Some (Download access)) o = request.Download o.index access o.value o.len
request_as (Some ObjectList) o = request.Information o.index
request_as (Some Quantities) o = request.Information 0
request_as None o = request.Information 0

unfoldable pub first_request : Order → Request
first_request o = request_as (kind_of o.kind o.sub) o

-- "index or sub-index not the request's: 23"; "Information replies: one request, many replies."
abbrev pub reply_as : Option Kind → Order → Reply
reply_as (Some (Upload access)) o = reply.Upload o.index (sub_index_of access)
reply_as (Some (Download access)) o = reply.Download o.index (sub_index_of access)
reply_as (Some ObjectList) o = reply.Fragment false
reply_as (Some Quantities) o = reply.Fragment false
reply_as None o = reply.Fragment false

unfoldable pub first_reply : Order → Reply
first_reply o = reply_as (kind_of o.kind o.sub) o

abbrev pub due_at : Stage → Order → ℕ → Due
due_at FirstRequest o toggle = due.Request (first_request o)
due_at FirstReply o toggle = due.Reply (first_reply o)
due_at SegmentRequest o toggle = due.Request (request.Segment (eqb toggle 1))
due_at SegmentReply o toggle = due.Reply reply.Segment
due_at LaterFragment o toggle = due.Reply (reply.Fragment true)

unfoldable pub due_of : Transfer → Due
due_of t = due_at (stage_of t.stage) t.order t.toggle

abbrev pub is_request : Due → Bool
is_request (due.Request r) = true
is_request (due.Reply p) = false

-- "14: the other of send and receive is due"
unfoldable pub request_due : Transfer → Bool
request_due t = is_request (due_of t)

abbrev pub flipped_of : ℕ → ℕ
flipped_of toggle = pick (eqb toggle 1) 0 1

-- the request sent, its reply is due; "the first request with toggle 0, then alternating"
unfoldable pub awaiting_of : Transfer → Transfer
awaiting_of t =
    pick (eqb t.stage segment_request_due)
    (record { order = t.order; stage = segment_reply_due; toggle = flipped_of t.toggle; left = t.left; sum = t.sum })
    (record { order = t.order; stage = first_reply_due; toggle = t.toggle; left = t.left; sum = t.sum })
