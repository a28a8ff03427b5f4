-- What is due of a transfer, by number: the record holds numbers only. Assumes nothing.
use Rattle.std.specs.Prelude.{ℕ, eqb}
use Rattle.wire.specs.Words.{pick}
use Rattle.transfer.specs.declared.stage.Stage.{Stage}
use Rattle.transfer.specs.declared.stage.Stage.TheVariants.{FirstRequest, FirstReply, SegmentRequest, SegmentReply, LaterFragment}

abbrev pub first_request_due : ℕ
first_request_due = 0

-- of a list, any reply before its first fragment
abbrev pub first_reply_due : ℕ
first_reply_due = 1

abbrev pub segment_request_due : ℕ
segment_request_due = 2

abbrev pub segment_reply_due : ℕ
segment_reply_due = 3

-- any reply after a list's first fragment
abbrev pub later_fragment_due : ℕ
later_fragment_due = 4

-- what a number in the record stands for
abbrev pub stage_of : ℕ → Stage
stage_of n =
    pick (eqb n first_request_due) FirstRequest
    (pick (eqb n first_reply_due) FirstReply
    (pick (eqb n segment_request_due) SegmentRequest
    (pick (eqb n segment_reply_due) SegmentReply
    LaterFragment)))
