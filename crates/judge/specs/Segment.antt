-- The reply to the request for a segment. Assumes nothing.
use Rattle.std.specs.Prelude.{List, ℕ, ◌-◌, ltb, eqb, length}
use Rattle.wire.specs.Words.{pick}
use Rattle.wire.specs.Refusal.{number_of}
use Rattle.wire.specs.declared.refusal.Refusal.TheVariants.{LengthField}
use Rattle.mailbox.specs.declared.segment.SdoHeaderSegmented.{SdoHeaderSegmented}
use Rattle.judge.specs.Places.{segment_at}
use Rattle.judge.specs.Headers.{read_segment_headers, wrong_type}
use Rattle.judge.specs.Reply.{on_headers, in_order}
use Rattle.judge.specs.Chunk.{chunk_at, on_chunk}
use Rattle.judge.specs.declared.Verdict.{Verdict}
use Rattle.judge.specs.declared.Verdict.TheVariants.{Refused, Segment}
use Rattle.judge.specs.declared.headers.Headers.{Headers}

-- "Chunk is length minus 3; if that is exactly 7, take off the unused count."
unfoldable pub chunk_length : ℕ → ℕ → ℕ
chunk_length length_field unused = pick (eqb (length_field - 3) 7) (7 - unused) (length_field - 3)

-- "Segment: length below 3 is 26. .. It must be there, and the earlier chunks plus it be at most this call's N, else 25." Of the
-- chunk that is said: bytes that the unused count takes off need not be there.
unfoldable pub segment_of : ℕ → Headers SdoHeaderSegmented → ℕ → ℕ → Verdict
segment_of size h earlier n =
    pick (ltb h.mailbox.length 3) (Refused (number_of LengthField))
    (on_chunk (chunk_at size segment_at (chunk_length h.mailbox.length h.header.segment_data_size) earlier n) λ sum.
    Segment segment_at (chunk_length h.mailbox.length h.header.segment_data_size) sum h.header.is_last_segment)

-- rules 1 to 4: "Type not 3, or (not for segments) index or sub-index not the request's: 23."
unfoldable pub judge_segment : ℕ → ℕ → List ℕ → Verdict
judge_segment earlier n s =
    on_headers s (read_segment_headers s) λ h.
    in_order s h.header.command (wrong_type h.mailbox) (segment_of (length s) h earlier n)
