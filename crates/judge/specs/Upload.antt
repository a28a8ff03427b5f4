-- The first reply to an upload. Assumes nothing.
use Rattle.std.specs.Prelude.{List, ℕ, ◌-◌, ltb, leb, length}
use Rattle.wire.specs.Words.{pick}
use Rattle.wire.specs.Refusal.{number_of}
use Rattle.wire.specs.declared.refusal.Refusal.TheVariants.{Undecodable, TooLarge, MissingBytes}
use Rattle.mailbox.specs.Fields.{the, complete_size}
use Rattle.mailbox.specs.declared.sdo.SdoHeader.{SdoHeader}
use Rattle.judge.specs.Places.{expedited_at, normal_at, normal_least}
use Rattle.judge.specs.Chunk.{lacking}
use Rattle.judge.specs.Reply.{reply_to}
use Rattle.judge.specs.declared.Verdict.{Verdict}
use Rattle.judge.specs.declared.Verdict.TheVariants.{Refused, Done, SegmentsFollow}
use Rattle.judge.specs.declared.headers.Headers.{Headers}

-- "Expedited upload: P = 4 minus size, from byte 12; not that many there is 25. The size indicator plays no part."
unfoldable pub expedited_of : ℕ → ℕ → Verdict
expedited_of size unused = pick (lacking size expedited_at (4 - unused)) (Refused (number_of MissingBytes)) (Done expedited_at (4 - unused))

-- "P = D bytes from 16; missing bytes are 25."
unfoldable pub whole_of : ℕ → ℕ → Verdict
whole_of size d = pick (lacking size normal_at d) (Refused (number_of MissingBytes)) (Done normal_at d)

-- "Let D be the length field minus 10, at least 0."
abbrev pub d_of : ℕ → ℕ
d_of length_field = length_field - 10

-- "Other upload: under 16 bytes is 20. Complete size at 12-15, above N is 24. .. If complete size is at most D, P = D bytes from 16 ..
-- Otherwise segments follow"
unfoldable pub normal_of : List ℕ → ℕ → ℕ → Verdict
normal_of s length_field n =
    pick (ltb (length s) normal_least) (Refused (number_of Undecodable))
    (pick (ltb n (the complete_size s)) (Refused (number_of TooLarge))
    (pick (leb (the complete_size s) (d_of length_field)) (whole_of (length s) (d_of length_field))
    SegmentsFollow))

unfoldable pub upload_of : List ℕ → Headers SdoHeader → ℕ → Verdict
upload_of s h n =
    pick h.header.expedited_transfer (expedited_of (length s) h.header.size)
    (normal_of s h.mailbox.length n)

unfoldable pub judge_upload : ℕ → ℕ → ℕ → List ℕ → Verdict
judge_upload index sub n s = reply_to index sub s λ h. upload_of s h n
