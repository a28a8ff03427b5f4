-- Replies to the request for an object list. "Information replies: one request, many replies." Assumes nothing.
use Rattle.std.specs.Prelude.{Bool, not, List, ℕ, ◌-◌, ltb, eqb, length, Result, Ok, Err}
use Rattle.wire.specs.Words.{pick}
use Rattle.wire.specs.Refusal.{number_of}
use Rattle.wire.specs.declared.refusal.Refusal.{Refusal}
use Rattle.wire.specs.declared.refusal.Refusal.TheVariants.{Undecodable, LengthField}
use Rattle.mailbox.specs.Numbers.{operation_number}
use Rattle.mailbox.specs.declared.information.SdoInfoHeader.{SdoInfoHeader}
use Rattle.judge.specs.Places.{first_fragment_at, later_fragment_at}
use Rattle.judge.specs.Headers.{read_information_headers}
use Rattle.judge.specs.Chunk.{chunk_at, on_chunk}
use Rattle.judge.specs.declared.Verdict.{Verdict}
use Rattle.judge.specs.declared.Verdict.TheVariants.{Refused, Fragment, ReplyDue}
use Rattle.judge.specs.declared.headers.Headers.{Headers}

-- "from byte 14 in the first operation 2 reply, from 12 in later ones"
unfoldable pub fragment_at : Bool → ℕ
fragment_at begun = pick begun later_fragment_at first_fragment_at

-- "Length below 8: 26. Chunk is length minus 8 .. It must be there (an empty chunk always is) and fit, else 25. Incomplete set: reply
-- due; clear: done."
unfoldable pub fragment_of : ℕ → Headers SdoInfoHeader → ℕ → ℕ → ℕ → Verdict
fragment_of size h from earlier n =
    pick (ltb h.mailbox.length 8) (Refused (number_of LengthField))
    (on_chunk (chunk_at size from (h.mailbox.length - 8) earlier n) λ sum.
    Fragment from (h.mailbox.length - 8) sum (not h.header.incomplete))

abbrev pub on_information_headers : Result (Headers SdoInfoHeader) Refusal → (Headers SdoInfoHeader → Verdict) → Verdict
on_information_headers (Err refusal) f = Refused (number_of Undecodable)
on_information_headers (Ok h) f = f h

-- "Under 12 bytes or an unlisted type, service or operation: 20. Operation other than 2: reply due, nothing stored."
unfoldable pub judge_list : Bool → ℕ → ℕ → List ℕ → Verdict
judge_list begun earlier n s =
    on_information_headers (read_information_headers s) λ h.
    pick (eqb (operation_number h.header.op_code) 2) (fragment_of (length s) h (fragment_at begun) earlier n) ReplyDue
