-- Rules 2 and 3 of "Judging a reply". Assumes nothing.
use Rattle.std.specs.Prelude.{List, ℕ, ltb, length}
use Rattle.wire.specs.Words.{pick}
use Rattle.wire.specs.Fields.{field, read}
use Rattle.wire.specs.Refusal.{number_of}
use Rattle.wire.specs.declared.refusal.Refusal.TheVariants.{Undecodable}
use Rattle.mailbox.specs.Fields.{the, index, sub_index, abort_code}
use Rattle.judge.specs.Places.{message_at, emergency_least, abort_least}
use Rattle.judge.specs.declared.Verdict.{Verdict}
use Rattle.judge.specs.declared.Verdict.TheVariants.{Refused, Emergency, Aborted}

-- the eight bytes behind the CoE header, as one number: "bytes 8-9, register 10, five data bytes"
unfoldable pub message_in : List ℕ → ℕ
message_in s = read (field message_at 0 64) s

-- document 02, [5]: "An emergency under 16 bytes is 20, in the place where the 20-byte limit stood." The length field and bytes past 15 play
-- no part.
unfoldable pub emergency_in : List ℕ → Verdict
emergency_in s = pick (ltb (length s) emergency_least) (Refused (number_of Undecodable)) (Emergency (message_in s))

-- "Specifier 4: under 16 bytes is 20; else 22, code at 12-15." The index and sub-index are the reply's own.
unfoldable pub abort_in : List ℕ → Verdict
abort_in s = pick (ltb (length s) abort_least) (Refused (number_of Undecodable)) (Aborted (the sub_index s) (the index s) (the abort_code s))
