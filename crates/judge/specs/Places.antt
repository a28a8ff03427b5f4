-- Where data stand in a reply, and how long a reply must at least be. Places that the table of fields gives are taken from it.
-- Assumes nothing.
use Rattle.std.specs.Prelude.{ℕ, ◌/◌}
use Rattle.wire.specs.Fields.{end}
use Rattle.mailbox.specs.Fields.{Name, place, service, list_kind, fragments_left, expedited_data, complete_size, abort_code, emergency_data}

-- the byte at which a field of the table begins, and the byte behind it
abbrev pub start_of : Name → ℕ
start_of f = (place f).first / 8

abbrev pub behind : Name → ℕ
behind f = end (place f) / 8

-- document 02, [5]: "In ETG.1000.6 the error code follows the CoE header"
abbrev pub message_at : ℕ
message_at = behind service

-- document 02, [5]: "An emergency under 16 bytes is 20"
abbrev pub emergency_least : ℕ
emergency_least = behind emergency_data

-- "Specifier 4: under 16 bytes is 20; else 22, code at 12-15."
abbrev pub abort_least : ℕ
abort_least = behind abort_code

-- "Download: under 16 bytes is 20"
abbrev pub download_least : ℕ
download_least = 16

-- "Expedited upload: P = 4 minus size, from byte 12"
abbrev pub expedited_at : ℕ
expedited_at = start_of expedited_data

-- "Other upload: under 16 bytes is 20. Complete size at 12-15 .. P = D bytes from 16"
abbrev pub normal_least : ℕ
normal_least = behind complete_size

abbrev pub normal_at : ℕ
normal_at = behind complete_size

-- document 02, [1]: "let a segment reply of 9 to 11 bytes be judged too: 20 now starts below 9 bytes there". Its own header needs no more
abbrev pub segment_least : ℕ
segment_least = 9

-- document 02, [1]: "By ETG.1000.6 a segment reply's data begin at byte 9. Take the chunk there"
abbrev pub segment_at : ℕ
segment_at = 9

-- "from byte 14 in the first operation 2 reply, from 12 in later ones"
abbrev pub first_fragment_at : ℕ
first_fragment_at = behind list_kind

abbrev pub later_fragment_at : ℕ
later_fragment_at = behind fragments_left
