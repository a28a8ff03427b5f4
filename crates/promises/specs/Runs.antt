-- Runs of the shipped desk, with what is told of each call: the answer, and the lent buffer afterwards. Assumes nothing.
use Rattle.std.specs.Prelude.{List, [], ◌∷◌, ◌++◌, map, ℕ, replicate}
use Rattle.wire.specs.Bytes.{hex}
use Rattle.line.specs.Desk.{pass_at, enter, send, receive, leave}
use Rattle.line.specs.Stand.{trace}
use Rattle.line.specs.Alone.{listed_of}
use Rattle.transfer.specs.declared.Order.{Order}
use Rattle.transfer.specs.Coe.{Told}
use Rattle.desk.specs.Stand.{desk_stand, is_answered}
use Rattle.promises.specs.Finding.{number, emergency, done_of}
use Rattle.promises.specs.Standing.{Called, Deed}

abbrev pub told_from : ℕ → List Called → List Told
told_from c ks = map (λ (x : Deed). x.told) (trace desk_stand (desk_stand.fresh (pass_at c)) ks)

-- ---- orders

-- upload of 0x1018:01, with a budget
abbrev pub upload : ℕ → Order
upload budget = record { kind = 1; sub = 1; index = 0x1018; value = 0; len = 0; budget = budget }

-- download of the byte 08 to 0x6060:00
abbrev pub download : Order
download = record { kind = 3; sub = 0; index = 0x6060; value = 0x08; len = 1; budget = 1 }

-- object list of kind 1
abbrev pub list : Order
list = record { kind = 4; sub = 0; index = 1; value = 0; len = 0; budget = 9 }

-- the other kinds: 0x1018 with complete access, whatever sub-index is handed in; the quantities, whatever index is; and a download to
-- 0x6060 with complete access, of which a value of four bytes is handed in and one is sent
abbrev pub complete_upload : Order
complete_upload = record { kind = 2; sub = 5; index = 0x1018; value = 0; len = 0; budget = 1 }

abbrev pub quantities : Order
quantities = record { kind = 5; sub = 0; index = 5; value = 0; len = 0; budget = 1 }

abbrev pub complete_download : Order
complete_download = record { kind = 6; sub = 5; index = 0x6060; value = 0x11223308; len = 1; budget = 1 }

-- ---- buffers and replies

abbrev pub blank : ℕ → List ℕ
blank n = replicate n 0xee

-- 0x1018:01 is 0x12345678, in one reply
abbrev pub expedited : List ℕ
expedited = hex 16 0x0a000000001300304318100178563412

-- a complete size of 8, and no data: segments follow
abbrev pub segments_follow : List ℕ
segments_follow = hex 16 0x0a000000001300304118100108000000

-- segments of 2 bytes in a reply of 11, more to come; and of 4 bytes, the last
abbrev pub two : List ℕ
two = hex 11 0x050000000013003000a1a2

abbrev pub last_four : List ℕ
last_four = hex 13 0x070000000013003011b1b2b3b4

-- segments that bring no byte: more to come, and the last
abbrev pub empty : List ℕ
empty = hex 9 0x030000000013003000

abbrev pub last_empty : List ℕ
last_empty = hex 9 0x030000000013003001

-- fragments of a list: the first, of 4 bytes behind the list kind; the last, of 2
abbrev pub first_fragment : List ℕ
first_fragment = hex 18 0x0c00000000130080820001000100aabbccdd

abbrev pub last_fragment : List ℕ
last_fragment = hex 14 0x0a00000000130080020000001122

abbrev pub downloaded : List ℕ
downloaded = hex 16 0x0a000000001300306060600000000000

-- code 0x4210, register 8, and the bytes 01 to 05
abbrev pub overtemperature : List ℕ
overtemperature = hex 16 0x0a000000001300101042080102030405

-- ---- what is told

abbrev pub entered : Told
entered = (number 0x01, [])

abbrev pub left : Told
left = (number 0x03, [])

abbrev pub sent : List ℕ → Told
sent frame = (number 0x02, frame)

abbrev pub refused : ℕ → List ℕ → Told
refused n buffer = (number n, buffer)

abbrev pub alarmed : ℕ → ℕ → ℕ → List ℕ → Told
alarmed code register five buffer = ((emergency code register five).0, buffer)

-- one frame of a transfer that is then left
abbrev pub one_frame : List Called
one_frame = enter 3 (upload 1) ∷ send 3 (blank 16) ∷ leave 3 ∷ []

abbrev pub one_frame_with : ℕ → List Told
one_frame_with frame = entered ∷ sent (hex 16 frame) ∷ left ∷ []

-- a request, and its reply
abbrev pub exchange : List ℕ → List Called
exchange reply = send 0 (blank 16) ∷ receive 0 (reply, blank 8) ∷ []

-- an upload within three replies: segments follow, the first is empty, and what the third reply is told; the seat is free then
abbrev pub third_reply : List ℕ → Told → List Told × List Told
third_reply reply told = (
  told_from 1 (enter 0 (upload 3) ∷ exchange segments_follow ++ exchange empty ++ exchange reply ++ leave 0 ∷ []),
  entered
      ∷ sent (hex 16 0x0a000000001300204018100100000000)
      ∷ (number 0x01, blank 8)
      ∷ sent (hex 16 0x0a000000002300206000000000000000)
      ∷ (number 0x01, blank 8)
      ∷ sent (hex 16 0x0a000000003300207000000000000000)
      ∷ told
      ∷ refused 0x12 []
      ∷ [],
)

abbrev pub runs : List (List Told × List Told)
runs =
    -- (P) "Eighth frame: counter 1."
    (
      told_from 1 (one_frame ++ one_frame ++ one_frame ++ one_frame ++ one_frame ++ one_frame ++ one_frame ++ one_frame),
      one_frame_with 0x0a000000001300204018100100000000
          ++ one_frame_with 0x0a000000002300204018100100000000
          ++ one_frame_with 0x0a000000003300204018100100000000
          ++ one_frame_with 0x0a000000004300204018100100000000
          ++ one_frame_with 0x0a000000005300204018100100000000
          ++ one_frame_with 0x0a000000006300204018100100000000
          ++ one_frame_with 0x0a000000007300204018100100000000
          ++ one_frame_with 0x0a000000001300204018100100000000,
    )
    -- "Budget 2, first segment not last: 27.", and its chunk is not stored
    ∷ (
      told_from 1 (enter 0 (upload 2) ∷ exchange segments_follow ++ exchange two),
      entered
          ∷ sent (hex 16 0x0a000000001300204018100100000000)
          ∷ (number 0x01, blank 8)
          ∷ sent (hex 16 0x0a000000002300206000000000000000)
          ∷ (number 0x27, blank 8)
          ∷ [],
    )
    -- two segments: toggle 0, then 1; each chunk behind the one before; P is their sum
    ∷ (
      told_from 6
          (enter 0 (upload 3) ∷ send 0 (blank 16) ∷ receive 0 (segments_follow, blank 8) ∷ send 0 (blank 16) ∷ receive 0 (two, blank 8)
          ∷ send 0 (blank 16) ∷ receive 0 (last_four, hex 8 0xa1a2eeeeeeeeeeee) ∷ []),
      entered
          ∷ sent (hex 16 0x0a000000006300204018100100000000)
          ∷ (number 0x01, blank 8)
          ∷ sent (hex 16 0x0a000000007300206000000000000000)
          ∷ (number 0x01, hex 8 0xa1a2eeeeeeeeeeee)
          ∷ sent (hex 16 0x0a000000001300207000000000000000)
          ∷ (done_of 6, hex 8 0xa1a2b1b2b3b4eeee)
          ∷ [],
    )
    -- document 02, [12]: "A faulty drive" announces segments and sends empty ones. Of a budget of 3 the third reply, the second segment, is
    -- 27; and where that one is the last, done
    ∷ third_reply empty (refused 0x27 (blank 8))
    ∷ third_reply last_empty (done_of 0, blank 8)
    -- a list of two fragments: one request, two replies
    ∷ (
      told_from 1
          (enter 0 list ∷ send 0 (blank 17) ∷ receive 0 (first_fragment, blank 8) ∷ receive 0 (last_fragment, hex 8 0xaabbccddeeeeeeee) ∷ []),
      entered
          ∷ sent (hex 17 0x0800000000130080010000000100000000)
          ∷ (number 0x02, hex 8 0xaabbccddeeeeeeee)
          ∷ (done_of 6, hex 8 0xaabbccdd1122eeee)
          ∷ [],
    )
    -- a download
    ∷ (
      told_from 2 (enter 0 download ∷ send 0 (blank 16) ∷ receive 0 (downloaded, blank 2) ∷ []),
      entered ∷ sent (hex 16 0x0a000000002300202f60600008000000) ∷ (done_of 0, blank 2) ∷ [],
    )
    -- document 02, [5]: "A drive's overtemperature message" is told with code, register and the five bytes, in an upload's, a segment's and a
    -- download's place; the next frame goes out behind it. Byte 8 is not judged: a code of 0xff80 is no abort
    ∷ (
      told_from 1
          (enter 0 (upload 1) ∷ send 0 (blank 16) ∷ receive 0 (overtemperature, blank 4)
          ∷ enter 0 (upload 2) ∷ send 0 (blank 16) ∷ receive 0 (segments_follow, blank 8) ∷ send 0 (blank 16) ∷ receive 0 (overtemperature, blank 8)
          ∷ enter 0 download ∷ send 0 (blank 16) ∷ receive 0 (hex 16 0x0a0000000013001080ff20a1a2a3a4a5, blank 2) ∷ []),
      entered
          ∷ sent (hex 16 0x0a000000001300204018100100000000)
          ∷ alarmed 0x4210 8 0x0504030201 (blank 4)
          ∷ entered
          ∷ sent (hex 16 0x0a000000002300204018100100000000)
          ∷ (number 0x01, blank 8)
          ∷ sent (hex 16 0x0a000000003300206000000000000000)
          ∷ alarmed 0x4210 8 0x0504030201 (blank 8)
          ∷ entered
          ∷ sent (hex 16 0x0a000000004300202f60600008000000)
          ∷ alarmed 0xff80 0x20 0xa5a4a3a2a1 (blank 2)
          ∷ [],
    )
    -- 15 bytes of it are 20, in a segment's place too
    ∷ (
      told_from 1
          (enter 0 (upload 2) ∷ send 0 (blank 16) ∷ receive 0 (segments_follow, blank 8) ∷ send 0 (blank 16)
          ∷ receive 0 (hex 15 0x0a0000000013001010420801020304, blank 8) ∷ []),
      entered
          ∷ sent (hex 16 0x0a000000001300204018100100000000)
          ∷ (number 0x01, blank 8)
          ∷ sent (hex 16 0x0a000000002300206000000000000000)
          ∷ refused 0x20 (blank 8)
          ∷ [],
    )
    -- complete access, the quantities, and complete access again: each with the frame and the reply that its kind's number stands for
    ∷ (
      told_from 7
          (enter 0 complete_upload ∷ send 0 (blank 16) ∷ receive 0 (expedited, blank 5) ∷ enter 0 quantities ∷ send 0 (blank 16)
          ∷ receive 0 (hex 24 0x120000000013008002000000000001000200030004000501, blank 11) ∷ enter 0 complete_download
          ∷ send 0 (blank 16) ∷ receive 0 (hex 16 0x0a000000001300307060600100000000, blank 1) ∷ []),
      entered
          ∷ sent (hex 16 0x0a000000007300205018100100000000)
          ∷ (done_of 4, hex 5 0x78563412ee)
          ∷ entered
          ∷ sent (hex 16 0x08000000001300800100000000000000)
          ∷ (done_of 10, hex 11 0x01000200030004000501ee)
          ∷ entered
          ∷ sent (hex 16 0x0a000000002300203f60600108000000)
          ∷ (done_of 0, blank 1)
          ∷ [],
    )
    -- two tasks ask one drive at once: the second waits until the first is done, and gets its own record
    ∷ (
      told_from 1
          (enter 0 (upload 9) ∷ enter 1 (upload 9) ∷ send 0 (blank 16) ∷ send 1 (blank 16) ∷ receive 1 (expedited, blank 4)
          ∷ receive 0 (segments_follow, blank 8) ∷ send 1 (blank 16) ∷ send 0 (blank 16) ∷ receive 0 (last_four, blank 8) ∷ send 1 (blank 16)
          ∷ receive 1 (expedited, blank 4) ∷ []),
      entered
          ∷ entered
          ∷ sent (hex 16 0x0a000000001300204018100100000000)
          ∷ refused 0x13 (blank 16)
          ∷ refused 0x13 (blank 4)
          ∷ (number 0x01, blank 8)
          ∷ refused 0x13 (blank 16)
          ∷ sent (hex 16 0x0a000000002300206000000000000000)
          ∷ (done_of 4, hex 8 0xb1b2b3b4eeeeeeee)
          ∷ sent (hex 16 0x0a000000003300204018100100000000)
          ∷ (done_of 4, hex 4 0x78563412)
          ∷ [],
    )
    -- 10 to 16, each where the next would be given too, and a frame after them with the counter that was due
    ∷ (
      told_from 1
          (send 8 [] ∷ enter 0 (upload 1) ∷ enter 0 (upload 0) ∷ enter 1 (upload 0) ∷ send 1 [] ∷ enter 1 (upload 1) ∷ send 1 []
          ∷ receive 0 (hex 1487 0, []) ∷ send 0 (blank 15) ∷ send 0 (blank 16) ∷ []),
      refused 0x10 []
          ∷ entered
          ∷ refused 0x11 []
          ∷ refused 0x15 []
          ∷ refused 0x12 []
          ∷ entered
          ∷ refused 0x13 []
          ∷ refused 0x14 []
          ∷ refused 0x16 (blank 15)
          ∷ sent (hex 16 0x0a000000001300204018100100000000)
          ∷ [],
    )
    -- all eight seats, from 7 down: each is taken, the first that entered is the head, and the next one once it has left
    ∷ (
      told_from 1
          (enter 7 (upload 1) ∷ enter 6 (upload 1) ∷ enter 5 (upload 1) ∷ enter 4 (upload 1) ∷ enter 3 (upload 1) ∷ enter 2 (upload 1)
          ∷ enter 1 (upload 1) ∷ enter 0 (upload 1) ∷ enter 8 (upload 1) ∷ enter 7 (upload 1) ∷ enter 0 (upload 1) ∷ send 6 (blank 16)
          ∷ send 0 (blank 16) ∷ send 7 (blank 16) ∷ leave 5 ∷ send 5 (blank 16) ∷ leave 7 ∷ send 7 (blank 16) ∷ send 4 (blank 16)
          ∷ send 6 (blank 16) ∷ enter 7 (upload 1) ∷ send 7 (blank 16) ∷ []),
      entered ∷ entered ∷ entered ∷ entered ∷ entered ∷ entered ∷ entered ∷ entered
          ∷ refused 0x10 []
          ∷ refused 0x11 []
          ∷ refused 0x11 []
          ∷ refused 0x13 (blank 16)
          ∷ refused 0x13 (blank 16)
          ∷ sent (hex 16 0x0a000000001300204018100100000000)
          ∷ left
          ∷ refused 0x12 (blank 16)
          ∷ left
          ∷ refused 0x12 (blank 16)
          ∷ refused 0x13 (blank 16)
          ∷ sent (hex 16 0x0a000000002300204018100100000000)
          ∷ entered
          ∷ refused 0x13 (blank 16)
          ∷ [],
    )
    ∷ []

-- ---- demand 3's list

abbrev did : Called → Told → Deed
did k t = record { call = k; told = t }

-- one upload of 0x1018:01 in one reply, as it is listed, with its frame
abbrev uploaded : ℕ → ℕ → List Deed
uploaded s frame =
    did (enter s (upload 9)) entered
    ∷ did (send s (blank 16)) (sent (hex 16 frame))
    ∷ did (receive s (expedited, blank 4)) (done_of 4, hex 4 0x78563412)
    ∷ []

-- calls from a fresh desk, and the transfers that are listed of them: by order of entry, each with its own accepted calls and what was told
abbrev pub listings : List (List (List Deed) × List (List Deed))
listings =
    -- seats 5 and 3 interleaved, with calls that are refused; seat 6 never sends, and leaves; then seat 5 is used again, while 3 is the head
    (
      listed_of desk_stand is_answered
          (enter 5 (upload 9) ∷ enter 6 download ∷ enter 3 (upload 9) ∷ send 3 (blank 16) ∷ send 5 (blank 16) ∷ receive 3 (expedited, blank 4)
          ∷ receive 5 (expedited, blank 4) ∷ leave 6 ∷ send 3 (blank 16) ∷ enter 5 (upload 9) ∷ send 5 (blank 16)
          ∷ receive 3 (expedited, blank 4) ∷ send 5 (blank 16) ∷ receive 5 (expedited, blank 4) ∷ leave 5 ∷ []),
      uploaded 5 0x0a000000001300204018100100000000
          ∷ uploaded 3 0x0a000000002300204018100100000000
          ∷ uploaded 5 0x0a000000003300204018100100000000
          ∷ [],
    )
    -- a transfer that has sent is listed as far as it went: left by its task, or still under way
    ∷ (
      listed_of desk_stand is_answered (enter 0 list ∷ send 0 (blank 16) ∷ enter 1 list ∷ leave 0 ∷ send 1 (blank 16) ∷ []),
      (did (enter 0 list) entered ∷ did (send 0 (blank 16)) (sent (hex 16 0x08000000001300800100000001000000)) ∷ did (leave 0) left ∷ [])
          ∷ (did (enter 1 list) entered ∷ did (send 1 (blank 16)) (sent (hex 16 0x08000000002300800100000001000000)) ∷ [])
          ∷ [],
    )
    ∷ []
