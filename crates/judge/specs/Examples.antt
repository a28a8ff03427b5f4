-- The (P) examples of document 01 that speak of replies, those of requests [1] and [5] of document 02, and one for each number and rule, as one
-- list: what is judged, and what is to come out, the answer and the whole data buffer. One statement says of all of them that the two are
-- the same; antt computes it. Assumes nothing.
use Rattle.std.specs.Prelude.{◌≡◌, refl, true, List, [], ◌∷◌, map, ℕ, replicate}
use Rattle.wire.specs.Bytes.{hex}
use Rattle.wire.specs.Fields.{read}
use Rattle.mailbox.specs.Numbers.{priority_of, type_of, service_of, command_of, operation_of}
use Rattle.mailbox.specs.Headers.{read_mailbox_header, read_coe_header, read_sdo_header, read_segmented, read_sdo_info}
use Rattle.judge.specs.Answers.{plain_of, done_with, answer_of}
use Rattle.judge.specs.Headers.{read_front, read_headers, read_segment_headers, read_information_headers, wrong_type, wrong_address}
use Rattle.judge.specs.Alarm.{message_in, emergency_in, abort_in}
use Rattle.judge.specs.Chunk.{lacking, chunk_at}
use Rattle.judge.specs.Reply.{in_order, reply_to}
use Rattle.judge.specs.Download.{download_of, judge_download}
use Rattle.judge.specs.Upload.{expedited_of, whole_of, normal_of, upload_of, judge_upload}
use Rattle.judge.specs.Segment.{chunk_length, segment_of, judge_segment}
use Rattle.judge.specs.Information.{fragment_at, fragment_of, judge_list}
use Rattle.judge.specs.Storage.{stored}
use Rattle.judge.specs.Replies.{Judge, by_segments, by_fragments, SoFar, fresh, judged_in, next, after}
use Rattle.judge.specs.declared.Verdict.{Verdict}
use Rattle.judge.specs.declared.Answer.{Answer}

-- an answer, and the data buffer afterwards
abbrev pub Shown : Type 0
Shown = Answer × List ℕ

abbrev pub blank : ℕ → List ℕ
blank n = replicate n 0xee

abbrev pub shown : Verdict → List ℕ → List ℕ → Shown
shown v s d = (answer_of v, stored v s 0 d)

-- 0x1018:01 is asked for, and a buffer of n bytes 0xee is lent
abbrev pub upload : ℕ → List ℕ → Shown
upload n s = shown (judge_upload 0x1018 1 n s) s (blank n)

abbrev pub download : ℕ → List ℕ → Shown
download n s = shown (judge_download 0x1018 1 s) s (blank n)

-- what the last of some replies leaves
abbrev pub last_in : Judge → SoFar → List ℕ → Shown
last_in judge r s = (answer_of (judged_in judge r s), (next judge r s).buffer)

abbrev pub segments : ℕ → List (List ℕ) → List ℕ → Shown
segments n before s = last_in by_segments (after by_segments (fresh (blank n)) before) s

abbrev pub fragments : ℕ → List (List ℕ) → List ℕ → Shown
fragments n before s = last_in by_fragments (after by_fragments (fresh (blank n)) before) s

abbrev pub emergency_with : ℕ → ℕ → ℕ → Answer
emergency_with code register five = record { number = 0x21; sub = register; index = 0; code = code; length = 0; «data» = five }

abbrev pub aborted_with : ℕ → ℕ → ℕ → Answer
aborted_with code index sub = record { number = 0x22; sub = sub; index = index; code = code; length = 0; «data» = 0 }

-- segments: 7 bytes of which 2 are unused; 6 bytes with an unused count that plays no part; the same as the last
abbrev pub five : List ℕ
five = hex 16 0x0a000000001300300401020304050607

abbrev pub six : List ℕ
six = hex 15 0x090000000013003016111213141516

abbrev pub last_six : List ℕ
last_six = hex 15 0x090000000013003017111213141516

abbrev pub overtemperature : List ℕ
overtemperature = hex 16 0x0a000000001300101042080102030405

-- of a list: the first reply, incomplete; a later one, complete; and one of operation 7
abbrev pub first_fragment : List ℕ
first_fragment = hex 18 0x0c00000000130080820001000100aabbccdd

abbrev pub last_fragment : List ℕ
last_fragment = hex 14 0x0a00000000130080020000001122

abbrev pub elsewhere : List ℕ
elsewhere = hex 16 0x0a0000000013008007000000aabbccdd

abbrev pub Example : Type 0
Example = Shown × Shown

abbrev pub examples : List Example
examples =
    -- "0a000000001300304318100178563412": the order program's example
    (upload 4 (hex 16 0x0a000000001300304318100178563412), (done_with 4, hex 4 0x78563412))
    -- (P) "Reply of 11 bytes: 20; of 12 bytes with type 6: 20.": of an upload, a download and a list
    ∷ (upload 4 (hex 11 0x0a00000000130030431810), (plain_of 0x20, blank 4))
    ∷ (upload 4 (hex 12 0x0a0000000016003043181001), (plain_of 0x20, blank 4))
    ∷ (download 4 (hex 11 0x0a00000000130030601810), (plain_of 0x20, blank 4))
    ∷ (fragments 4 [] (hex 11 0x0800000000130080020000), (plain_of 0x20, blank 4))
    -- document 02, [1]: "20 now starts below 9 bytes there". 8 bytes are 20; 9 with length 3 an empty chunk; of 11 two are used, and P = 2
    ∷ (segments 4 [] (hex 8 0x0300000000130030), (plain_of 0x20, blank 4))
    ∷ (segments 4 [] (hex 9 0x030000000013003001), (done_with 0, blank 4))
    ∷ (segments 4 [] (hex 11 0x0a000000001300300b6162), (done_with 2, hex 4 0x6162eeee))
    -- all rules for a segment of 9 to 11 bytes: type 6, service 9, specifier 5; service 1, specifier 4; type 4; a byte that is not there
    ∷ (segments 4 [] (hex 9 0x030000000016003001), (plain_of 0x20, blank 4))
    ∷ (segments 4 [] (hex 9 0x030000000013009001), (plain_of 0x20, blank 4))
    ∷ (segments 4 [] (hex 9 0x0300000000130030a1), (plain_of 0x20, blank 4))
    ∷ (segments 4 [] (hex 9 0x030000000013001001), (plain_of 0x20, blank 4))
    ∷ (segments 4 [] (hex 9 0x030000000013003081), (plain_of 0x20, blank 4))
    ∷ (segments 4 [] (hex 9 0x030000000014003001), (plain_of 0x23, blank 4))
    ∷ (segments 4 [] (hex 9 0x020000000013003001), (plain_of 0x26, blank 4))
    ∷ (segments 4 [] (hex 10 0x0a000000001300300b61), (plain_of 0x25, blank 4))
    -- unlisted: service 0, service 9, specifier 5
    ∷ (upload 4 (hex 16 0x0a000000001300004318100178563412), (plain_of 0x20, blank 4))
    ∷ (upload 4 (hex 16 0x0a000000001300904318100178563412), (plain_of 0x20, blank 4))
    ∷ (upload 4 (hex 16 0x0a00000000130030a318100178563412), (plain_of 0x20, blank 4))
    -- (P) "Complete size N goes on; N + 1 is 24."
    ∷ (upload 8 (hex 16 0x0a000000001300304118100108000000), (plain_of 0x01, blank 8))
    ∷ (upload 8 (hex 16 0x0a000000001300304118100109000000), (plain_of 0x24, blank 8))
    -- of a normal upload 15 bytes are 20; P is D and not the complete size, also where it is above N; missing bytes are 25
    ∷ (upload 8 (hex 15 0x0a0000000013003041181001080000), (plain_of 0x20, blank 8))
    ∷ (upload 6 (hex 20 0x0e000000001300304118100102000000aabbccdd), (done_with 4, hex 6 0xaabbccddeeee))
    ∷ (upload 3 (hex 20 0x0e000000001300304118100102000000aabbccdd), (done_with 4, hex 3 0xaabbcc))
    ∷ (upload 6 (hex 19 0x0e000000001300304118100102000000aabbcc), (plain_of 0x25, blank 6))
    -- a length field below 10 counts as D = 0
    ∷ (upload 6 (hex 18 0x09000000001300304118100100000000aabb), (done_with 0, blank 6))
    -- (P) "Expedited, size 3, indicator clear: P = 1."
    ∷ (upload 4 (hex 16 0x0a000000001300304e18100178563412), (done_with 1, hex 4 0x78eeeeee))
    -- expedited: as far as N reaches; missing bytes are 25
    ∷ (upload 2 (hex 16 0x0a000000001300304318100178563412), (done_with 4, hex 2 0x7856))
    ∷ (upload 4 (hex 15 0x0a0000000013003043181001785634), (plain_of 0x25, blank 4))
    -- (P) "Segment length 10, unused 7: chunk 0. Length 11, unused 7: chunk 8. Length 2: 26."
    ∷ (segments 8 [] (hex 9 0x0a000000001300300f), (done_with 0, blank 8))
    ∷ (segments 8 [] (hex 17 0x0b000000001300300f0102030405060708), (done_with 8, hex 8 0x0102030405060708))
    ∷ (segments 8 [] (hex 17 0x02000000001300300f0102030405060708), (plain_of 0x26, blank 8))
    -- only a chunk of exactly 7 loses the unused count: 5 bytes of 7, then 6 of 6; then the last, and the sum
    ∷ (segments 18 [] five, (plain_of 0x01, hex 18 0x0102030405eeeeeeeeeeeeeeeeeeeeeeeeee))
    ∷ (segments 18 (five ∷ []) six, (plain_of 0x01, hex 18 0x0102030405111213141516eeeeeeeeeeeeee))
    ∷ (segments 18 (five ∷ six ∷ []) last_six, (done_with 17, hex 18 0x0102030405111213141516111213141516ee))
    -- a segment's bytes that are not there, and that do not fit behind the earlier ones
    ∷ (segments 18 [] (hex 14 0x0900000000130030161112131415), (plain_of 0x25, blank 18))
    ∷ (segments 16 (five ∷ six ∷ []) last_six, (plain_of 0x25, hex 16 0x0102030405111213141516eeeeeeeeee))
    -- document 02, [5]: "A drive's overtemperature message": code 0x4210, register 8, and five bytes
    ∷ (upload 4 overtemperature, (emergency_with 0x4210 8 0x0504030201, blank 4))
    ∷ (download 4 overtemperature, (emergency_with 0x4210 8 0x0504030201, blank 4))
    ∷ (segments 4 [] overtemperature, (emergency_with 0x4210 8 0x0504030201, blank 4))
    -- "the header reading must not judge byte 8 when the service is 1": an abort's specifier, an unlisted one; before the type, which is
    -- listed and not 3; an unlisted type is 20
    ∷ (upload 4 (hex 16 0x0a0000000014001080125600000000ff), (emergency_with 0x1280 0x56 0xff00000000, blank 4))
    ∷ (download 4 (hex 16 0x0a00000000130010a1ff800000000001), (emergency_with 0xffa1 0x80 0x0100000000, blank 4))
    ∷ (segments 4 [] (hex 16 0x0a00000000150010ff000001000000ff), (emergency_with 0x00ff 0 0xff00000001, blank 4))
    ∷ (upload 4 (hex 16 0x0a000000001600101042080102030405), (plain_of 0x20, blank 4))
    ∷ (segments 4 [] (hex 16 0x0a000000001600101042080102030405), (plain_of 0x20, blank 4))
    -- "An emergency under 16 bytes is 20"; the length field and bytes past 15 are not looked at
    ∷ (upload 4 (hex 15 0x0a0000000013001010420801020304), (plain_of 0x20, blank 4))
    ∷ (download 4 (hex 15 0x0a0000000013001010420801020304), (plain_of 0x20, blank 4))
    ∷ (segments 4 [] (hex 15 0x0a0000000013001010420801020304), (plain_of 0x20, blank 4))
    ∷ (upload 4 (hex 20 0x0000000000130010104208010203040511121314), (emergency_with 0x4210 8 0x0504030201, blank 4))
    -- specifier 4: code at 12-15, the reply's own index and sub-index, before the type; 15 bytes are 20
    ∷ (upload 4 (hex 16 0x0a000000001400308000200300000206), (aborted_with 0x06020000 0x2000 3, blank 4))
    ∷ (download 4 (hex 16 0x0a000000001300308000200300000206), (aborted_with 0x06020000 0x2000 3, blank 4))
    ∷ (segments 4 [] (hex 16 0x0a000000001300308018100100000305), (aborted_with 0x05030000 0x1018 1, blank 4))
    ∷ (segments 4 [] (hex 15 0x0a0000000013003080181001000003), (plain_of 0x20, blank 4))
    ∷ (upload 4 (hex 15 0x0a0000000013003080002003000002), (plain_of 0x20, blank 4))
    -- wrong type, index, sub-index
    ∷ (upload 4 (hex 16 0x0a000000001400304318100178563412), (plain_of 0x23, blank 4))
    ∷ (upload 4 (hex 16 0x0a000000001300304319100178563412), (plain_of 0x23, blank 4))
    ∷ (upload 4 (hex 16 0x0a000000001300304318100278563412), (plain_of 0x23, blank 4))
    -- of a segment the type alone
    ∷ (segments 18 [] (hex 16 0x0a000000001400300401020304050607), (plain_of 0x23, blank 18))
    -- a download of 16 bytes is done, of 15 it is 20; wrong index: 23
    ∷ (download 4 (hex 16 0x0a000000001300306018100100000000), (done_with 0, blank 4))
    ∷ (download 4 (hex 15 0x0a0000000013003060181001000000), (plain_of 0x20, blank 4))
    ∷ (download 4 (hex 16 0x0a000000001300306019100100000000), (plain_of 0x23, blank 4))
    -- a list in two fragments: the first chunk from 14, the later one from 12; operation 7 between and before stores nothing
    ∷ (fragments 8 [] first_fragment, (plain_of 0x02, hex 8 0xaabbccddeeeeeeee))
    ∷ (fragments 8 (first_fragment ∷ []) last_fragment, (done_with 6, hex 8 0xaabbccdd1122eeee))
    ∷ (fragments 8 (first_fragment ∷ []) elsewhere, (plain_of 0x02, hex 8 0xaabbccddeeeeeeee))
    ∷ (fragments 8 (elsewhere ∷ first_fragment ∷ []) last_fragment, (done_with 6, hex 8 0xaabbccdd1122eeee))
    -- length below 8; an empty chunk is there; missing bytes; no room
    ∷ (fragments 8 [] (hex 16 0x0700000000130080020000000100aabb), (plain_of 0x26, blank 8))
    ∷ (fragments 8 [] (hex 12 0x080000000013008002000000), (done_with 0, blank 8))
    ∷ (fragments 8 [] (hex 17 0x0c00000000130080820001000100aabbcc), (plain_of 0x25, blank 8))
    ∷ (fragments 5 (first_fragment ∷ []) last_fragment, (plain_of 0x25, hex 5 0xaabbccddee))
    -- an empty chunk too has to fit behind the earlier ones, where a shorter buffer is lent later
    ∷ (shown (judge_list true 6 5 (hex 12 0x080000000013008002000000)) (hex 12 0x080000000013008002000000) (blank 5), (plain_of 0x25, blank 5))
    -- an abort reads as operation 0: 20. Any listed type and service will do
    ∷ (fragments 8 [] (hex 16 0x0a000000001300308018100100000206), (plain_of 0x20, blank 8))
    ∷ (fragments 8 [] (hex 16 0x0a00000000150010020000000100aabb), (done_with 2, hex 8 0xaabbeeeeeeeeeeee))
    ∷ []

pub examples_hold : map (λ (e : Example). e.0) examples ≡ map (λ (e : Example). e.1) examples
unfolding read priority_of type_of service_of command_of operation_of read_mailbox_header read_coe_header read_sdo_header read_segmented read_sdo_info answer_of read_front read_headers read_segment_headers read_information_headers wrong_type wrong_address message_in emergency_in abort_in lacking chunk_at in_order reply_to download_of judge_download expedited_of whole_of normal_of upload_of judge_upload chunk_length segment_of judge_segment fragment_at fragment_of judge_list stored
examples_hold = refl
