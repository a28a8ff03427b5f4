-- What the exported judge answers and leaves, kind by kind, as one list: the answer and the whole data buffer. One statement says of all of
-- them that the two are the same; antt computes it. Assumes nothing.
use Rattle.std.specs.Prelude.{◌≡◌, refl, List, [], ◌∷◌, map, ℕ}
use Rattle.wire.specs.Bytes.{hex}
use Rattle.wire.specs.Fields.{read}
use Rattle.mailbox.specs.Numbers.{priority_of, type_of, service_of, command_of, operation_of}
use Rattle.mailbox.specs.Headers.{read_mailbox_header, read_coe_header, read_sdo_header, read_segmented, read_sdo_info}
use Rattle.judge.specs.Answers.{plain_of, done_with, answer_of}
use Rattle.judge.specs.Headers.{read_front, read_headers, read_segment_headers, read_information_headers, wrong_type, wrong_address}
use Rattle.judge.specs.Alarm.{message_in, emergency_in, abort_in}
use Rattle.judge.specs.Chunk.{lacking, chunk_at}
use Rattle.judge.specs.Reply.{in_order, reply_to}
use Rattle.judge.specs.Download.{download_of, judge_download}
use Rattle.judge.specs.Upload.{expedited_of, whole_of, normal_of, upload_of, judge_upload}
use Rattle.judge.specs.Segment.{chunk_length, segment_of, judge_segment}
use Rattle.judge.specs.Information.{fragment_at, fragment_of, judge_list}
use Rattle.judge.specs.Storage.{stored}
use Rattle.judge.specs.Examples.{Shown, blank, emergency_with, overtemperature}
use Rattle.transfer.specs.Judgement.{judge_reply}
use Rattle.linked.specs.Judging.{asked, told_of, went_on, ruling_for, given_by}

-- 0x1018:01 is asked for, and a buffer of 6 bytes 0xee is lent
abbrev pub answered : ℕ → ℕ → List ℕ → Shown
answered kind earlier s = given_by (ruling_for kind 0x1018 1 earlier s (blank 6)) (blank 6)

abbrev pub examples : List (Shown × Shown)
examples =
    -- an upload's data lie at the start, whatever `earlier` is; where segments follow there is no chunk yet
    (answered 1 2 (hex 14 0x0a000000001300304b181001aabb), (done_with 2, hex 6 0xaabbeeeeeeee))
    ∷ (answered 1 0 (hex 16 0x0a000000001300304018100106000000), (went_on 0x01 0 0, blank 6))
    ∷ (answered 3 0 (hex 16 0x0a000000001300306018100100000000), (done_with 0, blank 6))
    -- a segment's chunk lies behind the earlier ones; 01 names the chunk, and 00 the sum
    ∷ (answered 7 3 (hex 11 0x050000000013003000aabb), (went_on 0x01 0 2, hex 6 0xeeeeeeaabbee))
    ∷ (answered 7 3 (hex 11 0x050000000013003001aabb), (done_with 5, hex 6 0xeeeeeeaabbee))
    -- a list's first fragment begins at byte 14 and the later ones at 12; 02 names the chunk, and that the list has begun
    ∷ (answered 4 0 (hex 16 0x0a0000000013008082000100aabbccdd), (went_on 0x02 1 2, hex 6 0xccddeeeeeeee))
    ∷ (answered 8 2 (hex 16 0x0a0000000013008082000100aabbccdd), (went_on 0x02 1 2, hex 6 0xeeeeaabbeeee))
    ∷ (answered 8 2 (hex 16 0x0a0000000013008002000000aabbccdd), (done_with 4, hex 6 0xeeeeaabbeeee))
    -- an operation other than 2: the list has begun where it had before
    ∷ (answered 4 0 (hex 12 0x0a0000000013008003000000), (went_on 0x02 0 0, blank 6))
    ∷ (answered 8 2 (hex 12 0x0a0000000013008003000000), (went_on 0x02 1 0, blank 6))
    -- document 02, [5]: an emergency's code, register and five bytes, whatever was asked; a list takes service 1 as any other
    ∷ (answered 1 0 overtemperature, (emergency_with 0x4210 8 0x0504030201, blank 6))
    ∷ (answered 3 0 overtemperature, (emergency_with 0x4210 8 0x0504030201, blank 6))
    ∷ (answered 7 2 overtemperature, (emergency_with 0x4210 8 0x0504030201, blank 6))
    ∷ (answered 8 2 (hex 14 0x0a00000000130010020000001122), (done_with 4, hex 6 0xeeee1122eeee))
    -- refusals
    ∷ (answered 7 2 (hex 15 0x0a0000000013001010420801020304), (plain_of 0x20, blank 6))
    ∷ (answered 2 0 (hex 14 0x0a000000001300304b181001aabb), (plain_of 0x15, blank 6))
    ∷ (answered 7 5 (hex 11 0x050000000013003000aabb), (plain_of 0x25, blank 6))
    ∷ []

pub examples_hold : map (λ (e : Shown × Shown). e.0) examples ≡ map (λ (e : Shown × Shown). e.1) examples
unfolding read priority_of type_of service_of command_of operation_of read_mailbox_header read_coe_header read_sdo_header read_segmented read_sdo_info answer_of read_front read_headers read_segment_headers read_information_headers wrong_type wrong_address message_in emergency_in abort_in lacking chunk_at in_order reply_to download_of judge_download expedited_of whole_of normal_of upload_of judge_upload chunk_length segment_of judge_segment fragment_at fragment_of judge_list stored judge_reply asked told_of ruling_for
examples_hold = refl
