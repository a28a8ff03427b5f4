-- Whole order files and what is printed for them, closed by computation: characters as their numbers, a line end 0a. Assumes nothing.
use Rattle.std.specs.Prelude.{ℕ, ◌≡◌, refl, List, [], ◌∷◌, map}
use Rattle.wire.specs.Bytes.{hex}
use Rattle.wire.specs.Front.{in_front}
use Rattle.wire.specs.Fields.{read, packed}
use Rattle.mailbox.specs.Numbers.{priority_of, type_of, service_of, command_of, operation_of}
use Rattle.mailbox.specs.Headers.{read_mailbox_header, read_coe_header, read_sdo_header, read_segmented, read_sdo_info}
use Rattle.services.specs.Requests.{packed_of, cut_to}
use Rattle.judge.specs.Answers.{answer_of}
use Rattle.judge.specs.Headers.{read_front, read_headers, read_segment_headers, read_information_headers, wrong_type, wrong_address}
use Rattle.judge.specs.Alarm.{message_in, emergency_in, abort_in}
use Rattle.judge.specs.Chunk.{lacking, chunk_at}
use Rattle.judge.specs.Reply.{in_order, reply_to}
use Rattle.judge.specs.Download.{download_of, judge_download}
use Rattle.judge.specs.Upload.{expedited_of, whole_of, normal_of, upload_of, judge_upload}
use Rattle.judge.specs.Segment.{chunk_length, segment_of, judge_segment}
use Rattle.judge.specs.Information.{fragment_at, fragment_of, judge_list}
use Rattle.judge.specs.Storage.{stored}
use Rattle.line.specs.Machine.{and_then}
use Rattle.line.specs.Line.{seated, find, headed, head, vacate, place}
use Rattle.line.specs.Desk.{judge, step}
use Rattle.line.specs.Desk as line
use Rattle.transfer.specs.Entry.{kind_of, outside, unfit_of}
use Rattle.transfer.specs.Due.{first_request, first_reply, due_of, request_due, awaiting_of}
use Rattle.transfer.specs.Judgement.{judge_reply, judged_as, next_of}
use Rattle.transfer.specs.Judgement as budget
use Rattle.transfer.specs.Coe.{begins_with, sends_with, judged, receives_with}
use Rattle.desk.specs.Record.{view_of, desk_of}
use Rattle.desk.specs.Calls.{answer_for, lent_after}
use Rattle.order_text.specs.Digits.{digit_of, char_of, byte_of}
use Rattle.order_text.specs.Lines.{has_bad, bytes_of, line_of}
use Rattle.order_text.specs.Text.{hex_text}
use Rattle.order_run.specs.Entry.{is_form, form_of}
use Rattle.order_run.specs.Turns.{called, lent_back, line_text, text_of, request, after_receive, after_reply, kept_reply, after_frame, kept_frame, after_all}
use Rattle.order_run.specs.Printed.{lines_in, said, printed}

-- 01181001, and the requests that it prints
abbrev upload : List ℕ
upload = hex 4 0x01181001

abbrev upload_request : List ℕ
upload_request = hex 16 0x0a000000001300204018100100000000

abbrev first_segment_request : List ℕ
first_segment_request = hex 16 0x0a000000002300206000000000000000

unfoldable pub files : List (List ℕ × List ℕ)
files =
    -- the document's example
    (printed (hex 42 0x30313138313030310a30613030303030303030313330303330343331383130303137383536333431320a), hex 44 0x30613030303030303030313330303230343031383130303130303030303030300a303037383536333431320a)
    -- "Replies used up: it leaves, 03.", with a last line that lacks its line end
    ∷ (printed (hex 8 0x3031313831303031), hex 36 0x30613030303030303030313330303230343031383130303130303030303030300a30330a)
    -- "Surplus lines are not read.", whatever they hold
    ∷ (printed (hex 47 0x303336303630303030380a30613030303030303030313330303330363036303630303030303030303030300a58580a), hex 36 0x30613030303030303030313330303230326636303630303030383030303030300a30300a)
    -- "a bad entry (none at all, no listed form, or answered 15)": ff
    ∷ (printed [], hex 3 0x66660a)
    ∷ (printed (hex 3 0x30360a), hex 3 0x66660a)
    ∷ (printed (hex 5 0x303430300a), hex 3 0x66660a)
    -- "The first character that is not lower-case hexadecimal, an odd line": the request before it stays printed
    ∷ (printed (hex 12 0x30313138313030310a30410a), hex 36 0x30613030303030303030313330303230343031383130303130303030303030300a66660a)
    ∷ (printed (hex 13 0x30313138313030310a3061300a), hex 36 0x30613030303030303030313330303230343031383130303130303030303030300a66660a)
    -- a refused reply: its number, and no payload
    ∷ (printed (hex 14 0x30313138313030310a306130300a), hex 36 0x30613030303030303030313330303230343031383130303130303030303030300a32300a)
    -- a drive's name, "AX5112 servo drive", in segments of 7 bytes, of the last 3 unused: "It prints each request", with toggle 0, 1 and 0,
    -- and the joined payload
    ∷ (
      printed
          (text_of
          (hex 4 0x01081000
          ∷ hex 16 0x0a000000001300304108100012000000
          ∷ hex 16 0x0a000000001300300041583531313220
          ∷ hex 16 0x0a0000000013003010736572766f2064
          ∷ hex 16 0x0a000000001300300772697665000000
          ∷ [])),
      text_of
          (hex 16 0x0a000000001300204008100000000000
          ∷ first_segment_request
          ∷ hex 16 0x0a000000003300207000000000000000
          ∷ hex 16 0x0a000000004300206000000000000000
          ∷ hex 19 0x0041583531313220736572766f206472697665
          ∷ []),
    )
    -- a list: of an operation other than 2, nothing; then two fragments, the first answered 02
    ∷ (
      printed
          (text_of
          (hex 2 0x0401 ∷ hex 12 0x080000000013008001000000 ∷ hex 18 0x0c00000000130080820001000100aabbccdd ∷ hex 14 0x0a00000000130080020000001122 ∷ [])),
      text_of (hex 16 0x08000000001300800100000001000000 ∷ hex 7 0x00aabbccdd1122 ∷ []),
    )
    -- an emergency and an abort: the number alone
    ∷ (printed (text_of (upload ∷ hex 16 0x0a000000001300101042080102030405 ∷ [])), text_of (upload_request ∷ hex 1 0x21 ∷ []))
    ∷ (printed (text_of (upload ∷ hex 16 0x0a000000001300308018100100000206 ∷ [])), text_of (upload_request ∷ hex 1 0x22 ∷ []))
    -- "a data buffer of 4,096 bytes": a complete size of 4,096 goes on, and one of 4,097 is 24
    ∷ (printed (text_of (upload ∷ hex 16 0x0a000000001300304118100100100000 ∷ [])), text_of (upload_request ∷ first_segment_request ∷ hex 1 0x03 ∷ []))
    ∷ (printed (text_of (upload ∷ hex 16 0x0a000000001300304118100101100000 ∷ [])), text_of (upload_request ∷ hex 1 0x24 ∷ []))
    ∷ []

pub files_hold : map (λ (e : List ℕ × List ℕ). e.0) files ≡ map (λ (e : List ℕ × List ℕ). e.1) files
unfolding files lines_in said printed called lent_back line_text request after_receive after_reply kept_reply after_frame kept_frame after_all is_form form_of digit_of char_of byte_of has_bad bytes_of line_of hex_text step judge line.settled and_then seated find headed head vacate place view_of desk_of answer_for lent_after begins_with unfit_of kind_of outside sends_with receives_with judged judged_as budget.budgeted next_of due_of request_due awaiting_of first_request first_reply judge_reply packed_of packed cut_to read priority_of type_of service_of command_of operation_of read_mailbox_header read_coe_header read_sdo_header read_segmented read_sdo_info answer_of read_front read_headers read_segment_headers read_information_headers wrong_type wrong_address message_in emergency_in abort_in lacking chunk_at in_order reply_to download_of judge_download expedited_of whole_of normal_of upload_of judge_upload chunk_length segment_of judge_segment fragment_at fragment_of judge_list stored in_front
files_hold = refl
