-- Each judgement by its cases: what holds of every verdict that a kind can have, with what is known of its chunk there, holds of the
-- judgement. Assumes nothing.
use mathlib.Core.Path.{◌≡◌, refl}
use mathlib.Core.Bool.{Bool, true, false, not}
use mathlib.Core.List.{List}
use Prim.Native.Nat.{ℕ, ◌+◌, ◌-◌, ◌≤◌}
use native.Mathlib.Omega.{arith}
use borrow.Author.Tests.{ltb-false, eqb-true}
use lib.Dec.{ltb, leb, eqb}
use lib.ListN.{length}
use Rattle.std.specs.Prelude.{Result, Ok, Err, Option, Some, None}
use Rattle.wire.specs.Words.{pick}
use Rattle.wire.proofs.Cases.{by}
use Rattle.wire.specs.Refusal.{number_of}
use Rattle.wire.specs.declared.refusal.Refusal.{Refusal}
use Rattle.wire.specs.declared.refusal.Refusal.TheVariants.{Undecodable, WrongReply, TooLarge, MissingBytes, LengthField}
use Rattle.mailbox.specs.Fields.{the, complete_size}
use Rattle.mailbox.specs.Numbers.{command_number, operation_number}
use Rattle.mailbox.specs.declared.numbers.CoeCommand.{CoeCommand}
use Rattle.mailbox.specs.declared.sdo.SdoHeader.{SdoHeader}
use Rattle.mailbox.specs.declared.segment.SdoHeaderSegmented.{SdoHeaderSegmented}
use Rattle.mailbox.specs.declared.information.SdoInfoHeader.{SdoInfoHeader}
use Rattle.judge.specs.Places.{emergency_least, abort_least, download_least, expedited_at, normal_at, normal_least, segment_at}
use Rattle.judge.specs.Headers.{read_headers, read_segment_headers, read_information_headers, wrong_type, wrong_address}
use Rattle.judge.specs.Alarm.{emergency_in, abort_in}
use Rattle.judge.specs.Chunk.{lacking, chunk_at, on_chunk}
use Rattle.judge.specs.Reply.{on_headers, in_order, reply_to}
use Rattle.judge.specs.Download.{download_of, judge_download}
use Rattle.judge.specs.Upload.{expedited_of, whole_of, d_of, normal_of, upload_of, judge_upload}
use Rattle.judge.specs.Segment.{chunk_length, segment_of, judge_segment}
use Rattle.judge.specs.Information.{fragment_at, fragment_of, on_information_headers, judge_list}
use Rattle.judge.specs.declared.Verdict.{Verdict}
use Rattle.judge.specs.declared.Verdict.TheVariants.{Refused, Emergency, Aborted, Done, SegmentsFollow, Segment, Fragment, ReplyDue}
use Rattle.judge.specs.declared.headers.Headers.{Headers}

-- bytes that are not lacking are there
there : (size from len : ℕ) → lacking size from len ≡ false → len ≤ size - from
unfolding lacking
there size from len =
    by (eqb len 0)
    (λ e. rw e λ f. let z : len ≡ 0 = eqb-true len 0 e in omega arith)
    (λ e. rw e λ f. let l : from + len ≤ size = ltb-false size (from + len) f in omega arith)

-- what holds of an SDO reply that is refused or raises an alarm
pub record Alarming (P : Verdict → Type 0) : Type 0 where
  pub refused : P (Refused (number_of Undecodable))
  pub emergency : (message : ℕ) → P (Emergency message)
  pub aborted : (sub index code : ℕ) → P (Aborted sub index code)
  pub other : P (Refused (number_of WrongReply))

module _ (P : Verdict → Type 0) where
  test : (b : Bool) (v w : Verdict) → (b ≡ true → P v) → (b ≡ false → P w) → P (pick b v w)
  test true v w p q = p refl
  test false v w p q = q refl

  either_way : (b : Bool) (v w : Verdict) → P v → P w → P (pick b v w)
  either_way true v w p q = p
  either_way false v w p q = q

  emergency_cases : (s : List ℕ) → Alarming P → P (emergency_in s)
  unfolding emergency_in
  emergency_cases s a = either_way (ltb (length s) emergency_least) _ _ a.refused (a.emergency _)

  abort_cases : (s : List ℕ) → Alarming P → P (abort_in s)
  unfolding abort_in
  abort_cases s a = either_way (ltb (length s) abort_least) _ _ a.refused (a.aborted _ _ _)

  order_cases : (s : List ℕ) (command : CoeCommand) (wrong : Bool) (own : Verdict) → Alarming P → P own → P (in_order s command wrong own)
  unfolding in_order
  order_cases s command wrong own a p =
      either_way (eqb (command_number command) 4) _ _ (abort_cases s a) (either_way wrong _ _ a.other p)

  headers_cases : {H : Type 0} (s : List ℕ) (q : Result (Option (Headers H)) Refusal) (f : Headers H → Verdict) → Alarming P → ((h : Headers H) → P (f h)) → P (on_headers s q f)
  headers_cases s (Err refusal) f a p = a.refused
  headers_cases s (Ok None) f a p = emergency_cases s a
  headers_cases s (Ok (Some h)) f a p = p h

  reply_cases : (index sub : ℕ) (s : List ℕ) (f : Headers SdoHeader → Verdict) → Alarming P → ((h : Headers SdoHeader) → P (f h)) → P (reply_to index sub s f)
  unfolding reply_to
  reply_cases index sub s f a p =
      headers_cases s (read_headers s) _ a λ h.
      order_cases s h.header.command (wrong_address h index sub) _ a (p h)

  download_rule : (size : ℕ) → Alarming P → P (Done 0 0) → P (download_of size)
  unfolding download_of
  download_rule size a p = either_way (ltb size download_least) _ _ a.refused p

  pub download_cases : (index sub : ℕ) (s : List ℕ) → Alarming P → P (Done 0 0) → P (judge_download index sub s)
  unfolding judge_download
  download_cases index sub s a p = reply_cases index sub s _ a λ h. download_rule (length s) a p

  module _ (s : List ℕ) (missing : P (Refused (number_of MissingBytes))) (done : (from p : ℕ) → p ≤ length s - from → P (Done from p)) where
    expedited_rule : (unused : ℕ) → P (expedited_of (length s) unused)
    unfolding expedited_of
    expedited_rule unused =
        test (lacking (length s) expedited_at (4 - unused)) _ _ (λ e. missing) (λ e. done expedited_at (4 - unused) (there (length s) expedited_at (4 - unused) e))

    whole_rule : (d : ℕ) → P (whole_of (length s) d)
    unfolding whole_of
    whole_rule d = test (lacking (length s) normal_at d) _ _ (λ e. missing) (λ e. done normal_at d (there (length s) normal_at d e))

    normal_rule : (length_field n : ℕ) → Alarming P → P (Refused (number_of TooLarge)) → P SegmentsFollow → P (normal_of s length_field n)
    unfolding normal_of
    normal_rule length_field n a big on =
        either_way (ltb (length s) normal_least) _ _ a.refused
        (either_way (ltb n (the complete_size s)) _ _ big
        (either_way (leb (the complete_size s) (d_of length_field)) _ _ (whole_rule (d_of length_field)) on))

    upload_rule : (h : Headers SdoHeader) (n : ℕ) → Alarming P → P (Refused (number_of TooLarge)) → P SegmentsFollow → P (upload_of s h n)
    unfolding upload_of
    upload_rule h n a big on =
        either_way h.header.expedited_transfer _ _ (expedited_rule h.header.size) (normal_rule h.mailbox.length n a big on)

    pub upload_cases : (index sub n : ℕ) → Alarming P → P (Refused (number_of TooLarge)) → P SegmentsFollow → P (judge_upload index sub n s)
    unfolding judge_upload
    upload_cases index sub n a big on = reply_cases index sub s _ a λ h. upload_rule h n a big on

  chunk_tests : (x b : Bool) (sum : ℕ) (f : ℕ → Verdict) → P (Refused (number_of MissingBytes)) → (x ≡ false → b ≡ false → P (f sum))
      → P (on_chunk (pick x None (pick b None (Some sum))) f)
  chunk_tests true b sum f r p = r
  chunk_tests false true sum f r p = r
  chunk_tests false false sum f r p = p refl refl

  chunk_cases : (size from len earlier n : ℕ) (f : ℕ → Verdict) → P (Refused (number_of MissingBytes)) → (len ≤ size - from → earlier + len ≤ n → P (f (earlier + len)))
      → P (on_chunk (chunk_at size from len earlier n) f)
  unfolding chunk_at
  chunk_cases size from len earlier n f r p =
      chunk_tests (lacking size from len) (ltb n (earlier + len)) (earlier + len) f r λ e g.
      p (there size from len e) (ltb-false n (earlier + len) g)

  module _ (s : List ℕ) (earlier n : ℕ) (short : P (Refused (number_of LengthField))) (missing : P (Refused (number_of MissingBytes))) where
    segment_rule : (h : Headers SdoHeaderSegmented) → ((from len : ℕ) (last : Bool) → len ≤ length s - from → earlier + len ≤ n → P (Segment from len (earlier + len) last))
        → P (segment_of (length s) h earlier n)
    unfolding segment_of
    segment_rule h p =
        let len = chunk_length h.mailbox.length h.header.segment_data_size in
        either_way (ltb h.mailbox.length 3) _ _ short
        (chunk_cases (length s) segment_at len earlier n _ missing (p segment_at len h.header.is_last_segment))

    pub segment_cases : Alarming P
        → ((from len : ℕ) (last : Bool) → len ≤ length s - from → earlier + len ≤ n → P (Segment from len (earlier + len) last))
        → P (judge_segment earlier n s)
    unfolding judge_segment
    segment_cases a p =
        headers_cases s (read_segment_headers s) _ a λ h.
        order_cases s h.header.command (wrong_type h.mailbox) _ a (segment_rule h p)

    pub fragment_rule : (h : Headers SdoInfoHeader) (from : ℕ)
        → ((from len : ℕ) (last : Bool) → len ≤ length s - from → earlier + len ≤ n → P (Fragment from len (earlier + len) last))
        → P (fragment_of (length s) h from earlier n)
    unfolding fragment_of
    fragment_rule h from p =
        let len = h.mailbox.length - 8 in
        either_way (ltb h.mailbox.length 8) _ _ short
        (chunk_cases (length s) from len earlier n _ missing (p from len (not h.header.incomplete)))

    information_headers : (q : Result (Headers SdoInfoHeader) Refusal) (f : Headers SdoInfoHeader → Verdict) → P (Refused (number_of Undecodable)) → ((h : Headers SdoInfoHeader) → P (f h))
        → P (on_information_headers q f)
    information_headers (Err refusal) f p q = p
    information_headers (Ok h) f p q = q h

    pub list_cases : (begun : Bool) → P (Refused (number_of Undecodable)) → P ReplyDue
        → ((from len : ℕ) (last : Bool) → len ≤ length s - from → earlier + len ≤ n → P (Fragment from len (earlier + len) last))
        → P (judge_list begun earlier n s)
    unfolding judge_list
    list_cases begun r due p =
        information_headers (read_information_headers s) _ r λ h.
        either_way (eqb (operation_number h.header.op_code) 2) _ _ (fragment_rule h (fragment_at begun) p) due
