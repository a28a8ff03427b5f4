-- The judge tells what the first rule that holds tells. Assumes nothing.
use mathlib.Core.Path.{◌≡◌, refl, sym}
use mathlib.Core.Bool.{Bool, true, false, not}
use mathlib.Core.List.{List, ◌++◌}
use mathlib.Core.Option.{Option, some}
use Prim.Native.Nat.{ℕ, ◌+◌, ◌-◌}
use native.Mathlib.Omega.{arith}
use borrow.Author.Tests.{eqb-true, eqb-false, ltb-true, ltb-false, lt-ltb, le-ltb}
use lib.Dec.{ltb, leb, eqb}
use lib.ListN.{length}
use Rattle.std.specs.Prelude.{Ok, Some, None}
use Rattle.wire.specs.Words.{pick, both, first_of, map_ok}
use Rattle.wire.proofs.Cases.{by}
use Rattle.wire.specs.Refusal.{number_of}
use Rattle.wire.specs.declared.refusal.Refusal.TheVariants.{WrongReply, MissingBytes}
use Rattle.mailbox.specs.Fields.{the, length_field, mailbox_type, expedited, size, specifier, index, sub_index, last_segment, unused_count, operation, incomplete}
use Rattle.mailbox.specs.Numbers.{command_number}
use Rattle.mailbox.specs.Headers.{sdo_header_of, segmented_of, sdo_info_of}
use Rattle.mailbox.specs.declared.numbers.MailboxType.{MailboxType}
use Rattle.mailbox.specs.declared.numbers.CoeService.{CoeService}
use Rattle.mailbox.specs.declared.numbers.CoeCommand.{CoeCommand}
use Rattle.mailbox.specs.declared.sdo.SdoHeader.{SdoHeader}
use Rattle.judge.specs.Answers.{answer_of}
use Rattle.judge.specs.Headers.{wrong_type, wrong_address}
use Rattle.judge.specs.Alarm.{abort_in}
use Rattle.judge.specs.Chunk.{lacking, chunk_at, on_chunk}
use Rattle.judge.specs.Reply.{on_headers, in_order, reply_to}
use Rattle.judge.specs.Download.{download_of, judge_download}
use Rattle.judge.specs.Upload.{expedited_of, whole_of, normal_of, upload_of, judge_upload}
use Rattle.judge.specs.Segment.{chunk_length, segment_of, judge_segment}
use Rattle.judge.specs.Information.{fragment_at, fragment_of, on_information_headers, judge_list}
use Rattle.judge.specs.declared.headers.Headers.{Headers}
use Rattle.judge.specs.declared.Verdict.{Verdict}
use Rattle.judge.specs.declared.Verdict.TheVariants.{Refused, Segment, Fragment}
use Rattle.transfer.specs.Judgement.{judge_reply}
use Rattle.transfer.specs.declared.due.Reply.TheVariants as reply
use Rattle.promises.specs.Finding.{Finding, refuse, aborted, done, then_request, then_reply}
use Rattle.promises.specs.Rules.{Rule, under, from, fewer_from, at, is_set, sdo, addressed, download, expedited_upload, other_upload, segment_chunk, segment_place, segment, chunk_place, information, rules, JudgedByRules}
use Rattle.promises.proofs.Lines.{Tells, line, guarded, any_of}
use Rattle.promises.proofs.Decoded.{front_of, information_decoded, sdo_decoded, in_turn, header_in, sdo_read, segment_read, information_in, information_read}

-- ---- tests that the two say differently

fewer : (have place len : ℕ) → lacking have place len ≡ ltb (have - place) len
unfolding lacking
fewer have place len =
    by (eqb len 0)
    (λ e. let z : len ≡ 0 = eqb-true len 0 e in rw e (sym (le-ltb (have - place) len (omega arith))))
    (λ e. rw e (by (ltb have (place + len))
    (λ y. rw y (sym (lt-ltb (have - place) len (omega (arith, ltb-true have (place + len) y, eqb-false len 0 e)))))
    (λ n. rw n (sym (le-ltb (have - place) len (omega (arith, ltb-false have (place + len) n)))))))

chunk_length_lem : (k unused : ℕ) → chunk_length k unused ≡ pick (eqb (k - 3) 7) (k - 3 - unused) (k - 3)
unfolding chunk_length
chunk_length_lem k unused =
    by (eqb (k - 3) 7)
    (λ y. rw (y, eqb-true (k - 3) 7 y))
    (λ n. rw n)

chunk_picks : (b c : Bool) (sum : ℕ) (f : ℕ → Verdict)
    → on_chunk (pick b None (pick c None (Some sum))) f ≡ pick b (Refused (number_of MissingBytes)) (pick c (Refused (number_of MissingBytes)) (f sum))
chunk_picks true c sum f = refl
chunk_picks false true sum f = refl
chunk_picks false false sum f = refl

other_way : (b : Bool) (v w : Verdict) → pick b v w ≡ pick (not b) w v
other_way true v w = refl
other_way false v w = refl

fragment_place : (begun : Bool) → fragment_at begun ≡ chunk_place begun
unfolding fragment_at
fragment_place true = refl
fragment_place false = refl

module _ (s : List ℕ) where
  -- rule 3, and behind it the fourth
  abort_lines : (k : CoeCommand) → command_number k ≡ the specifier s
      → (wrong : Bool) (own : Verdict) {x : Option Finding} → Tells s (pick wrong (Refused (number_of WrongReply)) own) x
      → Tells s (in_order s k wrong own)
      (pick (both (eqb (the specifier s) 4) (under 16 s)) (some (refuse 0x20))
      (pick (eqb (the specifier s) 4) (some (aborted (at 12 15 s) (at 9 10 s) (at 11 11 s)))
      x))
  unfolding in_order abort_in answer_of
  abort_lines k ek wrong own p = rw ek (guarded s (eqb (the specifier s) 4) (under 16 s) _ _ (pick wrong (Refused (number_of WrongReply)) own) p)

  -- rules 1 to 4, and the kind's own behind them
  module _ (i b : ℕ) (f : Headers SdoHeader → Verdict) (kind : List Rule) where
    reply_told : ((t : MailboxType) (v : CoeService) (k : CoeCommand)
        → Tells s
        (on_headers s
        (in_turn s (λ m c. header_in (front_of m c) (map_ok (sdo_header_of s) (Ok k))) (Ok t) (Ok v))
        f)
        (first_of kind))
        → Tells s (reply_to i b s f) (first_of (sdo 12 s ++ addressed i b s ++ kind))
    unfolding first_of reply_to wrong_address wrong_type answer_of
    reply_told p =
        rw (sdo_read s)
        (sdo_decoded s 12 _
        (λ m c k. header_in (front_of m c) (map_ok (sdo_header_of s) k)) (λ m c. refl)
        λ t v k et ek.
        abort_lines k ek _ _
        (rw et
        (any_of s (not (eqb (the mailbox_type s) 3)) (not (eqb (the index s) i)) (not (eqb (the sub_index s) b)) _ _ (p t v k))))

  download_told : (i b : ℕ) → Tells s (judge_download i b s) (first_of (sdo 12 s ++ addressed i b s ++ download s))
  unfolding first_of judge_download download_of answer_of
  download_told i b = reply_told i b _ (download s) λ t v k. line s (under 16 s) _ _ refl

  upload_told : (i b n : ℕ)
      → Tells s (judge_upload i b n s) (first_of (sdo 12 s ++ addressed i b s ++ (expedited_upload s ++ other_upload n s)))
  unfolding first_of judge_upload upload_of expedited_of normal_of whole_of answer_of
  upload_told i b n =
      let p = 4 - the size s in
      let d = the length_field s - 10 in
      reply_told i b _ (expedited_upload s ++ other_upload n s) λ t v k.
      rw (fewer (length s) 12 p, fewer (length s) 16 d)
      (guarded s (is_set expedited s) (fewer_from 12 p s) _ _ _
      (line s (under 16 s) _ _
      (line s (ltb n (at 12 15 s)) _ _
      (guarded s (leb (at 12 15 s) d) (fewer_from 16 d s) _ _ _ refl))))

  -- ---- chunks

  module _ (place len earlier n : ℕ) (f : ℕ → Verdict) where
    chunk_lines : {x : Option Finding} → Tells s (f (earlier + len)) x
        → Tells s (on_chunk (chunk_at (length s) place len earlier n) f)
        (pick (fewer_from place len s) (some (refuse 0x25)) (pick (ltb n (earlier + len)) (some (refuse 0x25)) x))
    unfolding chunk_at answer_of
    chunk_lines p =
        rw (fewer (length s) place len, chunk_picks (fewer_from place len s) (ltb n (earlier + len)) (earlier + len) f)
        (line s (fewer_from place len s) _ _ (line s (ltb n (earlier + len)) _ _ p))

  last_line : (place len sum : ℕ) (last : Bool)
      → Tells s (Segment place len sum last)
      (pick last (some (done sum (from place len s))) (some (then_request (from place len s))))
  unfolding answer_of
  last_line place len sum true = refl
  last_line place len sum false = refl

  segment_told : (earlier n : ℕ) → Tells s (judge_segment earlier n s) (first_of (sdo 9 s ++ segment earlier n s))
  unfolding first_of judge_segment wrong_type segment_of answer_of
  segment_told earlier n =
      rw (segment_read s)
      (sdo_decoded s 9 _
      (λ m c k. header_in (front_of m c) (map_ok (segmented_of s) k)) (λ m c. refl)
      λ t v k et ek.
      abort_lines k ek _ _
      (rw (et, chunk_length_lem (the length_field s) (the unused_count s))
      (line s (not (eqb (the mailbox_type s) 3)) _ _
      (line s (ltb (the length_field s) 3) _ _
      (chunk_lines segment_place (segment_chunk s) earlier n _
      (last_line segment_place (segment_chunk s) (earlier + segment_chunk s) (is_set last_segment s)))))))

  -- ---- lists

  incomplete_line : (place len sum : ℕ) (on : Bool)
      → Tells s (Fragment place len sum (not on))
      (pick on (some (then_reply (from place len s))) (some (done sum (from place len s))))
  unfolding answer_of
  incomplete_line place len sum true = refl
  incomplete_line place len sum false = refl

  information_told : (begun : Bool) (earlier n : ℕ)
      → Tells s (judge_list begun earlier n s) (first_of (information begun earlier n s))
  unfolding first_of judge_list fragment_of answer_of
  information_told begun earlier n =
      let k = the length_field s - 8 in
      rw (information_read s)
      (information_decoded s 12 on_information_headers _ refl (λ m c o. information_in m c (map_ok (sdo_info_of s) o))
      (λ m c. refl) λ t v o eo.
      rw (eo, other_way (eqb (the operation s) 2), fragment_place begun)
      (line s (not (eqb (the operation s) 2)) _ _
      (line s (ltb (the length_field s) 8) _ _
      (chunk_lines (chunk_place begun) k earlier n _ (incomplete_line (chunk_place begun) k (earlier + k) (is_set incomplete s))))))

pub judged_by_rules : JudgedByRules
unfolding first_of judge_reply rules
judged_by_rules (reply.Download i b) earlier n s = download_told s i b
judged_by_rules (reply.Upload i b) earlier n s = upload_told s i b n
judged_by_rules reply.Segment earlier n s = segment_told s earlier n
judged_by_rules (reply.Fragment begun) earlier n s = information_told s begun earlier n
