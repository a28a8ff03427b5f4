-- What the exported judge states is the list of rules, the chunk's place and what is told besides. Assumes nothing.
use mathlib.Core.Path.{◌≡◌, refl, sym, ap, ◌∙◌, subst}
use mathlib.Core.Bool.{Bool, true, false, not, false≢true}
use mathlib.Core.List.{List}
use mathlib.Core.Option.{some}
use Prim.Native.Nat.{ℕ, ◌+◌, ◌-◌, ◌≤◌}
use borrow.Author.Tests.{eqb-true}
use lib.Dec.{eqb, ltb}
use lib.ListN.{length}
use Rattle.std.specs.Prelude.{Option, Some, None, Result, Ok, Err}
use Rattle.wire.specs.Refusal.{number_of}
use Rattle.wire.specs.declared.refusal.Refusal.{Refusal}
use Rattle.wire.specs.declared.refusal.Refusal.TheVariants.{Undecodable}
use Rattle.wire.specs.Words.{pick, either, first_of, map_ok}
use Rattle.wire.proofs.Cases.{by, either_true, either_false}
use Rattle.mailbox.specs.Fields.{the, mailbox_type, service, operation}
use Rattle.mailbox.specs.Numbers as names
use Rattle.mailbox.specs.Headers.{sdo_info_of}
use Rattle.mailbox.specs.declared.numbers.MailboxType.{MailboxType}
use Rattle.mailbox.specs.declared.numbers.CoeService.{CoeService}
use Rattle.mailbox.specs.declared.numbers.SdoInfoOpCode.{SdoInfoOpCode}
use Rattle.mailbox.specs.declared.information.SdoInfoHeader.{SdoInfoHeader}
use Rattle.judge.specs.Answers.{answer_of, one_of}
use Rattle.judge.specs.Storage.{stored}
use Rattle.judge.specs.Download.{judge_download}
use Rattle.judge.specs.Upload.{judge_upload}
use Rattle.judge.specs.Segment.{judge_segment}
use Rattle.judge.specs.Information.{fragment_at, fragment_of, on_information_headers, judge_list}
use Rattle.judge.specs.declared.headers.Headers.{Headers}
use Rattle.judge.specs.declared.Answer.{Answer}
use Rattle.judge.specs.declared.Verdict.{Verdict}
use Rattle.judge.specs.declared.Verdict.TheVariants.{Refused, Segment, Fragment, ReplyDue}
use Rattle.judge.proofs.Cases.{Alarming, upload_cases, download_cases, segment_cases, fragment_rule}
use Rattle.judge.proofs.Laid.{laid_nil}
use Rattle.judge.proofs.Payload.{part_length}
use Rattle.transfer.specs.Judgement.{judge_reply}
use Rattle.transfer.specs.declared.due.Reply.{Reply}
use Rattle.promises.specs.Finding.{number, refuse, finding}
use Rattle.promises.specs.Rules.{under}
use Rattle.promises.proofs.Lines.{Look, missing, present}
use Rattle.promises.proofs.Decoded.{operation_look, in_turn, information_in, information_read}
use Rattle.promises.proofs.Rules.{judged_by_rules}
use Rattle.linked.specs.Judging.{asked, has_begun, place_for, told_of, ruling_for, Judges}
use Rattle.surface.specs.Judge.{kinds, answers, judge_rules, besides, place_at, JudgesReply}

-- ---- what is told besides

-- what the exported judge tells of a verdict is what is told by the rules, and besides
abbrev Told : ℕ → List ℕ → Verdict → Type 0
Told kind s v = told_of (eqb kind 8) v ≡ besides kind s (finding v s)

alarms : (kind : ℕ) (s : List ℕ) → Alarming (Told kind s)
unfolding told_of answer_of besides
alarms kind s = record { refused = refl; emergency = λ m. refl; aborted = λ b i c. refl; other = refl }

upload_told : (kind i b n : ℕ) (s : List ℕ) → Told kind s (judge_upload i b n s)
unfolding told_of answer_of besides
upload_told kind i b n s = upload_cases (Told kind s) s refl (λ from p h. refl) i b n (alarms kind s) refl refl

download_told : (kind i b : ℕ) (s : List ℕ) → Told kind s (judge_download i b s)
unfolding told_of answer_of besides
download_told kind i b s = download_cases (Told kind s) i b s (alarms kind s) refl

segment_told : (kind earlier n : ℕ) (s : List ℕ) → Told kind s (judge_segment earlier n s)
unfolding told_of answer_of besides
segment_told kind earlier n s = segment_cases (Told kind s) s earlier n refl refl (alarms kind s) chunk
  where
    chunk : (from len : ℕ) (last : Bool) → len ≤ length s - from → earlier + len ≤ n → Told kind s (Segment from len (earlier + len) last)
    chunk from len true h k = refl
    chunk from len false h k = rw (part_length s from len h)

-- a list's reply: operation 2 is a fragment, which begins the list; another leaves it as it was
module _ (kind : ℕ) (begun : Bool) (earlier n : ℕ) (s : List ℕ) where
  refused : Told kind s (Refused (number_of Undecodable))
  unfolding told_of answer_of besides
  refused = refl

  fragment : eqb (the operation s) 2 ≡ true → (h : Headers SdoInfoHeader) → Told kind s (fragment_of (length s) h (fragment_at begun) earlier n)
  unfolding told_of answer_of besides
  fragment two h = fragment_rule (Told kind s) s earlier n refl refl h (fragment_at begun) chunk
    where
      chunk : (from len : ℕ) (last : Bool) → len ≤ length s - from → earlier + len ≤ n → Told kind s (Fragment from len (earlier + len) last)
      chunk from len true g k = refl
      chunk from len false g k = rw (part_length s from len g, two, either_true (eqb kind 8))

  due : eqb (the operation s) 2 ≡ false → Told kind s ReplyDue
  unfolding told_of answer_of besides
  due other = rw (other, either_false (eqb kind 8))

  abbrev judged_as : Headers SdoInfoHeader → Verdict
  judged_as h = pick (eqb (names.operation_number h.header.op_code) 2) (fragment_of (length s) h (fragment_at begun) earlier n) ReplyDue

  decoded : (a : Result MailboxType Refusal) (b : Result CoeService Refusal) {q : Result SdoInfoOpCode Refusal} {among : Bool}
      → Look names.operation_number Ok (Err Undecodable) (the operation s) q among
      → Told kind s
      (on_information_headers (in_turn s (λ m c. information_in m c (map_ok (sdo_info_of s) q)) a b) judged_as)
  decoded (Err r) b l = refused
  decoded (Ok t) (Err r) l = refused
  decoded (Ok t) (Ok v) (missing e m) = rw e refused
  decoded (Ok t) (Ok v) (present o k e m) =
      rw (e, k) (by (eqb (the operation s) 2) (λ y. rw y (fragment y _)) (λ x. rw x (due x)))

  list_told : Told kind s (judge_list begun earlier n s)
  unfolding judge_list
  list_told =
      rw (information_read s)
      (by (under 12 s)
      (λ y. rw y refused)
      (λ m. rw m (decoded (names.type_of (the mailbox_type s)) (names.service_of (the service s)) (operation_look (the operation s)))))

-- ---- the kinds

data Judgeable : ℕ → Type 0 where
  upload : Judgeable 1
  download : Judgeable 3
  first_fragment_lem : Judgeable 4
  segment : Judgeable 7
  later_fragment_lem : Judgeable 8

-- the one that has the number, or 15
listed_kind : (kind : ℕ) → one_of kinds kind ≡ true → Judgeable kind
listed_kind kind h =
    by (eqb kind 1) (λ y. subst Judgeable (sym (eqb-true kind 1 y)) upload) λ a.
    by (eqb kind 3) (λ y. subst Judgeable (sym (eqb-true kind 3 y)) download) λ b.
    by (eqb kind 4) (λ y. subst Judgeable (sym (eqb-true kind 4 y)) first_fragment_lem) λ c.
    by (eqb kind 7) (λ y. subst Judgeable (sym (eqb-true kind 7 y)) segment) λ d.
    by (eqb kind 8) (λ y. subst Judgeable (sym (eqb-true kind 8 y)) later_fragment_lem) λ e.
    absurd (false≢true (rw (a, b, c, d, e) at h))

module _ (i b earlier : ℕ) (s d : List ℕ) where
  unasked : (kind : ℕ) → one_of kinds kind ≡ false → asked kind i b ≡ None
  unfolding asked
  unasked kind = go _ _ _ _ _ (eqb kind 1) (eqb kind 3) (eqb kind 4) (eqb kind 7) (eqb kind 8)
    where
      go : (v w x y z : Reply) (p q r t u : Bool) → either p (either q (either r (either t (either u false)))) ≡ false
          → pick p (Some v) (pick q (Some w) (pick r (Some x) (pick t (Some y) (pick u (Some z) None)))) ≡ None
      go v w x y z true q r t u h = absurd (false≢true (sym h))
      go v w x y z false true r t u h = absurd (false≢true (sym h))
      go v w x y z false false true t u h = absurd (false≢true (sym h))
      go v w x y z false false false true u h = absurd (false≢true (sym h))
      go v w x y z false false false false true h = absurd (false≢true (sym h))
      go v w x y z false false false false false h = refl

  abbrev verdict : ℕ → Verdict
  verdict kind = judge_reply (answers kind i b) earlier (length d) s

  record Ruled (kind : ℕ) : Type 0 where
    asks : asked kind i b ≡ Some (answers kind i b)
    begun : has_begun (answers kind i b) ≡ eqb kind 8
    lies : place_for (answers kind i b) earlier ≡ place_at kind earlier
    told : Told kind s (verdict kind)

  ruled : {kind : ℕ} → Judgeable kind → Ruled kind
  unfolding asked judge_reply place_at
  ruled upload = record { asks = refl; begun = refl; lies = refl; told = upload_told 1 i b (length d) s }
  ruled download = record { asks = refl; begun = refl; lies = refl; told = download_told 3 i b s }
  ruled first_fragment_lem = record { asks = refl; begun = refl; lies = refl; told = list_told 4 false earlier (length d) s }
  ruled segment = record { asks = refl; begun = refl; lies = refl; told = segment_told 7 earlier (length d) s }
  ruled later_fragment_lem = record { asks = refl; begun = refl; lies = refl; told = list_told 8 true earlier (length d) s }

  module _ (kind : ℕ) {answer : Answer} {after : List ℕ} where
    refuses : (n : ℕ) → (eqb n 0x01 ≡ false) → (eqb n 0x02 ≡ false) → first_of (judge_rules kind i b earlier s d) ≡ some (refuse n)
        → answer ≡ number n → after ≡ d → JudgesReply kind i b earlier s d answer after
    unfolding besides
    refuses n one two e p q = record {
      found = refuse n;
      first = e;
      told = p ∙ rw (one, two);
      stored = q ∙ laid_nil d (place_at kind earlier);
    }

    pub judges_reply : Judges kind i b earlier s d answer after → JudgesReply kind i b earlier s d answer after
    unfolding judge_rules first_of ruling_for stored
    judges_reply J =
        by (one_of kinds kind)
        (λ y.
        let R = ruled (listed_kind kind y) in
        by (ltb 1486 (length s))
        (λ l. refuses 0x16 refl refl (rw (y, l)) (rw (R.asks, l) at J.0) (rw (R.asks, l) at J.1))
        (λ r. by (ltb 131070 (length d))
        (λ l. refuses 0x16 refl refl (rw (y, r, l)) (rw (R.asks, r, l) at J.0) (rw (R.asks, r, l) at J.1))
        (λ m. record {
          found = finding (verdict kind) s;
          first = rw (y, r, m) (judged_by_rules (answers kind i b) earlier (length d) s);
          told = (rw (R.asks, r, m, R.begun) at J.0) ∙ R.told;
          stored = (rw (R.asks, r, m) at J.1) ∙ rw R.lies;
        })))
        (λ n. refuses 0x15 refl refl (rw n) (rw (unasked kind n) at J.0) (rw (unasked kind n) at J.1))
