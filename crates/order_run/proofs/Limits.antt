-- The limits of the order program, and its course from the entry to the last number. Assumes nothing.
use Prim.Native.Nat.{ℕ, suc, ◌%◌, ◌<◌, ◌≤◌, min}
use mathlib.Core.Path.{◌≡◌, refl, sym, ap, ◌∙◌, subst}
use mathlib.Core.Bool.{true, false}
use mathlib.Core.List.{List, [], ◌∷◌, ◌++◌, append_assoc, append-nil}
use mathlib.Core.Option.{Option, none, some}
use native.Mathlib.Omega.{arith}
use Rattle.std.specs.Prelude.{Some}
use lib.Dec.{eqb, leb}
use lib.ListN.{length, take, drop, replicate, length-take, length-replicate}
use lib.Seq.{take_all, take_at, take-length, drop-length}
use borrow.Author.Tests.{eq-eqb, ne_eqb, eqb-true, eqb-false, leb-true, leb-false, le-ltb}
use Rattle.wire.proofs.Cases.{by}
use Rattle.judge.specs.Answers.{answer_of}
use Rattle.judge.specs.Storage.{taken, stored}
use Rattle.judge.specs.Replies.{holding}
use Rattle.judge.specs.declared.Verdict.{Verdict}
use Rattle.judge.specs.declared.Verdict.TheVariants.{Refused, Emergency, Aborted, Done, SegmentsFollow, Segment, Fragment, ReplyDue}
use Rattle.judge.proofs.Laid.{laid_length}
use Rattle.line.specs.Machine.{and_then}
use Rattle.line.specs.Line.{seated, find, headed, head, vacate, place}
use Rattle.line.specs.Desk.{Outcome, received, receive, pass_at, following, judge, step}
use Rattle.line.specs.Desk as line
use Rattle.transfer.specs.Stage.{segment_request_due, later_fragment_due}
use Rattle.transfer.specs.Entry.{unfit_of, opened_of}
use Rattle.transfer.specs.Due.{due_of, request_due, awaiting_of}
use Rattle.transfer.specs.Judgement.{advanced_to, next_of}
use Rattle.transfer.specs.Coe.{coe_machine, begins_with, sends_with, judged, receives_with}
use Rattle.transfer.specs.Life.{Filled, opens, asks as asks-first, fetches, hears}
use Rattle.transfer.specs.declared.Order.{Order}
use Rattle.transfer.specs.declared.Transfer.{Transfer}
use Rattle.transfer.proofs.Lives.{length_is_sum}
use Rattle.transfer.proofs.Payload.{filled_holds, payload_lies}
use Rattle.desk.specs.Record.{Queue, view_of, desk_of, empty_at}
use Rattle.desk.specs.Calls.{answer_for, lent_after}
use Rattle.desk.specs.declared.Desk.{Desk}
use Rattle.desk.specs.declared.Called.{Called}
use Rattle.order_text.specs.Lines.{bad, line_of}
use Rattle.order_text.specs.Text.{hex_text}
use Rattle.order_text.proofs.Back.{decode-encode}
use Rattle.order_text.proofs.Refused.{bad_character, odd_line, overlong_line, good_line, good_only}
use Rattle.order_run.specs.Entry.{form_of}
use Rattle.order_run.specs.Turns.{is_over, called, lent_back, line_text, text_of, Said, failed, request, after_form, after_receive, after_reply, kept_reply, after_frame, kept_frame, after_all}
use Rattle.order_run.specs.Printed.{lines_in, said, printed}
use Rattle.order_run.specs.Part.{nothing}
use Rattle.order_run.specs.Feed.{st}
use Rattle.order_run.specs.Limits.{failing, Lines, Frame, verdict, number, with_chunk, request_line, Awaits, entered, asks, waits, Courses}
use Rattle.order_run.proofs.Spoken.{number_0, number_1, number_2, number_last}
use Rattle.order_run.proofs.Whole.{over_said, lines_at, said_line, said_bad}
use Rattle.order_run.specs.declared.turns.Phase.{Phase}
use Rattle.order_run.specs.declared.turns.Phase.TheVariants.{Entry, Reply, Over}

-- ---- lines

too_long : (l : List ℕ) → 2972 < length l → line_of 1486 l ≡ bad
too_long l h =
    by (eqb (length l % 2) 1)
    (λ o. odd_line 1486 l (eqb-true (length l % 2) 1 o))
    (λ o. overlong_line 1486 l (omega (arith, eqb-false (length l % 2) 1 o)))

pub lines : Lines
lines d phase kept l ls n =
    let fails : line_of 1486 l ≡ bad → said d phase kept (l ∷ ls) ≡ failing = λ e. said_bad (st d phase nothing [] kept) n l ls e in
    record {
      frame = λ g e h.
          said_line (st d phase nothing [] kept) n l ls ∙ rw (good_line 1486 l g (λ o. omega (arith, o, e)) (omega (arith, h)));
      character = λ b. fails (bad_character 1486 l b);
      odd = λ o. fails (odd_line 1486 l o);
      overlong = λ h. fails (too_long l h);
    }

-- ---- a desk where one transfer stands, at seat 0

abbrev queued : List (ℕ × Transfer) → ℕ → Queue
queued l c = record { line = l; pass = pass_at c }

abbrev alone : Transfer → ℕ → Desk
alone t c = desk_of (queued ((0, t) ∷ []) c)

abbrev goes_on : Desk → List ℕ → Said
goes_on d text = record { desk = d; phase = Reply; text = text }

requested : (t : Transfer) (c : ℕ) → request_due t ≡ true → request (alone t c) ≡ goes_on (alone (awaiting_of t) (following c)) (request_line c t)
unfolding request called lent_back step judge line.settled and_then head headed seated view_of desk_of answer_for lent_after sends_with
requested t c e = rw e

entry_said : (o : Order) → unfit_of o ≡ false
    → after_form (empty_at 1) (Some o) ≡ goes_on (alone (awaiting_of (opened_of o)) 2) (request_line 1 (opened_of o))
unfolding called step judge line.settled and_then seated view_of desk_of answer_for begins_with request_due due_of
entry_said o u = rw u (requested (opened_of o) 1 refl)

unfit_said : (o : Order) → unfit_of o ≡ true → after_form (empty_at 1) (Some o) ≡ failed (empty_at 1)
unfolding called step judge line.settled and_then seated view_of desk_of answer_for begins_with
unfit_said o u = rw u

left_said : (t : Transfer) (c : ℕ) (kept : List ℕ) → said (alone t c) Reply kept (lines_in []) ≡ line_text (0x03 ∷ [])
unfolding said lines_in after_all called step judge line.settled and_then find vacate view_of desk_of answer_for
left_said t c kept = refl

-- what a reply is answered that comes to a verdict, and the desk afterwards
abbrev called_by : Transfer → ℕ → Verdict → Called
called_by t c v = record { answer = answer_of v; desk = desk_of (queued (place 0 (next_of t v) ++ []) c) }

module _ (t : Transfer) (c : ℕ) (s kept : List ℕ) (w : request_due t ≡ false) (short : length s ≤ 1486) (long : length kept ≡ 4096) where
  judged_so : step coe_machine (view_of (alone t c)) (receive 0 (s, kept))
      ≡ (queued (place 0 (next_of t (verdict t s)) ++ []) c, received (answer_of (verdict t s), stored (verdict t s) s t.sum kept))
  unfolding step judge line.settled and_then head headed seated view_of desk_of receives_with
  judged_so = rw (w, le-ltb 1486 (length s) short, long)

  reply_said : after_reply (alone t c) s kept ≡ after_receive (called_by t c (verdict t s)) (stored (verdict t s) s t.sum kept)
  unfolding after_reply called lent_back answer_for lent_after
  reply_said =
      ap (λ (x : Queue × Outcome coe_machine). after_receive (record { answer = answer_for x.1; desk = desk_of x.0 }) (lent_after kept x.1)) judged_so

  reply_kept : kept_reply (alone t c) s kept ≡ stored (verdict t s) s t.sum kept
  unfolding kept_reply lent_back lent_after
  reply_kept = ap (λ (x : Queue × Outcome coe_machine). lent_after kept x.1) judged_so

-- ---- how a reply moves the transfer on, by its number

none≢some : {X : Type 0} {u : Transfer} → ◌≡◌ {A = Option Transfer} none (some u) → X
none≢some e = let z : ◌≡◌ {A = ℕ} 0 1 = cc in absurd (omega arith)

record Next (u : Transfer) (v : Verdict) : Type 0 where
  asking : (answer_of v).number ≡ 0x01 → u.stage ≡ segment_request_due
  waiting : (answer_of v).number ≡ 0x02 → request_due u ≡ false

module _ (t u : Transfer) (due : request_due t ≡ false) where
  segment_next : {v : Verdict} (sum : ℕ) → (answer_of v).number ≡ 0x01 → advanced_to t segment_request_due sum ≡ u → Next u v
  segment_next sum n h =
      record { asking = λ e. ap (λ (x : Transfer). x.stage) (sym h); waiting = λ e. absurd (omega (arith, n, e)) }

  reply_next : {v : Verdict} → (answer_of v).number ≡ 0x02 → request_due u ≡ false → Next u v
  reply_next n h = record { asking = λ e. absurd (omega (arith, n, e)); waiting = λ e. h }

  next : (v : Verdict) → next_of t v ≡ some u → Next u v
  unfolding next_of answer_of request_due due_of
  next (Refused k) e = none≢some e
  next (Emergency m) e = none≢some e
  next (Aborted b i c) e = none≢some e
  next (Done f p) e = none≢some e
  next SegmentsFollow e = segment_next t.sum refl cc
  next (Segment f k sum true) e = none≢some e
  next (Segment f k sum false) e = segment_next sum refl cc
  next (Fragment f k sum true) e = none≢some e
  next (Fragment f k sum false) e =
      let h : advanced_to t later_fragment_due sum ≡ u = cc in reply_next refl (ap request_due (sym h))
  next ReplyDue e =
      let h : advanced_to t t.stage t.sum ≡ u = cc in reply_next refl (ap request_due (sym h) ∙ due)

segment_due : (u : Transfer) → u.stage ≡ segment_request_due → request_due u ≡ true
unfolding request_due due_of
segment_due u h = rw (ne_eqb u.stage 0 (λ e. omega (arith, h, e)), ne_eqb u.stage 1 (λ e. omega (arith, h, e)), eq-eqb u.stage 2 h)

reply_due : (t : Transfer) → request_due (awaiting_of t) ≡ false
unfolding request_due due_of awaiting_of
reply_due t = by (eqb t.stage 2) (λ e. rw e) (λ e. rw e)

-- ---- the lines of a text of frames

line_first : (s more : List ℕ) → Frame s → lines_in (line_text s ++ more) ≡ hex_text s ∷ lines_in more
unfolding line_text
line_first s more F =
    ap lines_in (append_assoc (hex_text s) (10 ∷ []) more)
    ∙ lines_at (hex_text s) more (good_only 1486 (hex_text s) s (decode-encode 1486 s F.0 F.1)).digits

text-more : (ss : List (List ℕ)) (s more : List ℕ) → text_of (ss ++ s ∷ []) ++ more ≡ text_of ss ++ (line_text s ++ more)
text-more [] s more = ap (λ (x : List ℕ). x ++ more) (append-nil (line_text s))
text-more (r ∷ ss) s more =
    append_assoc (line_text r) (text_of (ss ++ s ∷ [])) more
    ∙ ap (λ (x : List ℕ). line_text r ++ x) (text-more ss s more)
    ∙ sym (append_assoc (line_text r) (text_of ss) (line_text s ++ more))

said_frame : (d : Desk) (phase : Phase) (kept s : List ℕ) (ls : List (List ℕ)) → is_over phase ≡ false → Frame s
    → said d phase kept (hex_text s ∷ ls)
    ≡ (after_frame phase d s kept).text
    ++ said (after_frame phase d s kept).desk (after_frame phase d s kept).phase (kept_frame phase d s kept) ls
said_frame d phase kept s ls n F = said_line (st d phase nothing [] kept) n (hex_text s) ls ∙ rw (decode-encode 1486 s F.0 F.1)

-- an entry's line, where x is what its form says
said_entry : (d₀ entry more : List ℕ) (x : Said) → Frame entry → after_form (empty_at 1) (form_of entry) ≡ x
    → said (empty_at 1) Entry d₀ (lines_in (text_of (entry ∷ []) ++ more)) ≡ x.text ++ said x.desk x.phase d₀ (lines_in more)
unfolding after_frame kept_frame
said_entry d₀ entry more x F e =
    ap (λ (y : List ℕ). said (empty_at 1) Entry d₀ (lines_in (y ++ more))) (append-nil (line_text entry))
    ∙ ap (said (empty_at 1) Entry d₀) (line_first entry more F)
    ∙ said_frame (empty_at 1) Entry d₀ entry (lines_in more) refl F
    ∙ ap (λ (y : Said). y.text ++ said y.desk y.phase d₀ (lines_in more)) e

bad_entry : (d₀ entry more : List ℕ) → Frame entry → after_form (empty_at 1) (form_of entry) ≡ failed (empty_at 1)
    → said (empty_at 1) Entry d₀ (lines_in (text_of (entry ∷ []) ++ more)) ≡ failing
bad_entry d₀ entry more F e =
    said_entry d₀ entry more (failed (empty_at 1)) F e
    ∙ ap (λ (x : List ℕ). failing ++ x) (over_said (empty_at 1) Over d₀ (lines_in more) refl)
    ∙ append-nil failing

-- a reply's line, where x is what its answer says
said_reply : (t : Transfer) (c : ℕ) (s kept : List ℕ) (ls : List (List ℕ)) (x : Said) → request_due t ≡ false → Frame s → length kept ≡ 4096
    → x ≡ after_receive (called_by t c (verdict t s)) (stored (verdict t s) s t.sum kept)
    → said (alone t c) Reply kept (hex_text s ∷ ls) ≡ x.text ++ said x.desk x.phase (stored (verdict t s) s t.sum kept) ls
unfolding after_frame kept_frame
said_reply t c s kept ls x w F long e =
    said_frame (alone t c) Reply kept s ls refl F
    ∙ ap (λ (y : Said). y.text ++ said y.desk y.phase (kept_reply (alone t c) s kept) ls) (reply_said t c s kept w F.1 long ∙ sym e)
    ∙ ap (λ (k : List ℕ). x.text ++ said x.desk x.phase k ls) (reply_kept t c s kept w F.1 long)

-- ---- the payload

take_holding : (p d : List ℕ) → take (length p) (holding p d) ≡ take (length d) p
take_holding p d =
    by (leb (length p) (length d))
    (λ e. let l : length p ≤ length d = leb-true (length p) (length d) e in
    let m : min (length p) (length d) ≡ length p = omega arith in
    rw (m, take-length p) (take_at p (drop (length p) d) (length p) refl ∙ sym (take_all (length d) p l)))
    (λ e. let l : length d < length p = leb-false (length p) (length d) e in
    let m : min (length p) (length d) ≡ length d = omega arith in
    rw (m, drop-length d, append-nil (take (length d) p))
    (take_all (length p) (take (length d) p) (omega (arith, length-take (length d) p))))

-- ---- the course

module _ (d₀ : List ℕ) (all : length d₀ ≡ 4096) (entry : List ℕ) (o : Order) where
  abbrev from_start : List ℕ → List ℕ
  from_start text = said (empty_at 1) Entry d₀ (lines_in text)

  -- after an entry and the replies ss: what their lines say, and what lies in the data buffer, which was d₀
  record Stands (ss : List (List ℕ)) (t : Transfer) (c : ℕ) (text payload : List ℕ) : Type 0 where
    kept : List ℕ
    replies : ℕ
    segments : ℕ
    filled : Filled o d₀ t replies segments payload kept
    due : request_due t ≡ false
    on : (more : List ℕ) → from_start (text_of (entry ∷ ss) ++ more) ≡ text ++ said (alone t c) Reply kept (lines_in more)

  entry_stands : Frame entry → form_of entry ≡ Some o → unfit_of o ≡ false → Stands [] (awaiting_of (opened_of o)) 2 (request_line 1 (opened_of o)) []
  entry_stands F f u =
      record {
        kept = d₀;
        replies = 0;
        segments = 0;
        filled = asks-first refl (opens u);
        due = reply_due (opened_of o);
        on = λ more. said_entry d₀ entry more _ F (ap (after_form (empty_at 1)) f ∙ entry_said o u);
      }

  module _ {ss : List (List ℕ)} {t : Transfer} {c : ℕ} {text payload : List ℕ} (S : Stands ss t c text payload) where
    long : length S.kept ≡ 4096
    long =
        let H = filled_holds S.filled in
        ap length H.lies ∙ laid_length d₀ 0 payload (omega (arith, H.room)) ∙ all

    module _ (s : List ℕ) (F : Frame s) where
      abbrev after : List ℕ
      after = stored (verdict t s) s t.sum S.kept

      -- one reply more, where x is what its answer says
      one_more : (x : Said) → x ≡ after_receive (called_by t c (verdict t s)) after → (more : List ℕ)
          → from_start (text_of (entry ∷ ss ++ s ∷ []) ++ more) ≡ (text ++ x.text) ++ said x.desk x.phase after (lines_in more)
      one_more x e more =
          ap from_start (text-more (entry ∷ ss) s more)
          ∙ S.on (line_text s ++ more)
          ∙ ap (λ (ls : List (List ℕ)). text ++ said (alone t c) Reply S.kept ls) (line_first s more F)
          ∙ ap (λ (y : List ℕ). text ++ y) (said_reply t c s S.kept (lines_in more) x S.due F long e)
          ∙ sym (append_assoc text x.text (said x.desk x.phase after (lines_in more)))

      -- the last: nothing is printed behind it
      last_one : (x : Said) → x ≡ after_receive (called_by t c (verdict t s)) after → is_over x.phase ≡ true → (surplus : List ℕ)
          → from_start (text_of (entry ∷ ss ++ s ∷ []) ++ surplus) ≡ text ++ x.text
      last_one x e p surplus =
          one_more x e surplus
          ∙ ap (λ (y : List ℕ). (text ++ x.text) ++ y) (over_said x.desk x.phase after (lines_in surplus) p)
          ∙ append-nil (text ++ x.text)

      heard : {u : Transfer} → next_of t (verdict t s) ≡ some u → Filled o d₀ u (suc S.replies) S.segments (with_chunk payload t s) after
      heard {u} e =
          subst
          (λ (n : ℕ). next_of t (judged t n s) ≡ some u
          → Filled o d₀ u (suc S.replies) S.segments (payload ++ taken (judged t n s) s) (stored (judged t n s) s t.sum S.kept))
          long (hears s S.due S.filled) e

      moved : {u : Transfer} → next_of t (verdict t s) ≡ some u → (called_by t c (verdict t s)).desk ≡ alone u c
      unfolding place
      moved e = ap (λ (x : Option Transfer). desk_of (queued (place 0 x ++ []) c)) e

      asks_stands : {u : Transfer} → number t s ≡ 0x01 → next_of t (verdict t s) ≡ some u
          → Stands (ss ++ s ∷ []) (awaiting_of u) (following c) (text ++ request_line c u) (with_chunk payload t s)
      asks_stands {u} n e =
          let stage = (next t u S.due (verdict t s) e).asking n in
          record {
            kept = after;
            replies = suc S.replies;
            segments = suc S.segments;
            filled = fetches stage (heard e);
            due = reply_due u;
            on =
                one_more (goes_on (alone (awaiting_of u) (following c)) (request_line c u))
                (sym (requested u c (segment_due u stage))
                ∙ ap request (sym (moved e))
                ∙ number_1 (called_by t c (verdict t s)) after (λ z. omega (arith, n, z)) n);
          }

      waits_stands : {u : Transfer} → number t s ≡ 0x02 → next_of t (verdict t s) ≡ some u → Stands (ss ++ s ∷ []) u c text (with_chunk payload t s)
      waits_stands {u} n e =
          record {
            kept = after;
            replies = suc S.replies;
            segments = S.segments;
            filled = heard e;
            due = (next t u S.due (verdict t s) e).waiting n;
            on = λ more.
                one_more (goes_on (alone u c) [])
                (ap (λ (d : Desk). goes_on d []) (sym (moved e))
                ∙ number_2 (called_by t c (verdict t s)) after (λ z. omega (arith, n, z)) (λ z. omega (arith, n, z)) n) more
                ∙ ap (λ (x : List ℕ). x ++ said (alone u c) Reply after (lines_in more)) (append-nil text);
          }

      -- behind 00 stands the payload, as far as the buffer reaches
      payload_told : number t s ≡ 0x00 → take (answer_of (verdict t s)).length after ≡ take 4096 (with_chunk payload t s)
      payload_told z =
          let F = S.filled in
          subst
          (λ (n : ℕ). (answer_of (judged t n s)).number ≡ 0x00
          → take (answer_of (judged t n s)).length (stored (judged t n s) s t.sum S.kept) ≡ take 4096 (payload ++ taken (judged t n s) s))
          long
          (λ e.
          (λ i. take (length_is_sum o t S.replies S.segments payload (filled_holds F).life S.kept s e i)
          (payload_lies o t S.replies S.segments payload d₀ S.kept F s e i))
          ∙ take_holding (payload ++ taken (judged t (length S.kept) s) s) d₀
          ∙ ap (λ (n : ℕ). take n (payload ++ taken (judged t (length S.kept) s) s)) all) z

      done_said : number t s ≡ 0x00 → (surplus : List ℕ)
          → from_start (text_of (entry ∷ ss ++ s ∷ []) ++ surplus) ≡ text ++ line_text (0x00 ∷ take 4096 (with_chunk payload t s))
      done_said z surplus =
          last_one _ (number_0 (called_by t c (verdict t s)) after z) refl surplus
          ∙ ap (λ (x : List ℕ). text ++ line_text (0x00 ∷ x)) (payload_told z)

      number_said : 0x02 < number t s → (surplus : List ℕ)
          → from_start (text_of (entry ∷ ss ++ s ∷ []) ++ surplus) ≡ text ++ line_text (number t s ∷ [])
      number_said h surplus =
          let z : (n : ℕ) → n ≤ 2 → number t s ≡ n → ⊥ = λ n l e. omega (arith, h, l, e) in
          last_one _ (number_last (called_by t c (verdict t s)) after (z 0 (omega arith)) (z 1 (omega arith)) (z 2 (omega arith))) refl surplus

  stands : Frame entry → form_of entry ≡ Some o → {ss : List (List ℕ)} {t : Transfer} {c : ℕ} {text payload : List ℕ}
      → Awaits o ss t c text payload → Stands ss t c text payload
  stands F f (entered u) = entry_stands F f u
  stands F f (asks s A G n e) = asks_stands (stands F f A) s G n e
  stands F f (waits s A G n e) = waits_stands (stands F f A) s G n e

pub courses : Courses
unfolding printed
courses entry F =
    let d₀ : List ℕ = replicate 4096 0 in
    let all : length d₀ ≡ 4096 = length-replicate {A = ℕ} 4096 0 in
    record {
      goes = λ o ss t c text payload f A.
          let S = stands d₀ all entry o F f A in
          record {
            leaves =
                ap printed (sym (append-nil (text_of (entry ∷ ss)))) ∙ S.on [] ∙ ap (λ (x : List ℕ). text ++ x) (left_said t c S.kept);
            done = λ s surplus G z. done_said d₀ all entry o S s G z surplus;
            over = λ s surplus G h. number_said d₀ all entry o S s G h surplus;
          };
      unlisted = λ more f. bad_entry d₀ entry more F (ap (after_form (empty_at 1)) f);
      unfit = λ more o f u. bad_entry d₀ entry more F (ap (after_form (empty_at 1)) f ∙ unfit_said o u);
    }
