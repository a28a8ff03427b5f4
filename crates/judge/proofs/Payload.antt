-- What the data buffer holds after any replies, and that P is the length of the payload. Assumes nothing.
use mathlib.Core.Path.{◌≡◌, refl, sym, ap, ◌∙◌}
use mathlib.Core.Bool.{Bool, true, false, false≢true}
use mathlib.Core.List.{List, [], ◌∷◌}
use Prim.Native.Nat.{ℕ, ◌+◌, ◌-◌, ◌≤◌}
use native.Mathlib.Omega.{arith}
use lib.Dec.{leb}
use lib.ListN.{length, length-append, length-take, length-drop}
use Rattle.wire.specs.Refusal.{number_of}
use Rattle.wire.specs.Store.{laid, part}
use Rattle.wire.specs.declared.refusal.Refusal.TheVariants.{Undecodable, WrongReply, MissingBytes, LengthField}
use Rattle.judge.specs.Answers.{done_or, answer_of}
use Rattle.judge.specs.Download.{judge_download}
use Rattle.judge.specs.Upload.{judge_upload}
use Rattle.judge.specs.Segment.{judge_segment}
use Rattle.judge.specs.Information.{judge_list}
use Rattle.judge.specs.Storage.{taken, stored}
use Rattle.judge.specs.Replies.{Judge, by_upload, by_download, by_segments, by_fragments, SoFar, fresh, judged_in, next, after, holding, KeptOnDone, sum_after}
use Rattle.judge.specs.declared.Verdict.{Verdict}
use Rattle.judge.specs.declared.Verdict.TheVariants.{Refused, Emergency, Aborted, Done, Segment, Fragment, ReplyDue}
use Rattle.judge.proofs.Cases.{Alarming, upload_cases, download_cases, segment_cases, list_cases}
use Rattle.judge.proofs.Laid.{laid_nil, laid_front, laid_length, laid_join}

pub part_length : (s : List ℕ) (from len : ℕ) → len ≤ length s - from → length (part s from len) ≡ len
part_length s from len h = simp (length-take, length-drop) (omega arith)

-- ---- one reply

-- a verdict on s that takes nothing, or a chunk that is there and fits, and carries the sum
pub record Sound (earlier n : ℕ) (s : List ℕ) (v : Verdict) : Type 0 where
  pub sum : sum_after earlier v ≡ earlier + length (taken v s)
  pub fits : earlier ≤ n → earlier + length (taken v s) ≤ n
  pub ends : (answer_of v).number ≡ 0x00 → (answer_of v).length ≡ earlier + length (taken v s)

-- after the last, P is the sum
done_sum : (last : Bool) (sum number : ℕ) → (number ≡ 0 → ⊥) → (done_or last sum number).number ≡ 0x00 → (done_or last sum number).length ≡ sum
done_sum true sum number never e = refl
done_sum false sum number never e = absurd (never e)

module _ (earlier n : ℕ) (s : List ℕ) where
  nothing : (v : Verdict) → sum_after earlier v ≡ earlier → length (taken v s) ≡ 0 → ((answer_of v).number ≡ 0x00 → ⊥) → Sound earlier n s v
  nothing v e z never = record { sum = omega arith; fits = λ h. omega arith; ends = λ d. absurd (never d) }

  refused : (number : ℕ) → (number ≡ 0 → ⊥) → Sound earlier n s (Refused number)
  unfolding answer_of
  refused number never = nothing (Refused number) refl refl never

  alarming : Alarming (Sound earlier n s)
  unfolding answer_of
  alarming =
      record {
        refused = refused (number_of Undecodable) (λ e. omega arith);
        emergency = λ m. nothing (Emergency m) refl refl (λ e. omega arith);
        aborted = λ b i c. nothing (Aborted b i c) refl refl (λ e. omega arith);
        other = refused (number_of WrongReply) (λ e. omega arith);
      }

  pub segment_sound : Sound earlier n s (judge_segment earlier n s)
  unfolding answer_of
  segment_sound =
      segment_cases (Sound earlier n s) s earlier n (refused (number_of LengthField) (λ e. omega arith)) (refused (number_of MissingBytes) (λ e. omega arith)) alarming λ from len last h k.
      let l : length (part s from len) ≡ len = part_length s from len h in
      record {
        sum = omega arith;
        fits = λ _. omega arith;
        ends = λ e. done_sum last (earlier + len) 0x01 (λ e. omega arith) e ∙ omega arith;
      }

  pub list_sound : (begun : Bool) → Sound earlier n s (judge_list begun earlier n s)
  unfolding answer_of
  list_sound begun =
      list_cases (Sound earlier n s) s earlier n (refused (number_of LengthField) (λ e. omega arith)) (refused (number_of MissingBytes) (λ e. omega arith)) begun
      (refused (number_of Undecodable) (λ e. omega arith)) (nothing ReplyDue refl refl (λ e. omega arith)) λ from len last h k.
      let l : length (part s from len) ≡ len = part_length s from len h in
      record {
        sum = omega arith;
        fits = λ _. omega arith;
        ends = λ e. done_sum last (earlier + len) 0x02 (λ e. omega arith) e ∙ omega arith;
      }

-- ---- any replies, one after another

abbrev pub SoundJudge : Judge → Type 0
SoundJudge judge = (begun : Bool) (earlier n : ℕ) (s : List ℕ) → Sound earlier n s (judge begun earlier n s)

-- the buffer that was d holds the chunks so far, and nothing else was touched
record Lies (d : List ℕ) (r : SoFar) : Type 0 where
  lies : r.buffer ≡ laid d 0 r.payload
  room : length r.payload ≤ length d

module _ (judge : Judge) (sound : SoundJudge judge) (d : List ℕ) where
  next_lies : (r : SoFar) (s : List ℕ) → Lies d r → Lies d (next judge r s)
  unfolding stored
  next_lies r s h =
      let p = r.payload in
      let c = taken (judged_in judge r s) s in
      let n : length r.buffer ≡ length d = ap length h.lies ∙ laid_length d 0 p (omega (arith, h.room)) in
      let k : length p + length c ≤ length d = omega (arith, (sound r.begun (length p) (length r.buffer) s).fits (omega (arith, h.room))) in
      let z : length p ≡ 0 + length p = omega arith in
      record {
        lies =
            ap (λ (b : List ℕ). laid b (length p) c) h.lies
            ∙ ap (λ (i : ℕ). laid (laid d 0 p) i c) z
            ∙ laid_join d 0 p c (omega arith);
        room = omega (arith, length-append p c);
      }

  after_lies : (r : SoFar) (ss : List (List ℕ)) → Lies d r → Lies d (after judge r ss)
  after_lies r [] h = h
  after_lies r (s ∷ ss) h = after_lies (next judge r s) ss (next_lies r s h)

  all_lie : (ss : List (List ℕ)) → Lies d (after judge (fresh d) ss)
  all_lie ss = after_lies (fresh d) ss (record { lies = laid_nil d 0; room = omega arith })

  -- after any replies: the chunks, joined, from the start of the buffer, and the rest untouched
  always : (ss : List (List ℕ)) → (after judge (fresh d) ss).buffer ≡ holding (after judge (fresh d) ss).payload d
  always ss = (all_lie ss).lies ∙ laid_front d (after judge (fresh d) ss).payload

  -- the sum that a verdict carries is that of the chunks
  carried : (r : SoFar) (s : List ℕ) → sum_after (length r.payload) (judged_in judge r s) ≡ length (next judge r s).payload
  carried r s =
      (sound r.begun (length r.payload) (length r.buffer) s).sum
      ∙ sym (length-append r.payload (taken (judged_in judge r s) s))

  kept : (ss : List (List ℕ)) (s : List ℕ) → KeptOnDone judge d ss s
  kept ss s e =
      let r : SoFar = after judge (fresh d) ss in
      record {
        length_is =
            (sound r.begun (length r.payload) (length r.buffer) s).ends e
            ∙ sym (length-append r.payload (taken (judged_in judge r s) s));
        lies = (next_lies r s (all_lie ss)).lies ∙ laid_front d (next judge r s).payload;
      }

sound_segments : SoundJudge by_segments
sound_segments begun earlier n s = segment_sound earlier n s

sound_fragments : SoundJudge by_fragments
sound_fragments begun earlier n s = list_sound earlier n s begun

pub segments_lie : (d : List ℕ) (ss : List (List ℕ)) → (after by_segments (fresh d) ss).buffer ≡ holding (after by_segments (fresh d) ss).payload d
segments_lie = always by_segments sound_segments

pub fragments_lie : (d : List ℕ) (ss : List (List ℕ)) → (after by_fragments (fresh d) ss).buffer ≡ holding (after by_fragments (fresh d) ss).payload d
fragments_lie = always by_fragments sound_fragments

pub segments_sum : (r : SoFar) (s : List ℕ) → sum_after (length r.payload) (judged_in by_segments r s) ≡ length (next by_segments r s).payload
segments_sum r s = carried by_segments sound_segments r.buffer r s

pub fragments_sum : (r : SoFar) (s : List ℕ) → sum_after (length r.payload) (judged_in by_fragments r s) ≡ length (next by_fragments r s).payload
fragments_sum r s = carried by_fragments sound_fragments r.buffer r s

pub segments_kept : (d : List ℕ) (ss : List (List ℕ)) (s : List ℕ) → KeptOnDone by_segments d ss s
segments_kept = kept by_segments sound_segments

pub fragments_kept : (d : List ℕ) (ss : List (List ℕ)) (s : List ℕ) → KeptOnDone by_fragments d ss s
fragments_kept = kept by_fragments sound_fragments

-- ---- a payload in one reply

-- on 00 all bytes of the payload were there, and P is their number
abbrev Whole : List ℕ → Verdict → Type 0
Whole s v = (answer_of v).number ≡ 0x00 → (answer_of v).length ≡ length (taken v s)

whole_alarms : (s : List ℕ) → Alarming (Whole s)
unfolding answer_of
whole_alarms s =
    record {
      refused = λ e. absurd (omega arith);
      emergency = λ m e. absurd (omega arith);
      aborted = λ b i c e. absurd (omega arith);
      other = λ e. absurd (omega arith);
    }

whole_upload : (index sub n : ℕ) (s : List ℕ) → Whole s (judge_upload index sub n s)
unfolding answer_of
whole_upload index sub n s =
    upload_cases (Whole s) s (λ e. absurd (omega arith)) (λ from p h e. sym (part_length s from p h)) index sub n (whole_alarms s)
    (λ e. absurd (omega arith)) (λ e. absurd (omega arith))

whole_download : (index sub : ℕ) (s : List ℕ) → Whole s (judge_download index sub s)
unfolding answer_of
whole_download index sub s = download_cases (Whole s) index sub s (whole_alarms s) (λ e. refl)

-- what any verdict stores at the start of a buffer
stored_front : (v : Verdict) (s d : List ℕ) → stored v s 0 d ≡ holding (taken v s) d
unfolding stored
stored_front v s d = laid_front d (taken v s)

pub upload_kept : (index sub : ℕ) (d s : List ℕ) → KeptOnDone (by_upload index sub) d [] s
upload_kept index sub d s e =
    record { length_is = whole_upload index sub (length d) s e; lies = stored_front (judge_upload index sub (length d) s) s d }

pub download_kept : (index sub : ℕ) (d s : List ℕ) → KeptOnDone (by_download index sub) d [] s
download_kept index sub d s e =
    record { length_is = whole_download index sub s e; lies = stored_front (judge_download index sub s) s d }

-- ---- refusals: "buffers unchanged by this call, also for all 2x"

done_below : (last : Bool) (sum : ℕ) (number : ℕ) → leb 0x20 number ≡ false → leb 0x20 (done_or last sum number).number ≡ true → ⊥
done_below true sum number b e = false≢true e
done_below false sum number b e = false≢true (sym b ∙ e)

pub refused_stores_nothing : (v : Verdict) (s : List ℕ) (at : ℕ) (d : List ℕ) → leb 0x20 (answer_of v).number ≡ true → stored v s at d ≡ d
unfolding answer_of stored
refused_stores_nothing (Done f p) s at d e = absurd (false≢true e)
refused_stores_nothing (Segment f k sum l) s at d e = absurd (done_below l sum 0x01 refl e)
refused_stores_nothing (Fragment f k sum l) s at d e = absurd (done_below l sum 0x02 refl e)
refused_stores_nothing other s at d e = sym (laid_nil d at)
