-- A transfer's replies, one after another, into one data buffer. Document 01: "If one buffer was lent to every receive and not
-- altered between, then on 00 its first min(P, N) bytes are the payload and the others are untouched." Assumes nothing.
use Rattle.std.specs.Prelude.{◌≡◌, Bool, true, false, List, [], ◌∷◌, ◌++◌, ℕ, min, length, take, drop}
use Rattle.wire.specs.Words.{either}
use Rattle.judge.specs.Answers.{answer_of}
use Rattle.judge.specs.Download.{judge_download}
use Rattle.judge.specs.Upload.{judge_upload}
use Rattle.judge.specs.Segment.{judge_segment}
use Rattle.judge.specs.Information.{judge_list}
use Rattle.judge.specs.Storage.{taken, stored}
use Rattle.judge.specs.declared.Answer.{Answer}
use Rattle.judge.specs.declared.Verdict.{Verdict}
use Rattle.judge.specs.declared.Verdict.TheVariants.{Segment, Fragment}

-- how a reply is judged: by whether the list has begun, by the sum of the earlier chunks, and by N
abbrev pub Judge : Type 0
Judge = Bool → ℕ → ℕ → List ℕ → Verdict

abbrev pub by_upload : ℕ → ℕ → Judge
by_upload index sub begun earlier n s = judge_upload index sub n s

abbrev pub by_download : ℕ → ℕ → Judge
by_download index sub begun earlier n s = judge_download index sub s

abbrev pub by_segments : Judge
by_segments begun earlier n s = judge_segment earlier n s

abbrev pub by_fragments : Judge
by_fragments begun earlier n s = judge_list begun earlier n s

-- between two replies: whether the list has begun, the chunks so far, joined, and the one buffer
pub record SoFar : Type 0 where
  pub begun : Bool
  pub payload : List ℕ
  pub buffer : List ℕ

abbrev pub fresh : List ℕ → SoFar
fresh d = record { begun = false; payload = []; buffer = d }

-- "the first operation 2 reply" begins the list
abbrev pub begins : Verdict → Bool
begins (Fragment from len sum last) = true
begins other = false

abbrev pub judged_in : Judge → SoFar → List ℕ → Verdict
judged_in judge r s = judge r.begun (length r.payload) (length r.buffer) s

-- "Each call writes only its own chunk, at the sum of the earlier ones. Chunks are stored as they come."
abbrev pub next : Judge → SoFar → List ℕ → SoFar
next judge r s =
    record {
      begun = either r.begun (begins (judged_in judge r s));
      payload = r.payload ++ taken (judged_in judge r s) s;
      buffer = stored (judged_in judge r s) s (length r.payload) r.buffer;
    }

abbrev pub after : Judge → SoFar → List (List ℕ) → SoFar
after judge r [] = r
after judge r (s ∷ ss) = after judge (next judge r s) ss

-- the payload p in the buffer that was d: "its first min(P, N) bytes are the payload and the others are untouched"
abbrev pub holding : List ℕ → List ℕ → List ℕ
holding p d = take (min (length p) (length d)) p ++ drop (min (length p) (length d)) d

-- the run's answer and its buffer, which was d when it was first lent
pub record Kept (d : List ℕ) (answer : Answer) (r : SoFar) : Type 0 where
  pub length_is : answer.length ≡ length r.payload
  pub lies : r.buffer ≡ holding r.payload d

-- "on 00", after the replies ss and then s
abbrev pub KeptOnDone : Judge → List ℕ → List (List ℕ) → List ℕ → Type 0
KeptOnDone judge d ss s =
    let r = after judge (fresh d) ss in
    (answer_of (judged_in judge r s)).number ≡ 0x00 → Kept d (answer_of (judged_in judge r s)) (next judge r s)

-- the sum of the chunks after a verdict: the one that it carries
abbrev pub sum_after : ℕ → Verdict → ℕ
sum_after earlier (Segment from len sum last) = sum
sum_after earlier (Fragment from len sum last) = sum
sum_after earlier other = earlier
