-- The limits of the order program, and its course from the entry to the last number: what is printed for a file, by the numbers of
-- document 01, "The order program". Assumes nothing.
use Rattle.std.specs.Prelude.{ℕ, ◌%◌, ◌<◌, ◌≤◌, ◌≡◌, true, false, List, [], ◌∷◌, ◌++◌, length, take, Some, None}
use Rattle.std.proofs.Math.Option.{some}
use Rattle.wire.specs.Bytes.{Bytes}
use Rattle.wire.specs.Front.{in_front}
use Rattle.services.specs.Requests.{packed_of}
use Rattle.judge.specs.Answers.{answer_of}
use Rattle.judge.specs.Storage.{taken}
use Rattle.judge.specs.declared.Verdict.{Verdict}
use Rattle.line.specs.Desk.{following}
use Rattle.transfer.specs.Entry.{unfit_of, opened_of}
use Rattle.transfer.specs.Due.{due_of, awaiting_of}
use Rattle.transfer.specs.Judgement.{next_of}
use Rattle.transfer.specs.Coe.{request_in, judged}
use Rattle.transfer.specs.declared.Order.{Order}
use Rattle.transfer.specs.declared.Transfer.{Transfer}
use Rattle.desk.specs.declared.Desk.{Desk}
use Rattle.order_text.specs.Lines.{has_bad, bytes_of}
use Rattle.order_run.specs.Entry.{form_of}
use Rattle.order_run.specs.Turns.{is_over, line_text, text_of, after_frame, kept_frame}
use Rattle.order_run.specs.Printed.{said, printed}
use Rattle.order_run.specs.declared.turns.Phase.{Phase}

-- "print `ff` as its last line and stop"
abbrev pub failing : List ℕ
failing = line_text (0xff ∷ [])

-- ---- "lines of lower-case hexadecimal, one frame a line, at most 1,486 bytes each"

-- a line that the run reads at a desk, in a phase and with a data buffer, and lines behind it
pub record Line (d : Desk) (phase : Phase) (kept l : List ℕ) (ls : List (List ℕ)) : Type 0 where
  -- 1,486 bytes are 2,972 digits: up to that, an even line says what its bytes say
  pub frame : has_bad l ≡ false → length l % 2 ≡ 0 → length l ≤ 2972
      → said d phase kept (l ∷ ls)
      ≡ (after_frame phase d (bytes_of l) kept).text
      ++ said (after_frame phase d (bytes_of l) kept).desk (after_frame phase d (bytes_of l) kept).phase (kept_frame phase d (bytes_of l) kept) ls
  -- "The first character that is not lower-case hexadecimal, an odd line, an overlong line"
  pub character : has_bad l ≡ true → said d phase kept (l ∷ ls) ≡ failing
  pub odd : length l % 2 ≡ 1 → said d phase kept (l ∷ ls) ≡ failing
  pub overlong : 2972 < length l → said d phase kept (l ∷ ls) ≡ failing

abbrev pub Lines : Type 0
Lines = (d : Desk) (phase : Phase) (kept l : List ℕ) (ls : List (List ℕ)) → is_over phase ≡ false → Line d phase kept l ls

-- ---- "It prints each request, then the last number and, after 00, the stored payload."

-- a frame that a line can hold
abbrev pub Frame : List ℕ → Type 0
Frame s = Bytes s × (length s ≤ 1486)

-- "a data buffer of 4,096 bytes"
abbrev pub verdict : Transfer → List ℕ → Verdict
verdict t s = judged t 4096 s

abbrev pub number : Transfer → List ℕ → ℕ
number t s = (answer_of (verdict t s)).number

abbrev pub with_chunk : List ℕ → Transfer → List ℕ → List ℕ
with_chunk payload t s = payload ++ taken (verdict t s) s

-- "a 16-byte frame buffer"
abbrev pub request_line : ℕ → Transfer → List ℕ
request_line counter t = line_text (in_front (packed_of counter (request_in (due_of t))) 16)

-- a transfer of order o that awaits a reply after those in the list: the counter of its next frame, what is printed so far, and the
-- chunks so far, joined
pub data Awaits (o : Order) : List (List ℕ) → Transfer → ℕ → List ℕ → List ℕ → Type 0 where
  -- "A fresh desk sends 1"
  entered : unfit_of o ≡ false → Awaits o [] (awaiting_of (opened_of o)) 2 (request_line 1 (opened_of o)) []
  -- "01 .. request due": the next request is printed
  asks : {ss : List (List ℕ)} {t u : Transfer} {c : ℕ} {text payload : List ℕ} (s : List ℕ) → Awaits o ss t c text payload → Frame s
      → number t s ≡ 0x01 → next_of t (verdict t s) ≡ some u
      → Awaits o (ss ++ s ∷ []) (awaiting_of u) (following c) (text ++ request_line c u) (with_chunk payload t s)
  -- "02 .. reply due": the run goes on, and nothing is printed
  waits : {ss : List (List ℕ)} {t u : Transfer} {c : ℕ} {text payload : List ℕ} (s : List ℕ) → Awaits o ss t c text payload → Frame s
      → number t s ≡ 0x02 → next_of t (verdict t s) ≡ some u
      → Awaits o (ss ++ s ∷ []) u c text (with_chunk payload t s)

-- what is printed for the file of an entry and those replies
pub record Prints (entry : List ℕ) (ss : List (List ℕ)) (t : Transfer) (text payload : List ℕ) : Type 0 where
  -- "Replies used up: it leaves, 03."
  pub leaves : printed (text_of (entry ∷ ss)) ≡ text ++ line_text (0x03 ∷ [])
  -- of one reply more: "after 00, the stored payload", as far as 4,096 bytes reach; "Surplus lines are not read."
  pub done : (s surplus : List ℕ) → Frame s → number t s ≡ 0x00
      → printed (text_of (entry ∷ ss ++ s ∷ []) ++ surplus) ≡ text ++ line_text (0x00 ∷ take 4096 (with_chunk payload t s))
  -- and "the last number" alone
  pub over : (s surplus : List ℕ) → Frame s → 0x02 < number t s
      → printed (text_of (entry ∷ ss ++ s ∷ []) ++ surplus) ≡ text ++ line_text (number t s ∷ [])

pub record Course (entry : List ℕ) : Type 0 where
  pub goes : (o : Order) (ss : List (List ℕ)) (t : Transfer) (c : ℕ) (text payload : List ℕ)
      → form_of entry ≡ Some o → Awaits o ss t c text payload → Prints entry ss t text payload
  -- "a bad entry (.. no listed form, or answered 15)"
  pub unlisted : (more : List ℕ) → form_of entry ≡ None → printed (text_of (entry ∷ []) ++ more) ≡ failing
  pub unfit : (more : List ℕ) (o : Order) → form_of entry ≡ Some o → unfit_of o ≡ true → printed (text_of (entry ∷ []) ++ more) ≡ failing

abbrev pub Courses : Type 0
Courses = (entry : List ℕ) → Frame entry → Course entry
