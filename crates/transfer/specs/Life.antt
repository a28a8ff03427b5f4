-- How a transfer came to where it stands: its sends and its judged replies, one after another. Assumes nothing.
use Rattle.std.specs.Prelude.{◌≡◌, false, List, [], ◌++◌, ℕ, suc, ◌%◌, eqb, length}
use Rattle.std.proofs.Math.Option.{some}
use Rattle.services.specs.declared.Request.TheVariants as request
use Rattle.judge.specs.Answers.{answer_of}
use Rattle.judge.specs.Storage.{taken, stored}
use Rattle.judge.specs.Replies.{holding}
use Rattle.transfer.specs.Stage.{first_request_due, segment_request_due}
use Rattle.transfer.specs.Entry.{unfit_of, opened_of}
use Rattle.transfer.specs.Due.{due_of, request_due, awaiting_of}
use Rattle.transfer.specs.Judgement.{judge_reply, budgeted, next_of}
use Rattle.transfer.specs.Coe.{reply_in, judged}
use Rattle.transfer.specs.declared.Order.{Order}
use Rattle.transfer.specs.declared.Transfer.{Transfer}
use Rattle.transfer.specs.declared.due.Due.TheVariants as due

-- a transfer of order o, after so many judged replies and so many requests for a segment, with the chunks so far, joined; each
-- reply s came with a data buffer d
pub data Life (o : Order) : Transfer → ℕ → ℕ → List ℕ → Type 0 where
  begun : unfit_of o ≡ false → Life o (opened_of o) 0 0 []
  asked : {t : Transfer} {replies segments : ℕ} {payload : List ℕ} → t.stage ≡ first_request_due → Life o t replies segments payload
      → Life o (awaiting_of t) replies segments payload
  fetched : {t : Transfer} {replies segments : ℕ} {payload : List ℕ} → t.stage ≡ segment_request_due → Life o t replies segments payload
      → Life o (awaiting_of t) replies (suc segments) payload
  replied : {t u : Transfer} {replies segments : ℕ} {payload : List ℕ} (d s : List ℕ) → request_due t ≡ false
      → Life o t replies segments payload → next_of t (judged t (length d) s) ≡ some u
      → Life o u (suc replies) segments (payload ++ taken (judged t (length d) s) s)

-- "the first request with toggle 0, then alternating"
abbrev pub TogglesAlternate : Type 0
TogglesAlternate = (o : Order) (t : Transfer) (replies segments : ℕ) (payload : List ℕ) → Life o t replies segments payload
    → t.stage ≡ segment_request_due → due_of t ≡ due.Request (request.Segment (eqb (segments % 2) 1))

-- "Every judged reply counts one against the budget. When the count reaches the budget and the answer would be 01 or 02, it is 27":
-- by the true count of replies, the order's own budget, and the true sum of the chunks
abbrev pub BudgetKept : Type 0
BudgetKept = (o : Order) (t : Transfer) (replies segments : ℕ) (payload : List ℕ) → Life o t replies segments payload
    → (n : ℕ) (s : List ℕ)
    → judged t n s ≡ budgeted (eqb (suc replies) o.budget) (judge_reply (reply_in (due_of t)) (length payload) n s)

-- "After the last, P is the sum of chunks", and of an upload in one reply the bytes that it brings
abbrev pub LengthIsSum : Type 0
LengthIsSum = (o : Order) (t : Transfer) (replies segments : ℕ) (payload : List ℕ) → Life o t replies segments payload → (d s : List ℕ)
    → (answer_of (judged t (length d) s)).number ≡ 0x00
    → (answer_of (judged t (length d) s)).length ≡ length (payload ++ taken (judged t (length d) s) s)

-- the same transfer where one buffer, d₀ when it was first lent, was lent to every receive and not altered between
pub data Filled (o : Order) (d₀ : List ℕ) : Transfer → ℕ → ℕ → List ℕ → List ℕ → Type 0 where
  opens : unfit_of o ≡ false → Filled o d₀ (opened_of o) 0 0 [] d₀
  asks : {t : Transfer} {replies segments : ℕ} {payload d : List ℕ} → t.stage ≡ first_request_due → Filled o d₀ t replies segments payload d
      → Filled o d₀ (awaiting_of t) replies segments payload d
  fetches : {t : Transfer} {replies segments : ℕ} {payload d : List ℕ} → t.stage ≡ segment_request_due
      → Filled o d₀ t replies segments payload d → Filled o d₀ (awaiting_of t) replies (suc segments) payload d
  hears : {t u : Transfer} {replies segments : ℕ} {payload d : List ℕ} (s : List ℕ) → request_due t ≡ false
      → Filled o d₀ t replies segments payload d → next_of t (judged t (length d) s) ≡ some u
      → Filled o d₀ u (suc replies) segments (payload ++ taken (judged t (length d) s) s) (stored (judged t (length d) s) s t.sum d)

-- "then on 00 its first min(P, N) bytes are the payload and the others are untouched"
abbrev pub PayloadLies : Type 0
PayloadLies = (o : Order) (t : Transfer) (replies segments : ℕ) (payload d₀ d : List ℕ) → Filled o d₀ t replies segments payload d
    → (s : List ℕ) → (answer_of (judged t (length d) s)).number ≡ 0x00
    → stored (judged t (length d) s) s t.sum d ≡ holding (payload ++ taken (judged t (length d) s) s) d₀
