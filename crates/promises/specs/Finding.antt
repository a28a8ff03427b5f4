-- What is told of a reply: the number with its values, and the bytes of the reply that are its chunk. Document 01, "Numbers the
-- desk gives back". Assumes nothing.
use Rattle.std.specs.Prelude.{List, [], ℕ}
use Rattle.judge.specs.Answers.{answer_of}
use Rattle.judge.specs.Storage.{taken}
use Rattle.judge.specs.declared.Answer.{Answer}
use Rattle.judge.specs.declared.Verdict.{Verdict}

abbrev pub Finding : Type 0
Finding = Answer × List ℕ

abbrev pub finding : Verdict → List ℕ → Finding
finding v s = (answer_of v, taken v s)

-- a number that has no values
abbrev pub number : ℕ → Answer
number x = record { number = x; sub = 0; index = 0; code = 0; length = 0; «data» = 0 }

-- "20 .. buffers unchanged by this call, also for all 2x"
abbrev pub refuse : ℕ → Finding
refuse x = (number x, [])

-- "emergency: code, register"; document 02, [5]: "Answer 21 now also hands back the five bytes", as one number, the first lowest
abbrev pub emergency : ℕ → ℕ → ℕ → Finding
emergency code register five = (record { number = 0x21; sub = register; index = 0; code = code; length = 0; «data» = five }, [])

-- "aborted: code, index, sub-index"
abbrev pub aborted : ℕ → ℕ → ℕ → Finding
aborted code i b = (record { number = 0x22; sub = b; index = i; code = code; length = 0; «data» = 0 }, [])

-- "done, payload length P"
abbrev pub done_of : ℕ → Answer
done_of p = record { number = 0x00; sub = 0; index = 0; code = 0; length = p; «data» = 0 }

abbrev pub done : ℕ → List ℕ → Finding
done p chunk = (done_of p, chunk)

-- "01, 02 request due, reply due .. chunk stored, if any"
abbrev pub then_request : List ℕ → Finding
then_request chunk = (number 0x01, chunk)

abbrev pub then_reply : List ℕ → Finding
then_reply chunk = (number 0x02, chunk)
