-- Whether a chunk can be taken. Document 01, "Judging a reply": "It must be there, and the earlier chunks plus it be at most this
-- call's N, else 25." Assumes nothing.
use Rattle.std.specs.Prelude.{Bool, false, ℕ, ◌+◌, ltb, eqb, Option, Some, None}
use Rattle.wire.specs.Words.{pick}
use Rattle.wire.specs.Refusal.{number_of}
use Rattle.wire.specs.declared.refusal.Refusal.TheVariants.{MissingBytes}
use Rattle.judge.specs.declared.Verdict.{Verdict}
use Rattle.judge.specs.declared.Verdict.TheVariants.{Refused}

-- a reply of size bytes does not have the len bytes from a place on; "(an empty chunk always is)"
unfoldable pub lacking : ℕ → ℕ → ℕ → Bool
lacking size from len = pick (eqb len 0) false (ltb size (from + len))

-- the sum of the earlier chunks and this one, of len bytes from a place on, in a buffer of n
unfoldable pub chunk_at : ℕ → ℕ → ℕ → ℕ → ℕ → Option ℕ
chunk_at size from len earlier n =
    pick (lacking size from len) None
    (pick (ltb n (earlier + len)) None
    (Some (earlier + len)))

-- "else 25"
abbrev pub on_chunk : Option ℕ → (ℕ → Verdict) → Verdict
on_chunk None f = Refused (number_of MissingBytes)
on_chunk (Some sum) f = f sum
