-- What the numbers 1x and 2x leave, of a transfer by itself. Assumes nothing.
use Rattle.std.specs.Prelude.{◌≡◌, true, false, List, ℕ, ◌<◌, leb, length, Result}
use Rattle.std.proofs.Math.Option.{Option, none}
use Rattle.wire.specs.declared.refusal.Refusal.{Refusal}
use Rattle.line.specs.Machine.{refuse, accept}
use Rattle.transfer.specs.Due.{request_due}
use Rattle.transfer.specs.Coe.{Lends, Told, ruling_of, sends_if_due, receives_with, receives_if_due}
use Rattle.transfer.specs.declared.Transfer.{Transfer}

-- "14: the other of send and receive is due", before 16
abbrev pub OtherDue : Type 0
OtherDue = (t : Transfer) (c : ℕ) (f s d : List ℕ) →
    (request_due t ≡ false → sends_if_due t c f ≡ refuse 0x14)
    × (request_due t ≡ true → receives_if_due t s d ≡ refuse 0x14)

-- 16: "reply above 1,486, N above 131,070", for every kind
abbrev pub TooLong : Type 0
TooLong = (t : Transfer) (s d : List ℕ) → request_due t ≡ false →
    (1486 < length s → receives_if_due t s d ≡ refuse 0x16)
    × (131070 < length d → receives_if_due t s d ≡ refuse 0x16)

-- 20: "transfer over, buffers unchanged by this call, also for all 2x", so a chunk that 27 cuts off is not stored
abbrev pub EndsUnstored : Type 0
EndsUnstored = (t : Transfer) (l : Lends) (r : Told × Option Transfer) → receives_with t l ≡ accept r → leb 0x20 r.0.0.number ≡ true →
    (r.0.1 ≡ l.1)
    × (r.1 ≡ none)

-- no two refusals have one number, so a ruling is one result's alone
abbrev pub OneResult : Type 1
OneResult = (A : Type 0) (r s : Result A Refusal) → ruling_of r ≡ ruling_of s → r ≡ s
