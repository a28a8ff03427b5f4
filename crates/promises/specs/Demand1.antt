-- Demand 1: "No reply and no call can stop the library or make it read astray. Every entry point judges its own input. A refusal is one
-- of document 01's numbers, and the call that gives it changes no byte of a lent buffer." That no call stops or reads astray is part
-- of what each function's proof says; that none needs a fit input is that no function here has a `requires`, but for the record.
-- What is left is said here, of every call at every record that calls made. Assumes nothing.
use Rattle.std.specs.Prelude.{◌≡◌, Bool, true, false, List, [], ◌∷◌, ℕ, ◌/◌, eqb}
use Rattle.judge.specs.Answers.{one_of}
use Rattle.line.specs.Line.{seated}
use Rattle.line.specs.Transfers.{seat_of}
use Rattle.line.specs.Numbers.{is1x}
use Rattle.desk.specs.Record.{Good, view_of}
use Rattle.desk.specs.Stand.{lent_by, desk_stand}
use Rattle.desk.specs.declared.Desk.{Desk}
use Rattle.promises.specs.Standing.{Called}

-- "Numbers the desk gives back"
abbrev pub numbers : List ℕ
numbers =
    0x00 ∷ 0x01 ∷ 0x02 ∷ 0x03
    ∷ 0x10 ∷ 0x11 ∷ 0x12 ∷ 0x13 ∷ 0x14 ∷ 0x15 ∷ 0x16
    ∷ 0x20 ∷ 0x21 ∷ 0x22 ∷ 0x23 ∷ 0x24 ∷ 0x25 ∷ 0x26 ∷ 0x27
    ∷ []

abbrev pub is2x : ℕ → Bool
is2x n = eqb (n / 16) 2

module _ (d : Desk) (k : Called) where
  -- the number that the call gives, the lent buffer and the record afterwards
  abbrev pub number_given : ℕ
  number_given = (desk_stand.answers d k).0.number

  abbrev pub buffer_after : List ℕ
  buffer_after = (desk_stand.answers d k).1

  abbrev pub record_after : Desk
  record_after = desk_stand.next d k

  -- "its seat is free again when it ends"
  abbrev pub SeatFree : Type 0
  SeatFree = seated (seat_of k) (view_of record_after).line ≡ false

  pub record Judged : Type 0 where
    pub listed : one_of numbers number_given ≡ true
    -- 10: "all unchanged, also for all 1x"
    pub refusal_leaves : is1x number_given ≡ true → (record_after ≡ d) × (buffer_after ≡ lent_by k)
    -- 20: "transfer over, buffers unchanged by this call, also for all 2x"
    pub failure_ends : is2x number_given ≡ true → SeatFree × (buffer_after ≡ lent_by k)
    -- 00: "seat free"
    pub done_ends : number_given ≡ 0x00 → SeatFree
    -- 03: "buffers unchanged, seat free"
    pub leave_ends : number_given ≡ 0x03 → SeatFree × (buffer_after ≡ lent_by k)
    -- a record that the next call takes
    pub good : Good record_after

abbrev pub Demand1 : Type 0
Demand1 = (d : Desk) → Good d → (k : Called) → Judged d k
