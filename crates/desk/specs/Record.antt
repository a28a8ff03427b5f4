-- The desk's record: what it holds, and the record that holds it. The desk itself is line's, with the CoE machine. Assumes nothing.
use Rattle.std.specs.Prelude.{◌≡◌, Bool, true, [], ◌∷◌, ◌++◌, map, ℕ, suc, ◌-◌, eqb, ltb, length, take, replicate, Option, Some, None}
use Rattle.wire.specs.Words.{pick, within}
use Rattle.line.specs.Line.{Line, seated}
use Rattle.line.specs.Desk.{first_counter, pass_at, fresh_at}
use Rattle.line.specs.Desk as line
use Rattle.line.specs.Sound.{Sound}
use Rattle.transfer.specs.declared.Transfer.{Transfer}
use Rattle.transfer.specs.Coe.{coe_machine}
use Rattle.desk.specs.declared.record.Slot.{Slot}
use Rattle.desk.specs.declared.Desk.{Desk}

-- the desk as the document has it: the line by order of entry, each transfer with its seat, and the counter of the next frame
abbrev pub Queue : Type 0
Queue = line.Desk coe_machine

abbrev pub lined : Line Transfer → Queue → Queue
lined l q = line.lined coe_machine l q

-- ---- the record

abbrev pub pair_of : Slot → ℕ × Transfer
pair_of s = (s.seat, s.transfer)

abbrev pub slot_of : ℕ × Transfer → Slot
slot_of q = record { seat = q.0; transfer = q.1 }

-- a slot of which nothing else is said
abbrev pub slot_with : ℕ → ℕ → Slot
slot_with index stage = record {
  seat = 0;
  transfer = record {
    order = record { kind = 0; sub = 0; index = index; value = 0; len = 0; budget = 0 };
    stage = stage;
    toggle = 0;
    left = 0;
    sum = 0;
  };
}

-- what stands in the slots behind the line: no object, and nothing is due
abbrev pub blank_of : Slot
blank_of = slot_with 0xffff 0xff

-- what a record holds: the line in its first slots
unfoldable pub view_of : Desk → Queue
view_of d = record { line = map pair_of (take d.waiting d.line); pass = pass_at d.counter }

-- the record that holds a queue: blanks in the slots behind the line
unfoldable pub desk_of : Queue → Desk
desk_of q = record {
  line = map slot_of q.line ++ replicate (8 - length q.line) blank_of;
  waiting = length q.line;
  counter = q.pass.counter;
}

-- a record that calls made from a fresh desk: it is the record of what it holds, "Seats are 0 to 7. A transfer is one entry", and
-- the counter of the next frame is 1 to 7
pub record Good (d : Desk) : Type 0 where
  pub laid : d ≡ desk_of (view_of d)
  pub sound : Sound (view_of d).line
  pub counts : within 1 7 d.counter ≡ true

-- "A fresh desk sends 1; 7 is followed by 1." A desk can begin at any of these counters; another number stands for the first.
unfoldable pub counter_from : ℕ → ℕ
counter_from c = pick (ltb c 1) first_counter (pick (ltb 7 c) first_counter c)

-- ---- what the private functions do

abbrev pub empty_at : ℕ → Desk
empty_at c = desk_of (fresh_at coe_machine (pass_at c))

-- the place of a seat in a line, 0 at the head; the line's length where the seat is not in it
unfoldable pub place_in : ℕ → Line Transfer → ℕ
place_in s [] = 0
place_in s (q ∷ l) = pick (eqb s q.0) 0 (suc (place_in s l))

-- the same, where the seat is in it
abbrev pub place_of : ℕ → Line Transfer → Option ℕ
place_of s l = pick (seated s l) (Some (place_in s l)) None

-- whether a slot is a seat's, or a blank that has its number
abbrev pub is_at : ℕ → Slot → Bool
is_at s x = eqb s x.seat
