-- What a call changes in the record, and the record that the change makes. Assumes nothing.
use Rattle.std.specs.Prelude.{◌≡◌, List, [], ◌∷◌, ℕ, zero, suc, ◌+◌, ◌-◌, ◌<◌, ◌≤◌, ltb, set, get_or, Option, Some, None, Result, Ok, Err, IfOk}
use Rattle.wire.specs.Refusal.{number_of}
use Rattle.wire.specs.Words.{pick}
use Rattle.wire.specs.declared.refusal.Refusal.{Refusal}
use Rattle.line.specs.Machine.{Ruling, refuse, accept}
use Rattle.line.specs.Desk.{Call, Outcome, refused, entered, sent, received, left, step}
use Rattle.line.specs.Transfers.{seat_of}
use Rattle.judge.specs.Answers.{plain_of}
use Rattle.judge.specs.declared.Answer.{Answer}
use Rattle.transfer.specs.declared.Transfer.{Transfer}
use Rattle.transfer.specs.Coe.{coe_machine, ruling_of}
use Rattle.desk.specs.Record.{view_of, slot_of, blank_of, place_in}
use Rattle.desk.specs.Calls.{called_of, lent_after}
use Rattle.desk.specs.declared.record.Slot.{Slot}
use Rattle.desk.specs.declared.change.Change.{Change}
use Rattle.desk.specs.declared.Called.{Called}
use Rattle.desk.specs.declared.Desk.{Desk}

-- a list whose places from a on have moved up by one, as far as place i
unfoldable pub moved : {A : Type 0} → List A → ℕ → ℕ → List A
moved [] a i = []
moved (x ∷ l) (suc a) zero = x ∷ l
moved (x ∷ l) (suc a) (suc i) = x ∷ moved l a i
moved (x ∷ l) zero zero = x ∷ l
moved (x ∷ []) zero (suc i) = x ∷ []
moved (x ∷ (y ∷ l)) zero (suc i) = y ∷ moved (y ∷ l) zero i

-- The record that a change makes of d. `Change::apply` makes it by one copy, which is `moved` (proofs/Moved).
abbrev pub changed_by : Change → Desk → Desk
changed_by c d = record {
  line = set (moved d.line c.first c.last) c.at c.slot;
  waiting = c.waiting;
  counter = c.counter;
}

-- what a call gives back at d: its change made, or the number of its refusal, and d as it was
abbrev pub called_by : Result Change Refusal → Desk → Called
called_by (Err e) d = record { answer = plain_of (number_of e); desk = d }
called_by (Ok c) d = record { answer = c.answer; desk = changed_by c d }

-- the places that a change names are there
pub record Within (c : Change) : Type 0 where
  pub ordered : c.first ≤ c.last
  pub ends : c.last < 8
  pub lies : c.at < 8

-- ---- the change from a record to what a call gives back

abbrev pub change_to : Called → ℕ → ℕ → ℕ → Change
change_to r first last at = record {
  answer = r.answer;
  first = first;
  last = last;
  at = at;
  slot = get_or r.desk.line at blank_of;
  waiting = r.desk.waiting;
  counter = r.desk.counter;
}

-- the line has closed up where the seat s stood
abbrev pub closed_to : Desk → ℕ → Called → Change
closed_to d s r = change_to r (place_in s (view_of d).line) r.desk.waiting r.desk.waiting

-- which places a call of the seat s has changed, by its outcome; what then stands there is in r. A refusal changes nothing.
unfoldable pub change_of : Desk → ℕ → Outcome coe_machine → Called → Ruling Change
change_of d s (refused n) r = refuse n
change_of d s entered r = accept (change_to r 0 0 d.waiting)
change_of d s (sent f) r = accept (change_to r 0 0 0)
change_of d s (received a) r = accept (pick (ltb r.desk.waiting d.waiting) (closed_to d s r) (change_to r 0 0 0))
change_of d s left r = accept (closed_to d s r)

-- what the change of a call k at the record d promises
pub record Changes (d : Desk) (k : Call coe_machine) (c : Result Change Refusal) : Type 0 where
  pub told : ruling_of c ≡ change_of d (seat_of k) (step coe_machine (view_of d) k).1 (called_of (step coe_machine (view_of d) k))
  pub makes : called_by c d ≡ called_of (step coe_machine (view_of d) k)
  pub within : IfOk c Within

-- and of one that lends a buffer
pub record ChangesLent (d : Desk) (k : Call coe_machine) (c : Result Change Refusal) (before after : List ℕ) : Type 0 where
  pub changes : Changes d k c
  pub lent : after ≡ lent_after before (step coe_machine (view_of d) k).1

-- ---- what the private functions give

abbrev put_to : Answer → ℕ → Slot → ℕ → ℕ → Change
put_to a at x n k = record { answer = a; first = 0; last = 0; at = at; slot = x; waiting = n; counter = k }

abbrev pub joins_by : Desk → ℕ → Transfer → Change
joins_by d s t = put_to (plain_of 0x01) d.waiting (slot_of (s, t)) (d.waiting + 1) d.counter

abbrev pub heads_by : Answer → Desk → ℕ → Transfer → ℕ → Change
heads_by a d s t k = put_to a 0 (slot_of (s, t)) d.waiting k

abbrev pub closes_at : Answer → Desk → ℕ → Change
closes_at a d n = record {
  answer = a;
  first = n;
  last = d.waiting - 1;
  at = d.waiting - 1;
  slot = blank_of;
  waiting = d.waiting - 1;
  counter = d.counter;
}

abbrev pub moves_on : Answer → Desk → ℕ → Option Transfer → Change
moves_on a d s None = closes_at a d 0
moves_on a d s (Some t) = heads_by a d s t d.counter
