-- The desk: document 01, "Calls of the desk" and "Numbers the desk gives back", over any machine. Assumes nothing.
use Rattle.std.specs.Prelude.{ℕ, ◌+◌, ◌%◌, not}
use mathlib.Core.List.{[], ◌∷◌, ◌++◌, tail}
use Rattle.std.proofs.Math.Option.{Option}
use Rattle.wire.specs.Words.{pick}
use Rattle.line.specs.Machine.{Ruling, refuse, accept, and_then, Machine}
use Rattle.line.specs.Line.{Line, no_seat, seated, find, head, vacate, place}

-- "7 is followed by 1."
abbrev pub following : ℕ → ℕ
following c = c % 7 + 1

-- What one transfer passes on to the next: the counter of the next frame. Only `pass_at` and `counted` build one.
pub record Pass : Type 0 where
  pub counter : ℕ

abbrev pub pass_at : ℕ → Pass
pass_at c = record { counter = c }

-- "A fresh desk sends 1"
abbrev pub first_counter : ℕ
first_counter = 1

abbrev pub first : Pass
first = pass_at first_counter

-- one frame later
abbrev pub counted : Pass → Pass
counted p = record { counter = following p.counter }

module _ (M : Machine) where
  open M use {Entry, Lent, Frame, Reply, Answer, Transfer, begin, send_due, sends, receives}

  -- each names its seat first
  pub data Call : Type 0 where
    enter : ℕ → Entry → Call
    send : ℕ → Lent → Call
    receive : ℕ → Reply → Call
    leave : ℕ → Call

  -- what a call gives back, with every lent buffer as it is afterwards
  pub data Outcome : Type 0 where
    refused : ℕ → Outcome  -- 1x: buffers unchanged
    entered : Outcome  -- 01
    sent : Frame → Outcome  -- 02
    received : Answer → Outcome  -- 00, 01, 02, 2x
    left : Outcome  -- 03: buffers unchanged

  pub record Desk : Type 0 where
    pub line : Line Transfer
    pub pass : Pass

  -- nobody in the line
  abbrev pub fresh_at : Pass → Desk
  fresh_at p = record { line = []; pass = p }

  -- the desk with another line
  abbrev pub lined : Line Transfer → Desk → Desk
  lined l d = record { line = l; pass = d.pass }

  -- "joins the end of the line"
  abbrev pub joined : ℕ → Transfer → Desk → Desk
  joined s t d = lined (d.line ++ ((s, t) ∷ [])) d

  -- "writes the head's due request with the next counter": the head stays the head
  abbrev pub sent_by : ℕ → Transfer → Desk → Desk
  sent_by s t d = record { line = (s, t) ∷ tail d.line; pass = counted d.pass }

  -- "judges one reply for the head": it stays the head, or "its seat is free again when it ends"
  abbrev pub received_by : ℕ → Option Transfer → Desk → Desk
  received_by s t d = lined (place s t ++ tail d.line) d

  -- "takes the transfer out, anywhere in the line"
  abbrev pub left_by : ℕ → Desk → Desk
  left_by s d = lined (vacate s d.line) d

  -- "Order: enter 10, 11, 15; send and receive 10, 12, 13, 14, 16; leave 10, 12." 15 and 16 are the machine's to say.
  unfoldable pub judge : Desk → Call → Ruling (Desk × Outcome)
  judge d (enter s e) =
      pick (no_seat s) (refuse 0x10)
      (pick (seated s d.line) (refuse 0x11)
      (and_then (begin e) λ t. accept (joined s t d, entered)))
  judge d (send s b) =
      and_then (head s d.line) λ t.
      pick (not (send_due t)) (refuse 0x14)
      (and_then (sends t d.pass.counter b) λ r. accept (sent_by s r.1 d, sent r.0))
  judge d (receive s r) =
      and_then (head s d.line) λ t.
      pick (send_due t) (refuse 0x14)
      (and_then (receives t r) λ a. accept (received_by s a.1 d, received a.0))
  judge d (leave s) =
      pick (no_seat s) (refuse 0x10)
      (and_then (find s d.line) λ t. accept (left_by s d, left))

  -- 10: "all unchanged, also for all 1x"
  unfoldable pub settled : Desk → Ruling (Desk × Outcome) → Desk × Outcome
  settled d (refuse n) = (d, refused n)
  settled d (accept r) = r

  -- one call: the desk afterwards, and what is given back
  unfoldable pub step : Desk → Call → Desk × Outcome
  step d k = settled d (judge d k)
