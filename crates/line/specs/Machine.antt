-- What the desk knows of a transfer: a machine, which is a parameter of everything here. Who may call, in which order and with
-- which counter is the desk's business; what a request and a reply are is the machine's. Assumes nothing.
use Rattle.std.specs.Prelude.{ℕ, Bool}
use Rattle.std.proofs.Math.Option.{Option}

-- a judgement: refused with a number, or accepted with a result
pub data Ruling (A : Type 0) : Type 0 where
  refuse : ℕ → Ruling A
  accept : A → Ruling A

-- the first judgement and, where it accepts, the second
unfoldable pub and_then : {A B : Type 0} → Ruling A → (A → Ruling B) → Ruling B
and_then (refuse n) f = refuse n
and_then (accept a) f = f a

-- One kind of transfer. A buffer is named with its bytes: before a call in what the call lends, after it in what the call gives.
pub record Machine : Type 1 where
  pub Entry : Type 0  -- what enter brings
  pub Lent : Type 0  -- what send lends: the frame buffer
  pub Frame : Type 0  -- what send gives: the frame buffer afterwards
  pub Reply : Type 0  -- what receive brings: the reply, and the data buffer that it lends
  pub Answer : Type 0  -- what receive gives: the answer, and the data buffer afterwards
  pub Transfer : Type 0  -- where a transfer stands
  pub begin : Entry → Ruling Transfer
  pub send_due : Transfer → Bool  -- a request is due, else a reply
  pub sends : Transfer → ℕ → Lent → Ruling (Frame × Transfer)  -- with the counter of the frame
  pub receives : Transfer → Reply → Ruling (Answer × Option Transfer)  -- none: the transfer is over
