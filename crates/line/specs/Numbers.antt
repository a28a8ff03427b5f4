-- "Numbers the desk gives back", and in which order it refuses. `tests` says the order a second time, as the document does: a
-- list of conditions with their numbers, of which the first that holds gives the answer. Assumes nothing.
use Rattle.std.specs.Prelude.{◌≡◌, Bool, true, false, not, List, [], ◌∷◌, ℕ, ◌/◌, eqb}
use Rattle.std.proofs.Math.Option.{Option, none, some}
use Rattle.wire.specs.Words.{within}
use Rattle.line.specs.Machine.{Ruling, refuse, accept, Machine}
use Rattle.line.specs.Line.{Line, no_seat, seated}
use Rattle.line.specs.Desk.{Call, Outcome, Desk, enter, send, receive, leave, refused, entered, sent, received, left, step}
use Rattle.line.specs.Stand.{is_accepted}

-- "1x": the first hexadecimal digit is 1
abbrev pub is1x : ℕ → Bool
is1x n = eqb (n / 16) 1

abbrev pub is_refused : {A : Type 0} → Ruling A → Bool
is_refused (refuse n) = true
is_refused (accept a) = false

-- refused with no other number than n
abbrev pub RefusesOnly : {A : Type 0} → ℕ → Ruling A → Type 0
RefusesOnly n (refuse k) = k ≡ n
RefusesOnly n (accept a) = Unit {0}

-- What a machine owes of its numbers: 15 for an "entry", 16 for a "frame buffer", a "reply" or "N", and no 1x for a reply that
-- is judged.
pub record Numbered (M : Machine) : Type 0 where
  pub number_of : M.Answer → ℕ
  pub at_entry : (e : M.Entry) → RefusesOnly 0x15 (M.begin e)
  pub at_send : (t : M.Transfer) (c : ℕ) (b : M.Lent) → RefusesOnly 0x16 (M.sends t c b)
  pub at_receive : (t : M.Transfer) (m : M.Reply) → RefusesOnly 0x16 (M.receives t m)
  pub at_judgement : (t : M.Transfer) (m : M.Reply) (r : M.Answer × Option M.Transfer) → M.receives t m ≡ accept r
      → is1x (number_of r.0) ≡ false

module _ (M : Machine) (N : Numbered M) where
  -- the document's number of an outcome
  unfoldable pub number : Outcome M → ℕ
  number (refused n) = n
  number entered = 0x01
  number (sent f) = 0x02
  number (received a) = N.number_of a
  number left = 0x03

-- a condition with its number
abbrev pub Test : Type 0
Test = Bool × ℕ

module _ {T : Type 0} where
  -- the seat is the head's
  unfoldable pub leads : ℕ → Line T → Bool
  leads s [] = false
  leads s (q ∷ l) = eqb s q.0

  -- conditions on the head
  unfoldable pub of_head : Line T → (T → List Test) → List Test
  of_head [] f = []
  of_head (q ∷ l) f = f q.1

module _ (M : Machine) where
  open M use {begin, send_due, sends, receives}

  -- "Order: enter 10, 11, 15; send and receive 10, 12, 13, 14, 16; leave 10, 12."
  unfoldable pub tests : Desk M → Call M → List Test
  tests d (enter s e) =
      (no_seat s, 0x10)
      ∷ (seated s d.line, 0x11)
      ∷ (is_refused (begin e), 0x15)
      ∷ []
  tests d (send s b) =
      (no_seat s, 0x10)
      ∷ (not (seated s d.line), 0x12)
      ∷ (not (leads s d.line), 0x13)
      ∷ of_head d.line (λ t.
      (not (send_due t), 0x14)
      ∷ (is_refused (sends t d.pass.counter b), 0x16)
      ∷ [])
  tests d (receive s m) =
      (no_seat s, 0x10)
      ∷ (not (seated s d.line), 0x12)
      ∷ (not (leads s d.line), 0x13)
      ∷ of_head d.line (λ t.
      (send_due t, 0x14)
      ∷ (is_refused (receives t m), 0x16)
      ∷ [])
  tests d (leave s) =
      (no_seat s, 0x10)
      ∷ (not (seated s d.line), 0x12)
      ∷ []

  unfoldable pub refusal_of : Outcome M → Option ℕ
  refusal_of (refused n) = some n
  refusal_of entered = none
  refusal_of (sent f) = none
  refusal_of (received a) = none
  refusal_of left = none

  -- the table has no other 1x than 10 to 16
  abbrev pub RefusalNumbers : Type 0
  RefusalNumbers = (d : Desk M) (k : Call M) (n : ℕ) → (step M d k).1 ≡ refused n → within 0x10 0x16 n ≡ true

  -- "Accepted calls are those not answered 1x."
  abbrev pub AcceptedNumbers : Numbered M → Type 0
  AcceptedNumbers N = (d : Desk M) (k : Call M) → is_accepted M (step M d k).1 ≡ not (is1x (number M N (step M d k).1))
