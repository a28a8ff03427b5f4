-- What document 01 says of the calls at a desk, sentence by sentence, of whatever gives back the desk afterwards and an outcome.
-- `step` obeys (proofs/Obeys), and at a sound desk nothing else does (proofs/Whole): the desk is said a second time here, with
-- `tests` and without `judge`. Assumes nothing.
use Rattle.std.specs.Prelude.{◌≡◌, Bool, true, false, ℕ, eqb}
use mathlib.Core.List.{[], ◌∷◌, ◌++◌, tail}
use Rattle.std.proofs.Math.Option.{Option, none}
use Rattle.wire.specs.Words.{pick, first_of}
use Rattle.line.specs.Machine.{accept, Machine}
use Rattle.line.specs.Line.{seated, find, vacate, place}
use Rattle.line.specs.Desk.{counted, Call, Outcome, Desk, enter, send, receive, leave, refused, entered, sent, received, left, step}
use Rattle.line.specs.Stand.{is_accepted}
use Rattle.line.specs.Transfers.{seat_of}
use Rattle.line.specs.Sound.{Sound}
use Rattle.line.specs.Numbers.{tests, refusal_of}

module _ {M : Machine} where
  unfoldable pub is_frame : Outcome M → Bool
  is_frame (refused n) = false
  is_frame entered = false
  is_frame (sent f) = true
  is_frame (received a) = false
  is_frame left = false

  -- enter "answers 01", send "answers 02", receive as the reply is judged, leave "03"
  abbrev pub AnswerTo : Call M → Outcome M → Type 0
  AnswerTo (enter s e) o = o ≡ entered
  AnswerTo (send s b) o = (f : M.Frame) × (o ≡ sent f)
  AnswerTo (receive s m) o = (a : M.Answer) × (o ≡ received a)
  AnswerTo (leave s) o = o ≡ left

-- Below, f is what each call gives at the desk d.

-- "Each number is given exactly under its condition", in the order of `tests`: of a machine that has its numbers
abbrev pub RefusesInOrder : (M : Machine) → Desk M → (Call M → Desk M × Outcome M) → Type 0
RefusesInOrder M d f = (k : Call M) → refusal_of M (f k).1 ≡ first_of (tests M d k)

-- of every machine
pub record Obeys (M : Machine) (d : Desk M) (f : Call M → Desk M × Outcome M) : Type 0 where
  -- 10: "all unchanged, also for all 1x"
  pub refusal_leaves : (k : Call M) (n : ℕ) → (f k).1 ≡ refused n → (f k).0 ≡ d
  -- an accepted call has the answer of its kind
  pub answers : (k : Call M) → is_accepted M (f k).1 ≡ true → AnswerTo k (f k).1
  -- "enter: joins the end of the line"
  pub enters_last : (s : ℕ) (e : M.Entry) → (f (enter s e)).1 ≡ entered →
      (t : M.Transfer)
      × (M.begin e ≡ accept t)
      × ((f (enter s e)).0.line ≡ d.line ++ ((s, t) ∷ []))
  -- "send: writes the head's due request with the next counter", and the head stays the head
  pub sends_for_head : (s : ℕ) (b : M.Lent) (w : M.Frame) → (f (send s b)).1 ≡ sent w →
      (t : M.Transfer)
      × (u : M.Transfer)
      × (d.line ≡ (s, t) ∷ tail d.line)
      × (M.sends t d.pass.counter b ≡ accept (w, u))
      × ((f (send s b)).0.line ≡ (s, u) ∷ tail d.line)
  -- "receive: judges one reply for the head". While it goes on it stays the head: "Handing the mailbox on between segments" is
  -- one of the errors that look right.
  pub receives_for_head : (s : ℕ) (m : M.Reply) (a : M.Answer) → (f (receive s m)).1 ≡ received a →
      (t : M.Transfer)
      × (u : Option M.Transfer)
      × (d.line ≡ (s, t) ∷ tail d.line)
      × (M.receives t m ≡ accept (a, u))
      × ((f (receive s m)).0.line ≡ place s u ++ tail d.line)
  -- "its seat is free again when it ends": by an answer, and by leaving; 03: "seat free"
  pub end_frees : (s : ℕ) (t : M.Transfer) (m : M.Reply) (a : M.Answer) → Sound d.line → d.line ≡ (s, t) ∷ tail d.line
      → M.receives t m ≡ accept (a, none) → (f (receive s m)).1 ≡ received a → seated s (f (receive s m)).0.line ≡ false
  pub leave_frees : (s : ℕ) → Sound d.line → (f (leave s)).1 ≡ left → seated s (f (leave s)).0.line ≡ false
  -- whoever stands at another seat stays as it is, and so does their order
  pub others_unaltered : (k : Call M) (q : ℕ) → eqb q (seat_of k) ≡ false → find q (f k).0.line ≡ find q d.line
  pub others_in_order : (k : Call M) → Sound d.line → vacate (seat_of k) (f k).0.line ≡ vacate (seat_of k) d.line
  -- a frame moves the counter on, and nothing else does
  pub pass_moves : (k : Call M) → (f k).0.pass ≡ pick (is_frame (f k).1) (counted d.pass) d.pass
  -- "Seats are 0 to 7. A transfer is one entry"
  pub sound_kept : (k : Call M) → Sound d.line → Sound (f k).0.line

-- at a sound desk, whatever obeys is `step`
abbrev pub OneDesk : Machine → Type 0
OneDesk M = (d : Desk M) → Sound d.line → (f : Call M → Desk M × Outcome M) → RefusesInOrder M d f → Obeys M d f →
    (k : Call M) → f k ≡ step M d k
