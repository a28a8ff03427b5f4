-- Each call, case by case: what a step comes to once the tests are known. `Move` and whoever builds a desk cite these.
-- Assumes nothing.
use mathlib.Core.Path.{◌≡◌, refl}
use mathlib.Core.Bool.{true, false, false≢true}
use mathlib.Core.List.{[], ◌∷◌, ◌++◌, tail}
use mathlib.Core.Option.{Option}
use Prim.Native.Nat.{ℕ}
use lib.Dec.{eqb}
use Rattle.wire.proofs.Cases.{by}
use Rattle.line.specs.Machine.{refuse, accept, and_then, Machine}
use Rattle.line.specs.Line.{Line, no_seat, seated, find, headed, head, vacate, place}
use Rattle.line.specs.Desk.{Desk, enter, send, receive, leave, refused, entered, sent, received, left, lined, counted, judge, settled, step}
use Rattle.line.proofs.Seats.{seated_cons}

-- ---- whose turn it is: 10, 12, 13

module _ {A : Type 0} (s : ℕ) where
  pub head_10 : (l : Line A) → no_seat s ≡ true → head s l ≡ refuse 0x10
  unfolding head
  head_10 l h = rw h

  pub head_12 : (l : Line A) → no_seat s ≡ false → seated s l ≡ false → head s l ≡ refuse 0x12
  unfolding head
  head_12 l h e = rw (h, e)

  pub head_13 : (q : ℕ × A) (l : Line A) → no_seat s ≡ false → seated s (q ∷ l) ≡ true → eqb s q.0 ≡ false → head s (q ∷ l) ≡ refuse 0x13
  unfolding head headed
  head_13 q l h f e = rw (h, f, e)

  pub head_turn : (q : ℕ × A) (l : Line A) → no_seat s ≡ false → eqb s q.0 ≡ true → head s (q ∷ l) ≡ accept q.1
  unfolding head headed seated
  head_turn q l h e = rw (h, e)

  pub find_12 : (l : Line A) → seated s l ≡ false → find s l ≡ refuse 0x12
  unfolding find
  find_12 [] e = refl
  find_12 (q ∷ l) e = let a = seated_cons s q l e in rw a.0 (find_12 l a.1)

  pub find_there : (l : Line A) → seated s l ≡ true → (t : A) × (find s l ≡ accept t)
  unfolding find seated
  find_there [] e = absurd (false≢true e)
  find_there (q ∷ l) e =
      by (eqb s q.0)
      (λ y. (q.1, rw y))
      (λ n. let r = find_there l (rw n at e) in (r.0, rw n r.1))

-- ---- the calls

module _ (M : Machine) (d : Desk M) (s : ℕ) where
  open M use {Entry, Lent, Frame, Reply, Answer, Transfer, begin, send_due, sends, receives}

  module _ (e : Entry) where
    pub enter_10 : no_seat s ≡ true → step M d (enter s e) ≡ (d, refused 0x10)
    unfolding step judge settled
    enter_10 h = rw h

    pub enter_11 : no_seat s ≡ false → seated s d.line ≡ true → step M d (enter s e) ≡ (d, refused 0x11)
    unfolding step judge settled
    enter_11 h f = rw (h, f)

    pub enter_15 : (n : ℕ) → no_seat s ≡ false → seated s d.line ≡ false → begin e ≡ refuse n → step M d (enter s e) ≡ (d, refused n)
    unfolding step judge settled and_then
    enter_15 n h f g = rw (h, f, g)

    pub enter_01 : (t : Transfer) → no_seat s ≡ false → seated s d.line ≡ false → begin e ≡ accept t
        → step M d (enter s e) ≡ (lined M (d.line ++ ((s, t) ∷ [])) d, entered)
    unfolding step judge settled and_then
    enter_01 t h f g = rw (h, f, g)

  module _ (b : Lent) where
    pub send_refused : (n : ℕ) → head s d.line ≡ refuse n → step M d (send s b) ≡ (d, refused n)
    unfolding step judge settled and_then
    send_refused n h = rw h

    module _ (t : Transfer) (h : head s d.line ≡ accept t) where
      pub send_14 : send_due t ≡ false → step M d (send s b) ≡ (d, refused 0x14)
      unfolding step judge settled and_then
      send_14 e = rw (h, e)

      pub send_16 : (n : ℕ) → send_due t ≡ true → sends t d.pass.counter b ≡ refuse n → step M d (send s b) ≡ (d, refused n)
      unfolding step judge settled and_then
      send_16 n e g = rw (h, e, g)

      pub send_02 : (r : Frame × Transfer) → send_due t ≡ true → sends t d.pass.counter b ≡ accept r
          → step M d (send s b) ≡ (record { line = (s, r.1) ∷ tail d.line; pass = counted d.pass }, sent r.0)
      unfolding step judge settled and_then
      send_02 r e g = rw (h, e, g)

  module _ (m : Reply) where
    pub receive_refused : (n : ℕ) → head s d.line ≡ refuse n → step M d (receive s m) ≡ (d, refused n)
    unfolding step judge settled and_then
    receive_refused n h = rw h

    module _ (t : Transfer) (h : head s d.line ≡ accept t) where
      pub receive_14 : send_due t ≡ true → step M d (receive s m) ≡ (d, refused 0x14)
      unfolding step judge settled and_then
      receive_14 e = rw (h, e)

      pub receive_16 : (n : ℕ) → send_due t ≡ false → receives t m ≡ refuse n → step M d (receive s m) ≡ (d, refused n)
      unfolding step judge settled and_then
      receive_16 n e g = rw (h, e, g)

      pub receive_judged : (r : Answer × Option Transfer) → send_due t ≡ false → receives t m ≡ accept r
          → step M d (receive s m) ≡ (lined M (place s r.1 ++ tail d.line) d, received r.0)
      unfolding step judge settled and_then
      receive_judged r e g = rw (h, e, g)

  pub leave_10 : no_seat s ≡ true → step M d (leave s) ≡ (d, refused 0x10)
  unfolding step judge settled
  leave_10 h = rw h

  pub leave_12 : no_seat s ≡ false → seated s d.line ≡ false → step M d (leave s) ≡ (d, refused 0x12)
  unfolding step judge settled and_then
  leave_12 h f = rw (h, find_12 s d.line f)

  pub leave_03 : no_seat s ≡ false → seated s d.line ≡ true → step M d (leave s) ≡ (lined M (vacate s d.line) d, left)
  unfolding step judge settled and_then
  leave_03 h f = let r = find_there s d.line f in rw (h, r.1)
