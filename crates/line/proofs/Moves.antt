-- What a call does, as a view with a case for each way that it goes: all that is said of every call is said by these cases.
-- Assumes nothing.
use mathlib.Core.Path.{◌≡◌, refl, sym, ◌∙◌, subst}
use Prim.Native.Nat.{ℕ}
use mathlib.Core.Bool.{true, false, false≢true}
use mathlib.Core.List.{[], ◌∷◌, ◌++◌, tail}
use mathlib.Core.Option.{Option}
use borrow.Author.Tests.{eqb-true}
use lib.Dec.{eqb}
use Rattle.wire.proofs.Cases.{by}
use Rattle.line.specs.Machine.{Ruling, refuse, accept, Machine}
use Rattle.line.specs.Line.{Line, no_seat, seated, find, head, vacate, place}
use Rattle.line.specs.Desk.{Pass, counted, Call, Outcome, Desk, enter, send, receive, leave, refused, entered, sent, received, left, step}
use Rattle.line.proofs.Rulings.{refuse≢accept, accept_eq}
use Rattle.line.proofs.Steps.{head_10, head_12, head_13, head_turn, find_there, enter_10, enter_11, enter_15, enter_01, send_refused, send_14, send_16, send_02, receive_refused, receive_14, receive_16, receive_judged, leave_10, leave_12, leave_03}

leads_line : {A : Type 0} (s : ℕ) (l : Line A) {t : A} → no_seat s ≡ false → seated s l ≡ true → head s l ≡ accept t → l ≡ (s, t) ∷ tail l
unfolding seated
leads_line s [] n y h = absurd (false≢true y)
leads_line s (q ∷ l) {t} n y h =
    by (eqb s q.0)
    (λ z. let r : q.1 ≡ t = accept_eq (sym (head_turn s q l n z) ∙ h) in
    let w : q.0 ≡ s = sym (eqb-true s q.0 z) in λ i. (w i, r i) ∷ l)
    (λ z. absurd (refuse≢accept (sym (head_13 s q l n y z) ∙ h)))

-- whoever may send or receive is the head
pub head_accept : {A : Type 0} (s : ℕ) (l : Line A) {t : A} → head s l ≡ accept t → (no_seat s ≡ false) × (l ≡ (s, t) ∷ tail l)
head_accept s l h =
    by (no_seat s)
    (λ y. absurd (refuse≢accept (sym (head_10 s l y) ∙ h)))
    (λ n. by (seated s l)
    (λ y. (n, leads_line s l n y h))
    (λ m. absurd (refuse≢accept (sym (head_12 s l n m) ∙ h))))

module _ (M : Machine) where
  open M use {Entry, Lent, Frame, Reply, Answer, Transfer, begin, send_due, sends, receives}

  abbrev pub at : Line Transfer → Pass → Desk M
  at l p = record { line = l; pass = p }

  pub data Move : Call M → Desk M → Desk M × Outcome M → Type 0 where
    stays : {k : Call M} {d : Desk M} (n : ℕ) → Move k d (d, refused n)
    joins : {l : Line Transfer} {p : Pass} (s : ℕ) (e : Entry) (t : Transfer) → no_seat s ≡ false → seated s l ≡ false → begin e ≡ accept t
        → Move (enter s e) (at l p) (at (l ++ ((s, t) ∷ [])) p, entered)
    asks : {l : Line Transfer} {p : Pass} (s : ℕ) (b : Lent) (t : Transfer) (r : Frame × Transfer) → no_seat s ≡ false → send_due t ≡ true
        → sends t p.counter b ≡ accept r → Move (send s b) (at ((s, t) ∷ l) p) (at ((s, r.1) ∷ l) (counted p), sent r.0)
    hears : {l : Line Transfer} {p : Pass} (s : ℕ) (m : Reply) (t : Transfer) (r : Answer × Option Transfer) → no_seat s ≡ false
        → send_due t ≡ false
        → receives t m ≡ accept r → Move (receive s m) (at ((s, t) ∷ l) p) (at (place s r.1 ++ l) p, received r.0)
    goes : {l : Line Transfer} {p : Pass} (s : ℕ) (t : Transfer) → no_seat s ≡ false → find s l ≡ accept t
        → Move (leave s) (at l p) (at (vacate s l) p, left)

  module _ (d : Desk M) (s : ℕ) where
    -- of the step, from what the step comes to
    comes : {k : Call M} {r : Desk M × Outcome M} → step M d k ≡ r → Move k d r → Move k d (step M d k)
    comes {k} e m = subst (Move k d) (sym e) m

    move_enter : (e : Entry) → Move (enter s e) d (step M d (enter s e))
    move_enter e =
        by (no_seat s)
        (λ y. comes (enter_10 M d s e y) (stays 0x10))
        (λ n. by (seated s d.line)
        (λ y. comes (enter_11 M d s e n y) (stays 0x11))
        (λ f. begun n f (begin e) refl))
      where
        begun : no_seat s ≡ false → seated s d.line ≡ false → (v : Ruling Transfer) → begin e ≡ v
            → Move (enter s e) d (step M d (enter s e))
        begun n f (refuse k) h = comes (enter_15 M d s e k n f h) (stays k)
        begun n f (accept t) h = comes (enter_01 M d s e t n f h) (joins s e t n f h)

    -- the head's own line
    at_head : {k : Call M} {r : Desk M × Outcome M} (t : Transfer) → head s d.line ≡ accept t
        → Move k (at ((s, t) ∷ tail d.line) d.pass) r → Move k d r
    at_head {k} {r} t h m = subst (λ (l : Line Transfer). Move k (at l d.pass) r) (sym (head_accept s d.line h).1) m

    move_send : (b : Lent) → Move (send s b) d (step M d (send s b))
    move_send b = turn (head s d.line) refl
      where
        written : (t : Transfer) → head s d.line ≡ accept t → send_due t ≡ true → (v : Ruling (Frame × Transfer))
            → sends t d.pass.counter b ≡ v → Move (send s b) d (step M d (send s b))
        written t h y (refuse k) w = comes (send_16 M d s b t h k y w) (stays k)
        written t h y (accept r) w =
            comes (send_02 M d s b t h r y w) (at_head t h (asks s b t r (head_accept s d.line h).0 y w))

        turn : (v : Ruling Transfer) → head s d.line ≡ v → Move (send s b) d (step M d (send s b))
        turn (refuse k) h = comes (send_refused M d s b k h) (stays k)
        turn (accept t) h =
            by (send_due t)
            (λ y. written t h y (sends t d.pass.counter b) refl)
            (λ n. comes (send_14 M d s b t h n) (stays 0x14))

    move_receive : (m : Reply) → Move (receive s m) d (step M d (receive s m))
    move_receive m = turn (head s d.line) refl
      where
        judged : (t : Transfer) → head s d.line ≡ accept t → send_due t ≡ false → (v : Ruling (Answer × Option Transfer))
            → receives t m ≡ v → Move (receive s m) d (step M d (receive s m))
        judged t h n (refuse k) w = comes (receive_16 M d s m t h k n w) (stays k)
        judged t h n (accept r) w =
            comes (receive_judged M d s m t h r n w) (at_head t h (hears s m t r (head_accept s d.line h).0 n w))

        turn : (v : Ruling Transfer) → head s d.line ≡ v → Move (receive s m) d (step M d (receive s m))
        turn (refuse k) h = comes (receive_refused M d s m k h) (stays k)
        turn (accept t) h =
            by (send_due t)
            (λ y. comes (receive_14 M d s m t h y) (stays 0x14))
            (λ n. judged t h n (receives t m) refl)

    move_leave : Move (leave s) d (step M d (leave s))
    move_leave =
        by (no_seat s)
        (λ y. comes (leave_10 M d s y) (stays 0x10))
        (λ n. by (seated s d.line)
        (λ y. let r = find_there s d.line y in comes (leave_03 M d s n y) (goes s r.0 n r.1))
        (λ f. comes (leave_12 M d s n f) (stays 0x12)))

  pub move : (d : Desk M) (k : Call M) → Move k d (step M d k)
  move d (enter s e) = move_enter d s e
  move d (send s b) = move_send d s b
  move d (receive s m) = move_receive d s m
  move d (leave s) = move_leave d s
