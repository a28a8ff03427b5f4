-- A line with one seat in it: what its receive and its leave come to. Assumes nothing.
use mathlib.Core.Path.{◌≡◌, ap, ◌∙◌}
use Prim.Native.Nat.{ℕ}
use mathlib.Core.Bool.{false}
use mathlib.Core.List.{[], ◌∷◌, append-nil}
use mathlib.Core.Option.{Option}
use Rattle.line.specs.Machine.{accept, Machine}
use Rattle.line.specs.Line.{Line, no_seat, seated, place}
use Rattle.line.specs.Desk.{Pass, receive, leave, received, left, step}
use Rattle.line.proofs.Rulings.{eqb_self}
use Rattle.line.proofs.Seats.{vacate_self}
use Rattle.line.proofs.Steps.{head_turn, receive_judged, leave_03}
use Rattle.line.proofs.Moves.{at}

module _ (M : Machine) (s : ℕ) (a : no_seat s ≡ false) (p : Pass) where
  open M use {Reply, Answer, Transfer, send_due, receives}

  pub hears_alone : (m : Reply) (t : Transfer) (r : Answer × Option Transfer) → send_due t ≡ false → receives t m ≡ accept r
      → step M (at M ((s, t) ∷ []) p) (receive s m) ≡ (at M (place s r.1) p, received r.0)
  hears_alone m t r e f =
      receive_judged M (at M ((s, t) ∷ []) p) s m t (head_turn s (s, t) [] a (eqb_self s)) r e f
      ∙ ap (λ (l : Line Transfer). (at M l p, received r.0)) (append-nil (place s r.1))

  pub leaves_alone : (t : Transfer) → step M (at M ((s, t) ∷ []) p) (leave s) ≡ (at M [] p, left)
  unfolding seated
  leaves_alone t =
      leave_03 M (at M ((s, t) ∷ []) p) s a (rw (eqb_self s)) ∙ ap (λ (l : Line Transfer). (at M l p, left)) (vacate_self s t [])
