-- The parts that lie ahead of a desk: each transfer in the line with the calls that it will still make, then each that will
-- enter. `Chain` says of parts that each, begun alone where the one before stopped, gives what it lists. Assumes nothing.
use mathlib.Core.Path.{◌≡◌, refl, sym, ap, ◌∙◌, subst}
use Prim.Native.Nat.{ℕ}
use mathlib.Core.Bool.{false}
use mathlib.Core.List.{List, [], ◌∷◌, ◌++◌, map}
use lib.Dec.{eqb}
use Rattle.line.specs.Machine.{Machine}
use Rattle.line.specs.Line.{Line, seated}
use Rattle.line.specs.Desk.{Pass, Call, Outcome, Desk, step}
use Rattle.line.specs.Stand.{Event, calls, trace, after, line_stand}
use Rattle.line.specs.Transfers.{seat_of, is_enter, own, transfers}
use Rattle.line.proofs.Rulings.{eqb_self, eqb_sym}
use Rattle.line.proofs.Seats.{seated_cons}
use Rattle.line.proofs.Moves.{at}

module _ (M : Machine) where
  open M use {Transfer}

  abbrev pub Events : Type 0
  Events = List (Event M (Outcome M))

  abbrev pub ev : Call M → Outcome M → Event M (Outcome M)
  ev k o = record { call = k; told = o }

  -- the line to begin with, and what the part lists
  abbrev pub Part : Type 0
  Part = Line Transfer × Events

  abbrev pub Chain : Pass → List Part → Type 0
  Chain p [] = Unit {0}
  Chain p (a ∷ ps) =
      (trace (line_stand M) (at M a.0 p) (calls a.1) ≡ a.1)
      × Chain (after (line_stand M) (at M a.0 p) (calls a.1)).pass ps

  unfoldable pub waiting : Line Transfer → Events → List Part
  waiting [] xs = []
  waiting (q ∷ l) xs = (q ∷ [], own q.0 xs) ∷ waiting l xs

  abbrev pub enters : List Events → List Part
  enters = map (λ t. ([], t))

  unfoldable pub entering : Events → List Part
  entering xs = enters (transfers xs)

  -- a call made before what a part lists
  pub chain_cons : (k : Call M) (o : Outcome M) (l l' : Line Transfer) (p p' : Pass) (w : Events) (ps : List Part)
      → step M (at M l p) k ≡ (at M l' p', o) → Chain p' ((l', w) ∷ ps) → Chain p ((l, ev k o ∷ w) ∷ ps)
  unfolding trace after calls
  chain_cons k o l l' p p' w ps e h = (
    ap (λ (r : Desk M × Outcome M). ev k r.1 ∷ trace (line_stand M) r.0 (calls w)) e ∙ ap (λ (z : Events). ev k o ∷ z) h.0,
    subst (λ (r : Desk M × Outcome M). Chain (after (line_stand M) r.0 (calls w)).pass ps) (sym e) h.1,
  )

  pub chain_map : (bs ps qs : List Part) → ((p : Pass) → Chain p ps → Chain p qs) → (p : Pass) → Chain p (bs ++ ps) → Chain p (bs ++ qs)
  chain_map [] ps qs f p h = f p h
  chain_map (a ∷ bs) ps qs f p h = (h.0, chain_map bs ps qs f _ h.1)

  pub waiting_snoc : (l : Line Transfer) (q : ℕ × Transfer) (xs : Events)
      → waiting (l ++ (q ∷ [])) xs ≡ waiting l xs ++ ((q ∷ [], own q.0 xs) ∷ [])
  unfolding waiting
  waiting_snoc [] q xs = refl
  waiting_snoc (u ∷ l) q xs = ap (λ z. (u ∷ [], own u.0 xs) ∷ z) (waiting_snoc l q xs)

  -- ---- one more call, for seat s, before the others

  module _ (k : Call M) (o : Outcome M) (xs : Events) (s : ℕ) (seat : seat_of k ≡ s) where
    pub own_other : (q : ℕ) → eqb q s ≡ false → own q (ev k o ∷ xs) ≡ own q xs
    unfolding own
    own_other q e = rw (seat, e)

    pub waiting_other : (l : Line Transfer) → seated s l ≡ false → waiting l (ev k o ∷ xs) ≡ waiting l xs
    unfolding waiting
    waiting_other [] h = refl
    waiting_other (q ∷ l) h =
        let a = seated_cons s q l h in
        rw (own_other q.0 (eqb_sym s q.0 a.0), waiting_other l a.1)

    module _ (later : is_enter k ≡ false) where
      pub own_here : own s (ev k o ∷ xs) ≡ ev k o ∷ own s xs
      unfolding own
      own_here = rw (seat, eqb_self s, later)

      pub entering_other : entering (ev k o ∷ xs) ≡ entering xs
      unfolding entering transfers
      entering_other = rw later
