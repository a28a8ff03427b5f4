-- The counter stays 1 to 7. Assumes nothing.
use mathlib.Core.Path.{◌≡◌, refl}
use mathlib.Core.Bool.{true}
use mathlib.Core.List.{[], ◌∷◌}
use Prim.Native.Nat.{ℕ}
use native.Mathlib.Omega.{arith}
use Rattle.wire.specs.Words.{within}
use Rattle.line.specs.Machine.{Machine}
use Rattle.line.specs.Desk.{following, Pass, Call, Outcome, Desk, fresh_at, step}
use Rattle.line.specs.Stand.{after, line_stand}
use Rattle.line.specs.Alone.{Begins, at_first, behind}
use Rattle.line.specs.Runs.{CounterInRange}
use Rattle.line.proofs.Rulings.{within_of}
use Rattle.line.proofs.Moves.{Move, stays, joins, asks, hears, goes, move}

pub following_range : (c : ℕ) → within 1 7 (following c) ≡ true
following_range c = within_of 1 7 (following c) (omega arith) (omega arith)

module _ (M : Machine) where
  range_move : {k : Call M} {d : Desk M} {r : Desk M × Outcome M} → Move M k d r → within 1 7 d.pass.counter ≡ true
      → within 1 7 r.0.pass.counter ≡ true
  range_move (stays n) h = h
  range_move (joins s e t a f b) h = h
  range_move (asks {p = p} s b t r a e f) h = following_range p.counter
  range_move (hears s m t r a e f) h = h
  range_move (goes s t a f) h = h

  pub counter_in_range : CounterInRange M
  unfolding after
  counter_in_range d [] h = h
  counter_in_range d (k ∷ ks) h = counter_in_range (step M d k).0 ks (range_move (move M d k) h)

  -- and so does every single run
  pub begins_in_range : {p : Pass} → Begins (line_stand M) p → within 1 7 p.counter ≡ true
  begins_in_range at_first = refl
  begins_in_range (behind {p = p} ks b) = counter_in_range (fresh_at M p) ks (begins_in_range b)
