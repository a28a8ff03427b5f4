-- Every call keeps the line sound, and so every sequence of calls does. Assumes nothing.
use mathlib.Core.Path.{◌≡◌}
use mathlib.Core.Bool.{false}
use mathlib.Core.List.{List, [], ◌∷◌}
use Prim.Native.Nat.{ℕ, ◌<◌}
use native.Mathlib.Omega.{arith}
use borrow.Author.Tests.{ltb-false}
use Rattle.line.specs.Machine.{Machine}
use Rattle.line.specs.Line.{no_seat}
use Rattle.line.specs.Desk.{Call, Outcome, Desk, fresh_at, step}
use Rattle.line.specs.Stand.{after, line_stand}
use Rattle.line.specs.Sound.{Distinct, Below, Sound}
use Rattle.line.specs.Runs.{SoundAfter}
use Rattle.line.proofs.Seats.{distinct_snoc, distinct_place, distinct_vacate, each_vacate, each_place}
use Rattle.line.proofs.Lists.{each_snoc}
use Rattle.line.proofs.Moves.{Move, stays, joins, asks, hears, goes, move}
use Rattle.line.proofs.Room.{sound}

pub seat_below : (s : ℕ) → no_seat s ≡ false → s < 8
seat_below s h = omega (arith, ltb-false 7 s h)

module _ (M : Machine) where
  pub distinct_move : {k : Call M} {d : Desk M} {r : Desk M × Outcome M} → Move M k d r → Distinct d.line → Distinct r.0.line
  distinct_move (stays n) D = D
  distinct_move (joins {l = l} s e t a h b) D = distinct_snoc (s, t) l h D
  distinct_move (asks s b t r a e f) D = D
  distinct_move (hears {l = l} s m t r a e f) D = distinct_place s t r.1 l D
  distinct_move (goes {l = l} s t a h) D = distinct_vacate s l D

  below_move : {k : Call M} {d : Desk M} {r : Desk M × Outcome M} → Move M k d r → Below 8 d.line → Below 8 r.0.line
  below_move (stays n) B = B
  below_move (joins {l = l} s e t a h b) B = each_snoc (λ q. q.0 < 8) l (s, t) B (seat_below s a)
  below_move (asks s b t r a e f) B = B
  below_move (hears {l = l} s m t r a e f) B = each_place (λ q. q.0 < 8) s r.1 l (λ u e. B.0) B.1
  below_move (goes {l = l} s t a h) B = each_vacate (λ q. q.0 < 8) s l B

  pub sound_kept : (d : Desk M) (k : Call M) → Sound d.line → Sound (step M d k).0.line
  sound_kept d k S = sound (step M d k).0.line (distinct_move (move M d k) S.distinct) (below_move (move M d k) S.below)

  sound_on : (d : Desk M) (ks : List (Call M)) → Sound d.line → Sound (after (line_stand M) d ks).line
  unfolding after
  sound_on d [] S = S
  sound_on d (k ∷ ks) S = sound_on (step M d k).0 ks (sound_kept d k S)

  pub sound_after : SoundAfter M
  sound_after p ks = sound_on (fresh_at M p) ks (sound [] tt tt)
