-- The counter advances with every frame and with nothing else. Assumes nothing.
use mathlib.Core.Path.{◌≡◌, refl, ap, ◌∙◌}
use mathlib.Core.List.{List, [], ◌∷◌}
use Prim.Native.Nat.{ℕ}
use Rattle.line.specs.Lists.{keep}
use Rattle.line.specs.Machine.{Machine}
use Rattle.line.specs.Desk.{first, Call, Outcome, Desk, fresh_at, step}
use Rattle.line.specs.Stand.{Event, trace, after, line_stand}
use Rattle.line.specs.Rules.{is_frame}
use Rattle.line.specs.Runs.{nth_after, frames, CounterOfFrames, EighthFrame}
use Rattle.line.proofs.Moves.{Move, stays, joins, asks, hears, goes, move}

module _ (M : Machine) where
  frames_move : {k : Call M} {d : Desk M} {r : Desk M × Outcome M} (xs : List (Event M (Outcome M))) → Move M k d r
      → nth_after (frames M xs) r.0.pass.counter ≡ nth_after (frames M (record { call = k; told = r.1 } ∷ xs)) d.pass.counter
  unfolding frames keep is_frame nth_after
  frames_move xs (stays n) = refl
  frames_move xs (joins s e t a f b) = refl
  frames_move xs (asks s b t r a e f) = refl
  frames_move xs (hears s m t r a e f) = refl
  frames_move xs (goes s t a f) = refl

  pub counter_of_frames : CounterOfFrames M
  unfolding trace after frames keep nth_after
  counter_of_frames d [] = refl
  counter_of_frames d (k ∷ ks) =
      counter_of_frames (step M d k).0 ks ∙ frames_move (trace (line_stand M) (step M d k).0 ks) (move M d k)

  pub eighth_frame : EighthFrame M
  unfolding nth_after
  eighth_frame ks h =
      counter_of_frames (fresh_at M first) ks ∙ ap (λ (n : ℕ). nth_after n 1) h
