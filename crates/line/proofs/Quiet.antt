-- Transfers that sent no frame leave the counter alone, so that a chain of all transfers is one of those that sent. Assumes nothing.
use mathlib.Core.Path.{◌≡◌, refl, ap₂, ◌∙◌}
use mathlib.Core.Bool.{false, true≢false}
use mathlib.Core.List.{List, [], ◌∷◌, map}
use Rattle.wire.proofs.Cases.{by}
use Rattle.line.specs.Lists.{keep, some_of}
use Rattle.line.specs.Machine.{Machine}
use Rattle.line.specs.Desk.{Pass, Call, Outcome, Desk, step}
use Rattle.line.specs.Stand.{calls, after, line_stand}
use Rattle.line.specs.Transfers.{is_send, sent_frame}
use Rattle.line.specs.Alone.{one_by_one}
use Rattle.line.proofs.Lists.{either_false}
use Rattle.line.proofs.Moves.{at, Move, stays, joins, asks, hears, goes, move}
use Rattle.line.proofs.Parts.{Events, Chain, enters}

module _ (M : Machine) where
  -- only a send moves the counter
  quiet_move : {k : Call M} {d : Desk M} {r : Desk M × Outcome M} → Move M k d r → is_send k ≡ false → r.0.pass ≡ d.pass
  unfolding is_send
  quiet_move (stays n) h = refl
  quiet_move (joins s e t a f b) h = refl
  quiet_move (asks s b t r a e f) h = absurd (true≢false h)
  quiet_move (hears s m t r a e f) h = refl
  quiet_move (goes s t a f) h = refl

  quiet : (w : Events M) (d : Desk M) → sent_frame w ≡ false → (after (line_stand M) d (calls w)).pass ≡ d.pass
  unfolding sent_frame some_of after calls
  quiet [] d h = refl
  quiet (x ∷ w) d h =
      let a = either_false (is_send x.call) _ h in
      quiet w (step M d x.call).0 a.1 ∙ quiet_move (move M d x.call) a.0

  pub chain_listed : (ts : List (Events M)) (p : Pass) → Chain M p (enters M ts)
      → one_by_one (line_stand M) p (map calls (keep sent_frame ts)) ≡ keep sent_frame ts
  unfolding keep one_by_one
  chain_listed [] p C = refl
  chain_listed (t ∷ ts) p C =
      by (sent_frame t)
      (λ y. rw y (ap₂ (λ (a : Events M) b. a ∷ b) C.0 (chain_listed ts _ C.1)))
      (λ n. rw n (chain_listed ts p (rw (quiet t (at M [] p) n) at C.1)))
