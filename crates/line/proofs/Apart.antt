-- From any desk whose seats are distinct, each transfer that enters is what it would be alone. Assumes nothing.
use mathlib.Core.Path.{◌≡◌}
use mathlib.Core.Bool.{true}
use mathlib.Core.List.{List, [], ◌∷◌, ◌++◌}
use Rattle.wire.specs.Words.{within}
use Rattle.line.specs.Lists.{Each, keep}
use Rattle.line.specs.Machine.{Machine}
use Rattle.line.specs.Desk.{Pass}
use Rattle.line.specs.Stand.{calls, trace, line_stand, is_accepted}
use Rattle.line.specs.Transfers.{transfers}
use Rattle.line.specs.Alone.{AloneOf, EachAlone}
use Rattle.line.proofs.Moves.{at}
use Rattle.line.proofs.Parts.{Events, Part, Chain, waiting, enters, entering}
use Rattle.line.proofs.Counter.{counter_in_range}
use Rattle.line.proofs.Demand.{chain_ahead}

module _ (M : Machine) where
  abbrev Counts : Pass → Type 0
  Counts p = within 1 7 p.counter ≡ true

  -- behind some parts
  behind : (bs ps : List (Part M)) (p : Pass) → Counts p → Chain M p (bs ++ ps) → (q : Pass) × Counts q × Chain M q ps
  behind [] ps p c h = (p, c, h)
  behind (a ∷ bs) ps p c h = behind bs ps _ (counter_in_range M (at M a.0 p) (calls a.1) c) h.1

  apart : (ts : List (Events M)) (p : Pass) → Counts p → Chain M p (enters M ts) → Each (AloneOf M) ts
  apart [] p c h = tt
  apart (t ∷ ts) p c h = (
    record { from = p; counts = c; run = h.0 },
    apart ts _ (counter_in_range M (at M [] p) (calls t) c) h.1,
  )

  pub each_alone : EachAlone M
  unfolding entering
  each_alone d D c ks =
      let xs = keep (λ x. is_accepted M x.told) (trace (line_stand M) d ks) in
      let B = behind (waiting M d.line xs) (entering M xs) d.pass c (chain_ahead M ks d D) in
      apart (transfers xs) B.0 B.1 B.2
