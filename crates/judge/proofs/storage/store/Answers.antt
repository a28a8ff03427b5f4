-- `store` meets its contract: the chunk of three verdicts is laid, and no chunk laid leaves the buffer as it was.
use mathlib.Core.Bool.{Bool}
use mathlib.Core.List.{List, []}
use mathlib.Core.Logic.{inl, inr}
use mathlib.Core.Path.{◌≡◌, refl}
use Prim.Native.Nat.{ℕ}
use Rattle.judge.specs.Storage.{taken, stored}
use Rattle.judge.specs.declared.Verdict.{Verdict}
use Rattle.judge.specs.declared.Verdict.TheVariants.{Done, Segment, Fragment}
use Rattle.judge.proofs.Laid.{laid_nil}
use Rattle.judge.proofs.storage.store.Goals as goal

nothing_taken : (v : Verdict) (s : List ℕ) → ((from p : ℕ) → v ≡ Done from p → ⊥)
    → ((from len sum : ℕ) (last : Bool) → v ≡ Segment from len sum last → ⊥)
    → ((from len sum : ℕ) (last : Bool) → v ≡ Fragment from len sum last → ⊥) → taken v s ≡ []
nothing_taken (Done from p) s d g f = absurd (d from p refl)
nothing_taken (Segment from len sum last) s d g f = absurd (g from len sum last refl)
nothing_taken (Fragment from len sum last) s d g f = absurd (f from len sum last refl)
nothing_taken other s d g f = refl

pub returns-in_default : goal.returns-in_default
unfolding stored
returns-in_default c =
    let d = c.in_default in
    rw (nothing_taken c.args.verdict c.args.s.now d.not-Done d.not-Segment d.not-Fragment) (laid_nil _ c.args.at)

pub returns-in-Done : goal.returns-in-Done
unfolding stored
returns-in-Done c =
    elim c.in-Done.is [
      | inl e ↦ rw e c.store_chunk.ensures
      | inr (inl h) ↦ rw h.2 c.store_chunk.ensures
      | inr (inr h) ↦ rw h.2 c.store_chunk.ensures
    ]
