-- Laws of the test for a chunk's bytes. Assumes nothing.
use mathlib.Core.Path.{◌≡◌, sym}
use Prim.Native.Nat.{ℕ, ◌+◌, ◌≤◌}
use native.Mathlib.Omega.{arith}
use borrow.Author.Tests.{le-ltb, eqb-true}
use lib.Dec.{ltb, eqb}
use Rattle.wire.proofs.Cases.{by}
use Rattle.judge.specs.Chunk.{lacking}

-- a reply that reaches to the data lacks none of an empty payload
pub reached : (size from len : ℕ) → from ≤ size → lacking size from len ≡ ltb size (from + len)
unfolding lacking
reached size from len h =
    by (eqb len 0)
    (λ e. let z : len ≡ 0 = eqb-true _ _ e in
    rw e (sym (le-ltb size (from + len) (omega arith))))
    (λ e. rw e)
