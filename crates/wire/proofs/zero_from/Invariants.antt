-- `wire::zero_from` meets its contract. The invariant: the bytes from `from` up to i are zero.
use mathlib.Core.Path.{◌≡◌}
use Prim.Native.Nat.{◌≤◌, ◌-◌}
use lib.ListN.{length, replicate}
use lib.Seq.{paste}
use Rattle.wire.proofs.zero_from.Given as goal

abbrev pub invariant-loop-i : goal.invariant-loop-i
invariant-loop-i l = (l.from ≤ l.i) × (l.i - l.from ≤ length l.initial.frame - l.from) × (length l.frame ≡ length l.initial.frame) × (l.frame ≡ paste l.initial.frame l.from (replicate (length l.initial.frame - l.from) 0) (l.i - l.from))

abbrev pub decreases-loop-i : goal.decreases-loop-i
decreases-loop-i l = length l.frame - l.i
