-- `pairs` meets its contract. The invariant: the first k bytes are stored, and their digits are good.
use mathlib.Core.Path.{◌≡◌}
use Prim.Native.Nat.{◌+◌, ◌/◌, ◌≤◌}
use lib.ListN.{length}
use Rattle.order_run.specs.Feed.{Whole}
use Rattle.order_run.proofs.digits.pairs.Given as goal

abbrev pub invariant-loop-k : goal.invariant-loop-k
invariant-loop-k l = (l.most ≤ length l.text / 2) × (l.at + l.most ≤ 1486) × (length l.frame ≡ 1486) × Whole l.text l.at l.initial.frame l.k l.frame
