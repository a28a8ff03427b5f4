-- `fresh_at` meets its contract: a counter that is none stands for 1.
use Prim.Native.Nat.{◌≤◌}
use native.Mathlib.Omega.{arith}
use borrow.Author.Tests.{le-ltb}
use Rattle.line.proofs.Rulings.{within_of}
use Rattle.desk.specs.Record.{counter_from}
use Rattle.desk.proofs.Kept.{fresh_is}
use Rattle.desk.proofs.Desk.fresh_at.Goals as goal

pub returns-then-not-contains : goal.returns-then-not-contains
unfolding counter_from
returns-then-not-contains c = grind arith

pub returns : goal.returns
unfolding counter_from
returns c =
    let k = c.args.counter in
    let in_range : (1 ≤ k) × (k ≤ 7) = grind arith in
    rw (le-ltb _ _ in_range.0, le-ltb _ _ in_range.1) (fresh_is k _ (within_of 1 7 k in_range.0 in_range.1) c.empty.ensures)
