-- `wire::zero_from` meets its contract. The invariant: the bytes from `from` up to i are zero.
use native.Mathlib.Omega.{arith}
use lib.ListN.{length-set}
use Rattle.wire.proofs.Front.{zero_turn}
use Rattle.wire.proofs.zero_from.Goals as goal

pub loop-i-preserved : goal.loop-i-preserved
loop-i-preserved c =
    let a = c.args in (
      omega arith,
      omega arith,
      simp length-set (omega arith),
      rw c.loop-i.invariant.3 (zero_turn a.frame.now a.from c.loop-i.i (omega arith) (omega arith)),
    )
