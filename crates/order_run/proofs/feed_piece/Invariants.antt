-- `feed_piece` meets its contract. Both loops have one invariant each: what is left to do from here gives what the whole gives.
use Prim.Native.Nat.{◌-◌}
use lib.ListN.{length}
use Rattle.order_run.specs.Feed.{st}
use Rattle.order_run.proofs.Feeding.{Digits, Lines}
use Rattle.order_run.proofs.feed_piece.Given as goal

abbrev pub invariant-loop-i : goal.invariant-loop-i
invariant-loop-i l = Digits l.text l.data l.initial.desk l.initial.phase l.initial.part l.initial.frame l.initial.out l.initial.printed l.initial.i l.desk l.phase l.part l.frame l.out l.printed l.i

abbrev pub decreases-loop-i : goal.decreases-loop-i
decreases-loop-i l = length l.text - l.i

abbrev pub invariant-lines : goal.invariant-lines
invariant-lines l = Lines l.text (st l.initial.desk l.initial.phase l.initial.part l.initial.frame l.initial.data) l.initial.out (st l.desk l.phase l.part l.frame l.data) l.out l.printed l.i

abbrev pub decreases-lines : goal.decreases-lines
decreases-lines l = length l.text - l.i
