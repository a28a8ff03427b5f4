-- The run that a turn of `turns` leaves is one that calls made.
use Rattle.order_run.specs.Run.{Going}
use Rattle.order_io.proofs.turns.Given as goal

abbrev pub invariant-loop : goal.invariant-loop
invariant-loop g l = Going l.run
