-- `order_cases::orders` ends.
use Rattle.std.proofs.Common.{length}
use Rattle.order_cases.proofs.orders.Given as goal

abbrev pub decreases-loop-end : goal.decreases-loop-end
decreases-loop-end g l = length l.rest
