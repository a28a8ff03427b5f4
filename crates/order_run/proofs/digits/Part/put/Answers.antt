-- `Part::put` meets its contract: a digit that does not fail begins a byte where there is room for one.
use native.Mathlib.Omega.{arith}
use Rattle.order_run.proofs.Characters.{put_digit, begun_first}
use Rattle.order_run.proofs.digits.Part.put.Goals as goal

pub invariant_of-result : goal.invariant_of-result
invariant_of-result c =
    rw c.digit-digit.ensures (begun_first c.args.c c.self.invariant (rw (← c.self.view_is) at c.requires.good) c.in_default.is)

pub overflow_add-frame : goal.overflow_add-frame
overflow_add-frame c =
    omega (arith, c.digit-digit.ensures, put_digit _ _ c.requires.good, (c.self.invariant.digit _ c.in-Some.is).0)
