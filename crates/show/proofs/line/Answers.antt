-- `show::line`: what a line says has room where `decode` found some.
use native.Mathlib.Omega.{arith}
use lib.ListN.{length, length-take}
use Rattle.order_text.proofs.Answers.{heard_fits}
use Rattle.show.proofs.line.Goals as goal

pub slice_bounds-turn-end : goal.slice_bounds-turn-end
slice_bounds-turn-end g c =
    omega (arith, heard_fits (length c.args.space.now) c.args.line.now c.in-Some.n (cc))

pub slice_bounds-turn-end-in-Some : goal.slice_bounds-turn-end-in-Some
slice_bounds-turn-end-in-Some g c =
    simp length-take (omega (arith, heard_fits (length c.args.space.now) c.args.line.now c.in-Some.n (cc)))
