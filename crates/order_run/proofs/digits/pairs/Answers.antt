-- `pairs` meets its contract. The invariant: the first k bytes are stored, and their digits are good.
use mathlib.Core.Path.{sym, ◌∙◌}
use native.Mathlib.Omega.{arith}
use lib.ListN.{length-set}
use Rattle.order_run.proofs.Parts.{none_whole, is_byte, pair_whole}
use Rattle.order_run.proofs.digits.pairs.Goals as goal

pub loop-k-init : goal.loop-k-init
loop-k-init c =
    (omega (arith, c.min-most.ensures), omega (arith, c.min-most.ensures, c.requires.at_bound), c.requires.frame_len, none_whole c.requires.at_bound)

pub loop-k-preserved : goal.loop-k-preserved
loop-k-preserved c =
    let l = c.loop-k.invariant in
    let b = is_byte _ _ (sym c.byte.ensures ∙ c.in-Some.is) in (
      l.0,
      l.1,
      simp length-set l.2,
      pair_whole l.3 b.0 (omega (arith, b.0, b.1)) (omega (arith, c.loop-k-test.true)) (omega (arith, c.loop-k-test.true)) c.requires.frame_len,
    )
