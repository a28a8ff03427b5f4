-- `reads::whole::read_list`: before each turn, what is still to come, laid behind what was taken, is the whole list.
use Rattle.std.proofs.Common.{◌≡◌}
use Rattle.wire.specs.Store.{laid}
use Rattle.reads.specs.Reader.{coming}
use Rattle.reads.specs.Whole.{stored}
use Rattle.reads.proofs.whole.read_list.Given as goal

abbrev pub invariant-loop-place : goal.invariant-loop-place
invariant-loop-place l = laid l.items l.place-iterator.count (coming l.place-iterator.iter) ≡ stored l.fn.items l.payload
