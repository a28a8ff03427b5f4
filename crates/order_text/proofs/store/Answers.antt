-- `order_text::store` meets its contract. A turn stores what the line says at place k, which is a byte.
use mathlib.Core.Path.{◌≡◌}
use native.Mathlib.Omega.{arith}
use lib.ListN.{length, length-take, take}
use Rattle.order_text.proofs.Lines.{byte_turn}
use Rattle.order_text.proofs.store.Goals as goal

pub loop-k-preserved : goal.loop-k-preserved
loop-k-preserved c =
    let a = c.args in
    let n : length (take a.count a.frame.now) ≡ a.count = simp length-take (omega arith) in
    rw (c.loop-k.invariant, c.byte_at.ensures) (byte_turn (take a.count a.frame.now) a.line.now 0 c.loop-k.k c.loop-k.k (omega arith) (omega arith) (omega arith))
