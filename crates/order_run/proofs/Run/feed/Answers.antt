-- `feed` meets its contract: a piece is cut to its room.
use mathlib.Core.Path.{◌≡◌, ap, ◌∙◌}
use Prim.Native.Nat.{ℕ}
use native.Mathlib.Omega.{arith}
use lib.ListN.{take, length-take}
use Rattle.order_run.proofs.Printing.{take_least}
use Rattle.order_run.proofs.Closing.{feeds_within}
use Rattle.order_run.proofs.Run.feed.Goals as goal

pub returns : goal.returns
returns c =
    let a = c.args in
    let l = c.min-end in
    let e : take l.result a.text.now ≡ take 4096 a.text.now = ap (λ (n : ℕ). take n a.text.now) l.ensures ∙ take_least 4096 a.text.now in
    rw e at (feeds_within {m = 4096} (simp length-take (omega (arith, l.ensures))) c.feed_piece.ensures)
