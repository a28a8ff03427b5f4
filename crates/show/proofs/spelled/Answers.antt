-- `show::spelled`: the text has room for what `encode` wrote.
use native.Mathlib.Omega.{arith}
use lib.ListN.{length, length-take}
use Rattle.order_text.proofs.Text.{text_fits}
use Rattle.show.proofs.spelled.Goals as goal

pub slice_bounds-write_all-end : goal.slice_bounds-write_all-end
slice_bounds-write_all-end g c =
    omega (arith, c.encode-n.ensures.0, text_fits (length c.args.text.now) c.args.s.now)

pub slice_bounds-write_all-end-2 : goal.slice_bounds-write_all-end-2
slice_bounds-write_all-end-2 g c =
    simp length-take (omega (arith, c.encode-n.ensures.0, text_fits (length c.args.text.now) c.args.s.now))
