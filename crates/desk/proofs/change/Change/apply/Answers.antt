-- `apply` meets its contract: the copy is `moved`.
use mathlib.Core.Path.{◌≡◌, refl}
use Prim.Native.Nat.{◌+◌, ◌-◌}
use native.Mathlib.Omega.{arith}
use borrow.Author.Rules.{rules}
use lib.ListN.{length}
use Rattle.desk.proofs.Moved.{moved_copy, length_of_structs}
use Rattle.desk.proofs.change.Change.apply.Goals as goal

pub returns : goal.returns
returns c =
    let l = c.args.desk.now.line in
    let s = c.args.self in
    let n = (s.last + 1) - (s.first + 1) in
    let eight : length l ≡ 8 = search (rules, length_of_structs) in
    let moves = moved_copy l s.first s.last n (omega arith) c.requires.ordered (omega (arith, c.requires.ends)) in
    rw (c.copy_within.ensures.after, moves) (refl, refl)
