-- Five counts in ten bytes read back, whatever follows them. Assumes nothing.
use mathlib.Core.Path.{◌≡◌}
use Rattle.std.specs.Prelude.{Ok}
use mathlib.Core.List.{List, ◌++◌}
use Prim.Native.Nat.{ℕ, ◌≤◌}
use native.Mathlib.Omega.{arith}
use borrow.Author.Tests.{le-ltb}
use lib.ListN.{length}
use Rattle.reads.proofs.WholeList.{word_back}
use Rattle.reads.specs.Quantities.{quantities_read, in_order}
use Rattle.reads.specs.List.{in_bytes, AllWords}
use Rattle.reads.specs.declared.quantities.ObjectDescriptionListQueryCounts.{ObjectDescriptionListQueryCounts}

pub counts_back : (c : ObjectDescriptionListQueryCounts) (rest : List ℕ) → AllWords (in_order c) → quantities_read (in_bytes (in_order c) ++ rest) ≡ Ok c
unfolding quantities_read
counts_back c rest w =
    let s : List ℕ = in_bytes (in_order c) ++ rest in
    let long : 10 ≤ length s = omega arith in
    rw (
      le-ltb (length s) 10 long,
      word_back c.all (w 0),
      word_back c.rx_pdo_mappable (w 1),
      word_back c.tx_pdo_mappable (w 2),
      word_back c.stored_for_device_replacement (w 3),
      word_back c.startup_parameters (w 4),
    )
