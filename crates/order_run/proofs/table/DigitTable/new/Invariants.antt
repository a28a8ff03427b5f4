-- `DigitTable::new` meets its contract. The invariant: the digits of the first c characters stand in it.
use mathlib.Core.Path.{◌≡◌}
use Prim.Native.Nat.{ℕ, ◌<◌}
use lib.ListN.{length, get_or}
use Rattle.order_text.specs.Digits.{digit_of}
use Rattle.order_run.proofs.table.DigitTable.new.Given as goal

abbrev pub invariant-loop-c : goal.invariant-loop-c
invariant-loop-c l = (length l.digit-items ≡ 256) × ((k : ℕ) → k < l.c → get_or l.digit-items k 0 ≡ digit_of k)
