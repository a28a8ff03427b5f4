-- "data length not 1-4" is said of the slice that a download is entered with, however long it is. Assumes nothing.
use mathlib.Core.Path.{◌≡◌, sym, ap}
use mathlib.Core.Bool.{Bool, false}
use mathlib.Core.List.{List}
use Prim.Native.Nat.{ℕ}
use lib.Dec.{eqb, ltb}
use lib.ListN.{length}
use Rattle.wire.specs.Words.{pick}
use Rattle.wire.proofs.Cases.{by, either_true}
use Rattle.transfer.specs.Entry.{kind_of, outside, unfit_of}
use Rattle.lent.specs.Order.{len_of, order_from}

-- 5 stands for every length above 4
long : (n : ℕ) → outside 1 4 (len_of n) ≡ outside 1 4 n
unfolding outside len_of
long n =
    by (ltb 4 n)
    (λ above. rw above (sym (either_true (ltb n 1))))
    (λ within. ap (λ (b : Bool). outside 1 4 (pick b 5 n)) within)

pub download_judged : (index sub budget : ℕ) (bytes : List ℕ) → eqb budget 0 ≡ false
    → unfit_of (order_from 3 index sub bytes budget) ≡ outside 1 4 (length bytes)
unfolding unfit_of kind_of order_from
download_judged index sub budget bytes fair = rw fair (long (length bytes))

pub complete_download_judged : (index sub budget : ℕ) (bytes : List ℕ) → eqb budget 0 ≡ false
    → unfit_of (order_from 6 index sub bytes budget) ≡ outside 1 4 (length bytes)
unfolding unfit_of kind_of order_from
complete_download_judged index sub budget bytes fair = rw fair (long (length bytes))
