-- The order of a host's entry is refused where what was handed in is, and its data are the bytes that were handed in. Assumes nothing.
use mathlib.Core.Path.{◌≡◌, sym, ap, ◌∙◌}
use mathlib.Core.List.{List}
use Prim.Native.Nat.{ℕ, ◌%◌, ◌^◌, min}
use native.Mathlib.Omega.{arith}
use borrow.Author.Tests.{le-leb, leb-true, leb-false}
use lib.Dec.{leb}
use lib.ListN.{length}
use Rattle.wire.specs.Words.{within, first_of}
use Rattle.wire.specs.Bytes.{Bytes, value}
use Rattle.wire.proofs.Cases.{by}
use Rattle.wire.proofs.Bytes.{value-bytes, bytes-value}
use Rattle.surface.specs.Entry.{entry_of, EntryLaws}
use Rattle.surface.proofs.Writers.{data_of}

-- 5 stands for every length above 4
within_min : (n : ℕ) → within 1 4 (min n 5) ≡ within 1 4 n
within_min n =
    by (leb n 4)
    (λ y. let all : min n 5 ≡ n = omega (arith, leb-true n 4 y) in rw all)
    (λ e.
    let five : min n 5 ≡ 5 = omega (arith, leb-false n 4 e) in
    rw (five, le-leb 1 n (omega (arith, leb-false n 4 e)), e))

carried_whole : (sent : List ℕ) → Bytes sent → value sent % 256 ^ length sent ≡ value sent
carried_whole sent h = sym (value-bytes (length sent) (value sent)) ∙ ap value (bytes-value sent h)

pub entry_laws : EntryLaws
unfolding first_of
entry_laws = record {
  judged = λ kind index sub sent budget. rw (within_min (length sent));
  carried = λ kind index sub sent budget h l.
      let all : min (length sent) 5 ≡ length sent = omega arith in
      let v : (entry_of kind index sub sent budget).value ≡ value sent = omega (arith, data_of sent l) in
      rw (all, v) (carried_whole sent h);
}
