-- Each shape leaves one answer. Assumes nothing.
use mathlib.Core.Path.{◌≡◌, refl, sym, ap, ◌∙◌}
use mathlib.Core.List.{List, [], map}
use Prim.Native.Nat.{ℕ}
use lib.ListN.{get_or}
use Rattle.std.specs.Prelude.{Option, Some, None}
use Rattle.std.specs.Iterator.{YieldsFirst}
use Rattle.reads.specs.Reader.{coming}
use Rattle.reads.specs.declared.reader.ListReader.{ListReader}
use Rattle.transfer.specs.Coe.{Told}
use Rattle.transfer.proofs.Refusals.{one_result}
use Rattle.desk.specs.declared.change.Change.{Change}
use Rattle.wire.proofs.One.{one}
use Rattle.judge.specs.Answers.{plain_of}
use Rattle.promises.specs.One.{Unique}
use Rattle.promises.specs.Standing.{Deed}
use Rattle.promises.proofs.Packed.{packs_one}

-- what was told of call n
told : ℕ → List Deed → Told
told n xs = get_or (map (λ (x : Deed). x.told) xs) n (plain_of 0, [])

-- one list has one first element, or none
same_index : (r s t : ListReader) (i j : Option ℕ) → YieldsFirst coming r i s → YieldsFirst coming r j t → i ≡ j
same_index r s t None None p q = refl
same_index r s t None (Some j) p q = cc
same_index r s t (Some i) None p q = cc
same_index r s t (Some i) (Some j) p q = cc

pub unique : Unique
unfolding told
unique = record {
  equality = λ x a b p q. one a b p q;
  conversion = λ f x a b p q. one a b p q;
  equalities = λ x y a b p q. λ i. (one a.0 b.0 p.0 q.0 i, one a.1 b.1 p.1 q.1 i);
  ruling = λ v a b p q. one_result _ a b (p ∙ sym q);
  rulings = λ v y a b p q. λ i. (one_result _ a.0 b.0 (p.0 ∙ sym q.0) i, one a.1 b.1 p.1 q.1 i);
  writers = λ f c r s a b p q. λ i. (one a.0 b.0 p.answer q.answer i, one a.1 b.1 p.frame q.frame i);
  fresh = λ c a b p q. one a b p.empty q.empty;
  enter_leave = λ d k a b p q. one a b p.told q.told;
  send_receive = λ d k s a b p q. λ i. (one a.0 b.0 p.told q.told i, one a.1 b.1 p.lent q.lent i);
  changes = λ d k a b p q. one_result Change a b (p.told ∙ sym q.told);
  changes_lent = λ d k s a b p q. λ i. (one_result Change a.0 b.0 (p.changes.told ∙ sym q.changes.told) i, one a.1 b.1 p.lent q.lent i);
  run = λ s o f r d a b p q.
      let same = sym p ∙ q in
      λ i. (
        record {
          entered = ap (λ (xs : List Deed). (told 0 xs).0) same i;
          sent = ap (λ (xs : List Deed). (told 1 xs).0) same i;
          received = ap (λ (xs : List Deed). (told 2 xs).0) same i;
          left = ap (λ (xs : List Deed). (told 3 xs).0) same i;
        },
        ap (λ (xs : List Deed). (told 1 xs).1) same i,
        ap (λ (xs : List Deed). (told 2 xs).1) same i,
      );
  takes = λ r a b p q. λ i. (same_index r a.1 b.1 a.0 b.0 p.0 q.0 i, one a.1 b.1 p.1 q.1 i);
  packs = packs_one;
}
