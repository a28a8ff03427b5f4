-- Each shape leaves one answer. Assumes nothing.
use Rattle.wire.proofs.One.{one}
use Rattle.lent.specs.Found.{found}
use Rattle.linked.specs.One.{Unique}

pub unique : Unique
unique = record {
  frames = λ f c r s a b p q. λ i. (one a.0 b.0 p.answer q.answer i, one a.1 b.1 p.frame q.frame i);
  judges = λ k i u e s d a b p q. λ j. (one a.0 b.0 p.0 q.0 j, one a.1 b.1 p.1 q.1 j);
  lent_enter_leave = λ d k a b p q.
      let same = one (found a.0 a.1) (found b.0 b.1) p.told q.told in
      λ i. ((same i).answer, (same i).desk);
  lent_send_receive = λ d k s a b p q.
      let same = one (found a.0 a.1) (found b.0 b.1) p.told q.told in
      λ i. ((same i).answer, (same i).desk, one a.2 b.2 p.lent q.lent i);
}
