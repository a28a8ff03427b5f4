-- Each statement leaves one answer. Assumes nothing.
use Rattle.wire.proofs.One.{one}
use Rattle.order_run.specs.One.{Unique}

pub unique : Unique
unique = record {
  starts = λ a b p q. one a b p.told q.told;
  feeds = λ x n out a b p q. λ i. (
    one a.0 b.0 p.told q.told i,
    one a.1 b.1 p.framed q.framed i,
    one a.2 b.2 p.stored q.stored i,
    one a.3 b.3 p.printed q.printed i,
  );
}
