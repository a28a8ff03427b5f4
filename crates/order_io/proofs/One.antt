-- `Shows` leaves one answer, and `Leaves` one of every lent byte. Assumes nothing.
use Rattle.wire.proofs.One.{one}
use Rattle.order_io.specs.Shown.{Unique, LeavesUnique}

pub unique : Unique
unique x out a b p q = λ i. (
  one a.0 b.0 p.told q.told i,
  one a.1 b.1 p.framed q.framed i,
  one a.2 b.2 p.stored q.stored i,
  one a.3 b.3 p.printed q.printed i,
)

pub leaves_unique : LeavesUnique
leaves_unique x out a b p q = λ i. (
  one a.0 b.0 p.framed q.framed i,
  one a.1 b.1 p.stored q.stored i,
  one a.2 b.2 p.printed q.printed i,
)
