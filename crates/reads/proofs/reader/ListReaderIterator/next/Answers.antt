-- `ListReader::next` comes nearer to the end: fewer indices are to come behind one that was given.
use Rattle.std.proofs.Common.{rules, ap, length}
use Rattle.reads.proofs.Coming.{one_comes}
use Rattle.reads.proofs.reader.ListReaderIterator.next.Goals as goal

pub returns-clause-goes : goal.returns-clause-goes
returns-clause-goes c =
    let fewer = ap length (one_comes _ _ _ c.read.ensures.0 c.read.ensures.1 _ c.in_ok-item.ensures.value) in
    search rules
