-- `emergency` meets its contract: what it reads byte by byte is the message.
use borrow.Author.Tests.{le-ltb}
use Rattle.wire.specs.Bytes.{Bytes}
use Rattle.wire.proofs.Fields.{read_whole}
use Rattle.judge.specs.Alarm.{message_in, emergency_in}
use Rattle.judge.proofs.alarm.emergency.Goals as goal

pub returns : goal.returns
unfolding emergency_in message_in
returns c =
    let s = c.args.s.now in
    let h : Bytes s = λ i. (c.shared_slice_known-1.given i).fits in
    rw (le-ltb _ _ c.if-s-lt-EMERGENCY_LEAST.false, read_whole s h 8 8, ← c.eight_at.ensures)
