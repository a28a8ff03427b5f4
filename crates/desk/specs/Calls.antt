-- What the desk's calls give back: each is one step of line's desk with the CoE machine, told in numbers and bytes. Assumes nothing.
use Rattle.std.specs.Prelude.{◌≡◌, List, ℕ}
use Rattle.line.specs.Desk.{Call, Outcome, refused, entered, sent, received, left, step}
use Rattle.judge.specs.Answers.{plain_of}
use Rattle.judge.specs.declared.Answer.{Answer}
use Rattle.transfer.specs.Coe.{coe_machine}
use Rattle.desk.specs.Record.{Queue, view_of, desk_of, empty_at, Good}
use Rattle.desk.specs.declared.Called.{Called}
use Rattle.desk.specs.declared.Desk.{Desk}

-- "Numbers the desk gives back", with their values
unfoldable pub answer_for : Outcome coe_machine → Answer
answer_for (refused n) = plain_of n
answer_for entered = plain_of 0x01
answer_for (sent f) = plain_of 0x02
answer_for (received a) = a.0
answer_for left = plain_of 0x03

-- a lent buffer that held b, after the call: the frame of a send, the data buffer of a receive
unfoldable pub lent_after : List ℕ → Outcome coe_machine → List ℕ
lent_after b (refused n) = b
lent_after b entered = b
lent_after b (sent f) = f
lent_after b (received a) = a.1
lent_after b left = b

-- the answer, and the record afterwards
abbrev pub called_of : Queue × Outcome coe_machine → Called
called_of r = record { answer = answer_for r.1; desk = desk_of r.0 }

-- a desk with nobody in the line, whose next frame has the counter c
pub record Fresh (c : ℕ) (d : Desk) : Type 0 where
  pub empty : d ≡ empty_at c
  pub good : Good d

-- what a call k at the record d promises
pub record Gives (d : Desk) (k : Call coe_machine) (r : Called) : Type 0 where
  pub told : r ≡ called_of (step coe_machine (view_of d) k)
  pub good : Good r.desk

-- and of one that lends a buffer
pub record GivesLent (d : Desk) (k : Call coe_machine) (r : Called) (before after : List ℕ) : Type 0 where
  pub told : r ≡ called_of (step coe_machine (view_of d) k)
  pub good : Good r.desk
  pub lent : after ≡ lent_after before (step coe_machine (view_of d) k).1
