-- Document 01: "one record that the host lends to every call and finds updated afterwards". Assumes nothing.
use Rattle.judge.specs.declared.Answer.{Answer}
use Rattle.desk.specs.declared.Called.{Called}
use Rattle.desk.specs.declared.Desk.{Desk}

-- the answer and the lent record as it is found: what the desk by value gives back
abbrev pub found : Answer → Desk → Called
found answer desk = record { answer = answer; desk = desk }
