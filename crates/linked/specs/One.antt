-- Uniqueness of what is lent and exported: "that no second answer satisfies it is shown". Of the shapes of promises/specs/One, those that
-- speak of a lent record, and the exported writers and judge. Assumes nothing.
use Rattle.std.specs.Prelude.{Bool, List, ℕ}
use Rattle.wire.specs.Words.{One}
use Rattle.line.specs.Desk.{Call}
use Rattle.services.specs.Written.{Frames}
use Rattle.services.specs.declared.Request.{Request}
use Rattle.judge.specs.declared.Answer.{Answer}
use Rattle.transfer.specs.Coe.{coe_machine}
use Rattle.desk.specs.Calls.{Gives, GivesLent}
use Rattle.desk.specs.declared.Desk.{Desk}
use Rattle.lent.specs.Found.{found}
use Rattle.linked.specs.Judging.{Judges}

pub record Unique : Type 0 where
  pub frames : (fine : Bool) (counter : ℕ) (request : Request) (before : List ℕ)
      → One (λ (r : ℕ × List ℕ). Frames fine counter request before r.0 r.1)
  pub judges : (kind index sub earlier : ℕ) (reply before : List ℕ)
      → One (λ (r : Answer × List ℕ). Judges kind index sub earlier reply before r.0 r.1)
  pub lent_enter_leave : (d : Desk) (k : Call coe_machine) → One (λ (r : Answer × Desk). Gives d k (found r.0 r.1))
  pub lent_send_receive : (d : Desk) (k : Call coe_machine) (before : List ℕ)
      → One (λ (r : Answer × Desk × List ℕ). GivesLent d k (found r.0 r.1) before r.2)
