-- Uniqueness of what the callers state: "that no second answer satisfies it is shown". The reads' statements are equalities. Assumes nothing.
use Rattle.std.specs.Prelude.{List, ℕ}
use Rattle.wire.specs.Words.{One}
use Rattle.wire.specs.Fields.{Field}
use Rattle.mailbox.specs.Fields.{Name}
use Rattle.line.specs.Numbers.{Test}
use Rattle.judge.specs.declared.Answer.{Answer}
use Rattle.desk.specs.declared.Desk.{Desk}
use Rattle.promises.specs.Standing.{Called}
use Rattle.surface.specs.Writers.{Writes}
use Rattle.surface.specs.Judge.{JudgesReply}
use Rattle.surface.specs.Calls.{Opens, Does}

pub record Unique : Type 0 where
  pub writes : (tests : List Test) (bytes : ℕ) (fields : List (Name × ℕ)) (skipped : List Field) (before : List ℕ)
      → One (λ (r : ℕ × List ℕ). Writes tests bytes fields skipped before r.0 r.1)
  pub judges_reply : (kind i b earlier : ℕ) (s d : List ℕ) → One (λ (r : Answer × List ℕ). JudgesReply kind i b earlier s d r.0 r.1)
  pub opens : One Opens
  pub does : (d : Desk) (k : Called) → One (λ (r : Answer × Desk × List ℕ). Does d k r.0 r.1 r.2)
