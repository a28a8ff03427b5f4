-- Where a run stands between two pieces. Assumes nothing.
use Rattle.desk.specs.Record.{Good}
use Rattle.desk.specs.declared.Desk.{Desk}
use Rattle.order_run.specs.Part.{Part, Begun}
use Rattle.order_run.specs.declared.turns.Phase.{Phase}

-- the desk, the phase, and the line that has no end yet
pub record Run : Type 0 where
  pub desk : Desk
  pub phase : Phase
  pub part : Part

-- a run that calls made from a fresh one
pub record Going (r : Run) : Type 0 where
  pub good : Good r.desk
  pub begun : Begun r.part
