-- `Part::whole_bytes` meets its contract: whole bytes where none is begun, and none where one is.
use mathlib.Core.Path.{ap}
use Prim.Native.Nat.{◌<◌}
use native.Mathlib.Omega.{arith}
use Rattle.order_run.specs.Part.{Part}
use Rattle.order_run.proofs.Parts.{none_whole}
use Rattle.order_run.proofs.digits.Part.whole_bytes.Goals as goal

pub returns-in-Some : goal.returns-in-Some
returns-in-Some c =
    (none_whole (omega (arith, c.self.invariant.room, ap (λ (p : Part). p.count) c.self.view_is)), λ (h : 0 < 0). absurd (omega arith))
