-- The one refusal of this crate. Assumes nothing.
use Rattle.std.specs.Prelude.{Bool, Result, Ok, Err}
use Rattle.wire.specs.Words.{pick}
use Rattle.wire.specs.declared.refusal.Refusal.{Refusal}
use Rattle.wire.specs.declared.refusal.Refusal.TheVariants.{Undecodable}

-- "Typed reads and list reads refuse with 20", which the table of numbers calls "undecodable": what is read, unless a test holds
abbrev pub read_unless : {A : Type 0} → Bool → A → Result A Refusal
read_unless refused a = pick refused (Err Undecodable) (Ok a)
