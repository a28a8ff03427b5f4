-- Every (P) example of document 01, and those beside them, under one statement over one list: frames (services/specs/Examples), replies
-- (judge/specs/Examples), reads of a payload (reads/specs/Examples), runs of the desk and the transfers that are listed of them (Runs).
-- Assumes nothing.
use Rattle.std.specs.Prelude.{◌≡◌, List, ◌++◌, map, ℕ}
use Rattle.transfer.specs.Coe.{Told}
use Rattle.services.specs.Examples as frames
use Rattle.judge.specs.Examples as replies
use Rattle.reads.specs.Answers as value
use Rattle.reads.specs.Examples as reads
use Rattle.promises.specs.Standing.{Deed}
use Rattle.promises.specs.Runs.{runs, listings}

-- what is computed and what is expected, of any kind
pub data Shown : Type 0 where
  frame : List ℕ → Shown
  reply : replies.Shown → Shown
  read : value.Valued → Shown
  run : List Told → Shown
  listing : List (List Deed) → Shown

abbrev pub Example : Type 0
Example = Shown × Shown

abbrev pub shown : {A : Type 0} → (A → Shown) → A × A → Example
shown f e = (f e.0, f e.1)

unfoldable pub examples : List Example
examples =
    map (shown frame) frames.examples
    ++ map (shown reply) replies.examples
    ++ map (shown read) reads.examples
    ++ map (shown run) runs
    ++ map (shown listing) listings

abbrev pub ExamplesHold : Type 0
ExamplesHold = map (λ (e : Example). e.0) examples ≡ map (λ (e : Example). e.1) examples
