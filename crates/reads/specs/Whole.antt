-- The whole object list, read by a reader from the payload's start to its end. Assumes nothing.
use Rattle.std.specs.Prelude.{ℕ, List, length, Result}
use Rattle.wire.specs.Store.{laid}
use Rattle.wire.specs.declared.refusal.Refusal.{Refusal}
use Rattle.reads.specs.Refusal.{read_unless}
use Rattle.reads.specs.List.{words, odd, listed}

-- "an odd payload .. is 20"; of an even one, how many indices it has, be there room for all of them or not
abbrev pub list_read : List ℕ → Result ℕ Refusal
list_read s = read_unless (odd s) (length (words s))

-- what the items hold afterwards: the indices in order, from the first item on, as far as there is room
abbrev pub stored : List ℕ → List ℕ → List ℕ
stored items s = laid items 0 (listed s)
