-- The object list: one item, and the whole list item by item. Assumes nothing.
use Rattle.std.specs.Prelude.{ℕ, zero, suc, ◌+◌, ◌-◌, ◌%◌, ◌<◌, Bool, List, [], ◌∷◌, ◌++◌, ltb, eqb, length, get_or, Option, None, Some, Result, Ok, Err}
use Rattle.wire.specs.Bytes.{bytes, value, word_at}
use Rattle.wire.specs.Words.{pick, either}
use Rattle.wire.specs.declared.refusal.Refusal.{Refusal}
use Rattle.reads.specs.Refusal.{read_unless}
use Rattle.reads.specs.declared.list.Item.{Item}

abbrev pub odd : List ℕ → Bool
odd s = eqb (length s % 2) 1

-- "an odd payload, or a position with no two bytes left, is 20". The position counts bytes.
unfoldable pub item_at : List ℕ → ℕ → Result Item Refusal
item_at s at = read_unless (either (odd s) (ltb (length s - at) 2)) (record { index = word_at s at; next = at + 2 })

-- The whole list: the indices that reads from a position on give, each going on where the one before said, and the refusal that
-- ends them. None says that the turns ran out before a refusal.
abbrev pub Listed : Type 0
Listed = List ℕ × Option Refusal

abbrev pub going_on : Result Item Refusal → (ℕ → Listed) → Listed
going_on (Ok item) rest = (item.index ∷ (rest item.next).0, (rest item.next).1)
going_on (Err refusal) rest = ([], Some refusal)

unfoldable pub read_from : ℕ → List ℕ → ℕ → Listed
read_from zero s at = ([], None)
read_from (suc turns) s at = going_on (item_at s at) (read_from turns s)

-- the words of a payload, two bytes each
abbrev pub words : List ℕ → List ℕ
words [] = []
words (lo ∷ []) = []
words (lo ∷ hi ∷ s) = value (lo ∷ hi ∷ []) ∷ words s

-- the indices of a payload: "an odd payload .. is 20", and has none
abbrev pub listed : List ℕ → List ℕ
listed s = pick (odd s) [] (words s)

-- the other way: words as bytes
abbrev pub in_bytes : List ℕ → List ℕ
in_bytes [] = []
in_bytes (w ∷ ws) = bytes 2 w ++ in_bytes ws

abbrev pub AllWords : List ℕ → Type 0
AllWords ws = (i : ℕ) → get_or ws i 0 < 65536
