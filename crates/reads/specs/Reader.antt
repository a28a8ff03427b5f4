-- The object list "is read through a small reader holding the finished bytes and a position". Assumes nothing.
use Rattle.std.specs.Prelude.{ℕ, zero, suc, ◌*◌, ◌%◌, ◌<◌, ◌≡◌, List, [], length, drop, Option, Some, None, Result, Ok, Err}
use Rattle.std.specs.Borrow.{Bor}
use Rattle.std.specs.Iterator.{YieldsFirst}
use Rattle.wire.specs.Words.{pick}
use Rattle.wire.specs.declared.refusal.Refusal.{Refusal}
use Rattle.wire.specs.declared.refusal.Refusal.TheVariants.{Undecodable}
use Rattle.reads.specs.List.{item_at, Listed, going_on, read_from, words, odd}
use Rattle.reads.specs.declared.list.Item.{Item}
use Rattle.reads.specs.declared.reader.ListReader.{ListReader}

-- "holding the finished bytes and a position", at the start of a payload
abbrev pub at_start : Bor (List ℕ) → ListReader
at_start payload = record { payload = payload; at = 0 }

-- the position behind an item that was read at a position; a refusal leaves it
abbrev pub behind : Result Item Refusal → ℕ → ℕ
behind (Ok item) at = item.next
behind (Err refusal) at = at

-- the reader behind the item at its position
abbrev pub moved_on : ListReader → ListReader
moved_on r = record { payload = r.payload; at = behind (item_at r.payload.now r.at) r.at }

-- what so many reads yield: the indices, and the refusal that ends them
unfoldable pub yielded : ℕ → ListReader → Listed
yielded zero r = ([], None)
yielded (suc turns) r = going_on (item_at r.payload.now r.at) (λ _. yielded turns (moved_on r))

-- a reader yields what the plain function reads from its position on
abbrev pub Yields : Type 0
Yields = (turns : ℕ) (r : ListReader) → yielded turns r ≡ read_from turns r.payload.now r.at

-- of an even payload a reader at the start yields the words in order, and then 20
abbrev pub YieldsAll : Type 0
YieldsAll = (payload : Bor (List ℕ)) (turns : ℕ) → length payload.now % 2 ≡ 0 → length payload.now < 2 * turns
    → yielded turns (at_start payload) ≡ (words payload.now, Some Undecodable)

-- "an odd payload .. is 20": at the first call
abbrev pub OddYieldsNone : Type 0
OddYieldsNone = (payload : Bor (List ℕ)) (turns : ℕ) → length payload.now % 2 ≡ 1 → yielded (suc turns) (at_start payload) ≡ ([], Some Undecodable)

-- the indices that a reader has still to give, one after another, up to the first refusal
abbrev pub coming : ListReader → List ℕ
coming r = pick (odd r.payload.now) [] (words (drop r.at r.payload.now))

-- one more index: the first of what is to come, or none where nothing is; the reader moves on as a read moves it
abbrev pub Takes : ListReader → Option ℕ → ListReader → Type 0
Takes r index after = YieldsFirst coming r index after × (after ≡ moved_on r)
