-- An order from numbers and data bytes. Document 01: "enter: joins the end of the line, with kind, index, sub-index, data, and a reply
-- budget". Assumes nothing.
use Rattle.std.specs.Prelude.{List, ℕ, ltb, length}
use Rattle.wire.specs.Words.{pick}
use Rattle.wire.specs.Bytes.{long_at}
use Rattle.transfer.specs.declared.Order.{Order}

-- the number of data bytes, and 5 for every number above 4: "data length not 1-4" is 15 for each of them
unfoldable pub len_of : ℕ → ℕ
len_of n = pick (ltb 4 n) 5 n

-- the data are the value's first bytes, low byte first, and bytes that are not there are 0
unfoldable pub order_from : ℕ → ℕ → ℕ → List ℕ → ℕ → Order
order_from kind index sub bytes budget =
    record { kind = kind; sub = sub; index = index; value = long_at bytes 0; len = len_of (length bytes); budget = budget }
