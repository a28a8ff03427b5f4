-- The reads' answers as structs of numbers: 00 and what was read, or the refusal's number and 0 where nothing was read. Document 01: "Where
-- an answer is an enum, a definition gives this paper's number and values for each of its cases." Assumes nothing.
use Rattle.std.specs.Prelude.{ℕ, ℤ, pos, Result, Ok, Err}
use Rattle.wire.specs.Refusal.{number_of}
use Rattle.wire.specs.declared.refusal.Refusal.{Refusal}
use Rattle.reads.specs.declared.list.Item as listed
use Rattle.reads.specs.declared.quantities.ObjectDescriptionListQueryCounts.{ObjectDescriptionListQueryCounts}
use Rattle.linked.specs.declared.reading.Unsigned.{Unsigned}
use Rattle.linked.specs.declared.reading.Signed.{Signed}
use Rattle.linked.specs.declared.reading.Item.{Item}
use Rattle.linked.specs.declared.reading.Quantities.{Quantities}

abbrev pub unsigned_of : Result ℕ Refusal → Unsigned
unsigned_of (Ok v) = record { number = 0x00; value = v }
unsigned_of (Err r) = record { number = number_of r; value = 0 }

abbrev pub signed_of : Result ℤ Refusal → Signed
signed_of (Ok v) = record { number = 0x00; value = v }
signed_of (Err r) = record { number = number_of r; value = pos 0 }

-- a refusal leaves the position
abbrev pub item_of : ℕ → Result listed.Item Refusal → Item
item_of at (Ok item) = record { number = 0x00; index = item.index; next = item.next }
item_of at (Err r) = record { number = number_of r; index = 0; next = at }

abbrev pub counts_with : ℕ → ObjectDescriptionListQueryCounts → Quantities
counts_with n c = record {
  number = n;
  all = c.all;
  rx_pdo_mappable = c.rx_pdo_mappable;
  tx_pdo_mappable = c.tx_pdo_mappable;
  stored_for_device_replacement = c.stored_for_device_replacement;
  startup_parameters = c.startup_parameters;
}

abbrev pub no_counts : ObjectDescriptionListQueryCounts
no_counts = record {
  all = 0;
  rx_pdo_mappable = 0;
  tx_pdo_mappable = 0;
  stored_for_device_replacement = 0;
  startup_parameters = 0;
}

abbrev pub quantities_of : Result ObjectDescriptionListQueryCounts Refusal → Quantities
quantities_of (Ok c) = counts_with 0x00 c
quantities_of (Err r) = counts_with (number_of r) no_counts
