-- The quantities: five words, in the order of the Rust's ObjectDescriptionListQueryCounts. Assumes nothing.
use Rattle.std.specs.Prelude.{ℕ, List, [], ◌∷◌, ltb, length, Result}
use Rattle.wire.specs.Bytes.{word_at}
use Rattle.wire.specs.declared.refusal.Refusal.{Refusal}
use Rattle.reads.specs.Refusal.{read_unless}
use Rattle.reads.specs.declared.quantities.ObjectDescriptionListQueryCounts.{ObjectDescriptionListQueryCounts}

abbrev pub counts_of : List ℕ → ObjectDescriptionListQueryCounts
counts_of s = record {
  all = word_at s 0;
  rx_pdo_mappable = word_at s 2;
  tx_pdo_mappable = word_at s 4;
  stored_for_device_replacement = word_at s 6;
  startup_parameters = word_at s 8;
}

-- "Quantities need 10 bytes." Of more, the first 10.
unfoldable pub quantities_read : List ℕ → Result ObjectDescriptionListQueryCounts Refusal
quantities_read s = read_unless (ltb (length s) 10) (counts_of s)

-- the five counts in the order in which their words stand
abbrev pub in_order : ObjectDescriptionListQueryCounts → List ℕ
in_order c =
    c.all
    ∷ c.rx_pdo_mappable
    ∷ c.tx_pdo_mappable
    ∷ c.stored_for_device_replacement
    ∷ c.startup_parameters
    ∷ []
