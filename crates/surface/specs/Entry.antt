-- The order that a host's entry brings to the desk, field by field, and what goes out of it. Assumes nothing.
use Rattle.std.specs.Prelude.{◌≡◌, not, List, [], ◌∷◌, ℕ, ◌%◌, ◌^◌, ◌≤◌, min, eqb, length}
use Rattle.wire.specs.Words.{within, both, either, first_of}
use Rattle.wire.specs.Bytes.{Bytes, value}
use Rattle.line.specs.Numbers.{Test}
use Rattle.transfer.specs.declared.Order.{Order}
use Rattle.promises.specs.Orders.{unfit}
use Rattle.surface.specs.Reads.{four_bytes}

-- "enter: joins the end of the line, with kind, index, sub-index, data, and a reply budget". The order holds up to four bytes of data, the
-- first lowest; a length of 5 stands for every one above 4.
abbrev pub entry_of : ℕ → ℕ → ℕ → List ℕ → ℕ → Order
entry_of kind index sub sent budget = record {
  kind = kind;
  sub = sub;
  index = index;
  value = four_bytes sent;
  len = min (length sent) 5;
  budget = budget;
}

-- 15, by what is handed in: "entry: data length not 1-4, list kind not 1-5, budget 0"
abbrev pub unfit_entry : ℕ → ℕ → List ℕ → ℕ → List Test
unfit_entry kind index sent budget =
    (eqb budget 0, 0x15)
    ∷ (not (within 1 6 kind), 0x15)
    ∷ (both (either (eqb kind 3) (eqb kind 6)) (not (within 1 4 (length sent))), 0x15)
    ∷ (both (eqb kind 4) (not (within 1 5 index)), 0x15)
    ∷ []

pub record EntryLaws : Type 0 where
  -- the order is refused where what was handed in is
  pub judged : (kind index sub : ℕ) (sent : List ℕ) (budget : ℕ)
      → first_of {A = ℕ} (unfit (entry_of kind index sub sent budget)) ≡ first_of {A = ℕ} (unfit_entry kind index sent budget)
  -- what the first frame's data field holds of a download (promises/specs/Orders: `asks`) are the bytes that were handed in
  pub carried : (kind index sub : ℕ) (sent : List ℕ) (budget : ℕ) → Bytes sent → length sent ≤ 4 →
      let o = entry_of kind index sub sent budget in
      o.value % 256 ^ o.len ≡ value sent
