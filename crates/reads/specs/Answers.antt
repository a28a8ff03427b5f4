-- The paper's number for each answer, and the values that it gives. Document 01: "Where an answer is an enum, a definition
-- gives this paper's number and values for each of its cases." Assumes nothing.
use Rattle.std.specs.Prelude.{ℕ, List, [], ◌∷◌, map, ℤ, pos, Result, Ok, Err}
use Rattle.wire.specs.Refusal.{number_of}
use Rattle.wire.specs.declared.refusal.Refusal.{Refusal}
use Rattle.reads.specs.Quantities.{in_order}
use Rattle.reads.specs.declared.list.Item.{Item}
use Rattle.reads.specs.declared.quantities.ObjectDescriptionListQueryCounts.{ObjectDescriptionListQueryCounts}

abbrev done : ℕ
done = 0x00

-- a number, and the values beside it
abbrev pub Valued : Type 0
Valued = ℕ × List ℤ

abbrev valued : {A : Type 0} → (A → List ℤ) → Result A Refusal → Valued
valued values (Ok a) = (done, values a)
valued values (Err refusal) = (number_of refusal, [])

abbrev pub of_unsigned : Result ℕ Refusal → Valued
of_unsigned = valued (λ v. pos v ∷ [])

abbrev pub of_signed : Result ℤ Refusal → Valued
of_signed = valued (λ v. v ∷ [])

abbrev pub of_item : Result Item Refusal → Valued
of_item = valued (λ item. pos item.index ∷ pos item.next ∷ [])

abbrev pub of_list : Result ℕ Refusal → Valued
of_list = valued (λ count. pos count ∷ [])

abbrev pub of_quantities : Result ObjectDescriptionListQueryCounts Refusal → Valued
of_quantities = valued (λ counts. map (λ (n : ℕ). pos n) (in_order counts))
