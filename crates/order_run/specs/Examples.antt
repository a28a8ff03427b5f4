-- Entries and lines of document 01, "The order program", closed by computation. Assumes nothing.
use Rattle.std.specs.Prelude.{ℕ, ◌≡◌, refl, List, [], ◌∷◌, map, Option, Some, None}
use Rattle.wire.specs.Bytes.{hex}
use Rattle.transfer.specs.Entry.{default_budget}
use Rattle.transfer.specs.declared.Order.{Order}
use Rattle.order_run.specs.Entry.{is_form, form_of}
use Rattle.order_run.specs.Printed.{lines_in}

abbrev order : ℕ → ℕ → ℕ → ℕ → ℕ → Option Order
order kind sub index value len = Some (record { kind = kind; sub = sub; index = index; value = value; len = len; budget = default_budget })

unfoldable pub entries : List (Option Order × Option Order)
entries =
    -- 01181001, the document's example; 02, 03 with one byte and with four, 04 and 05
    (form_of (hex 4 0x01181001), order 1 1 0x1018 0 0)
    ∷ (form_of (hex 3 0x021810), order 2 0 0x1018 0 0)
    ∷ (form_of (hex 5 0x0360600008), order 3 0 0x6060 8 1)
    ∷ (form_of (hex 8 0x0360600078563412), order 3 0 0x6060 0x12345678 4)
    ∷ (form_of (hex 2 0x0401), order 4 0 1 0 0)
    ∷ (form_of (hex 1 0x05), order 5 0 0 0 0)
    -- no listed form: none at all, a byte too few or too many, another number
    ∷ (form_of [], None)
    ∷ (form_of (hex 3 0x011810), None)
    ∷ (form_of (hex 5 0x0118100100), None)
    ∷ (form_of (hex 9 0x036060000102030405), None)
    ∷ (form_of (hex 3 0x040100), None)
    ∷ (form_of (hex 4 0x06181001), None)
    ∷ []

-- "the last line may lack its line end", and behind the last line end is no line
unfoldable pub texts : List (List (List ℕ) × List (List ℕ))
texts =
    (lines_in (hex 5 0x30310a3032), hex 2 0x3031 ∷ hex 2 0x3032 ∷ [])
    ∷ (lines_in (hex 3 0x30310a), hex 2 0x3031 ∷ [])
    ∷ (lines_in (hex 2 0x0a30), [] ∷ hex 1 0x30 ∷ [])
    ∷ (lines_in [], [])
    ∷ []

pub entries_hold : map (λ (e : Option Order × Option Order). e.0) entries ≡ map (λ (e : Option Order × Option Order). e.1) entries
unfolding entries form_of is_form
entries_hold = refl

pub texts_hold : map (λ (e : List (List ℕ) × List (List ℕ)). e.0) texts ≡ map (λ (e : List (List ℕ) × List (List ℕ)). e.1) texts
unfolding texts lines_in
texts_hold = refl
