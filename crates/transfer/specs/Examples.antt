-- Which entries are 15, as a list of orders with what is said of each; antt computes it. Assumes nothing.
use Rattle.std.specs.Prelude.{◌≡◌, refl, Bool, true, false, List, [], ◌∷◌, map, ℕ}
use Rattle.transfer.specs.Entry.{kind_of, outside, unfit_of}
use Rattle.transfer.specs.declared.Order.{Order}

abbrev order : ℕ → ℕ → ℕ → ℕ → Order
order kind index len budget = record { kind = kind; sub = 0; index = index; value = 0; len = len; budget = budget }

abbrev pub Example : Type 0
Example = Order × Bool

-- "data length not 1-4, list kind not 1-5, budget 0", and a kind not 1 to 6
abbrev pub entries : List Example
entries =
    (order 3 0x6060 0 1, true) ∷ (order 3 0x6060 1 1, false) ∷ (order 3 0x6060 4 1, false) ∷ (order 3 0x6060 5 1, true)
    ∷ (order 6 0x6060 0 1, true) ∷ (order 6 0x6060 1 1, false) ∷ (order 6 0x6060 4 1, false) ∷ (order 6 0x6060 5 1, true)
    ∷ (order 4 0 0 1, true) ∷ (order 4 1 0 1, false) ∷ (order 4 5 0 1, false) ∷ (order 4 6 0 1, true)
    ∷ (order 1 0x1018 0 1, false) ∷ (order 2 0x1018 0 1, false) ∷ (order 5 0 0 1, false)
    ∷ (order 1 0x1018 0 0, true) ∷ (order 1 0x1018 0 65535, false)
    ∷ (order 0 0x1018 1 1, true) ∷ (order 7 0x1018 1 1, true)
    ∷ []

pub entries_hold : map (λ (e : Example). unfit_of e.0) entries ≡ map (λ (e : Example). e.1) entries
unfolding kind_of outside unfit_of
entries_hold = refl
