-- The transfers of a sequence of calls, read off the accepted calls with no look at any desk. "A transfer is one entry": the
-- calls for its seat are its own until the next entry there. Assumes nothing.
use Rattle.std.specs.Prelude.{◌≡◌, ℕ, Bool, true, false, eqb}
use mathlib.Core.List.{List, [], ◌∷◌, ◌++◌, flatten}
use Rattle.wire.specs.Words.{pick}
use Rattle.line.specs.Lists.{Each, keep, some_of}
use Rattle.line.specs.Machine.{Machine}
use Rattle.line.specs.Desk.{Call, enter, send, receive, leave}
use Rattle.line.specs.Stand.{Event}

module _ {M : Machine} where
  unfoldable pub seat_of : Call M → ℕ
  seat_of (enter s e) = s
  seat_of (send s b) = s
  seat_of (receive s r) = s
  seat_of (leave s) = s

  unfoldable pub is_enter : Call M → Bool
  is_enter (enter s e) = true
  is_enter (send s b) = false
  is_enter (receive s r) = false
  is_enter (leave s) = false

  unfoldable pub is_send : Call M → Bool
  is_send (enter s e) = false
  is_send (send s b) = true
  is_send (receive s r) = false
  is_send (leave s) = false

  module _ {T : Type 0} where
    -- the calls for a seat up to the next entry there
    unfoldable pub own : ℕ → List (Event M T) → List (Event M T)
    own s [] = []
    own s (x ∷ xs) = pick (eqb s (seat_of x.call)) (pick (is_enter x.call) [] (x ∷ own s xs)) (own s xs)

    -- each entry with its own calls, by order of entry
    unfoldable pub transfers : List (Event M T) → List (List (Event M T))
    transfers [] = []
    transfers (x ∷ xs) = pick (is_enter x.call) ((x ∷ own (seat_of x.call) xs) ∷ []) [] ++ transfers xs

    unfoldable pub sent_frame : List (Event M T) → Bool
    sent_frame = some_of (λ x. is_send x.call)

    -- the transfers that sent a frame, by order of entry, each with its own accepted calls and what was told of them
    unfoldable pub listed : (T → Bool) → List (Event M T) → List (List (Event M T))
    listed ok xs = keep sent_frame (transfers (keep (λ x. ok x.told) xs))

    unfoldable pub enters_at : ℕ → List (Event M T) → Bool
    enters_at s [] = false
    enters_at s (x ∷ xs) = eqb s (seat_of x.call)

    -- the transfers that entered at a seat, one behind another
    unfoldable pub served_at : ℕ → List (Event M T) → List (Event M T)
    served_at s xs = flatten (keep (enters_at s) (transfers xs))

    -- all calls for a seat
    unfoldable pub made_at : ℕ → List (Event M T) → List (Event M T)
    made_at s = keep (λ x. eqb s (seat_of x.call))

    -- a call that belongs to the transfer at seat s
    pub record Later (ok : T → Bool) (s : ℕ) (x : Event M T) : Type 0 where
      pub seat : eqb s (seat_of x.call) ≡ true
      pub same : is_enter x.call ≡ false
      pub accepted : ok x.told ≡ true

    -- one entry, and accepted calls of its own
    unfoldable pub OneTransfer : (T → Bool) → List (Event M T) → Type 0
    OneTransfer ok [] = ⊥
    OneTransfer ok (x ∷ xs) =
        (is_enter x.call ≡ true)
        × (ok x.told ≡ true)
        × Each (Later ok (seat_of x.call)) xs

-- no call is lost, whatever the list: those for a seat are the ones up to the first entry there, and then each entry's own
abbrev pub AllCalls : Machine → Type 0 → Type 0
AllCalls M T = (s : ℕ) (xs : List (Event M T)) → own s xs ++ served_at s xs ≡ made_at s xs
