-- The one way of the five `unpack`: in a frame that is long enough, the number that was looked up is the field's, and the header is made of
-- what was found. Assumes nothing.
use mathlib.Core.Path.{◌≡◌, ap}
use mathlib.Core.Bool.{false≢true}
use mathlib.Core.List.{List}
use Prim.Native.Nat.{ℕ, ◌≤◌, ◌<◌}
use borrow.Author.Tests.{le-ltb, lt-ltb}
use lib.Dec.{ltb}
use lib.ListN.{length}
use Rattle.std.specs.Prelude.{Result, Ok, Err, IsErr, IsErrAnd}
use Rattle.wire.specs.Words.{pick, map_ok}
use Rattle.wire.specs.declared.refusal.Refusal.{Refusal}
use Rattle.mailbox.proofs.Reading.{reading}

-- what `?` hands on
pub handed_on : {H : Type 0} (r : Result H Refusal) (e : Refusal) → IsErr r × IsErrAnd r (λ f. f ≡ e) → r ≡ Err e
handed_on (Err f) e p = ap Err p.1
handed_on (Ok h) e p = absurd (false≢true p.0)

pub too_short : {H : Type 0} (s : List ℕ) (least : ℕ) (none q : Result H Refusal) → length s < least → none ≡ pick (ltb (length s) least) none q
too_short s least none q h = rw (lt-ltb _ _ h)

module _ {A H : Type 0} (make : A → H) (s : List ℕ) (least : ℕ) (none : Result H Refusal) (found looked : Result A Refusal) (h : least ≤ length s) (e : looked ≡ found) where
  pub unlisted : (f : Refusal) (r : Result H Refusal) → found ≡ Err f → IsErr r × IsErrAnd r (λ g. g ≡ f)
      → r ≡ pick (ltb (length s) least) none (map_ok make looked)
  unlisted f r t u = rw (le-ltb _ _ h, e, t) (handed_on r f u)

  pub listed_as : (a : A) → found ≡ Ok a → Ok (make a) ≡ pick (ltb (length s) least) none (map_ok make looked)
  listed_as a t = rw (le-ltb _ _ h, e, t)

pub ruleset unpacking = (too_short, unlisted, listed_as, reading)
