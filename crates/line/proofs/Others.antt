-- A call for one seat leaves everybody else as it was, and in the same order. Assumes nothing.
use mathlib.Core.Path.{◌≡◌, refl, sym, ◌∙◌}
use mathlib.Core.Bool.{false}
use mathlib.Core.List.{[], ◌∷◌, ◌++◌}
use mathlib.Core.Option.{Option, none, some}
use Prim.Native.Nat.{ℕ}
use borrow.Author.Tests.{eqb-true}
use lib.Dec.{eqb}
use Rattle.wire.proofs.Cases.{by}
use Rattle.line.specs.Machine.{Machine}
use Rattle.line.specs.Line.{Line, seated, find, vacate, place}
use Rattle.line.specs.Desk.{Call, Outcome, Desk}
use Rattle.line.specs.Transfers.{seat_of}
use Rattle.line.specs.Sound.{Distinct}
use Rattle.line.proofs.Seats.{seated_cons, vacate_self, vacated, find_other}
use Rattle.line.proofs.Moves.{Move, stays, joins, asks, hears, goes}

module _ {A : Type 0} where
  find_snoc : (q s : ℕ) (t : A) (l : Line A) → eqb q s ≡ false → find q (l ++ ((s, t) ∷ [])) ≡ find q l
  unfolding find
  find_snoc q s t [] e = rw e
  find_snoc q s t (u ∷ l) e = rw (find_snoc q s t l e)

  find_place : (q s : ℕ) (t : A) (t' : Option A) (l : Line A) → eqb q s ≡ false → find q (place s t' ++ l) ≡ find q ((s, t) ∷ l)
  unfolding place
  find_place q s t none l e = sym (find_other q (s, t) l e)
  find_place q s t (some u) l e = find_other q (s, u) l e ∙ sym (find_other q (s, t) l e)

  find_vacate : (q s : ℕ) (l : Line A) → eqb q s ≡ false → find q (vacate s l) ≡ find q l
  unfolding find vacate
  find_vacate q s [] e = refl
  find_vacate q s (u ∷ l) e =
      by (eqb s u.0)
      (λ y. rw y (sym (find_other q u l (rw (eqb-true s u.0 y) at e))))
      (λ n. rw (n, find_vacate q s l e))

  pub vacate_absent : (s : ℕ) (l : Line A) → seated s l ≡ false → vacate s l ≡ l
  unfolding vacate
  vacate_absent s [] h = refl
  vacate_absent s (q ∷ l) h = let a = seated_cons s q l h in rw (a.0, vacate_absent s l a.1)

  vacate_last : (s : ℕ) (t : A) (l : Line A) → seated s l ≡ false → vacate s (l ++ ((s, t) ∷ [])) ≡ l
  unfolding vacate
  vacate_last s t [] h = vacate_self s t []
  vacate_last s t (q ∷ l) h = let a = seated_cons s q l h in rw (a.0, vacate_last s t l a.1)

  vacate-place : (s : ℕ) (t : A) (t' : Option A) (l : Line A) → seated s l ≡ false → vacate s (place s t' ++ l) ≡ vacate s ((s, t) ∷ l)
  unfolding place
  vacate-place s t none l h = vacate_absent s l h ∙ sym (vacate_self s t l)
  vacate-place s t (some u) l h = vacate_self s u l ∙ sym (vacate_self s t l)

module _ (M : Machine) where
  pub unaltered_move : {k : Call M} {d : Desk M} {r : Desk M × Outcome M} (q : ℕ) → Move M k d r → eqb q (seat_of k) ≡ false
      → find q r.0.line ≡ find q d.line
  unfolding seat_of
  unaltered_move q (stays n) e = refl
  unaltered_move q (joins {l = l} s e t a f b) h = find_snoc q s t l h
  unaltered_move q (asks {l = l} s b t r a e f) h = find_other q (s, r.1) l h ∙ sym (find_other q (s, t) l h)
  unaltered_move q (hears {l = l} s m t r a e f) h = find_place q s t r.1 l h
  unaltered_move q (goes {l = l} s t a f) h = find_vacate q s l h

  pub order_move : {k : Call M} {d : Desk M} {r : Desk M × Outcome M} → Move M k d r → Distinct d.line
      → vacate (seat_of k) r.0.line ≡ vacate (seat_of k) d.line
  unfolding seat_of
  order_move (stays n) D = refl
  order_move (joins {l = l} s e t a f b) D = vacate_last s t l f ∙ sym (vacate_absent s l f)
  order_move (asks {l = l} s b t r a e f) D = vacate_self s r.1 l ∙ sym (vacate_self s t l)
  order_move (hears {l = l} s m t r a e f) D = vacate-place s t r.1 l D.0
  order_move (goes {l = l} s t a f) D = vacate_absent s (vacate s l) (vacated s l D)
