-- Demand 3 holds of the line's own desk, whatever the machine, and no accepted call is lost: `demand3`, `loses_none`. The induction is
-- over the calls, from any desk whose seats are distinct, and claims `Good`. Transfers that never send are parts too, so no filter
-- stands in it. Assumes nothing.
use mathlib.Core.Path.{◌≡◌, refl, sym, ◌∙◌}
use Prim.Native.Nat.{ℕ}
use mathlib.Core.Bool.{Bool, false, true≢false}
use mathlib.Core.List.{List, [], ◌∷◌, ◌++◌, append_assoc}
use mathlib.Core.Option.{Option, none, some}
use borrow.Author.Tests.{eqb-true}
use lib.Dec.{eqb}
use Rattle.wire.proofs.Cases.{by}
use Rattle.line.specs.Lists.{keep}
use Rattle.line.specs.Machine.{accept, Machine}
use Rattle.line.specs.Line.{Line, no_seat, seated, find, vacate, place}
use Rattle.line.specs.Desk.{Pass, first, Call, Outcome, Desk, enter, send, receive, leave, entered, sent, received, left, step}
use Rattle.line.specs.Stand.{Event, calls, trace, after, line_stand, is_accepted}
use Rattle.line.specs.Transfers.{seat_of, is_enter, own, transfers, listed}
use Rattle.line.specs.Alone.{Demand3, LosesNone}
use Rattle.line.specs.Sound.{Distinct}
use Rattle.line.proofs.Rulings.{eqb_self, eqb_sym}
use Rattle.line.proofs.Seats.{seated_cons, seated_snoc, seated_place, seated_vacate, vacated, vacate-cons, vacate-head, find_other, find_head, find_seated}
use Rattle.line.proofs.Steps.{head_turn, enter_01, send_02}
use Rattle.line.proofs.Moves.{at, Move, stays, joins, asks, hears, goes, move}
use Rattle.line.proofs.Single.{hears_alone, leaves_alone}
use Rattle.line.proofs.Kept.{distinct_move}
use Rattle.line.proofs.Ones.{entered_first}
use Rattle.line.proofs.Quiet.{chain_listed}
use Rattle.line.proofs.Parts.{Events, ev, Part, Chain, waiting, entering, chain_cons, chain_map, waiting_snoc, own_other, own_here, waiting_other, entering_other}

module _ (M : Machine) where
  open M use {Entry, Transfer, begin}

  -- What is claimed of a desk and the calls accepted there: the parts ahead come out alone as they do here, and an empty seat's
  -- next accepted call is an entry.
  record Good (d : Desk M) (xs : Events M) : Type 0 where
    chain : Chain M d.pass (waiting M d.line xs ++ entering M xs)
    free : (q : ℕ) → seated q d.line ≡ false → own q xs ≡ []

  good_joins : (s : ℕ) (e : Entry) (xs : Events M) (l : Line Transfer) (p : Pass) (t : Transfer) → no_seat s ≡ false → seated s l ≡ false
      → begin e ≡ accept t → Good (at M (l ++ ((s, t) ∷ [])) p) xs → Good (at M l p) (ev M (enter s e) entered ∷ xs)
  unfolding seat_of is_enter entering transfers own seated
  good_joins s e xs l p t a h b G =
      let k : Call M = enter s e in
      record {
        chain = rw (waiting_other M k entered xs s refl l h)
            (chain_map M (waiting M l xs) _ _
            (λ p₁. chain_cons M k entered [] ((s, t) ∷ []) p₁ p₁ (own s xs) (entering M xs) (enter_01 M (at M [] p₁) s e t a refl b))
            p (rw (waiting_snoc, append_assoc) at G.chain));
        free = λ q e. by (eqb q s) (λ y. rw y)
            (λ n. own_other M k entered xs s refl q n ∙ G.free q (seated_snoc q (s, t) l n e));
      }

  -- the head after its call, whether it goes on or is over
  place_chain : (s : ℕ) (t' : Option Transfer) (l : Line Transfer) (p : Pass) (xs : Events M) → seated s l ≡ false
      → Good (at M (place s t' ++ l) p) xs → Chain M p ((place s t', own s xs) ∷ (waiting M l xs ++ entering M xs))
  unfolding place waiting trace after calls
  place_chain s (some t) l p xs h G = G.chain
  place_chain s none l p xs h G = rw (G.free s h) (refl, G.chain)

  -- the head's turn: alone, it does the same
  good_turn : (k : Call M) (o : Outcome M) (xs : Events M) (l : Line Transfer) (p p' : Pass) (s : ℕ) (t : Transfer) (t' : Option Transfer)
      → seat_of k ≡ s → is_enter k ≡ false → seated s l ≡ false → step M (at M ((s, t) ∷ []) p) k ≡ (at M (place s t') p', o)
      → Good (at M (place s t' ++ l) p') xs → Good (at M ((s, t) ∷ l) p) (ev M k o ∷ xs)
  unfolding waiting
  good_turn k o xs l p p' s t t' z w h f G = record {
    chain = rw (own_here M k o xs s z w, waiting_other M k o xs s z l h, entering_other M k o xs s z w)
        (chain_cons M k o ((s, t) ∷ []) (place s t') p p' (own s xs) (waiting M l xs ++ entering M xs) f (place_chain s t' l p' xs h G));
    free = λ q e.
        let a = seated_cons q (s, t) l e in
        own_other M k o xs s z q a.0 ∙ G.free q (seated_place q s t' l a.0 a.1);
  }

  -- whoever leaves has made its last call
  module _ (s : ℕ) (t : Transfer) (xs : Events M) (ps : List (Part M)) (n : own s xs ≡ []) (a : no_seat s ≡ false) where
    goes_here : (q : ℕ × Transfer) (l : Line Transfer) → q ≡ (s, t) → seated q.0 l ≡ false → (p : Pass)
        → Chain M p (waiting M l xs ++ ps) → Chain M p (waiting M (q ∷ l) (ev M (leave s) left ∷ xs) ++ ps)
    unfolding waiting trace after calls seat_of is_enter
    goes_here q l e h p C =
        rw (e, own_here M (leave s) left xs s refl refl, n, waiting_other M (leave s) left xs s refl l (rw e at h))
        (chain_cons M (leave s) left ((s, t) ∷ []) [] p p [] (waiting M l xs ++ ps) (leaves_alone M s a p t) (refl, C))

    goes_chain : (l : Line Transfer) → find s l ≡ accept t → Distinct l → (p : Pass) → Chain M p (waiting M (vacate s l) xs ++ ps)
        → Chain M p (waiting M l (ev M (leave s) left ∷ xs) ++ ps)
    unfolding waiting vacate seat_of
    goes_chain [] g D p h = h
    goes_chain (q ∷ l) g D p h =
        by (eqb s q.0)
        (λ y. goes_here q l (find_head s q l g y) D.0 p (rw (vacate-head s q l y) at h))
        (λ m. let C = rw (vacate-cons s q l m) at h in
        rw (own_other M (leave s) left xs s refl q.0 (eqb_sym s q.0 m))
        (C.0, goes_chain l (sym (find_other s q l m) ∙ g) D.1 _ C.1))

  good_goes : (s : ℕ) (t : Transfer) (xs : Events M) (l : Line Transfer) (p : Pass) → no_seat s ≡ false → find s l ≡ accept t → Distinct l
      → Good (at M (vacate s l) p) xs → Good (at M l p) (ev M (leave s) left ∷ xs)
  unfolding seat_of is_enter
  good_goes s t xs l p a g D G = record {
    chain = rw (entering_other M (leave s) left xs s refl refl)
        (goes_chain s t xs (entering M xs) (G.free s (vacated s l D)) a l g D p G.chain);
    free = λ q e. by (eqb q s)
        (λ y. absurd (true≢false (sym (find_seated s l t g) ∙ (rw (eqb-true q s y) at e))))
        (λ m. own_other M (leave s) left xs s refl q m ∙ G.free q (seated_vacate q s l e));
  }

  -- ---- the induction

  abbrev okay : Event M (Outcome M) → Bool
  okay x = is_accepted M x.told

  good_move : {k : Call M} {d : Desk M} {r : Desk M × Outcome M} (xs : Events M) → Move M k d r → Distinct d.line
      → Good r.0 (keep okay xs)
      → Good d (keep okay (ev M k r.1 ∷ xs))
  unfolding keep is_accepted place seat_of is_enter
  good_move xs (stays n) D G = G
  good_move xs (joins {l = l} {p = p} s e t a h b) D G = good_joins s e (keep okay xs) l p t a h b G
  good_move xs (asks {l = l} {p = p} s b t r a e f) D G =
      good_turn (send s b) (sent r.0) (keep okay xs) l p _ s t (some r.1) refl refl D.0
      (send_02 M (at M ((s, t) ∷ []) p) s b t (head_turn s (s, t) [] a (eqb_self s)) r e f) G
  good_move xs (hears {l = l} {p = p} s m t r a e f) D G =
      good_turn (receive s m) (received r.0) (keep okay xs) l p p s t r.1 refl refl D.0
      (hears_alone M s a p m t r e f) G
  good_move xs (goes {l = l} {p = p} s t a h) D G = good_goes s t (keep okay xs) l p a h D G

  good_end : (l : Line Transfer) (p : Pass) → Chain M p (waiting M l [] ++ entering M [])
  unfolding waiting entering own transfers trace after calls
  good_end [] p = tt
  good_end (q ∷ l) p = (refl, good_end l p)

  good : (ks : List (Call M)) (d : Desk M) → Distinct d.line → Good d (keep okay (trace (line_stand M) d ks))
  unfolding trace keep own
  good [] d D = record { chain = good_end d.line d.pass; free = λ q e. refl }
  good (k ∷ ks) d D =
      good_move (trace (line_stand M) (step M d k).0 ks) (move M d k) D (good ks (step M d k).0 (distinct_move M (move M d k) D))

  pub chain_ahead : (ks : List (Call M)) (d : Desk M) → Distinct d.line
      → let xs = keep okay (trace (line_stand M) d ks) in Chain M d.pass (waiting M d.line xs ++ entering M xs)
  chain_ahead ks d D = (good ks d D).chain

  -- nothing is accepted for an empty seat before an entry
  pub none_before : (ks : List (Call M)) (d : Desk M) → Distinct d.line → (s : ℕ) → seated s d.line ≡ false
      → own s (keep okay (trace (line_stand M) d ks)) ≡ []
  none_before ks d D = (good ks d D).free

  pub demand3 : Demand3 M
  unfolding listed entering waiting
  demand3 ks = chain_listed M _ first (chain_ahead ks (at M [] first) tt)

  pub loses_none : LosesNone (line_stand M) (is_accepted M)
  unfolding seated
  loses_none p ks s b = entered_first s _ (none_before ks (at M [] p) tt s refl)
