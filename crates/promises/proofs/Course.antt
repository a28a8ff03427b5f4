-- A transfer alone at a desk: each of its accepted calls gives what its own calls before it say. Assumes nothing.
use mathlib.Core.Path.{◌≡◌, refl, sym, ap, ap₂, ◌∙◌, subst}
use mathlib.Core.Bool.{Bool, true, false, false≢true, true≢false}
use mathlib.Core.List.{List, [], ◌∷◌, map, tail, append-nil}
use mathlib.Core.Option.{Option, none, some}
use Prim.Native.Nat.{ℕ, suc}
use native.Mathlib.Omega.{arith}
use borrow.Author.Tests.{eqb-true, eq-eqb}
use lib.Dec.{eqb}
use lib.ListN.{length}
use Rattle.wire.specs.Words.{pick}
use Rattle.wire.specs.Front.{in_front}
use Rattle.services.specs.Requests.{packed_of}
use Rattle.services.specs.Written.{fits}
use Rattle.services.specs.declared.Request.{Request}
use Rattle.judge.specs.Answers.{plain_of, answer_of}
use Rattle.judge.specs.Storage.{stored}
use Rattle.judge.specs.declared.Verdict.{Verdict}
use Rattle.line.specs.Lists.{Each}
use Rattle.line.specs.Machine.{Ruling, refuse, accept}
use Rattle.line.specs.Line.{Line, vacate, find, place}
use Rattle.line.specs.Desk.{pass_at, Pass, following, Call, Outcome, Desk, send, receive, leave, sent, received, left, step}
use Rattle.line.specs.Stand.{trace, line_stand, is_accepted}
use Rattle.line.specs.Transfers.{seat_of, is_enter, Later}
use Rattle.line.proofs.Rulings.{refuse≢accept, accept_eq}
use Rattle.line.proofs.Moves.{at, Move, stays, joins, asks, hears, goes, move}
use Rattle.line.proofs.Told.{retold}
use Rattle.transfer.specs.Due.{due_of, request_due, awaiting_of}
use Rattle.transfer.specs.Judgement.{next_of}
use Rattle.transfer.specs.Coe.{Lends, Told, request_in, judged, receipt, sends_with, receives_with, coe_machine}
use Rattle.transfer.specs.declared.Order.{Order}
use Rattle.transfer.specs.declared.Transfer.{Transfer}
use Rattle.transfer.proofs.Numbers.{accepted}
use Rattle.transfer.proofs.Lives.{life_true}
use Rattle.desk.specs.Calls.{answer_for, lent_after}
use Rattle.desk.specs.Stand.{lent_by}
use Rattle.desk.proofs.Demand.{says}
use Rattle.promises.specs.Standing.{Standing, Due, nothing, is_request, verdict_of, moved, Goes}
use Rattle.promises.specs.Standing as standing
use Rattle.promises.proofs.Agree.{Stands, asked_stands, heard_stands, request_is, verdict_is}
use Rattle.promises.proofs.Agree as agree

abbrev Desk' : Type 0
Desk' = Desk coe_machine

-- the desk of a single run: the transfer alone in the line, or nobody
pub data Alone (o : Order) (s : ℕ) (w : Standing) (d : Desk') : Type 0 where
  here : (t : Transfer) → Stands o w t → d ≡ at coe_machine ((s, t) ∷ []) (pass_at w.counter) → Alone o s w d
  ended : d.line ≡ [] → Alone o s w d

head_or : Transfer → Line Transfer → Transfer
head_or t [] = t
head_or t (q ∷ l) = q.1

-- what a line of one says of a head
module _ {s₀ s : ℕ} {t₀ t : Transfer} {l : Line Transfer} {p q : Pass} (E : at coe_machine ((s₀, t₀) ∷ l) p ≡ at coe_machine ((s, t) ∷ []) q) where
  same : t₀ ≡ t
  unfolding head_or
  same = ap (λ (d : Desk'). head_or t d.line) E

  none_behind : l ≡ []
  none_behind = ap (λ (d : Desk'). tail d.line) E

nobody : {X : Type 0} {q : ℕ × Transfer} {l : Line Transfer} → ◌≡◌ {A = Line Transfer} (q ∷ l) [] → X
nobody {l = l} e = let z : ◌≡◌ {A = ℕ} (suc (length l)) 0 = ap (λ (x : Line Transfer). length x) e in absurd (omega arith)

-- ---- a request

pub sends_is : (t : Transfer) (c : ℕ) (b : List ℕ) (r : List ℕ × Transfer) → sends_with t c b ≡ accept r
    → (fits (length b) ≡ true) × ((in_front (packed_of c (request_in (due_of t))) (length b), awaiting_of t) ≡ r)
unfolding sends_with
sends_is t c b r e = go (fits (length b)) _ e
  where
    go : (x : Bool) (z : List ℕ × Transfer) → ◌≡◌ {A = Ruling (List ℕ × Transfer)} (pick x (accept z) (refuse 0x16)) (accept r)
        → (x ≡ true) × (z ≡ r)
    go true z h = (refl, accept_eq h)
    go false z h = absurd (refuse≢accept h)

counted_by : (w : Standing) (d : Due) → is_request d ≡ true → (standing.asked w d).counter ≡ following w.counter
unfolding is_request standing.asked
counted_by w standing.first_request h = refl
counted_by w standing.first_reply h = absurd (false≢true h)
counted_by w standing.segment_request h = refl
counted_by w standing.segment_reply h = absurd (false≢true h)
counted_by w standing.later_fragment h = absurd (false≢true h)
counted_by w standing.nothing h = absurd (false≢true h)

module _ (o : Order) (s : ℕ) (w : Standing) where
  abbrev Stepped : Call coe_machine → Desk' × Outcome coe_machine → Type 0
  Stepped k r = standing.GivesAt o w k (says k r.1) × Alone o s (moved o w k) r.0

  asks_so : (b : List ℕ) (t : Transfer) (S : Stands o w t) (r : List ℕ × Transfer) → request_due t ≡ true → sends_with t w.counter b ≡ accept r
      → Stepped (send s b) (at coe_machine ((s, r.1) ∷ []) (pass_at (following w.counter)), sent r.0)
  unfolding standing.GivesAt moved answer_for lent_after
  asks_so b t S r e f =
      let h = agree.asks S e in
      let F = sends_is t w.counter b r f in
      let frame = ap (λ (x : List ℕ × Transfer). x.0) (sym F.1) ∙ ap (λ (x : Request). in_front (packed_of w.counter x) (length b)) (request_is S h) in (
        (h, F.0, λ i. (plain_of 0x02, frame i)),
        here r.1 (subst (λ (x : List ℕ × Transfer). Stands o (standing.asked w w.due) x.1) F.1 (asked_stands S h))
            (ap (λ (c : ℕ). at coe_machine ((s, r.1) ∷ []) (pass_at c)) (sym (counted_by w w.due h))),
      )

  hears_so : (l : Lends) (t : Transfer) (S : Stands o w t) (r : Told × Option Transfer) → request_due t ≡ false → receives_with t l ≡ accept r
      → Stepped (receive s l) (at coe_machine (place s r.1) (pass_at w.counter), received r.0)
  unfolding standing.GivesAt moved answer_for lent_after place
  hears_so l t S r e f =
      let h = agree.hears S e in
      let v = verdict_is S l h in
      let A = (accepted t l r f).is in
      let told : (receipt t l.0 l.1).0 ≡ (answer_of (verdict_of o w l), stored (verdict_of o w l) l.0 (length w.payload) l.1) =
      ap₂ (λ (x : Verdict) (n : ℕ). (answer_of x, stored x l.0 n l.1)) v (life_true S.life).sum in (
        (h, ap (λ (x : Told × Option Transfer). x.0) (sym A) ∙ told),
        subst (λ (x : Told × Option Transfer). Alone o s (standing.heard o w l) (at coe_machine (place s x.1) (pass_at w.counter))) A
            (next (next_of t (judged t (length l.1) l.0)) refl),
      )
    where
      next : (x : Option Transfer) → next_of t (judged t (length l.1) l.0) ≡ x
          → Alone o s (standing.heard o w l) (at coe_machine (place s x) (pass_at w.counter))
      next none n = ended refl
      next (some u) n = here u (heard_stands S l e u n) refl

  leaves : (s₀ : ℕ) (l : Line Transfer) (p : Pass) (t : Transfer) (S : Stands o w t) → eqb s s₀ ≡ true → l ≡ (s, t) ∷ []
      → Stepped (leave s₀) (at coe_machine (vacate s₀ l) p, left)
  unfolding standing.GivesAt moved answer_for lent_after lent_by vacate
  leaves s₀ l p t S h e = (
    (S.live, refl),
    ended (ap (vacate s₀) e ∙ rw (eq-eqb s₀ s (sym (eqb-true s s₀ h)))),
  )

  -- whoever stands alone makes the next call
  stepped : {k : Call coe_machine} {d : Desk'} {r : Desk' × Outcome coe_machine} → Move coe_machine k d r → Alone o s w d
      → Later (is_accepted coe_machine) s (record { call = k; told = r.1 }) → Stepped k r
  unfolding is_accepted is_enter seat_of find
  stepped (stays n) A L = absurd (false≢true L.accepted)
  stepped (joins s₀ e t a h b) A L = absurd (true≢false L.same)
  stepped (asks {l = l} {p = p} s₀ b t₀ r a e f) (here t S E) L =
      let P : p ≡ pass_at w.counter = ap (λ (d : Desk'). d.pass) E in
      rw (sym (eqb-true s s₀ L.seat), none_behind E, P)
      (asks_so b t S r (ap request_due (sym (same E)) ∙ e) (sym (λ i. sends_with (same E i) (P i).counter b) ∙ f))
  stepped (asks s₀ b t₀ r a e f) (ended z) L = nobody z
  stepped (hears {l = l} {p = p} s₀ m t₀ r a e f) (here t S E) L =
      let P : p ≡ pass_at w.counter = ap (λ (d : Desk'). d.pass) E in
      rw (sym (eqb-true s s₀ L.seat), none_behind E, P, append-nil)
      (hears_so m t S r (ap request_due (sym (same E)) ∙ e) (ap (λ (x : Transfer). receives_with x m) (sym (same E)) ∙ f))
  stepped (hears s₀ m t₀ r a e f) (ended z) L = nobody z
  stepped (goes {l = l} {p = p} s₀ t₀ a h) (here t S E) L = leaves s₀ l p t S L.seat (ap (λ (d : Desk'). d.line) E)
  stepped (goes {l = l} s₀ t₀ a h) (ended z) L = absurd (refuse≢accept (rw z at h))

-- ---- all its calls

pub goes_alone : (o : Order) (s : ℕ) (w : Standing) (d : Desk') (ks : List (Call coe_machine)) → Alone o s w d
    → Each (Later (is_accepted coe_machine) s) (trace (line_stand coe_machine) d ks) → Goes o w (map (retold says) (trace (line_stand coe_machine) d ks))
unfolding trace Goes
goes_alone o s w d [] A E = tt
goes_alone o s w d (k ∷ ks) A E =
    let S = stepped o s w (move coe_machine d k) A E.0 in
    (S.0, goes_alone o s (moved o w k) (step coe_machine d k).0 ks S.1 E.1)
