-- The rules say the whole desk: of two that obey them at a sound desk, each call gives the same. Assumes nothing.
use mathlib.Core.Path.{◌≡◌, refl, sym, ap, ◌∙◌}
use mathlib.Core.Bool.{true}
use mathlib.Core.List.{[], ◌∷◌, ◌++◌, tail}
use mathlib.Core.Option.{Option, none, some, none-ne-some, some-ne-none, some_inj}
use Prim.Native.Nat.{ℕ}
use Rattle.wire.specs.Words.{pick, first_of}
use Rattle.line.specs.Machine.{Machine}
use Rattle.line.specs.Line.{place}
use Rattle.line.specs.Desk.{counted, Call, Outcome, Desk, enter, send, receive, leave, refused, entered, sent, received, left, step}
use Rattle.line.specs.Stand.{is_accepted}
use Rattle.line.specs.Transfers.{seat_of}
use Rattle.line.specs.Sound.{Sound}
use Rattle.line.specs.Numbers.{Numbered, tests, refusal_of}
use Rattle.line.specs.Rules.{is_frame, AnswerTo, RefusesInOrder, Obeys, OneDesk}
use Rattle.line.proofs.Rulings.{accept_eq}
use Rattle.line.proofs.Others.{vacate_absent}
use Rattle.line.proofs.Obeys.{same_head, obeys}
use Rattle.line.proofs.Refusals.{refusal_order}

refused-of : {M : Machine} (o : Outcome M) (n : ℕ) → refusal_of M o ≡ some n → o ≡ refused n
unfolding refusal_of
refused-of {M} (refused k) n h = ap {B = Outcome M} refused (some_inj.0 h)
refused-of entered n h = absurd (none-ne-some n h)
refused-of (sent f) n h = absurd (none-ne-some n h)
refused-of (received a) n h = absurd (none-ne-some n h)
refused-of left n h = absurd (none-ne-some n h)

accepted_of : {M : Machine} (o : Outcome M) → refusal_of M o ≡ none → is_accepted M o ≡ true
unfolding refusal_of is_accepted
accepted_of (refused k) h = absurd (some-ne-none k h)
accepted_of entered h = refl
accepted_of (sent f) h = refl
accepted_of (received a) h = refl
accepted_of left h = refl

module _ {M : Machine} (d : Desk M) (f : Call M → Desk M × Outcome M) (R : RefusesInOrder M d f) (F : Obeys M d f) (k : Call M) where
  says : (n : ℕ) → first_of (tests M d k) ≡ some n → (f k).1 ≡ refused n
  says n h = refused-of (f k).1 n (R k ∙ h)

  does : first_of (tests M d k) ≡ none → AnswerTo k (f k).1
  does h = F.answers k (accepted_of (f k).1 (R k ∙ h))

module _ {M : Machine} (d : Desk M) (f g : Call M → Desk M × Outcome M)
    (R : RefusesInOrder M d f) (F : Obeys M d f) (R' : RefusesInOrder M d g) (G : Obeys M d g) where
  open M use {Frame, Answer, Transfer, sends, receives}

  -- the outcome settles what is passed on
  both_are : (k : Call M) → (f k).1 ≡ (g k).1 → (f k).0.line ≡ (g k).0.line → f k ≡ g k
  both_are k o l =
      let p = F.pass_moves k ∙ (λ i. pick (is_frame (o i)) (counted d.pass) d.pass) ∙ sym (G.pass_moves k) in
      λ i. (record { line = l i; pass = p i }, o i)

  refused_alike : (k : Call M) (n : ℕ) → first_of (tests M d k) ≡ some n → f k ≡ g k
  refused_alike k n h =
      let x = says d f R F k n h in
      let y = says d g R' G k n h in
      both_are k (x ∙ sym y)
      (ap (λ (e : Desk M). e.line) (F.refusal_leaves k n x ∙ sym (G.refusal_leaves k n y)))

  module _ (S : Sound d.line) where
    accepted_alike : (k : Call M) → first_of (tests M d k) ≡ none → f k ≡ g k
    unfolding seat_of
    accepted_alike (enter s e) h =
        let x = does d f R F (enter s e) h in
        let y = does d g R' G (enter s e) h in
        let P = F.enters_last s e x in
        let Q = G.enters_last s e y in
        let t : P.0 ≡ Q.0 = accept_eq (sym P.1 ∙ Q.1) in
        both_are (enter s e) (x ∙ sym y) (P.2 ∙ (λ i. d.line ++ ((s, t i) ∷ [])) ∙ sym Q.2)
    accepted_alike (send s b) h =
        let x = does d f R F (send s b) h in
        let y = does d g R' G (send s b) h in
        let P = F.sends_for_head s b x.0 x.1 in
        let Q = G.sends_for_head s b y.0 y.1 in
        let t : P.0 ≡ Q.0 = same_head (sym P.2 ∙ Q.2) in
        let same = sym P.3 ∙ (λ i. sends (t i) d.pass.counter b) ∙ Q.3 in
        let r : ◌≡◌ {A = Frame × Transfer} (x.0, P.1) (y.0, Q.1) = accept_eq same in
        both_are (send s b)
        (x.1 ∙ (λ i. sent (r i).0) ∙ sym y.1)
        (P.4 ∙ (λ i. (s, (r i).1) ∷ tail d.line) ∙ sym Q.4)
    accepted_alike (receive s m) h =
        let x = does d f R F (receive s m) h in
        let y = does d g R' G (receive s m) h in
        let P = F.receives_for_head s m x.0 x.1 in
        let Q = G.receives_for_head s m y.0 y.1 in
        let t : P.0 ≡ Q.0 = same_head (sym P.2 ∙ Q.2) in
        let same = sym P.3 ∙ (λ i. receives (t i) m) ∙ Q.3 in
        let r : ◌≡◌ {A = Answer × Option Transfer} (x.0, P.1) (y.0, Q.1) = accept_eq same in
        both_are (receive s m)
        (x.1 ∙ (λ i. received (r i).0) ∙ sym y.1)
        (P.4 ∙ (λ i. place s (r i).1 ++ tail d.line) ∙ sym Q.4)
    accepted_alike (leave s) h =
        let x = does d f R F (leave s) h in
        let y = does d g R' G (leave s) h in
        both_are (leave s) (x ∙ sym y)
        (sym (vacate_absent s _ (F.leave_frees s S x))
        ∙ F.others_in_order (leave s) S
        ∙ sym (G.others_in_order (leave s) S)
        ∙ vacate_absent s _ (G.leave_frees s S y))

    pub one_desk : (k : Call M) → f k ≡ g k
    one_desk k = go (first_of (tests M d k)) refl
      where
        go : (x : Option ℕ) → first_of (tests M d k) ≡ x → f k ≡ g k
        go none h = accepted_alike k h
        go (some n) h = refused_alike k n h

pub is_step : (M : Machine) → Numbered M → OneDesk M
is_step M N d S f R F k = one_desk d f (step M d) R F (refusal_order M N d) (obeys M d) S k
