-- The desk obeys: each rule of specs/Rules.antt, read off the view `Move`. Assumes nothing.
use mathlib.Core.Path.{◌≡◌, refl, sym, ap, ◌∙◌}
use mathlib.Core.Bool.{true, false, false≢true}
use mathlib.Core.List.{[], ◌∷◌, ◌++◌, tail, head_d}
use mathlib.Core.Option.{Option, none}
use Prim.Native.Nat.{ℕ}
use Rattle.wire.specs.Words.{pick}
use Rattle.line.specs.Machine.{accept, Machine}
use Rattle.line.specs.Line.{Line, seated, place}
use Rattle.line.specs.Desk.{counted, Call, Outcome, Desk, enter, send, receive, leave, refused, entered, sent, received, left, step}
use Rattle.line.specs.Stand.{is_accepted}
use Rattle.line.specs.Sound.{Distinct, Sound}
use Rattle.line.specs.Rules.{is_frame, AnswerTo, Obeys}
use Rattle.line.proofs.Rulings.{accept_eq}
use Rattle.line.proofs.Seats.{vacated}
use Rattle.line.proofs.Moves.{Move, stays, joins, asks, hears, goes, move}
use Rattle.line.proofs.Kept.{sound_kept}
use Rattle.line.proofs.Others.{unaltered_move, order_move}

-- the two transfers that stand at the head of one line are one
pub same_head : {A : Type 0} {s : ℕ} {t u : A} {l l' : Line A} → ◌≡◌ {A = Line A} ((s, t) ∷ l) ((s, u) ∷ l') → t ≡ u
unfolding head_d
same_head {A} {s} {t} e = ap (λ (l : Line A). (head_d l (s, t)).1) e

module _ {M : Machine} where
  open M use {Entry, Lent, Frame, Reply, Answer, Transfer, begin, sends, receives}

  accepted≢refused : {X : Type 0} {n : ℕ} (o : Outcome M) → is_accepted M o ≡ true → o ≡ refused n → X
  unfolding is_accepted
  accepted≢refused o a h = absurd (false≢true (sym (ap (is_accepted M) h) ∙ a))

  leaves_move : {k : Call M} {d : Desk M} {r : Desk M × Outcome M} (n : ℕ) → Move M k d r → r.1 ≡ refused n → r.0 ≡ d
  unfolding is_accepted
  leaves_move n (stays m) h = refl
  leaves_move n (joins s e t a f b) h = accepted≢refused entered refl h
  leaves_move n (asks s b t r a e f) h = accepted≢refused (sent r.0) refl h
  leaves_move n (hears s m t r a e f) h = accepted≢refused (received r.0) refl h
  leaves_move n (goes s t a f) h = accepted≢refused left refl h

  answers_move : {k : Call M} {d : Desk M} {r : Desk M × Outcome M} → Move M k d r → is_accepted M r.1 ≡ true → AnswerTo k r.1
  unfolding is_accepted
  answers_move (stays n) h = absurd (false≢true h)
  answers_move (joins s e t a f b) h = refl
  answers_move (asks s b t r a e f) h = (r.0, refl)
  answers_move (hears s m t r a e f) h = (r.0, refl)
  answers_move (goes s t a f) h = refl

  pass_move : {k : Call M} {d : Desk M} {r : Desk M × Outcome M} → Move M k d r
      → r.0.pass ≡ pick (is_frame r.1) (counted d.pass) d.pass
  unfolding is_frame
  pass_move (stays n) = refl
  pass_move (joins s e t a f b) = refl
  pass_move (asks s b t r a e f) = refl
  pass_move (hears s m t r a e f) = refl
  pass_move (goes s t a f) = refl

  -- ---- each call, accepted

  enters_move : {d : Desk M} {r : Desk M × Outcome M} (s : ℕ) (e : Entry) → Move M (enter s e) d r → r.1 ≡ entered
      → (t : Transfer) × (begin e ≡ accept t) × (r.0.line ≡ d.line ++ ((s, t) ∷ []))
  unfolding is_accepted
  enters_move s e (stays n) h = accepted≢refused entered refl (sym h)
  enters_move s e (joins _ _ t a f b) h = (t, b, refl)

  sends_move : {d : Desk M} {r : Desk M × Outcome M} (s : ℕ) (b : Lent) (w : Frame) → Move M (send s b) d r → r.1 ≡ sent w
      → (t : Transfer) × (u : Transfer) × (d.line ≡ (s, t) ∷ tail d.line) × (sends t d.pass.counter b ≡ accept (w, u))
      × (r.0.line ≡ (s, u) ∷ tail d.line)
  unfolding is_accepted
  sends_move s b w (stays n) h = accepted≢refused (sent w) refl (sym h)
  sends_move s b w (asks _ _ t q a e g) h =
      let x : q.0 ≡ w = cc in
      (t, q.1, refl, g ∙ (λ i. accept (x i, q.1)), refl)

  receives_move : {d : Desk M} {r : Desk M × Outcome M} (s : ℕ) (m : Reply) (a : Answer) → Move M (receive s m) d r → r.1 ≡ received a
      → (t : Transfer) × (u : Option Transfer) × (d.line ≡ (s, t) ∷ tail d.line) × (receives t m ≡ accept (a, u))
      × (r.0.line ≡ place s u ++ tail d.line)
  unfolding is_accepted
  receives_move s m a (stays n) h = accepted≢refused (received a) refl (sym h)
  receives_move s m a (hears _ _ t q x e g) h =
      let y : q.0 ≡ a = cc in
      (t, q.1, refl, g ∙ (λ i. accept (y i, q.1)), refl)

  ends : (d : Desk M) (s : ℕ) (t : Transfer) (m : Reply) (a : Answer) → Sound d.line → d.line ≡ (s, t) ∷ tail d.line
      → receives t m ≡ accept (a, none) → (step M d (receive s m)).1 ≡ received a → seated s (step M d (receive s m)).0.line ≡ false
  unfolding place
  ends d s t m a S e g h =
      let R = receives_move s m a (move M d (receive s m)) h in
      let same : R.0 ≡ t = same_head (sym R.2 ∙ e) in
      let over : R.1 ≡ none =
      ap (λ (v : Answer × Option Transfer). v.1) (accept_eq (sym R.3 ∙ ap (λ (u : Transfer). receives u m) same ∙ g)) in
      let D : Distinct ((s, t) ∷ tail d.line) = rw e at S.distinct in
      rw (R.4, over) D.0

  frees_move : (s : ℕ) {d : Desk M} {r : Desk M × Outcome M} → Move M (leave s) d r → Distinct d.line → r.1 ≡ left
      → seated s r.0.line ≡ false
  unfolding is_accepted
  frees_move s (stays n) D h = accepted≢refused left refl (sym h)
  frees_move s (goes {l = l} _ t a f) D h = vacated s l D

pub obeys : (M : Machine) (d : Desk M) → Obeys M d (step M d)
obeys M d = record {
  refusal_leaves = λ k n h. leaves_move n (move M d k) h;
  answers = λ k h. answers_move (move M d k) h;
  enters_last = λ s e h. enters_move s e (move M d (enter s e)) h;
  sends_for_head = λ s b w h. sends_move s b w (move M d (send s b)) h;
  receives_for_head = λ s m a h. receives_move s m a (move M d (receive s m)) h;
  end_frees = ends d;
  leave_frees = λ s S h. frees_move s (move M d (leave s)) S.distinct h;
  others_unaltered = λ k q e. unaltered_move M q (move M d k) e;
  others_in_order = λ k S. order_move M (move M d k) S.distinct;
  pass_moves = λ k. pass_move (move M d k);
  sound_kept = sound_kept M d;
}
