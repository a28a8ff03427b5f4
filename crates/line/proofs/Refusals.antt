-- The desk refuses with the first of the document's conditions that holds, and with its numbers. Assumes nothing.
use mathlib.Core.Path.{◌≡◌, refl, sym, ap, ◌∙◌}
use mathlib.Core.Bool.{Bool, true, false, not}
use mathlib.Core.List.{List, [], ◌∷◌}
use mathlib.Core.Option.{Option, none, some, none-ne-some, some-injective}
use Prim.Native.Nat.{ℕ, ◌/◌}
use native.Mathlib.Omega.{arith}
use borrow.Author.Tests.{eq-eqb}
use lib.Dec.{eqb}
use Rattle.wire.specs.Words.{pick, within, first_of}
use Rattle.wire.proofs.Cases.{by}
use Rattle.line.specs.Lists.{Each}
use Rattle.line.specs.Machine.{Ruling, refuse, accept, and_then, Machine}
use Rattle.line.specs.Line.{Line, no_seat, seated, find, headed, head}
use Rattle.line.specs.Desk.{Call, Outcome, Desk, enter, send, receive, leave, refused, left, left_by, judge, settled, step}
use Rattle.line.specs.Stand.{is_accepted}
use Rattle.line.specs.Numbers.{is1x, is_refused, RefusesOnly, Numbered, number, Test, leads, of_head, tests, refusal_of, RefusalNumbers, AcceptedNumbers}
use Rattle.line.specs.Rules.{RefusesInOrder}
use Rattle.line.proofs.Rulings.{within_true}
use Rattle.line.proofs.Moves.{Move, stays, joins, asks, hears, goes, move}

-- a test that refuses with n, for whoever builds a machine
pub only_pick : {A : Type 0} (n : ℕ) (b : Bool) (v : Ruling A) → RefusesOnly n v → RefusesOnly n (pick b (refuse n) v)
only_pick n true v h = refl
only_pick n false v h = h

module _ (M : Machine) (d : Desk M) where
  open M use {Transfer}

  abbrev Judged : Type 0
  Judged = Ruling (Desk M × Outcome M)

  -- the number that a judgement refuses with
  abbrev told : Judged → Option ℕ
  told v = refusal_of M (settled M d v).1

  tested : (b : Bool) (n : ℕ) (v : Judged) (x : Option ℕ) → told v ≡ x → told (pick b (refuse n) v) ≡ pick b (some n) x
  unfolding settled refusal_of
  tested true n v x h = refl
  tested false n v x h = h

  module _ {A : Type 0} (f : A → Judged) where
    then_tested : (b : Bool) (n : ℕ) (v : Ruling A) (x : Option ℕ) → told (and_then v f) ≡ x
        → told (and_then (pick b (refuse n) v) f) ≡ pick b (some n) x
    unfolding settled refusal_of and_then
    then_tested true n v x h = refl
    then_tested false n v x h = h

    -- the machine's own refusal, where what follows is accepted
    machine_tested : (n : ℕ) (v : Ruling A) → RefusesOnly n v → ((a : A) → told (f a) ≡ none)
        → told (and_then v f) ≡ pick (is_refused v) (some n) none
    unfolding settled refusal_of and_then
    machine_tested n (refuse k) h g = ap {B = Option ℕ} some h
    machine_tested n (accept a) h g = g a

  module _ (s : ℕ) where
    find_tested : (l : Line Transfer)
        → told (and_then (find s l) (λ t. accept (left_by M s d, left))) ≡ pick (not (seated s l)) (some 0x12) none
    unfolding settled refusal_of and_then find seated
    find_tested [] = refl
    find_tested (q ∷ l) = by (eqb s q.0) (λ y. rw y) (λ n. rw n (find_tested l))

    module _ (f : Transfer → Judged) (ts : Transfer → List Test) (h : (t : Transfer) → told (f t) ≡ first_of (ts t)) where
      headed_tested : (l : Line Transfer) → told (and_then (headed s l) f) ≡ first_of ((not (leads s l), 0x13) ∷ of_head l ts)
      unfolding settled refusal_of and_then headed first_of leads of_head
      headed_tested [] = refl
      headed_tested (q ∷ l) = by (eqb s q.0) (λ y. rw y (h q.1)) (λ n. rw n)

      head_tested : (l : Line Transfer)
          → told (and_then (head s l) f) ≡ first_of ((no_seat s, 0x10) ∷ (not (seated s l), 0x12) ∷ (not (leads s l), 0x13) ∷ of_head l ts)
      unfolding head first_of
      head_tested l = then_tested f (no_seat s) 0x10 _ _ (then_tested f (not (seated s l)) 0x12 _ _ (headed_tested l))

module _ (M : Machine) (N : Numbered M) where
  open M use {Transfer, begin, send_due, sends, receives}

  pub refusal_order : (d : Desk M) → RefusesInOrder M d (step M d)
  unfolding step judge tests first_of settled refusal_of
  refusal_order d (enter s e) =
      tested M d (no_seat s) 0x10 _ _ (tested M d (seated s d.line) 0x11 _ _
      (machine_tested M d _ 0x15 (begin e) (N.at_entry e) (λ t. refl)))
  refusal_order d (send s b) =
      head_tested M d s _ _
      (λ t. tested M d (not (send_due t)) 0x14 _ _
      (machine_tested M d _ 0x16 (sends t d.pass.counter b) (N.at_send t d.pass.counter b) (λ r. refl)))
      d.line
  refusal_order d (receive s m) =
      head_tested M d s _ _
      (λ t. tested M d (send_due t) 0x14 _ _
      (machine_tested M d _ 0x16 (receives t m) (N.at_receive t m) (λ r. refl)))
      d.line
  refusal_order d (leave s) = tested M d (no_seat s) 0x10 _ _ (find_tested M d s d.line)

  -- ---- which numbers these are

  abbrev Listed : List Test → Type 0
  Listed = Each (λ t. within 0x10 0x16 t.1 ≡ true)

  first_listed : (ts : List Test) (n : ℕ) → Listed ts → first_of ts ≡ some n → within 0x10 0x16 n ≡ true
  unfolding first_of
  first_listed [] n h e = absurd (none-ne-some n e)
  first_listed (t ∷ ts) n h e =
      by t.0
      (λ y. rw (← some-injective t.1 n (rw y at e)) h.0)
      (λ m. first_listed ts n h.1 (rw m at e))

  head_listed : (l : Line Transfer) (f : Transfer → List Test) → ((t : Transfer) → Listed (f t)) → Listed (of_head l f)
  unfolding of_head
  head_listed [] f h = tt
  head_listed (q ∷ l) f h = h q.1

  tests_listed : (d : Desk M) (k : Call M) → Listed (tests M d k)
  unfolding tests
  tests_listed d (enter s e) = (refl, (refl, (refl, tt)))
  tests_listed d (send s b) = (refl, (refl, (refl, head_listed d.line _ (λ t. (refl, (refl, tt))))))
  tests_listed d (receive s m) = (refl, (refl, (refl, head_listed d.line _ (λ t. (refl, (refl, tt))))))
  tests_listed d (leave s) = (refl, (refl, tt))

  pub refusal_numbers : RefusalNumbers M
  unfolding refusal_of
  refusal_numbers d k n h =
      first_listed (tests M d k) n (tests_listed d k) (sym (refusal_order d k) ∙ ap (refusal_of M) h)

  -- ---- accepted or 1x

  accepted_move : {k : Call M} {d : Desk M} {r : Desk M × Outcome M} → Move M k d r → ((n : ℕ) → r.1 ≡ refused n → is1x n ≡ true)
      → is_accepted M r.1 ≡ not (is1x (number M N r.1))
  unfolding is_accepted number
  accepted_move (stays n) F = rw (F n refl)
  accepted_move (joins s e t a f b) F = refl
  accepted_move (asks s b t r a e f) F = refl
  accepted_move (hears s m t r a e f) F = sym (ap not (N.at_judgement t m r f))
  accepted_move (goes s t a f) F = refl

  pub accepted_numbers : AcceptedNumbers M N
  accepted_numbers d k =
      accepted_move (move M d k) λ n h.
      let w = within_true 0x10 0x16 n (refusal_numbers d k n h) in
      eq-eqb (n / 16) 1 (omega (arith, w.0, w.1))
