-- Each change is the one from the record to what its call gives back. Assumes nothing.
use mathlib.Core.Path.{◌≡◌, refl, sym, ap, ap₂, ◌∙◌}
use mathlib.Core.List.{List}
use Prim.Native.Nat.{ℕ, ◌+◌, ◌-◌, ◌<◌}
use native.Mathlib.Omega.{arith}
use borrow.Author.Tests.{lt-ltb, le-ltb}
use lib.ListN.{set, get_or}
use lib.Seq.{get_or-set_same}
use Rattle.std.specs.Prelude.{Result, Ok, Err, IfOk}
use Rattle.wire.specs.Refusal.{number_of}
use Rattle.wire.specs.declared.refusal.Refusal.{Refusal}
use Rattle.line.specs.Desk.{Call, Outcome, refused, entered, sent, received, left, step}
use Rattle.line.specs.Transfers.{seat_of}
use Rattle.judge.specs.Answers.{plain_of}
use Rattle.judge.specs.declared.Answer.{Answer}
use Rattle.transfer.specs.declared.Transfer.{Transfer}
use Rattle.transfer.specs.Coe.{coe_machine, ruling_of, Told as Reply}
use Rattle.desk.specs.declared.record.Slot.{Slot}
use Rattle.desk.specs.declared.change.Change.{Change}
use Rattle.desk.specs.declared.Called.{Called}
use Rattle.desk.specs.declared.Desk.{Desk}
use Rattle.desk.specs.Record.{Good, view_of, slot_of, blank_of, place_in}
use Rattle.desk.specs.Calls.{called_of, lent_after}
use Rattle.desk.specs.Change.{Within, Changes, ChangesLent, called_by, change_of, moved, joins_by, heads_by, closes_at, closed_to}
use Rattle.desk.proofs.Moved.{moved_none, length_moved}
use Rattle.desk.proofs.Held.{closed_at, with_head, joined_by, held, good_long, good_small}

abbrev pub called_at : Answer → Desk → Called
called_at a d = record { answer = a; desk = d }

-- an answer and the record that is found with it, told one by one
pub both_called : {a : Answer} {d : Desk} {r : Called} → (a ≡ r.answer) × (d ≡ r.desk) → called_at a d ≡ r
both_called e = λ i. called_at (e.0 i) (e.1 i)

abbrev pub counted_at : ℕ → Desk → Desk
counted_at k d = record { line = d.line; waiting = d.waiting; counter = k }

changes : (d : Desk) (k : Call coe_machine) (c : Result Change Refusal) (o : Outcome coe_machine) (r : Called) → (step coe_machine (view_of d) k).1 ≡ o
    → r ≡ called_of (step coe_machine (view_of d) k) → ruling_of c ≡ change_of d (seat_of k) o r → called_by c d ≡ r → IfOk c Within → Changes d k c
changes d k c o r w e i m b = record { told = i ∙ ap₂ (change_of d (seat_of k)) (sym w) e; makes = m ∙ e; within = b }

pub changes_lent : {d : Desk} {k : Call coe_machine} {c : Result Change Refusal} {before after : List ℕ} → Changes d k c
    → after ≡ lent_after before (step coe_machine (view_of d) k).1 → ChangesLent d k c before after
changes_lent h l = record { changes = h; lent = l }

-- where no place moves up
put_line : (d : Desk) (at : ℕ) (x : Slot) → set (moved d.line 0 0) at x ≡ set d.line at x
put_line d at x = ap (λ (l : List Slot). set l at x) (moved_none d.line 0)

module _ (d : Desk) (g : Good d) (k : Call coe_machine) where
  -- how the call comes out, and what it gives back
  abbrev Ends : Outcome coe_machine → Type 0
  Ends o = (step coe_machine (view_of d) k).1 ≡ o

  abbrev Gave : Answer → Desk → Type 0
  Gave a e = called_at a e ≡ called_of (step coe_machine (view_of d) k)

  pub refused_is : (n : Refusal) → Ends (refused (number_of n)) → Gave (plain_of (number_of n)) d → Changes d k (Err n)
  unfolding change_of
  refused_is n w e = changes d k (Err n) (refused (number_of n)) (called_at (plain_of (number_of n)) d) w e refl refl tt

  module _ (s : ℕ) (t : Transfer) where
    abbrev x : Slot
    x = slot_of (s, t)

    pub joins_is : d.waiting < 8 → Ends entered → Gave (plain_of 0x01) (joined_by d s t) → Changes d k (Ok (joins_by d s t))
    unfolding change_of
    joins_is h w e =
        let n = d.waiting in
        changes d k (Ok (joins_by d s t)) entered (called_at (plain_of 0x01) (joined_by d s t)) w e
        (rw (get_or-set_same d.line n x blank_of (omega (arith, good_long d g))) refl)
        (ap (λ (l : List Slot). called_at (plain_of 0x01) (held l (n + 1) d)) (put_line d n x))
        (record { ordered = omega arith; ends = omega arith; lies = h })

    module _ (a : Answer) (c : ℕ) where
      abbrev headed : Called
      headed = called_at a (counted_at c (with_head d s t))

      abbrev head_slot : get_or (set d.line 0 x) 0 blank_of ≡ x
      head_slot = get_or-set_same d.line 0 x blank_of (omega (arith, good_long d g))

      heads : (o : Outcome coe_machine) → Ends o → headed ≡ called_of (step coe_machine (view_of d) k)
          → ruling_of (Ok (heads_by a d s t c)) ≡ change_of d (seat_of k) o headed → Changes d k (Ok (heads_by a d s t c))
      heads o w e i =
          changes d k (Ok (heads_by a d s t c)) o headed w e i
          (ap (λ (l : List Slot). called_at a (counted_at c (held l d.waiting d))) (put_line d 0 x))
          (record { ordered = omega arith; ends = omega arith; lies = omega arith })

      pub sends_is : (f : List ℕ) → Ends (sent f) → Gave a (counted_at c (with_head d s t)) → Changes d k (Ok (heads_by a d s t c))
      unfolding change_of
      sends_is f w e = heads (sent f) w e (rw head_slot refl)

      pub goes_on : (r : Reply) → Ends (received r) → Gave a (counted_at c (with_head d s t)) → Changes d k (Ok (heads_by a d s t c))
      unfolding change_of
      goes_on r w e = heads (received r) w e (rw (le-ltb d.waiting d.waiting (omega arith), head_slot) refl)

  module _ (a : Answer) (n : ℕ) (p : n ≡ place_in (seat_of k) (view_of d).line) (h : n < d.waiting) where
    abbrev ended : Called
    ended = called_at a (closed_at d n)

    small : d.waiting - 1 < 8
    small = omega (arith, good_small d g)

    closed : closes_at a d n ≡ closed_to d (seat_of k) ended
    closed =
        let w = d.waiting in
        let l = moved d.line n (w - 1) in
        let q = get_or-set_same l (w - 1) blank_of blank_of (rw (length_moved d.line n (w - 1), good_long d g) small) in
        rw (q, ← p) refl

    closes : (o : Outcome coe_machine) → Ends o → ended ≡ called_of (step coe_machine (view_of d) k)
        → ruling_of (Ok (closes_at a d n)) ≡ change_of d (seat_of k) o ended → Changes d k (Ok (closes_at a d n))
    closes o w e i = changes d k (Ok (closes_at a d n)) o ended w e i refl (record { ordered = omega arith; ends = small; lies = small })

    pub leaves_is : Ends left → Gave a (closed_at d n) → Changes d k (Ok (closes_at a d n))
    unfolding change_of
    leaves_is w e = closes left w e (rw closed refl)

    pub is_over_lem : (r : Reply) → Ends (received r) → Gave a (closed_at d n) → Changes d k (Ok (closes_at a d n))
    unfolding change_of
    is_over_lem r w e = closes (received r) w e (rw (lt-ltb (d.waiting - 1) d.waiting (omega arith), closed) refl)
