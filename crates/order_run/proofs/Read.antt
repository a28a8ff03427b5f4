-- What the change that a line makes at the desk says, by what the desk's calls promised. Assumes nothing.
use Prim.Native.Nat.{ℕ}
use mathlib.Core.Path.{◌≡◌, refl, sym, ap, ◌∙◌}
use mathlib.Core.List.{List}
use native.Mathlib.Omega.{arith}
use Rattle.std.specs.Prelude.{true, false, Some, Result, Ok, Err}
use borrow.Author.Tests.{eq-eqb}
use Rattle.wire.specs.Words.{pick}
use Rattle.wire.specs.declared.refusal.Refusal.{Refusal}
use Rattle.wire.specs.declared.refusal.Refusal.TheVariants.{NoSuchSeat, SeatTaken, SeatEmpty, NotAtHead, OtherDue, BadOrder, BufferLength, Undecodable, WrongReply, TooLarge, MissingBytes, LengthField, BudgetSpent}
use Rattle.wire.proofs.Cases.{by}
use Rattle.line.specs.Line.{seated}
use Rattle.line.specs.Machine.{refuse, accept}
use Rattle.line.specs.Desk.{Outcome, enter, receive, step}
use Rattle.line.specs.Transfers.{seat_of}
use Rattle.line.proofs.Steps.{enter_11, enter_15, enter_01}
use Rattle.transfer.specs.declared.Order.{Order}
use Rattle.transfer.specs.Entry.{unfit_of, opened_of}
use Rattle.transfer.specs.Coe.{coe_machine, begins_with}
use Rattle.desk.specs.Record.{Queue, view_of, Good}
use Rattle.desk.specs.Calls.{called_of, answer_for}
use Rattle.desk.specs.Change.{changed_by, called_by, change_of, Changes, ChangesLent}
use Rattle.desk.specs.declared.Desk.{Desk}
use Rattle.desk.specs.declared.Called.{Called}
use Rattle.desk.specs.declared.change.Change.{Change}
use Rattle.desk.proofs.Kept.{gives}
use Rattle.order_run.specs.Entry.{form_of}
use Rattle.order_run.specs.Turns.{is_entry, called, lent_back, failed, request, after_enter, after_form, after_receive, after_reply, kept_reply, after_frame, kept_frame, Says}
use Rattle.order_run.proofs.Spoken.{number_1}
use Rattle.order_run.specs.declared.turns.Phase.{Phase}

-- ---- an entry

module _ {d : Desk} (s : List ℕ) {o : Order} (g : Good d) (f : form_of s ≡ Some o) where
  entered : {r : Result Change Refusal} → Changes d (enter 0 o) r → after_enter (called_by r d) ≡ after_form d (form_of s)
  unfolding called
  entered G = ap after_enter G.makes ∙ ap (after_form d) (sym f)

  -- an entry that makes a change is answered 01
  module _ {c : Change} (G : Changes d (enter 0 o) (Ok c)) where
    by_outcome : (r : Queue × Outcome coe_machine) → step coe_machine (view_of d) (enter 0 o) ≡ r → accept c ≡ change_of d 0 r.1 (called_of r)
    unfolding seat_of
    by_outcome r e = G.told ∙ ap (λ (x : Queue × Outcome coe_machine). change_of d 0 x.1 (called_of x)) e

    answered : c.answer.number ≡ 1
    unfolding change_of answer_for begins_with
    answered =
        by (seated 0 (view_of d).line)
        (λ h. absurd (never _ _ (by_outcome _ (enter_11 coe_machine (view_of d) 0 o refl h))))
        (λ h. by (unfit_of o)
        (λ u. absurd (never _ _ (by_outcome _ (enter_15 coe_machine (view_of d) 0 o 0x15 refl h (rw u)))))
        (λ u. at _ _ (by_outcome _ (enter_01 coe_machine (view_of d) 0 o (opened_of o) refl h (rw u))) refl))
      where
        never : (x : Change) (n : ℕ) → accept x ≡ refuse n → ⊥
        never x n e = cc

        at : (x y : Change) → accept x ≡ accept y → y.answer.number ≡ 1 → x.answer.number ≡ 1
        at x y e h = let i : x ≡ y = cc in ap (λ (z : Change). z.answer.number) i ∙ h

    pub entered_yes : (k : List ℕ) → Says d (after_form d (form_of s)) (Some (Ok c)) k
    entered_yes k =
        record {
          told =
              sym (number_1 (called_by (Ok c) d) k (λ z. omega (arith, answered, z)) answered)
              ∙ ap (λ b. pick b (request (changed_by c d)) (failed (changed_by c d))) (sym (eq-eqb c.answer.number 1 answered))
              ∙ entered G;
          good = (gives d g (enter 0 o) (called_by (Ok c) d) G.makes).good;
          within = G.within;
        }

  -- a refused one has no change, and its number is not 01
  pub entered_no : {e : Refusal} → Changes d (enter 0 o) (Err e) → failed d ≡ after_form d (form_of s)
  entered_no {e} G = refused e ∙ entered G
    where
      refused : (e : Refusal) → failed d ≡ after_enter (called_by (Err e) d)
      refused NoSuchSeat = refl
      refused SeatTaken = refl
      refused SeatEmpty = refl
      refused NotAtHead = refl
      refused OtherDue = refl
      refused BadOrder = refl
      refused BufferLength = refl
      refused Undecodable = refl
      refused WrongReply = refl
      refused TooLarge = refl
      refused MissingBytes = refl
      refused LengthField = refl
      refused BudgetSpent = refl

-- ---- a reply

module _ {d : Desk} {s k k' : List ℕ} {c : Result Change Refusal} (g : Good d) (G : ChangesLent d (receive 0 (s, k)) c k k') where
  pub reply_says : Says d (after_reply d s k) (Some c) k'
  unfolding after_reply called lent_back
  reply_says =
      record {
        told =
            ap (λ (r : Called). after_receive r k') G.changes.makes
            ∙ ap (after_receive (called d (receive 0 (s, k)))) G.lent;
        good = (gives d g (receive 0 (s, k)) (called_by c d) G.changes.makes).good;
        within = G.changes.within;
      }

  pub reply_kept : k' ≡ kept_reply d s k
  unfolding kept_reply lent_back
  reply_kept = G.lent

module _ (p : Phase) (d : Desk) (s k : List ℕ) where
  pub frame_entry : is_entry p ≡ true → (after_form d (form_of s) ≡ after_frame p d s k) × (k ≡ kept_frame p d s k)
  unfolding after_frame kept_frame
  frame_entry e = (sym (rw e), sym (rw e))

  pub frame_reply : is_entry p ≡ false → (after_reply d s k ≡ after_frame p d s k) × (kept_reply d s k ≡ kept_frame p d s k)
  unfolding after_frame kept_frame
  frame_reply e = (sym (rw e), sym (rw e))
