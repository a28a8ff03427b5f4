-- Demand 1, by what each call does. Assumes nothing.
use mathlib.Core.Path.{◌≡◌, refl, sym, ap, ◌∙◌, subst}
use mathlib.Core.Bool.{true, false, false≢true, true≢false}
use mathlib.Core.List.{◌∷◌, ◌++◌}
use mathlib.Core.Option.{Option, none}
use Prim.Native.Nat.{ℕ, suc, ◌/◌, ◌≤◌}
use native.Mathlib.Omega.{arith}
use borrow.Author.Tests.{eqb-true, eqb-false, le-leb}
use lib.Dec.{eqb}
use lib.ListN.{length}
use Rattle.wire.specs.Words.{within}
use Rattle.wire.proofs.Cases.{by}
use Rattle.judge.specs.Answers.{answer_of, one_of}
use Rattle.judge.specs.declared.Verdict.{Verdict}
use Rattle.judge.specs.declared.Verdict.TheVariants as verdict
use Rattle.line.specs.Machine.{accept}
use Rattle.line.specs.Line.{Line, seated, place}
use Rattle.line.specs.Desk.{Pass, Call, Outcome, receive, refused, received, step}
use Rattle.line.specs.Transfers.{seat_of}
use Rattle.line.specs.Numbers.{is1x}
use Rattle.line.specs.Sound.{Distinct}
use Rattle.line.proofs.Rulings.{within_true}
use Rattle.line.proofs.Seats.{vacated}
use Rattle.line.proofs.Moves.{at, Move, stays, joins, asks, hears, goes, move}
use Rattle.line.proofs.Refusals.{refusal_numbers}
use Rattle.transfer.specs.Judgement.{judged_numbers, next_of}
use Rattle.transfer.specs.Coe.{Lends, Told, judged, receives_with, coe_machine}
use Rattle.transfer.specs.declared.Transfer.{Transfer}
use Rattle.transfer.proofs.Numbers.{among, judged_number, not_1x, accepted, coe_numbered}
use Rattle.transfer.proofs.Refusals.{ends_unstored}
use Rattle.desk.specs.Record.{Queue, view_of, desk_of}
use Rattle.desk.specs.Calls.{answer_for, lent_after}
use Rattle.desk.specs.Stand.{lent_by}
use Rattle.desk.proofs.Held.{view_desk}
use Rattle.desk.proofs.Kept.{good_step}
use Rattle.desk.proofs.Demand.{says}
use Rattle.promises.specs.Demand1.{numbers, is2x, Demand1}

-- from a on, and not a
above : (a n : ℕ) → a ≤ n → eqb n a ≡ false → suc a ≤ n
above a n h e = omega (arith, eqb-false n a e)

-- 10 to 16 are in the table
refusal_listed : (n : ℕ) → 0x10 ≤ n → n ≤ 0x16 → one_of numbers n ≡ true
refusal_listed n a b =
    by (eqb n 0x10) (is 0x10 refl) (λ e. let c = above 0x10 n a e in
    by (eqb n 0x11) (is 0x11 refl) (λ e. let c = above 0x11 n c e in
    by (eqb n 0x12) (is 0x12 refl) (λ e. let c = above 0x12 n c e in
    by (eqb n 0x13) (is 0x13 refl) (λ e. let c = above 0x13 n c e in
    by (eqb n 0x14) (is 0x14 refl) (λ e. let c = above 0x14 n c e in
    by (eqb n 0x15) (is 0x15 refl) (λ e. let c = above 0x15 n c e in
    by (eqb n 0x16) (is 0x16 refl) (λ e. let c = above 0x16 n c e in absurd (omega arith))))))))
  where
    is : (m : ℕ) → one_of numbers m ≡ true → eqb n m ≡ true → one_of numbers n ≡ true
    is m h e = ap (one_of numbers) (eqb-true n m e) ∙ h

-- "done": nothing is due afterwards
done_over : (t : Transfer) (v : Verdict) → (answer_of v).number ≡ 0x00 → next_of t v ≡ none
unfolding answer_of next_of
done_over t (verdict.Refused n) h = refl
done_over t (verdict.Emergency m) h = refl
done_over t (verdict.Aborted b i c) h = refl
done_over t (verdict.Done f p) h = refl
done_over t verdict.SegmentsFollow h = absurd (omega arith)
done_over t (verdict.Segment f k sum true) h = refl
done_over t (verdict.Segment f k sum false) h = absurd (omega arith)
done_over t (verdict.Fragment f k sum true) h = refl
done_over t (verdict.Fragment f k sum false) h = absurd (omega arith)
done_over t verdict.ReplyDue h = absurd (omega arith)

-- what is said of a call, of the line's desk
record Says (k : Call coe_machine) (q : Queue) (r : Queue × Outcome coe_machine) : Type 0 where
  listed : one_of numbers (says k r.1).0.number ≡ true
  refusal : is1x (says k r.1).0.number ≡ true → (r.0 ≡ q) × ((says k r.1).1 ≡ lent_by k)
  failure : is2x (says k r.1).0.number ≡ true → (seated (seat_of k) r.0.line ≡ false) × ((says k r.1).1 ≡ lent_by k)
  done : (says k r.1).0.number ≡ 0x00 → seated (seat_of k) r.0.line ≡ false
  leaves : (says k r.1).0.number ≡ 0x03 → (seated (seat_of k) r.0.line ≡ false) × ((says k r.1).1 ≡ lent_by k)

-- a judged reply
module _ (s : ℕ) (m : Lends) (t : Transfer) (r : Told × Option Transfer) (l : Line Transfer) (p : Pass) (h : seated s l ≡ false) where
  abbrev heard : Queue × Outcome coe_machine
  heard = (at coe_machine (place s r.1 ++ l) p, received r.0)

  freed : r.1 ≡ none → seated s (place s r.1 ++ l) ≡ false
  unfolding place
  freed e = ap (λ (x : Option Transfer). seated s (place s x ++ l)) e ∙ h

  says_heard : receives_with t m ≡ accept r → Says (receive s m) (at coe_machine ((s, t) ∷ l) p) heard
  unfolding answer_for lent_after lent_by seat_of
  says_heard f =
      let A = (accepted t m r f).is in
      let v = judged t (length m.1) m.0 in
      let number : (answer_of v).number ≡ r.0.0.number = ap (λ (x : Told × Option Transfer). x.0.0.number) A in
      let one = subst (λ n. one_of judged_numbers n ≡ true) number (judged_number t (length m.1) m.0) in
      let not1x = subst (λ n. is1x n ≡ false) number (not_1x t (length m.1) m.0) in
      record {
        listed = among (one_of numbers) judged_numbers r.0.0.number refl one;
        refusal = λ e. absurd (true≢false (sym e ∙ not1x));
        failure = λ e.
            let z = ends_unstored t m r f (le-leb 0x20 r.0.0.number (omega (arith, eqb-true (r.0.0.number / 16) 2 e))) in
            (freed z.1, z.0);
        done = λ e. freed (ap (λ (x : Told × Option Transfer). x.1) (sym A) ∙ done_over t v (number ∙ e));
        leaves = λ e. absurd (true≢false (sym one ∙ ap (one_of judged_numbers) e));
      }

-- a number of the table that ends nothing and refuses nothing
goes_on : {k : Call coe_machine} {q : Queue} {r : Queue × Outcome coe_machine} → let n = (says k r.1).0.number in
    one_of numbers n ≡ true → is1x n ≡ false → is2x n ≡ false → (n ≡ 0x00 → ⊥) → (n ≡ 0x03 → ⊥) → Says k q r
goes_on h a b c d = record {
  listed = h;
  refusal = λ e. absurd (true≢false (sym e ∙ a));
  failure = λ e. absurd (true≢false (sym e ∙ b));
  done = λ e. absurd (c e);
  leaves = λ e. absurd (d e);
}

says_move : {k : Call coe_machine} {q : Queue} {r : Queue × Outcome coe_machine} → Move coe_machine k q r → Distinct q.line
    → ((n : ℕ) → r.1 ≡ refused n → within 0x10 0x16 n ≡ true) → Says k q r
unfolding answer_for lent_after lent_by seat_of
says_move (stays n) D R =
    let w = within_true 0x10 0x16 n (R n refl) in
    record {
      listed = refusal_listed n w.0 w.1;
      refusal = λ e. (refl, refl);
      failure = λ e. absurd (omega (arith, eqb-true (n / 16) 2 e, w.0, w.1));
      done = λ e. absurd (omega (arith, w.0));
      leaves = λ e. absurd (omega (arith, w.0));
    }
says_move (joins s o t a h b) D R = goes_on refl refl refl (λ e. omega arith) (λ e. omega arith)
says_move (asks s b t r a e f) D R = goes_on refl refl refl (λ e. omega arith) (λ e. omega arith)
says_move (hears {l = l} {p = p} s m t r a e f) D R = says_heard s m t r l p D.0 f
says_move (goes {l = l} s t a h) D R = record {
  listed = refl;
  refusal = λ e. absurd (false≢true e);
  failure = λ e. absurd (false≢true e);
  done = λ e. absurd (omega arith);
  leaves = λ e. (vacated s l D, refl);
}

pub demand1 : Demand1
demand1 d g k =
    let S = says_move (move coe_machine (view_of d) k) g.sound.distinct (refusal_numbers coe_machine coe_numbered (view_of d) k) in
    let q = (step coe_machine (view_of d) k).0 in
    let free : seated (seat_of k) q.line ≡ false → seated (seat_of k) (view_of (desk_of q)).line ≡ false =
    λ h. ap (λ (x : Queue). seated (seat_of k) x.line) (view_desk q) ∙ h in
    record {
      listed = S.listed;
      refusal_leaves = λ e. let z = S.refusal e in (ap desk_of z.0 ∙ sym g.laid, z.1);
      failure_ends = λ e. let z = S.failure e in (free z.0, z.1);
      done_ends = λ e. free (S.done e);
      leave_ends = λ e. let z = S.leaves e in (free z.0, z.1);
      good = good_step d k g;
    }
