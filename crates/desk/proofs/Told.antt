-- How the results of the transfer stand for rulings, and that a refusal leaves the record and the buffers as they were. Assumes nothing.
use mathlib.Core.Path.{◌≡◌, sym, ap, ◌∙◌}
use mathlib.Core.List.{List}
use mathlib.Core.Option.{Option}
use Prim.Native.Nat.{ℕ}
use Rattle.std.specs.Prelude.{Err}
use Rattle.std.specs.Prelude as rust
use Rattle.wire.specs.Refusal.{number_of}
use Rattle.wire.specs.declared.refusal.Refusal.{Refusal}
use Rattle.line.specs.Machine.{Ruling, refuse, accept}
use Rattle.line.specs.Desk.{Outcome, refused, Call, step}
use Rattle.judge.specs.Answers.{plain_of}
use Rattle.judge.specs.declared.Answer.{Answer}
use Rattle.transfer.specs.declared.Transfer.{Transfer}
use Rattle.transfer.specs.Judgement.{next_with}
use Rattle.transfer.specs.Coe.{coe_machine, Told, sending_of, frame_of, step_of, data_of}
use Rattle.desk.specs.declared.Desk.{Desk}
use Rattle.desk.specs.Record.{Queue, view_of, Good}
use Rattle.desk.specs.Calls.{lent_after, called_of, answer_for}
use Rattle.desk.specs.Change.{Changes}
use Rattle.desk.proofs.Changed.{called_at, refused_is}

-- ---- from a result back to its ruling

pub sending_refused : (v : Ruling (List ℕ × Transfer)) (k : ℕ) → refuse k ≡ sending_of v → v ≡ refuse k
sending_refused (refuse n) k e = let h : n ≡ k = cc in λ i. refuse (h i)
sending_refused (accept r) k e = cc

-- the frame buffer before is b
pub sending_sent : (v : Ruling (List ℕ × Transfer)) (b : List ℕ) (t : Transfer) → accept t ≡ sending_of v → v ≡ accept (frame_of b v, t)
sending_sent (refuse n) b t e = cc
sending_sent (accept r) b t e = let h : r.1 ≡ t = cc in λ i. accept (r.0, h i)

abbrev Got : Type 0
Got = Told × Option Transfer

pub step_refused : (v : Ruling Got) (k : ℕ) → refuse k ≡ step_of v → v ≡ refuse k
step_refused (refuse n) k e = let h : n ≡ k = cc in λ i. refuse (h i)
step_refused (accept r) k e = cc

-- a judged reply: the data buffer before is b
pub record Judged (v : Ruling Got) (b : List ℕ) (a : Answer) (n : rust.Option Transfer) : Type 0 where
  pub on : Option Transfer
  pub is : v ≡ accept ((a, data_of b v), on)
  pub next : n ≡ next_with on

pub step_judged : (v : Ruling Got) (b : List ℕ) (a : Answer) (n : rust.Option Transfer) → accept (a, n) ≡ step_of v → Judged v b a n
step_judged (refuse k) b a n e = cc
step_judged (accept r) b a n e =
    let h : ◌≡◌ {A = Answer × rust.Option Transfer} (r.0.0, next_with r.1) (a, n) = cc in
    record { on = r.1; is = λ i. accept (((h i).0, r.0.1), r.1); next = λ i. (sym h i).1 }

-- ---- a refusal

module _ (d : Desk) (g : Good d) (k : Call coe_machine) (r : Refusal) (e : step coe_machine (view_of d) k ≡ (view_of d, refused (number_of r))) where
  pub refuses : Changes d k (Err r)
  unfolding answer_for
  refuses =
      refused_is d g k r (ap (λ (x : Queue × Outcome coe_machine). x.1) e)
      (ap (called_at (plain_of (number_of r))) g.laid ∙ ap called_of (sym e))

  pub lent_same : (b : List ℕ) → b ≡ lent_after b (step coe_machine (view_of d) k).1
  unfolding lent_after
  lent_same b = ap (λ (x : Queue × Outcome coe_machine). lent_after b x.1) (sym e)
