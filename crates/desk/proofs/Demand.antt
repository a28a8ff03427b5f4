-- Demand 3 holds of the desk's record and calls, and no call is lost: they model line's desk. Assumes nothing.
use mathlib.Core.Path.{◌≡◌, refl, sym, ap, ◌∙◌}
use mathlib.Core.Bool.{not}
use Prim.Native.Nat.{ℕ}
use Rattle.line.specs.Desk.{pass_at, Call, Outcome, refused, entered, sent, received, left, fresh_at, step}
use Rattle.line.specs.Stand.{is_accepted}
use Rattle.line.specs.Numbers.{is1x, number}
use Rattle.line.proofs.Refine.{Models, demand3_of, loses_none_of}
use Rattle.line.proofs.Refusals.{accepted_numbers}
use Rattle.transfer.specs.Coe.{Told, coe_machine}
use Rattle.transfer.proofs.Numbers.{coe_numbered}
use Rattle.desk.specs.Record.{Queue, Good, view_of}
use Rattle.desk.specs.Calls.{answer_for, lent_after}
use Rattle.desk.specs.Stand.{lent_by, desk_stand, is_answered, Demand3Desk, LosesNoneDesk}
use Rattle.desk.specs.declared.Desk.{Desk}
use Rattle.desk.proofs.Held.{view_desk}
use Rattle.desk.proofs.Kept.{good_fresh, good_step}

pub number_is : (o : Outcome coe_machine) → (answer_for o).number ≡ number coe_machine coe_numbered o
unfolding answer_for number
number_is (refused n) = refl
number_is entered = refl
number_is (sent f) = refl
number_is (received a) = refl
number_is left = refl

-- what the desk tells of an outcome
abbrev pub says : Call coe_machine → Outcome coe_machine → Told
says k o = (answer_for o, lent_after (lent_by k) o)

pub answered_is : (d : Queue) (k : Call coe_machine) → is_answered (says k (step coe_machine d k).1) ≡ is_accepted coe_machine (step coe_machine d k).1
answered_is d k =
    ap (λ (n : ℕ). not (is1x n)) (number_is (step coe_machine d k).1) ∙ sym (accepted_numbers coe_machine coe_numbered d k)

pub pass_is : (d : Desk) → pass_at d.counter ≡ (view_of d).pass
unfolding view_of
pass_is d = refl

abbrev pub desk_models : Models desk_stand is_answered
desk_models = record {
  Good = Good;
  view = view_of;
  says = says;
  first_good = good_fresh 1 refl;
  again_good = λ d g. good_fresh d.counter g.counts;
  next_good = good_step;
  fresh_view = λ p. view_desk (fresh_at coe_machine p);
  next_view = λ d k g. view_desk (step coe_machine (view_of d) k).0;
  pass_view = pass_is;
  answer = λ d k g. refl;
  accepts = answered_is;
}

pub demand3_desk : Demand3Desk
demand3_desk = demand3_of desk_stand is_answered desk_models

pub loses_none_desk : LosesNoneDesk
loses_none_desk = loses_none_of desk_stand is_answered desk_models
