-- Demand 3 of the shipped desk, and what follows from it of any. Assumes nothing.
use mathlib.Core.Path.{◌≡◌, refl, sym, ap, ◌∙◌, subst}
use mathlib.Core.Bool.{Bool}
use mathlib.Core.List.{List, [], ◌∷◌, map}
use Prim.Native.Nat.{ℕ}
use Rattle.wire.specs.Words.{pick, within}
use Rattle.wire.proofs.Cases.{by}
use Rattle.line.specs.Lists.{Each, keep}
use Rattle.line.specs.Desk.{first, pass_at, Call, Desk, fresh_at, step}
use Rattle.line.specs.Stand.{Stand, trace, line_stand, is_accepted}
use Rattle.line.specs.Transfers.{sent_frame, transfers, listed, seat_of, Later, OneTransfer}
use Rattle.line.specs.Alone.{listed_of}
use Rattle.line.proofs.Served.{calls_trace, no_pretender}
use Rattle.line.proofs.Ones.{each_keep, each-one}
use Rattle.line.proofs.Told.{retold}
use Rattle.line.proofs.Counter.{begins_in_range}
use Rattle.line.proofs.Refine.{fresh_trace, begins_good, begins_view}
use Rattle.transfer.specs.Coe.{Told, coe_machine}
use Rattle.desk.specs.Record.{counter_from}
use Rattle.desk.specs.Stand.{desk_stand, is_answered}
use Rattle.desk.proofs.Demand.{says, desk_models, answered_is, demand3_desk, loses_none_desk}
use Rattle.promises.specs.Demand3.{Demand3, NoCallLost, ByTheFunctions, RunsExist, SinglesFollow, ServedTruly}
use Rattle.promises.specs.Standing.{Called, Deed}
use Rattle.promises.specs.Whole.{Follows}
use Rattle.promises.proofs.Orders.{ranged}
use Rattle.promises.proofs.Whole.{follows_alone}

pub demand3 : Demand3
demand3 = demand3_desk

pub no_call_lost : NoCallLost
no_call_lost = loses_none_desk

begins_at : (c : ℕ) → counter_from c ≡ pick (within 1 7 c) c 1
unfolding counter_from
begins_at c = ranged 1 7 c (λ a b. pick a 1 (pick b 1 c)) (λ w. pick w c 1) (λ b. refl) refl refl

pub by_the_functions : ByTheFunctions
by_the_functions = record {
  told = λ d k r G. (ap (λ x. x.answer) G.told, ap (λ x. x.desk) G.told);
  told_lent = λ d k r after G. (ap (λ x. x.answer) G.told, ap (λ x. x.desk) G.told, G.lent);
  fresh = λ c d F. F.empty;
  fresh_at = λ c d F. F.empty ∙ ap (λ (n : ℕ). desk_stand.fresh (pass_at n)) (begins_at c);
}

pub runs_exist : RunsExist
runs_exist d ks = calls_trace desk_stand d ks

-- ---- every listed transfer is one

module _ {A : Type 0} (P : A → Type 0) (p : A → Bool) where
  each_kept : (xs : List A) → Each P xs → Each P (keep p xs)
  unfolding keep
  each_kept [] E = tt
  each_kept (x ∷ xs) E = by (p x) (λ y. rw y (E.0, each_kept xs E.1)) (λ n. rw n (each_kept xs E.1))

module _ (S : Stand coe_machine Told) where
  ones : (ks : List Called) → Each (OneTransfer is_answered) (listed_of S is_answered ks)
  unfolding listed
  ones ks =
      let xs = trace S (S.fresh first) ks in
      let ok : Deed → Bool = λ x. is_answered x.told in
      each_kept (OneTransfer is_answered) sent_frame (transfers (keep ok xs)) (each-one is_answered (keep ok xs) (each_keep ok xs))

  pub served_truly : ServedTruly S
  served_truly D F ks =
      both_each (listed_of S is_answered ks) (no_pretender S is_answered D (λ t. OneTransfer is_answered t → Follows t) F ks) (ones ks)
    where
      both_each : (ts : List (List Deed)) → Each (λ t. OneTransfer is_answered t → Follows t) ts → Each (OneTransfer is_answered) ts → Each Follows ts
      both_each [] f h = tt
      both_each (t ∷ ts) f h = (f.0 h.0, both_each ts f.1 h.1)

-- ---- and the shipped desk's single runs follow

unretold : (d : Desk coe_machine) (ks : List (Call coe_machine)) → OneTransfer is_answered (map (retold says) (trace (line_stand coe_machine) d ks))
    → OneTransfer (is_accepted coe_machine) (trace (line_stand coe_machine) d ks)
unfolding trace OneTransfer
unretold d [] T = absurd T
unretold d (k ∷ ks) T = (T.0, sym (answered_is d k) ∙ T.1, laters (seat_of k) (step coe_machine d k).0 ks T.2)
  where
    laters : (s : ℕ) (e : Desk coe_machine) (js : List (Call coe_machine))
        → Each (Later is_answered s) (map (retold says) (trace (line_stand coe_machine) e js))
        → Each (Later (is_accepted coe_machine) s) (trace (line_stand coe_machine) e js)
    laters s e [] E = tt
    laters s e (j ∷ js) E = (
      record { seat = E.0.seat; same = E.0.same; accepted = sym (answered_is e j) ∙ E.0.accepted },
      laters s (step coe_machine e j).0 js E.1,
    )

pub singles_follow : SinglesFollow desk_stand
singles_follow p ks B T =
    let run = fresh_trace desk_stand is_answered desk_models p ks (begins_good desk_stand is_answered desk_models B) in
    let c = begins_in_range coe_machine (begins_view desk_stand is_answered desk_models B) in
    subst Follows (sym run)
    (follows_alone p c ks (unretold (fresh_at coe_machine p) ks (subst (OneTransfer is_answered) run T)))
