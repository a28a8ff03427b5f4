-- The desk gives what the table says. Assumes nothing.
use mathlib.Core.Path.{◌≡◌, refl, sym, ap, ◌∙◌}
use mathlib.Core.Bool.{Bool, true, false, not}
use mathlib.Core.List.{List, [], ◌∷◌}
use mathlib.Core.Option.{Option, some}
use Prim.Native.Nat.{ℕ}
use lib.Dec.{ltb}
use lib.ListN.{length}
use Rattle.wire.specs.Words.{pick, within, first_of}
use Rattle.services.specs.Written.{fits}
use Rattle.judge.specs.Answers.{plain_of}
use Rattle.line.specs.Machine.{refuse, accept}
use Rattle.line.specs.Line.{Line}
use Rattle.line.specs.Desk.{Pass, Call, Outcome, enter, send, receive, leave, fresh_at, step}
use Rattle.line.specs.Stand.{after, line_stand}
use Rattle.line.specs.Numbers.{Test, is_refused, of_head, tests, refusal_of}
use Rattle.line.proofs.Moves.{Move, stays, joins, asks, hears, goes, move}
use Rattle.line.proofs.Refine.{after_is}
use Rattle.line.proofs.Refusals.{refusal_order}
use Rattle.transfer.specs.Entry.{unfit_of}
use Rattle.transfer.specs.Coe.{Lends, Told, begins_with, sends_with, receives_with, coe_machine}
use Rattle.transfer.specs.declared.Order.{Order}
use Rattle.transfer.specs.declared.Transfer.{Transfer}
use Rattle.transfer.proofs.Numbers.{accepted, coe_numbered}
use Rattle.desk.specs.Record.{Queue, view_of}
use Rattle.desk.specs.Calls.{answer_for, lent_after}
use Rattle.desk.specs.Stand.{lent_by, desk_stand, is_answered}
use Rattle.desk.specs.declared.Desk.{Desk}
use Rattle.desk.proofs.Held.{view_desk}
use Rattle.desk.proofs.Kept.{good_fresh}
use Rattle.desk.proofs.Demand.{says, desk_models}
use Rattle.promises.specs.Table.{conditions, of_first, answer_by, buffer_by, TableAtRecords, ConditionTable, RequestAndStorage}
use Rattle.promises.proofs.Orders.{unfit_is}
use Rattle.promises.proofs.Course.{sends_is}

-- ---- the conditions are the machine's own

entry_15 : (o : Order) → is_refused (begins_with o) ≡ unfit_of o
unfolding begins_with
entry_15 o = go (unfit_of o) _
  where
    go : (b : Bool) (t : Transfer) → is_refused (pick b (refuse 0x15) (accept t)) ≡ b
    go true t = refl
    go false t = refl

frame_16 : (t : Transfer) (c : ℕ) (b : List ℕ) → is_refused (sends_with t c b) ≡ not (within 16 1486 (length b))
unfolding sends_with
frame_16 t c b = go (fits (length b)) _
  where
    go : (x : Bool) (r : List ℕ × Transfer) → is_refused (pick x (accept r) (refuse 0x16)) ≡ not x
    go true r = refl
    go false r = refl

reply_16 : (t : Transfer) (l : Lends)
    → first_of {A = ℕ} ((is_refused (receives_with t l), 0x16) ∷ []) ≡ first_of {A = ℕ} ((ltb 1486 (length l.0), 0x16) ∷ (ltb 131070 (length l.1), 0x16) ∷ [])
unfolding receives_with first_of
reply_16 t l = go (ltb 1486 (length l.0)) (ltb 131070 (length l.1)) _
  where
    go : (a b : Bool) (r : Told × Option Transfer)
        → first_of {A = ℕ} ((is_refused (pick a (refuse 0x16) (pick b (refuse 0x16) (accept r))), 0x16) ∷ []) ≡ first_of {A = ℕ} ((a, 0x16) ∷ (b, 0x16) ∷ [])
    go true b r = refl
    go false true r = refl
    go false false r = refl

first_head : (l : Line Transfer) (f g : Transfer → List Test) → ((t : Transfer) → first_of (f t) ≡ first_of (g t)) → first_of (of_head l f) ≡ first_of (of_head l g)
unfolding of_head
first_head [] f g h = refl
first_head (q ∷ l) f g h = h q.1

then : (t : Test) (a b : List Test) → first_of a ≡ first_of b → first_of (t ∷ a) ≡ first_of (t ∷ b)
unfolding first_of
then t a b h = ap (λ (x : Option ℕ). pick t.0 (some t.1) x) h

same_tests : (q : Queue) (k : Call coe_machine) → first_of (tests coe_machine q k) ≡ first_of (conditions q k)
unfolding tests conditions
same_tests q (enter s o) =
    then _ _ _ (then _ _ _ (ap (λ (b : Bool). first_of {A = ℕ} ((b, 0x15) ∷ [])) (entry_15 o) ∙ unfit_is o))
same_tests q (send s b) =
    then _ _ _ (then _ _ _ (then _ _ _ (first_head q.line _ _
    (λ t. then _ _ _ (ap (λ (x : Bool). first_of {A = ℕ} ((x, 0x16) ∷ [])) (frame_16 t q.pass.counter b))))))
same_tests q (receive s l) =
    then _ _ _ (then _ _ _ (then _ _ _ (first_head q.line _ _ (λ t. then _ _ _ (reply_16 t l)))))
same_tests q (leave s) = refl

-- ---- and so are the answers

table_move : {k : Call coe_machine} {q : Queue} {r : Queue × Outcome coe_machine} → Move coe_machine k q r
    → says k r.1 ≡ (answer_by q k (refusal_of coe_machine r.1), buffer_by q k (refusal_of coe_machine r.1))
unfolding refusal_of answer_for lent_after answer_by buffer_by lent_by of_first
table_move (stays n) = refl
table_move (joins s o t a f b) = refl
table_move (asks {p = p} s b t r a e f) =
    ap {B = Told} (λ (x : List ℕ × Transfer). (plain_of 0x02, x.0)) (sym (sends_is t p.counter b r f).1)
table_move (hears s m t r a e f) = ap {B = Told} (λ (x : Told × Option Transfer). x.0) (sym (accepted t m r f).is)
table_move (goes s t a f) = refl

table_step : (q : Queue) (k : Call coe_machine)
    → says k (step coe_machine q k).1 ≡ (answer_by q k (first_of (conditions q k)), buffer_by q k (first_of (conditions q k)))
table_step q k =
    let same = refusal_order coe_machine coe_numbered q k ∙ same_tests q k in
    table_move (move coe_machine q k) ∙ ap {B = Told} (λ (x : Option ℕ). (answer_by q k x, buffer_by q k x)) same

pub table_at_records : TableAtRecords
table_at_records d g k = table_step (view_of d) k

module _ (p : Pass) (h : within 1 7 p.counter ≡ true) (ks : List (Call coe_machine)) (k : Call coe_machine) where
  -- what the record holds after the calls is what the line's desk does
  abbrev here : Desk
  here = after desk_stand (desk_stand.fresh p) ks

  there : view_of here ≡ after (line_stand coe_machine) (fresh_at coe_machine p) ks
  there =
      (after_is desk_stand is_answered desk_models (desk_stand.fresh p) ks (good_fresh p.counter h)).1
      ∙ ap (λ (q : Queue). after (line_stand coe_machine) q ks) (view_desk (fresh_at coe_machine p))

  told : let q = after (line_stand coe_machine) (fresh_at coe_machine p) ks in
      ◌≡◌ {A = Told} (desk_stand.answers here k) (answer_by q k (first_of (conditions q k)), buffer_by q k (first_of (conditions q k)))
  told = table_step (view_of here) k
      ∙ ap {B = Told} (λ (q : Queue). (answer_by q k (first_of (conditions q k)), buffer_by q k (first_of (conditions q k)))) there

pub condition_table : ConditionTable desk_stand
condition_table p h ks k = ap (λ (t : Told). t.0) (told p h ks k)

pub request_and_storage : RequestAndStorage desk_stand
request_and_storage p h ks k = ap (λ (t : Told). t.1) (told p h ks k)
