-- Every transfer that enters follows its own calls, from any record that calls made. Assumes nothing.
use mathlib.Core.Path.{◌≡◌, refl, sym, ap, subst}
use mathlib.Core.Bool.{Bool, true, false, false≢true}
use mathlib.Core.List.{List, [], ◌∷◌, ◌++◌, map, tail}
use Prim.Native.Nat.{ℕ}
use native.Mathlib.Omega.{arith}
use Rattle.wire.specs.Words.{within}
use Rattle.judge.specs.Answers.{plain_of}
use Rattle.line.specs.Lists.{Each, keep}
use Rattle.line.specs.Machine.{accept}
use Rattle.line.specs.Line.{Line}
use Rattle.line.specs.Desk.{Pass, Call, Outcome, Desk, enter, send, receive, leave, fresh_at}
use Rattle.line.specs.Stand.{Event, calls, trace, line_stand, is_accepted}
use Rattle.line.specs.Transfers.{seat_of, is_enter, transfers, Later, OneTransfer}
use Rattle.line.specs.Alone.{AloneOf}
use Rattle.line.proofs.Rulings.{pick_accept, accept_eq}
use Rattle.line.proofs.Moves.{at, Move, stays, joins, asks, hears, goes, move}
use Rattle.line.proofs.Told.{retold}
use Rattle.line.proofs.Refine.{entries_is}
use Rattle.line.proofs.Apart.{each_alone}
use Rattle.line.proofs.Ones.{each_keep, each-one}
use Rattle.transfer.specs.Entry.{unfit_of, opened_of}
use Rattle.transfer.specs.Coe.{Told, begins_with, coe_machine}
use Rattle.transfer.specs.Life.{begun, opens}
use Rattle.transfer.specs.declared.Order.{Order}
use Rattle.transfer.specs.declared.Transfer.{Transfer}
use Rattle.desk.specs.Record.{view_of}
use Rattle.desk.specs.Calls.{answer_for, lent_after}
use Rattle.desk.specs.Stand.{lent_by, desk_stand, is_answered}
use Rattle.desk.proofs.Demand.{says, desk_models}
use Rattle.promises.specs.Standing.{Deed, opened, is_over, Goes}
use Rattle.promises.specs.Whole.{Sums, Follows, EachFollows}
use Rattle.promises.proofs.Orders.{fit_is}
use Rattle.promises.proofs.Agree.{Stands}
use Rattle.promises.proofs.Course.{here, goes_alone}
use Rattle.promises.proofs.Sums as sums
use Rattle.promises.proofs.Kept as kept

abbrev Deeds : Type 0
Deeds = List (Event coe_machine (Outcome coe_machine))

opens_so : (o : Order) (t : Transfer) → begins_with o ≡ accept t → (unfit_of o ≡ false) × (opened_of o ≡ t)
unfolding begins_with
opens_so o t e = let a = pick_accept (unfit_of o) 0x15 _ e in (a.0, accept_eq a.1)

stands_opened : (o : Order) (c : ℕ) → unfit_of o ≡ false → Stands o (opened c) (opened_of o)
unfolding is_over
stands_opened o c f = record { life = begun f; stage = refl; live = refl }

-- an accepted entry, and the transfer's other calls
follows_entry : (s : ℕ) (o : Order) (c : ℕ) (rest : List Deed) → unfit_of o ≡ false → within 1 7 c ≡ true → Goes o (opened c) rest
    → Follows (record { call = enter s o; told = (plain_of 0x01, []) } ∷ rest)
follows_entry s o c rest f h G =
    let S = stands_opened o c f in
    record {
      seat = s;
      order = o;
      counter = c;
      rest = rest;
      is = refl;
      fit = fit_is o f;
      counts = h;
      goes = G;
      within_budget = let z = sums.counts o rest (opened c) (sums.live (opened_of o) S) G in omega arith;
      sums = sums.sums o rest (opened c) (sums.live (opened_of o) S) G;
      kept = λ d B. kept.keeps o d rest (opened c) d (kept.live (opened_of o) S (opens f)) G B;
    }

entry_follows : {k : Call coe_machine} {d : Desk coe_machine} {r : Desk coe_machine × Outcome coe_machine} → Move coe_machine k d r → d.line ≡ []
    → within 1 7 d.pass.counter ≡ true → is_enter k ≡ true → is_accepted coe_machine r.1 ≡ true → (ks : List (Call coe_machine))
    → Each (Later (is_accepted coe_machine) (seat_of k)) (trace (line_stand coe_machine) r.0 ks)
    → Follows (retold says (record { call = k; told = r.1 }) ∷ map (retold says) (trace (line_stand coe_machine) r.0 ks))
unfolding is_enter is_accepted seat_of answer_for lent_after lent_by
entry_follows (stays n) z c e a ks E = absurd (false≢true a)
entry_follows (joins {l = l} {p = p} s o t n h b) z c e a ks E =
    let B = opens_so o t b in
    let d : Desk coe_machine = at coe_machine (l ++ ((s, t) ∷ [])) p in
    let alone : d ≡ at coe_machine ((s, t) ∷ []) p = ap (λ (x : Line Transfer). at coe_machine (x ++ ((s, t) ∷ [])) p) z in
    let S = subst (Stands o (opened p.counter)) B.1 (stands_opened o p.counter B.0) in
    follows_entry s o p.counter (map (retold says) (trace (line_stand coe_machine) d ks)) B.0 c
    (goes_alone o s (opened p.counter) d ks (here t S alone) E)
entry_follows (asks s b t r n d f) z c e a ks E = absurd (false≢true e)
entry_follows (hears s m t r n d f) z c e a ks E = absurd (false≢true e)
entry_follows (goes s t n f) z c e a ks E = absurd (false≢true e)

-- alone at a fresh desk
pub follows_alone : (p : Pass) → within 1 7 p.counter ≡ true → (ks : List (Call coe_machine))
    → OneTransfer (is_accepted coe_machine) (trace (line_stand coe_machine) (fresh_at coe_machine p) ks)
    → Follows (map (retold says) (trace (line_stand coe_machine) (fresh_at coe_machine p) ks))
unfolding trace OneTransfer
follows_alone p c [] T = absurd T
follows_alone p c (k ∷ ks) T = entry_follows (move coe_machine (fresh_at coe_machine p) k) refl c T.0 T.1 ks T.2

-- of a transfer whose entry is known
pub sums_of : {s : ℕ} {o : Order} {x : Told} {rest : List Deed} → Follows (record { call = enter s o; told = x } ∷ rest)
    → (c : ℕ) × Sums o (opened c) rest
sums_of {o = o} {rest = rest} F =
    let order = ap (order_or o) (sym F.is) in
    let others = ap (tail {A = Deed}) (sym F.is) in
    (F.counter, subst (λ (r : Order × List Deed). Sums r.0 (opened F.counter) r.1) (λ i. (order i, others i)) F.sums)
  where
    entered_by : Order → Call coe_machine → Order
    entered_by o (enter s e) = e
    entered_by o (send s b) = o
    entered_by o (receive s l) = o
    entered_by o (leave s) = o

    order_or : Order → List Deed → Order
    order_or o [] = o
    order_or o (x ∷ xs) = entered_by o x.call

-- and so at a shared one
follows_of : (t : Deeds) → OneTransfer (is_accepted coe_machine) t → AloneOf coe_machine t → Follows (map (retold says) t)
follows_of t T A =
    subst (λ (x : Deeds). Follows (map (retold says) x)) A.run
    (follows_alone A.from A.counts (calls t) (subst (OneTransfer (is_accepted coe_machine)) (sym A.run) T))

all_follow : (ts : List Deeds) → Each (OneTransfer (is_accepted coe_machine)) ts → Each (AloneOf coe_machine) ts → Each Follows (map (map (retold says)) ts)
all_follow [] T A = tt
all_follow (t ∷ ts) T A = (follows_of t T.0 A.0, all_follow ts T.1 A.1)

pub each_follows : EachFollows
unfolding view_of
each_follows d g ks =
    let xs = trace (line_stand coe_machine) (view_of d) ks in
    let ok : Event coe_machine (Outcome coe_machine) → Bool = λ x. is_accepted coe_machine x.told in
    let ys = keep ok xs in
    subst (Each Follows) (sym (entries_is desk_stand is_answered desk_models d ks g))
    (all_follow (transfers ys) (each-one (is_accepted coe_machine) ys (each_keep ok xs))
    (each_alone coe_machine (view_of d) g.sound.distinct g.counts ks))
