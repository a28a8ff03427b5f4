-- The worthless desks are excluded. Assumes nothing.
use mathlib.Core.Path.{◌≡◌, refl, sym, ap, ◌∙◌}
use mathlib.Core.Bool.{true, false≢true}
use mathlib.Core.List.{List, [], ◌∷◌}
use Prim.Native.Nat.{ℕ}
use native.Mathlib.Omega.{arith}
use lib.ListN.{get_or}
use Rattle.wire.specs.Bytes.{hex}
use Rattle.wire.specs.Words.{within}
use Rattle.judge.specs.Answers.{plain_of}
use Rattle.judge.specs.declared.Answer.{Answer}
use Rattle.line.specs.Desk.{Pass, pass_at, first, enter, send, receive}
use Rattle.line.specs.Stand.{Stand, trace, after}
use Rattle.line.specs.Numbers.{is1x}
use Rattle.transfer.specs.Coe.{Told, coe_machine}
use Rattle.desk.specs.Stand.{lent_by, desk_stand}
use Rattle.desk.proofs.Kept.{good_fresh}
use Rattle.promises.specs.Standing.{Called}
use Rattle.promises.specs.Table.{told_by, ConditionTable, RequestAndStorage}
use Rattle.promises.specs.Worthless.{NoRefuser, NoConstant, NoIdler, NoPretender, RefusesAll, Constant, WritesNothing, StoresNothing, Keeps, refuser, constant, idler}
use Rattle.promises.specs.Runs.{upload, blank, segments_follow, two, entered}
use Rattle.promises.proofs.Whole.{each_follows}
use Rattle.promises.proofs.Table.{condition_table, request_and_storage}
use Rattle.promises.proofs.Demand3.{demand3, singles_follow, served_truly}
use Rattle.promises.proofs.Computed.{runs_hold}

-- ---- what the shipped desk tells, from the examples

-- call j of run i
told : ℕ → ℕ → List (List Told) → Told
told i j l = get_or (get_or l i []) j entered

answers_01 : (told_by desk_stand first [] (enter 0 (upload 2))).0 ≡ plain_of 0x01
unfolding trace after told
answers_01 = ap (λ (l : List (List Told)). (told 1 0 l).0) runs_hold

answers_02 : (told_by desk_stand first (enter 0 (upload 2) ∷ []) (send 0 (blank 16))).0 ≡ plain_of 0x02
unfolding trace after told
answers_02 = ap (λ (l : List (List Told)). (told 1 1 l).0) runs_hold

writes : (told_by desk_stand first (enter 0 (upload 2) ∷ []) (send 0 (blank 16))).1 ≡ hex 16 0x0a000000001300204018100100000000
unfolding trace after told
writes = ap (λ (l : List (List Told)). (told 1 1 l).1) runs_hold

abbrev begun : List Called
begun = enter 0 (upload 3) ∷ send 0 (blank 16) ∷ receive 0 (segments_follow, blank 8) ∷ send 0 (blank 16) ∷ []

stores : (told_by desk_stand (pass_at 6) begun (receive 0 (two, blank 8))).1 ≡ hex 8 0xa1a2eeeeeeeeeeee
unfolding trace after told
stores = ap (λ (l : List (List Told)). (told 2 4 l).1) runs_hold

-- ---- and so whoever keeps the promise

module _ (S : Stand coe_machine Told) where
  module _ (C : ConditionTable S) where
    same_answer : (p : Pass) → within 1 7 p.counter ≡ true → (ks : List Called) (k : Called) → (told_by S p ks k).0 ≡ (told_by desk_stand p ks k).0
    same_answer p h ks k = C p h ks k ∙ sym (condition_table p h ks k)

    entered_01 : (told_by S first [] (enter 0 (upload 2))).0 ≡ plain_of 0x01
    entered_01 = same_answer first refl [] (enter 0 (upload 2)) ∙ answers_01

    sent_02 : (told_by S first (enter 0 (upload 2) ∷ []) (send 0 (blank 16))).0 ≡ plain_of 0x02
    sent_02 = same_answer first refl (enter 0 (upload 2) ∷ []) (send 0 (blank 16)) ∙ answers_02

  pub no_refuser : NoRefuser S
  no_refuser C R = false≢true (ap (λ (a : Answer). is1x a.number) (sym (entered_01 C)) ∙ R first [] (enter 0 (upload 2)))

  pub no_constant : NoConstant S
  no_constant C (a, R) =
      let one = sym (entered_01 C) ∙ R first [] (enter 0 (upload 2)) in
      let two = sym (sent_02 C) ∙ R first (enter 0 (upload 2) ∷ []) (send 0 (blank 16)) in
      let z : ◌≡◌ {A = ℕ} 1 2 = ap (λ (x : Answer). x.number) (one ∙ sym two) in
      omega arith

  module _ (R : RequestAndStorage S) where
    same_buffer : (p : Pass) → within 1 7 p.counter ≡ true → (ks : List Called) (k : Called) → (told_by S p ks k).1 ≡ (told_by desk_stand p ks k).1
    same_buffer p h ks k = R p h ks k ∙ sym (request_and_storage p h ks k)

    no_idle_writer : WritesNothing S → ⊥
    no_idle_writer W =
        let same = sym (W first (enter 0 (upload 2) ∷ []) 0 (blank 16)) ∙ same_buffer first refl (enter 0 (upload 2) ∷ []) (send 0 (blank 16)) ∙ writes in
        let z : ◌≡◌ {A = ℕ} 0xee 0x0a = ap (λ (b : List ℕ). get_or b 0 0) same in
        omega arith

    no_idle_storer : StoresNothing S → ⊥
    no_idle_storer W =
        let same = sym (W (pass_at 6) begun 0 (two, blank 8)) ∙ same_buffer (pass_at 6) refl begun (receive 0 (two, blank 8)) ∙ stores in
        let z : ◌≡◌ {A = ℕ} 0xee 0xa1 = ap (λ (b : List ℕ). get_or b 0 0) same in
        omega arith

  pub no_idler : NoIdler S
  no_idler R = (no_idle_writer R, no_idle_storer R)

  pub no_pretender : NoPretender S
  no_pretender D P = P.not_here (served_truly S D P.truly_alone P.calls)

-- ---- the shipped desk is none of them

pub shipped_keeps : Keeps desk_stand
shipped_keeps = record {
  table = condition_table;
  rules = request_and_storage;
  sums = λ p h ks. each_follows (desk_stand.fresh p) (good_fresh p.counter h) ks;
  singles = singles_follow;
  demand3 = demand3;
}

-- ---- the desks that are written down have these properties, so these speak of something

pub refuser_refuses : RefusesAll refuser
refuser_refuses p ks k = refl

pub constant_is : Constant constant
constant_is = (plain_of 0x02, λ p ks k. refl)

pub idler_writes_nothing : WritesNothing idler
unfolding lent_by
idler_writes_nothing p ks s b = refl

pub idler_stores_nothing : StoresNothing idler
unfolding lent_by
idler_stores_nothing p ks s l = refl
