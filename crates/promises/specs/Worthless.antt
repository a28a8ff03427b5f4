-- The five worthless desks of document 01, "How strong the statements are": each as a property of any desk that is offered, with the
-- promise that it breaks, and each written down as a desk. Assumes nothing.
use Rattle.std.specs.Prelude.{◌≡◌, Bool, true, false, List, ℕ, ◌+◌, eqb}
use Rattle.wire.specs.Words.{pick, within, both}
use Rattle.judge.specs.declared.Answer.{Answer}
use Rattle.line.specs.Lists.{Each, keep}
use Rattle.line.specs.Desk.{Pass, send, receive}
use Rattle.line.specs.Stand.{Stand, trace}
use Rattle.line.specs.Transfers.{transfers}
use Rattle.line.specs.Alone.{Demand3Of, listed_of}
use Rattle.line.specs.Numbers.{is1x}
use Rattle.transfer.specs.Coe.{Told, Lends, coe_machine}
use Rattle.desk.specs.Stand.{lent_by, desk_stand, is_answered}
use Rattle.desk.specs.declared.Desk.{Desk}
use Rattle.promises.specs.Finding.{number, done_of}
use Rattle.promises.specs.Standing.{Called, Deed}
use Rattle.promises.specs.Whole.{Follows}
use Rattle.promises.specs.Table.{told_by, ConditionTable, RequestAndStorage}
use Rattle.promises.specs.Demand3.{SinglesFollow}

module _ (S : Stand coe_machine Told) where
  -- "Refusing everything .. break[s] the condition table (demand 2)."
  abbrev pub RefusesAll : Type 0
  RefusesAll = (p : Pass) (ks : List Called) (k : Called) → is1x (told_by S p ks k).0.number ≡ true

  abbrev pub NoRefuser : Type 0
  NoRefuser = ConditionTable S → RefusesAll → ⊥

  -- "one constant answer, break[s] the condition table (demand 2)."
  abbrev pub Constant : Type 0
  Constant = (a : Answer) × ((p : Pass) (ks : List Called) (k : Called) → (told_by S p ks k).0 ≡ a)

  abbrev pub NoConstant : Type 0
  NoConstant = ConditionTable S → Constant → ⊥

  -- "Doing nothing breaks the request and storage rules (demand 2)": whoever writes no frame, and whoever stores no chunk
  abbrev pub WritesNothing : Type 0
  WritesNothing = (p : Pass) (ks : List Called) (s : ℕ) (b : List ℕ) → (told_by S p ks (send s b)).1 ≡ b

  abbrev pub StoresNothing : Type 0
  StoresNothing = (p : Pass) (ks : List Called) (s : ℕ) (l : Lends) → (told_by S p ks (receive s l)).1 ≡ l.1

  abbrev pub NoIdler : Type 0
  NoIdler = RequestAndStorage S → (WritesNothing → ⊥) × (StoresNothing → ⊥)

  -- "Serving the first transfer truly and pretending later breaks demand 3, whose single runs follow demand 2's rules."
  pub record Pretends : Type 0 where
    pub truly_alone : SinglesFollow S
    pub calls : List Called
    pub not_here : Each Follows (listed_of S is_answered calls) → ⊥

  abbrev pub NoPretender : Type 0
  NoPretender = Demand3Of S is_answered → Pretends → ⊥

  -- "An invented P or reply count breaks the sums and the budget rule above (demand 2)": the rule, of every transfer that enters in
  -- any calls from a fresh desk
  abbrev pub entries_by : Pass → List Called → List (List Deed)
  entries_by p ks = transfers (keep (λ x. is_answered x.told) (trace S (S.fresh p) ks))

  abbrev pub SumsAndBudget : Type 0
  SumsAndBudget = (p : Pass) → within 1 7 p.counter ≡ true → (ks : List Called) → Each Follows (entries_by p ks)

  -- what a desk has to keep; the shipped one does
  pub record Keeps : Type 0 where
    pub table : ConditionTable S
    pub rules : RequestAndStorage S
    pub sums : SumsAndBudget
    pub singles : SinglesFollow S
    pub demand3 : Demand3Of S is_answered

-- ---- the desks

-- 10, whatever is called
abbrev pub refuser : Stand coe_machine Told
refuser = record {
  State = Pass;
  fresh = λ p. p;
  pass = λ p. p;
  answers = λ p k. (number 0x10, lent_by k);
  next = λ p k. p;
}

-- 02, whatever is called
abbrev pub constant : Stand coe_machine Told
constant = record {
  State = Pass;
  fresh = λ p. p;
  pass = λ p. p;
  answers = λ p k. (number 0x02, lent_by k);
  next = λ p k. p;
}

-- the shipped desk's answers, and no byte written
abbrev pub idler : Stand coe_machine Told
idler = record {
  State = Desk;
  fresh = desk_stand.fresh;
  pass = desk_stand.pass;
  answers = λ d k. ((desk_stand.answers d k).0, lent_by k);
  next = desk_stand.next;
}

-- the shipped desk with another answer
unfoldable pub changed : Bool → (Answer → Answer) → Told → Told
changed b f t = (pick b (f t.0) t.0, t.1)

-- the shipped desk until a transfer is done, and from then on every 00 is 00 with P = 0
abbrev pub pretender : Stand coe_machine Told
pretender = record {
  State = Bool × Desk;
  fresh = λ p. (false, desk_stand.fresh p);
  pass = λ s. desk_stand.pass s.1;
  answers = λ s k.
      let t = desk_stand.answers s.1 k in
      changed (both s.0 (eqb t.0.number 0x00)) (λ a. done_of 0) t;
  next = λ s k. (pick (eqb (desk_stand.answers s.1 k).0.number 0x00) true s.0, desk_stand.next s.1 k);
}

-- the shipped desk with P one too large
abbrev pub inventor : Stand coe_machine Told
inventor = record {
  State = Desk;
  fresh = desk_stand.fresh;
  pass = desk_stand.pass;
  answers = λ d k.
      let t = desk_stand.answers d k in
      changed (eqb t.0.number 0x00) (λ a. done_of (a.length + 1)) t;
  next = desk_stand.next;
}
