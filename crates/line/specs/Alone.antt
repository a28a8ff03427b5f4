-- Demand 3, of any stand: "Any sequence of calls from a fresh desk gives each transfer exactly what it would get alone, one after
-- another, in order of entry." Said at length: from a fresh desk, take any sequence of calls, and list the transfers that sent
-- a frame, by order of entry. Run them one after another, each alone at a fresh desk, with its own accepted calls, the same
-- replies and buffers lent with the same bytes, each beginning at the counter where the one before stopped. The frames sent,
-- every answer to those calls and every buffer after them are the same as at the shared desk.
--
-- `ok` says of what was told whether the call was accepted. It is not the stand's to choose. Assumes nothing.
use Rattle.std.specs.Prelude.{◌≡◌, Bool, true, List, [], ◌∷◌, map, ℕ}
use Rattle.wire.specs.Words.{within}
use Rattle.line.specs.Lists.{Each, keep}
use Rattle.line.specs.Machine.{Machine}
use Rattle.line.specs.Desk.{Pass, first, Call, Outcome, Desk, fresh_at}
use Rattle.line.specs.Stand.{Stand, Event, calls, trace, after, line_stand, is_accepted}
use Rattle.line.specs.Transfers.{transfers, listed, served_at, made_at}
use Rattle.line.specs.Sound.{Distinct}

module _ {M : Machine} {T : Type 0} (S : Stand M T) where
  -- one after another, each alone at a fresh desk, each beginning at the counter where the one before stopped
  unfoldable pub one_by_one : Pass → List (List (Call M)) → List (List (Event M T))
  one_by_one p [] = []
  one_by_one p (ks ∷ kss) = trace S (S.fresh p) ks ∷ one_by_one (S.pass (after S (S.fresh p) ks)) kss

  module _ (ok : T → Bool) where
    -- the transfers listed of a sequence of calls from a fresh desk
    abbrev pub listed_of : List (Call M) → List (List (Event M T))
    listed_of ks = listed ok (trace S (S.fresh first) ks)

    -- demand 3
    abbrev pub Demand3Of : Type 0
    Demand3Of = (ks : List (Call M)) → one_by_one first (map calls (listed_of ks)) ≡ listed_of ks

  -- where single runs begin: at the first counter, or where another single run stopped
  pub data Begins : Pass → Type 0 where
    at_first : Begins first
    behind : {p : Pass} (ks : List (Call M)) → Begins p → Begins (S.pass (after S (S.fresh p) ks))

  -- No accepted call is lost: from a fresh desk, those for a seat are, in their order, those of the transfers that entered there.
  -- Demand 3 speaks of the ones among these that sent a frame.
  abbrev pub LosesNone : (T → Bool) → Type 0
  LosesNone ok = (p : Pass) (ks : List (Call M)) (s : ℕ) → Begins p →
      let xs = keep (λ x. ok x.told) (trace S (S.fresh p) ks) in
      served_at s xs ≡ made_at s xs

  -- the events are this stand's own single run of their calls
  pub record Single (t : List (Event M T)) : Type 0 where
    pub from : Pass
    pub begins : Begins from
    pub run : trace S (S.fresh from) (calls t) ≡ t

  -- with demand 3 alone: every transfer that is listed is the stand's own single run
  abbrev pub Served : (T → Bool) → Type 0
  Served ok = Demand3Of ok → (ks : List (Call M)) → Each Single (listed_of ok ks)

  -- "Serving the first transfer truly and pretending later breaks demand 3, whose single runs follow demand 2's rules": what
  -- holds of a stand's single runs holds of every transfer that is listed of it.
  abbrev pub HoldsAlone : (List (Event M T) → Type 0) → Type 0
  HoldsAlone R = (p : Pass) (ks : List (Call M)) → Begins p → R (trace S (S.fresh p) ks)

  abbrev pub NoPretender : (T → Bool) → Type 1
  NoPretender ok =
      Demand3Of ok → (R : List (Event M T) → Type 0) → HoldsAlone R → (ks : List (Call M)) → Each R (listed_of ok ks)

-- demand 3 of the desk of `Desk`, whatever the machine
abbrev pub Demand3 : Machine → Type 0
Demand3 M = Demand3Of (line_stand M) (is_accepted M)

-- ---- the same from any desk, and of every transfer that enters there, whether or not it sends

-- the events of one transfer are what it gets alone at a fresh desk, whose first frame has a counter of 1 to 7
pub record AloneOf (M : Machine) (t : List (Event M (Outcome M))) : Type 0 where
  pub from : Pass
  pub counts : within 1 7 from.counter ≡ true
  pub run : trace (line_stand M) (fresh_at M from) (calls t) ≡ t

abbrev pub EachAlone : Machine → Type 0
EachAlone M = (d : Desk M) → Distinct d.line → within 1 7 d.pass.counter ≡ true → (ks : List (Call M))
    → Each (AloneOf M) (transfers (keep (λ x. is_accepted M x.told) (trace (line_stand M) d ks)))
