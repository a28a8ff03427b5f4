-- Demand 3 of what a host links: "Any sequence of calls from a fresh desk gives each transfer exactly what it would get alone, one after
-- another, in order of entry." Said of the exported functions, called one after another on one record. Assumes nothing.
use Rattle.std.specs.Prelude.{◌≡◌, List, [], ◌∷◌, map, ℕ}
use Rattle.line.specs.Lists.{Each, keep}
use Rattle.line.specs.Desk as desk
use Rattle.line.specs.Desk.{first}
use Rattle.line.specs.Stand.{calls, trace}
use Rattle.line.specs.Transfers.{listed, served_at, made_at}
use Rattle.line.specs.Alone.{one_by_one}
use Rattle.judge.specs.declared.Answer.{Answer}
use Rattle.transfer.specs.Entry.{default_budget}
use Rattle.desk.specs.Record.{Good}
use Rattle.desk.specs.Stand.{desk_stand, is_answered}
use Rattle.desk.specs.declared.Desk.{Desk}
use Rattle.promises.specs.Standing.{Called, Deed}
use Rattle.promises.specs.Whole.{Follows}
use Rattle.surface.specs.Entry.{entry_of}
use Rattle.surface.specs.Calls.{Opens, Enters, EntersWithin, Sends, Receives, Leaves}

-- a call of an exported function, with what it is handed and lent beside the record
pub data Hosted : Type 0 where
  enter : (seat kind index sub : ℕ) (sent : List ℕ) → Hosted
  enter_within : (seat kind index sub : ℕ) (sent : List ℕ) (budget : ℕ) → Hosted
  send : (seat : ℕ) (frame : List ℕ) → Hosted
  receive : (seat : ℕ) (reply buffer : List ℕ) → Hosted
  leave : (seat : ℕ) → Hosted

-- what the host finds afterwards: the answer, the record, and the lent buffer where there is one
pub record Found : Type 0 where
  pub answer : Answer
  pub record_after : Desk
  pub lent : List ℕ

-- what the function's contract says of it (Calls)
unfoldable pub Stated : Desk → Hosted → Found → Type 0
Stated d (enter s k i b x) f = Enters d s k i b x f.answer f.record_after × (f.lent ≡ [])
Stated d (enter_within s k i b x n) f = EntersWithin d s k i b x n f.answer f.record_after × (f.lent ≡ [])
Stated d (send s b) f = Sends d s b f.answer f.record_after f.lent
Stated d (receive s r b) f = Receives d s r b f.answer f.record_after f.lent
Stated d (leave s) f = Leaves d s f.answer f.record_after × (f.lent ≡ [])

abbrev pub Step : Type 0
Step = Hosted × Found

-- one call after another: each is lent the record as the one before left it
unfoldable pub Session : Desk → List Step → Type 0
Session d [] = Unit {0}
Session d (x ∷ xs) = Stated d x.0 x.1 × Session x.1.record_after xs

-- the desk's call, and what was told of it
unfoldable pub call_of : Hosted → Called
call_of (enter s k i b x) = desk.enter s (entry_of k i b x default_budget)
call_of (enter_within s k i b x n) = desk.enter s (entry_of k i b x n)
call_of (send s b) = desk.send s b
call_of (receive s r b) = desk.receive s (r, b)
call_of (leave s) = desk.leave s

abbrev pub seen_of : List Step → List Deed
seen_of xs = map (λ (x : Step). record { call = call_of x.0; told = (x.1.answer, x.1.lent) }) xs

-- what a host saw of a session that began with `coe_desk_fresh`
pub record Served (seen : List Deed) : Type 0 where
  -- it is a run of the desk of which demand 3 speaks, from the first counter
  pub run : trace desk_stand (desk_stand.fresh first) (calls seen) ≡ seen
  -- the transfers that sent, by order of entry, are what each gets alone, one after another
  pub alone : one_by_one desk_stand first (map calls (listed is_answered seen)) ≡ listed is_answered seen
  -- each of them follows demand 2's rules from its entry to its end
  pub truly : Each Follows (listed is_answered seen)
  -- and no accepted call is lost
  pub none_lost : (s : ℕ) → let xs = keep (λ x. is_answered x.told) seen in served_at s xs ≡ made_at s xs

abbrev pub HostDemand3 : Type 0
HostDemand3 = (d : Desk) → Opens d → (xs : List Step) → Session d xs → Served (seen_of xs)

-- the sessions that it speaks of exist, whatever a host calls
abbrev pub SessionsExist : Type 0
SessionsExist = (d : Desk) → Good d → (hs : List Hosted) → (xs : List Step) × (map (λ (x : Step). x.0) xs ≡ hs) × Session d xs
