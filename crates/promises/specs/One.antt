-- Uniqueness: "that no second answer satisfies it is shown". A statement of a public function has one of the shapes below, or, of what is
-- lent and exported, one of linked/specs/One, or, of its callers, one of surface/specs/One, or, of the order program, one of
-- order_run/specs/One or order_io/specs/Shown. Each leaves one answer and one content of what is lent. `tools/statements --shapes` names
-- the shape of every public function and fails at one that has none of them. Assumes nothing.
use Rattle.std.specs.Prelude.{◌≡◌, Bool, List, ℕ, Option, Result}
use Rattle.wire.specs.Words.{One}
use Rattle.wire.specs.declared.refusal.Refusal.{Refusal}
use Rattle.services.specs.Written.{Writes}
use Rattle.services.specs.declared.Request.{Request}
use Rattle.reads.specs.Reader.{Takes}
use Rattle.reads.specs.declared.reader.ListReader.{ListReader}
use Rattle.line.specs.Machine.{Ruling}
use Rattle.transfer.specs.Coe.{ruling_of}
use Rattle.transfer.specs.declared.Order.{Order}
use Rattle.desk.specs.Calls as desk
use Rattle.desk.specs.Change.{Changes, ChangesLent}
use Rattle.desk.specs.declared.Called as given
use Rattle.desk.specs.declared.Desk.{Desk}
use Rattle.desk.specs.declared.change.Change.{Change}
use Rattle.client.specs.RunSeen.{RunSeen}
use Rattle.client.specs.declared.Seen.{Seen}
use Rattle.promises.specs.Fields.{PacksOne}
use Rattle.promises.specs.Standing.{Called}

pub record Unique : Type 1 where
  -- `r ≡ x`, or the same of a lent buffer
  pub equality : {A : Type 0} (x : A) → One (λ r. r ≡ x)
  -- `λ x r. r ≡ f x`, of a conversion's trait: what the value `x` comes to
  pub conversion : {A B : Type 0} (f : A → B) (x : A) → One (λ r. r ≡ f x)
  -- `(r ≡ x) × (what is lent ≡ y)`, or the same of the answer's two fields
  pub equalities : {A B : Type 0} (x : A) (y : B) → One (λ (r : A × B). (r.0 ≡ x) × (r.1 ≡ y))
  -- the same of a result, as the ruling that it stands for
  pub ruling : {A : Type 0} (v : Ruling A) → One (λ r. ruling_of r ≡ v)
  pub rulings : {A B : Type 0} (v : Ruling A) (y : B) → One (λ (r : Result A Refusal × B). (ruling_of r.0 ≡ v) × (r.1 ≡ y))
  pub writers : (fine : Bool) (counter : ℕ) (request : Request) (before : List ℕ)
      → One (λ (r : Result (Unit {0}) Refusal × List ℕ). Writes fine counter request before r.0 r.1)
  pub fresh : (counter : ℕ) → One (desk.Fresh counter)
  pub enter_leave : (d : Desk) (k : Called) → One (desk.Gives d k)
  pub send_receive : (d : Desk) (k : Called) (before : List ℕ)
      → One (λ (r : given.Called × List ℕ). desk.GivesLent d k r.0 before r.1)
  pub changes : (d : Desk) (k : Called) → One (Changes d k)
  pub changes_lent : (d : Desk) (k : Called) (before : List ℕ) → One (λ (r : Result Change Refusal × List ℕ). ChangesLent d k r.0 before r.1)
  pub run : (seat : ℕ) (order : Order) (frame reply buffer : List ℕ)
      → One (λ (r : Seen × List ℕ × List ℕ). RunSeen seat order frame reply buffer r.0 r.1 r.2)
  -- of an iterator's step: the index that it gives, and the reader afterwards
  pub takes : (r : ListReader) → One (λ (x : Option ℕ × ListReader). Takes r x.0 x.1)
  -- what is said of a packed request by its fields
  pub packs : PacksOne
