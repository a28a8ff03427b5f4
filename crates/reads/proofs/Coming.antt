-- The indices that a reader has still to give: a read gives the first of them, or is refused where there is none. Assumes nothing.
use mathlib.Core.Path.{◌≡◌, refl, sym, subst}
use mathlib.Core.List.{[], ◌∷◌}
use Prim.Native.Nat.{◌-◌, ◌<◌, ◌≤◌}
use native.Mathlib.Omega.{arith}
use borrow.Author.Tests.{ltb-true, ltb-false}
use lib.Dec.{ltb}
use lib.ListN.{length, drop, length-drop}
use Rattle.std.specs.Prelude.{Result, Ok, Err, Some, None}
use Rattle.std.specs.Result.{result_ok}
use Rattle.wire.proofs.Cases.{by}
use Rattle.wire.specs.declared.refusal.Refusal.{Refusal}
use Rattle.reads.specs.List.{odd, item_at}
use Rattle.reads.specs.Reader.{behind, moved_on, coming}
use Rattle.reads.specs.declared.list.Item.{Item}
use Rattle.reads.specs.declared.reader.ListReader.{ListReader}
use Rattle.reads.proofs.WholeList.{words_none, words_more}

-- what was read is the first of what was to come, and the others come next; where nothing was read, nothing comes
abbrev Gives : ListReader → Result Item Refusal → Type 0
Gives r (Ok item) = coming r ≡ item.index ∷ coming (record { payload = r.payload; at = item.next })
Gives r (Err refusal) = coming r ≡ []

pub gives : (r : ListReader) → Gives r (item_at r.payload.now r.at)
unfolding item_at
gives r =
    let s = r.payload.now in
    by (odd s)
    (λ o. rw o (rw o refl))
    (λ e. by (ltb (length s - r.at) 2)
    (λ y. let few : length s - r.at < 2 = ltb-true _ _ y in
    rw (e, y) (rw e (words_none (drop r.at s) (rw (length-drop r.at s) few))))
    (λ n. let enough : 2 ≤ length s - r.at = ltb-false _ _ n in
    rw (e, n) (rw e (words_more s r.at (omega arith)))))

module _ (r after : ListReader) (read : Result Item Refusal) (is : read ≡ item_at r.payload.now r.at) (moved : after ≡ moved_on r) where
  given : Gives r read
  given = subst (Gives r) (sym is) (gives r)

  moved_behind : after ≡ record { payload = r.payload; at = behind read r.at }
  moved_behind = rw is moved

pub one_comes : (r after : ListReader) (read : Result Item Refusal) → read ≡ item_at r.payload.now r.at → after ≡ moved_on r
    → (item : Item) → Some item ≡ result_ok read → coming r ≡ item.index ∷ coming after
one_comes r after (Ok found) is moved item e =
    let same : item ≡ found = cc in
    rw (moved_behind r after (Ok found) is moved, same) (given r after (Ok found) is moved)
one_comes r after (Err refusal) is moved item e = cc

pub none_comes : (r after : ListReader) (read : Result Item Refusal) → read ≡ item_at r.payload.now r.at → after ≡ moved_on r
    → None ≡ result_ok read → (coming r ≡ []) × (coming after ≡ [])
none_comes r after (Ok found) is moved e = cc
none_comes r after (Err refusal) is moved e =
    let none = given r after (Err refusal) is moved in
    (none, rw (moved_behind r after (Err refusal) is moved) none)

pub ruleset comes = (one_comes, none_comes)
