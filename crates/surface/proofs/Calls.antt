-- What the exported calls of the desk ensure, in the Table's words. Assumes nothing.
use mathlib.Core.Path.{◌≡◌, refl, ap, ◌∙◌, subst}
use mathlib.Core.List.{List, []}
use mathlib.Core.Option.{Option, none, some}
use Prim.Native.Nat.{ℕ, min}
use native.Mathlib.Omega.{arith}
use borrow.Author.Tests.{ltb-true, ltb-false}
use lib.Dec.{ltb}
use lib.ListN.{length}
use Rattle.wire.specs.Words.{first_of}
use Rattle.wire.specs.Bytes.{long_at}
use Rattle.wire.proofs.Cases.{by}
use Rattle.judge.specs.declared.Answer.{Answer}
use Rattle.line.specs.Desk.{enter, send, receive, leave}
use Rattle.transfer.specs.declared.Order.{Order}
use Rattle.desk.specs.Record.{Queue, Good, view_of}
use Rattle.desk.specs.Calls.{Gives, GivesLent}
use Rattle.desk.specs.Stand.{lent_by}
use Rattle.desk.specs.declared.Desk.{Desk}
use Rattle.lent.specs.Order.{len_of, order_from}
use Rattle.lent.specs.Found.{found}
use Rattle.promises.specs.Standing.{Called}
use Rattle.promises.specs.Table.{conditions, buffer_by}
use Rattle.promises.proofs.Table.{table_at_records}
use Rattle.promises.proofs.Demand3.{by_the_functions}
use Rattle.surface.specs.Calls.{Does, EntersWithin, Sends, Receives, Leaves}
use Rattle.surface.specs.Entry.{entry_of}

-- ---- what is entered

len_is : (n : ℕ) → len_of n ≡ min n 5
unfolding len_of
len_is n = by (ltb 4 n) (λ y. let h = ltb-true 4 n y in rw y (omega arith)) (λ e. let h = ltb-false 4 n e in rw e (omega arith))

pub order_is : (kind index sub : ℕ) (bytes : List ℕ) (budget : ℕ)
    → order_from kind index sub bytes budget ≡ entry_of kind index sub bytes budget
unfolding order_from
order_is kind index sub bytes budget = ap (λ (n : ℕ). with_len n (long_at bytes 0)) (len_is (length bytes))
    ∙ ap (λ (v : ℕ). with_len (min (length bytes) 5) v) (omega arith)
  where
    with_len : ℕ → ℕ → Order
    with_len n v = record { kind = kind; sub = sub; index = index; value = v; len = n; budget = budget }

-- ---- the calls

pub entering_lends_none : (q : Queue) (seat : ℕ) (o : Order) (n : Option ℕ) → [] ≡ buffer_by q (enter seat o) n
unfolding buffer_by lent_by
entering_lends_none q seat o none = refl
entering_lends_none q seat o (some n) = refl

pub leaving_lends_none : (q : Queue) (seat : ℕ) (n : Option ℕ) → [] ≡ buffer_by q (leave seat) n
unfolding buffer_by lent_by
leaving_lends_none q seat none = refl
leaving_lends_none q seat (some n) = refl

module _ (d : Desk) (good : Good d) (r : Answer) (after : Desk) where
  does : (k : Called) (lent : List ℕ) → lent ≡ buffer_by (view_of d) k (first_of (conditions (view_of d) k)) → Gives d k (found r after)
      → Does d k r after lent
  does k lent left G =
      let told = by_the_functions.told d k (found r after) G in
      record { told = told.0 ∙ ap (λ x. x.0) (table_at_records d good k); left = left; next = told.1; good = G.good }

  does_lent : (k : Called) (lent : List ℕ) → GivesLent d k (found r after) (lent_by k) lent → Does d k r after lent
  does_lent k lent G = does k lent
      ((by_the_functions.told_lent d k (found r after) lent G).2 ∙ ap (λ x. x.1) (table_at_records d good k))
      (record { told = G.told; good = G.good })

  pub enters : (seat kind index sub : ℕ) (bytes : List ℕ) (budget : ℕ)
      → Gives d (enter seat (order_from kind index sub bytes budget)) (found r after)
      → EntersWithin d seat kind index sub bytes budget r after
  enters seat kind index sub bytes budget G = does (enter seat (entry_of kind index sub bytes budget)) []
      (entering_lends_none (view_of d) seat _ _)
      (subst (λ (o : Order). Gives d (enter seat o) (found r after)) (order_is kind index sub bytes budget) G)

  pub sends : (seat : ℕ) (frame lent : List ℕ) → GivesLent d (send seat frame) (found r after) frame lent
      → Sends d seat frame r after lent
  unfolding lent_by
  sends seat frame = does_lent (send seat frame)

  pub receives : (seat : ℕ) (reply buffer lent : List ℕ) → GivesLent d (receive seat (reply, buffer)) (found r after) buffer lent
      → Receives d seat reply buffer r after lent
  unfolding lent_by
  receives seat reply buffer = does_lent (receive seat (reply, buffer))

  pub leaves : (seat : ℕ) → Gives d (leave seat) (found r after) → Leaves d seat r after
  leaves seat = does (leave seat) [] (leaving_lends_none (view_of d) seat _)
