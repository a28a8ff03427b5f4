-- A reader yields what the plain function reads: the payload's words in order, and then 20. Assumes nothing.
use mathlib.Core.Path.{◌≡◌, refl, ap, ◌∙◌}
use Rattle.std.specs.Prelude.{Result, Ok, Err, Some}
use mathlib.Core.List.{List}
use native.Mathlib.Omega.{arith}
use Prim.Native.Nat.{ℕ, zero, suc, ◌*◌, ◌%◌, ◌<◌}
use borrow.Author.Tests.{eqb-true, eqb-false}
use lib.ListN.{length}
use denote.Ref.{Bor}
use Rattle.wire.proofs.Cases.{by}
use Rattle.wire.specs.declared.refusal.Refusal.{Refusal}
use Rattle.wire.specs.declared.refusal.Refusal.TheVariants.{Undecodable}
use Rattle.reads.specs.List.{item_at, Listed, going_on, read_from, odd, listed}
use Rattle.reads.specs.Reader.{at_start, behind, moved_on, yielded, Yields, YieldsAll, OddYieldsNone}
use Rattle.reads.specs.declared.list.Item.{Item}
use Rattle.reads.specs.declared.reader.ListReader.{ListReader}
use Rattle.reads.proofs.WholeList.{odd_refused, reads_all}

-- going on needs the rest only behind the item
going_on_lem : (i : Result Item Refusal) (at : ℕ) (rest : ℕ → Listed) → going_on i (λ _. rest (behind i at)) ≡ going_on i rest
going_on_lem (Ok item) at rest = refl
going_on_lem (Err refusal) at rest = refl

pub yields : Yields
unfolding yielded read_from
yields zero r = refl
yields (suc turns) r =
    let i = item_at r.payload.now r.at in
    ap (λ (l : Listed). going_on i (λ _. l)) (yields turns (moved_on r)) ∙ going_on_lem i r.at (read_from turns r.payload.now)

pub yields_all : YieldsAll
yields_all payload turns even enough = yields turns (at_start payload) ∙ reads_all payload.now even turns enough

pub odd_yields_none : OddYieldsNone
unfolding yielded
odd_yields_none payload turns h =
    ap (λ (i : Result Item Refusal). going_on i (λ _. yielded turns (moved_on (at_start payload)))) (odd_refused payload.now (at_start payload).at h)

-- both at once: the payload's indices
pub yields_listed : (payload : Bor (List ℕ)) (turns : ℕ) → length payload.now < 2 * turns
    → yielded turns (at_start payload) ≡ (listed payload.now, Some Undecodable)
yields_listed payload zero enough = absurd (omega arith)
yields_listed payload (suc turns) enough =
    by (odd payload.now)
    (λ o. rw o (odd_yields_none payload turns (eqb-true _ _ o)))
    (λ e. let even : length payload.now % 2 ≡ 0 = omega (arith, eqb-false (length payload.now % 2) 1 e) in
    rw e (yields_all payload (suc turns) even enough))

-- a refusal leaves the reader where it stands
pub refused_stays : (r : ListReader) (refusal : Refusal) → item_at r.payload.now r.at ≡ Err refusal → moved_on r ≡ r
refused_stays r refusal refused = ap (λ (i : Result Item Refusal). record { payload = r.payload; at = behind i r.at }) refused
