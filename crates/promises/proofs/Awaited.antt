-- A reply is held to what its request asked. Assumes nothing.
use mathlib.Core.Path.{◌≡◌, refl, sym, ap, ◌∙◌}
use mathlib.Core.Bool.{Bool, true, false, false≢true}
use Prim.Native.Nat.{ℕ, ◌<◌}
use native.Mathlib.Omega.{arith}
use borrow.Author.Tests.{eqb-true, ne_eqb}
use lib.Dec.{eqb}
use lib.ListN.{get_or}
use Rattle.std.specs.Prelude.{Option, Some, None}
use Rattle.wire.specs.Words.{pick}
use Rattle.wire.proofs.Cases.{by}
use Rattle.mailbox.specs.Headers.{sub_index_of}
use Rattle.mailbox.specs.declared.sub_index.SubIndex.{SubIndex}
use Rattle.mailbox.specs.declared.sub_index.SubIndex.TheVariants.{Complete, Index}
use Rattle.services.specs.Requests.{packed_of, answered}
use Rattle.transfer.specs.Stage.{first_request_due, first_reply_due, segment_request_due, segment_reply_due}
use Rattle.transfer.specs.Entry.{kind_of, unfit_as}
use Rattle.transfer.specs.Due.{request_as, first_request, reply_as, first_reply, due_of, request_due, awaiting_of}
use Rattle.transfer.specs.declared.Order.{Order}
use Rattle.transfer.specs.declared.entry.Kind.{Kind}
use Rattle.transfer.specs.declared.entry.Kind.TheVariants.{Upload, Download, ObjectList, Quantities}
use Rattle.promises.specs.Fields.{sub_of}
use Rattle.promises.specs.Rules.{Answers, AwaitsAnAnswer, Validates}
use Rattle.promises.proofs.Orders.{is_fit, fit_kind, inside}
use Rattle.promises.proofs.Fields.{upload_packs, download_packs, segment_packs, information_packs}

-- the sub-index of a kind fits its field
abbrev SubFits : Option Kind → Type 0
SubFits (Some (Upload a)) = sub_of a < 256
SubFits (Some (Download a)) = sub_of a < 256
SubFits (Some ObjectList) = Unit {0}
SubFits (Some Quantities) = Unit {0}
SubFits None = Unit {0}

either_fits : (b : Bool) (x y : Option Kind) → SubFits x → SubFits y → SubFits (pick b x y)
either_fits true x y p q = p
either_fits false x y p q = q

kind_fits : (kind sub : ℕ) → sub < 256 → SubFits (kind_of kind sub)
unfolding kind_of
kind_fits kind sub h =
    either_fits (eqb kind 1) _ _ h
    (either_fits (eqb kind 2) _ _ (omega arith)
    (either_fits (eqb kind 3) _ _ h
    (either_fits (eqb kind 4) _ _ tt
    (either_fits (eqb kind 5) _ _ tt
    (either_fits (eqb kind 6) _ _ (omega arith) tt)))))

same_sub : (a : SubIndex) → sub_of a ≡ sub_index_of a
same_sub Complete = refl
same_sub (Index b) = refl

module _ (o : Order) (c : ℕ) (hc : c < 8) (hi : o.index < 65536) where
  first_answers : (kind : Option Kind) → SubFits kind → unfit_as kind o ≡ false → Answers (packed_of c (request_as kind o)) (reply_as kind o)
  first_answers (Some (Upload a)) h e =
      let p = (upload_packs c o.index a hc hi h).holds in
      (ap (λ l. get_or l 9 0) p, ap (λ l. get_or l 10 0) p, ap (λ l. get_or l 11 0) p ∙ same_sub a)
  first_answers (Some (Download a)) h e =
      let w = inside 1 4 o.len e in
      let p = (download_packs c o.index a o.value o.len hc hi h w.0 w.1).holds in
      (ap (λ l. get_or l 9 0) p, ap (λ l. get_or l 10 0) p, ap (λ l. get_or l 11 0) p ∙ same_sub a)
  first_answers (Some ObjectList) h e =
      (ap (λ l. get_or l 4 0) (information_packs c o.index hc (inside 1 5 o.index e).1).holds, refl)
  first_answers (Some Quantities) h e = (ap (λ l. get_or l 4 0) (information_packs c 0 hc (omega arith)).holds, refl)
  first_answers None h e = absurd (false≢true (sym e))

pub awaits_an_answer : AwaitsAnAnswer
unfolding request_due due_of awaiting_of first_request first_reply
awaits_an_answer t c hc hi hb fit =
    by (eqb t.stage first_request_due)
    (λ y. rw (y, ne_eqb t.stage segment_request_due (λ h. omega (arith, h, eqb-true t.stage first_request_due y)))
    λ _. first_answers t.order c hc hi (kind_of t.order.kind t.order.sub) (kind_fits _ _ hb) (fit_kind t.order (is_fit t.order fit)))
    (λ n. by (eqb t.stage segment_request_due)
    (λ y. rw (n, y, ne_eqb t.stage first_reply_due (λ h. omega (arith, h, eqb-true t.stage segment_request_due y)))
    λ _. ap (λ l. get_or l 8 0) (segment_packs c (eqb t.toggle 1) hc).holds)
    (λ m. by (eqb t.stage first_reply_due)
    (λ y. rw (n, m, y) λ e. absurd (false≢true e))
    (λ k. by (eqb t.stage segment_reply_due)
    (λ y. rw (n, m, k, y) λ e. absurd (false≢true e))
    (λ j. rw (n, m, k, j) λ e. absurd (false≢true e)))))

-- ---- and what validate_response says

pub validates : Validates
unfolding answered
validates = record {
  upload = λ index a i b. rw (same_sub a);
  download = λ index a v len i b. rw (same_sub a);
  segment = λ t i b. refl;
  information = λ kind i b. refl;
}
