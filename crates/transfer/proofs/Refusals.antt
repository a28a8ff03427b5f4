-- What a refusal leaves. Assumes nothing.
use mathlib.Core.Path.{◌≡◌, refl, sym, ap, ◌∙◌}
use mathlib.Core.Bool.{Bool, true, false}
use mathlib.Core.Option.{Option, none}
use Prim.Native.Nat.{ℕ}
use borrow.Author.Tests.{lt-ltb}
use lib.Dec.{ltb, leb, eqb}
use lib.ListN.{length}
use Rattle.std.specs.Prelude.{Ok, Err}
use Rattle.wire.specs.Words.{pick}
use Rattle.wire.specs.Refusal.{number_of}
use Rattle.wire.specs.declared.refusal.Refusal.{Refusal}
use Rattle.wire.specs.declared.refusal.Refusal.TheVariants.{NoSuchSeat, SeatTaken, SeatEmpty, NotAtHead, OtherDue as OtherIsDue, BadOrder, BufferLength, Undecodable, WrongReply, TooLarge, MissingBytes, LengthField, BudgetSpent}
use Rattle.wire.proofs.Cases.{by}
use Rattle.judge.specs.Answers.{done_or, answer_of}
use Rattle.judge.specs.declared.Verdict.{Verdict}
use Rattle.judge.specs.declared.Verdict.TheVariants.{Refused, Emergency, Aborted, Done, SegmentsFollow, Segment, Fragment, ReplyDue}
use Rattle.judge.proofs.Payload.{refused_stores_nothing}
use Rattle.transfer.specs.Judgement.{unless_last, next_of}
use Rattle.transfer.specs.Coe.{Told, judged, receives_with, sends_if_due, receives_if_due}
use Rattle.transfer.specs.Refusals.{OtherDue, TooLong, EndsUnstored, OneResult}
use Rattle.transfer.specs.declared.Transfer.{Transfer}
use Rattle.transfer.proofs.Numbers.{accepted}

pub other_due : OtherDue
unfolding sends_if_due receives_if_due
other_due t c f s d = (λ e. rw e, λ e. rw e)

pub too_long : TooLong
unfolding receives_if_due receives_with
too_long t s d e = (
  λ h. rw (e, lt-ltb 1486 (length s) h),
  λ h. rw (e, lt-ltb 131070 (length d) h) (by (ltb 1486 (length s)) (λ y. rw y) (λ n. rw n)),
)

-- a verdict of 2x is the last
last_of : (last : Bool) (t : Transfer) (sum n : ℕ) → leb 0x20 n ≡ false → leb 0x20 (done_or last sum n).number ≡ true → unless_last last t ≡ none
last_of true t sum n h e = refl
last_of false t sum n h e = cc

over : (t : Transfer) (v : Verdict) → leb 0x20 (answer_of v).number ≡ true → next_of t v ≡ none
unfolding answer_of next_of
over t (Refused n) e = refl
over t (Emergency m) e = refl
over t (Aborted b i c) e = refl
over t (Done f p) e = refl
over t SegmentsFollow e = cc
over t (Segment f k sum last) e = last_of last _ sum 0x01 refl e
over t (Fragment f k sum last) e = last_of last _ sum 0x02 refl e
over t ReplyDue e = cc

pub ends_unstored : EndsUnstored
ends_unstored t l r e h =
    let A = (accepted t l r e).is in
    let v = judged t (length l.1) l.0 in
    let g : leb 0x20 (answer_of v).number ≡ true = ap (λ (x : Told × Option Transfer). leb 0x20 x.0.0.number) A ∙ h in (
      ap (λ (x : Told × Option Transfer). x.0.1) (sym A) ∙ refused_stores_nothing v l.0 t.sum l.1 g,
      ap (λ (x : Told × Option Transfer). x.1) (sym A) ∙ over t v g,
    )

-- ---- one result for each ruling

-- the refusal of a number
unfoldable refusal_at : ℕ → Refusal
refusal_at n =
    pick (eqb n 0x10) NoSuchSeat
    (pick (eqb n 0x11) SeatTaken
    (pick (eqb n 0x12) SeatEmpty
    (pick (eqb n 0x13) NotAtHead
    (pick (eqb n 0x14) OtherIsDue
    (pick (eqb n 0x15) BadOrder
    (pick (eqb n 0x16) BufferLength
    (pick (eqb n 0x20) Undecodable
    (pick (eqb n 0x23) WrongReply
    (pick (eqb n 0x24) TooLarge
    (pick (eqb n 0x25) MissingBytes
    (pick (eqb n 0x26) LengthField
    BudgetSpent)))))))))))

same_refusal : (e : Refusal) → refusal_at (number_of e) ≡ e
unfolding refusal_at
same_refusal NoSuchSeat = refl
same_refusal SeatTaken = refl
same_refusal SeatEmpty = refl
same_refusal NotAtHead = refl
same_refusal OtherIsDue = refl
same_refusal BadOrder = refl
same_refusal BufferLength = refl
same_refusal Undecodable = refl
same_refusal WrongReply = refl
same_refusal TooLarge = refl
same_refusal MissingBytes = refl
same_refusal LengthField = refl
same_refusal BudgetSpent = refl

pub one_result : OneResult
one_result A (Ok a) (Ok b) e = let h : a ≡ b = cc in λ i. Ok (h i)
one_result A (Ok a) (Err f) e = cc
one_result A (Err d) (Ok b) e = cc
one_result A (Err d) (Err f) e =
    let h : number_of d ≡ number_of f = cc in
    ap Err (sym (same_refusal d) ∙ ap refusal_at h ∙ same_refusal f)
