-- The machine's numbers: 15 for an entry, 16 for a buffer or a reply that is too long, and no 1x for a reply that is judged.
-- Assumes nothing.
use mathlib.Core.Path.{◌≡◌, refl, sym, ap, ◌∙◌}
use mathlib.Core.Bool.{Bool, true, false, not, false≢true}
use mathlib.Core.List.{List, [], ◌∷◌}
use mathlib.Core.Option.{Option}
use Prim.Native.Nat.{ℕ}
use borrow.Author.Tests.{eqb-true}
use lib.Dec.{eqb, ltb, leb}
use lib.ListN.{length}
use Rattle.std.proofs.lemmas.Bool.{not-true}
use Rattle.wire.specs.Words.{pick, both}
use Rattle.wire.proofs.Cases.{by}
use Rattle.wire.specs.Refusal.{number_of}
use Rattle.wire.specs.declared.refusal.Refusal.TheVariants.{BudgetSpent}
use Rattle.services.specs.Written.{fits}
use Rattle.judge.specs.Answers.{answer_of, one_of, upload_numbers, download_numbers, segment_numbers, list_numbers}
use Rattle.judge.specs.Download.{judge_download}
use Rattle.judge.specs.Upload.{judge_upload}
use Rattle.judge.specs.Segment.{judge_segment}
use Rattle.judge.specs.Information.{judge_list}
use Rattle.judge.specs.declared.Verdict.{Verdict}
use Rattle.judge.specs.declared.Verdict.TheVariants.{Refused}
use Rattle.judge.proofs.Numbers.{upload_number, download_number, segment_number, list_number}
use Rattle.line.specs.Machine.{refuse, accept}
use Rattle.line.specs.Numbers.{is1x, RefusesOnly, Numbered}
use Rattle.line.proofs.Rulings.{pick_accept, accept_eq}
use Rattle.line.proofs.Refusals.{only_pick}
use Rattle.transfer.specs.Entry.{unfit_of}
use Rattle.transfer.specs.Due.{due_of}
use Rattle.transfer.specs.Judgement.{judge_reply, goes_on, budgeted, judged_as, judged_numbers}
use Rattle.transfer.specs.Coe.{Lends, Told, reply_in, judged, receipt, begins_with, sends_with, receives_with, coe_machine}
use Rattle.transfer.specs.declared.Order.{Order}
use Rattle.transfer.specs.declared.Transfer.{Transfer}
use Rattle.transfer.specs.declared.due.Reply.{Reply}
use Rattle.transfer.specs.declared.due.Reply.TheVariants as reply

abbrev pub all_of : (ℕ → Bool) → List ℕ → Bool
all_of p [] = true
all_of p (a ∷ l) = both (p a) (all_of p l)

-- what is true of all of some numbers is true of one of them
pub among : (p : ℕ → Bool) (l : List ℕ) (n : ℕ) → all_of p l ≡ true → one_of l n ≡ true → p n ≡ true
among p [] n E h = cc
among p (a ∷ l) n E h =
    by (p a)
    (λ z. by (eqb n a) (λ y. ap p (eqb-true n a y) ∙ z) (λ m. among p l n (rw z at E) (rw m at h)))
    (λ z. absurd (false≢true (rw z at E)))

abbrev Listed : ℕ → Type 0
Listed n = one_of judged_numbers n ≡ true

-- a number of a reply alone: 27 is the budget's
abbrev pub of_reply : ℕ → Bool
of_reply n = both (one_of judged_numbers n) (not (eqb n 0x27))

pub reply_number : (due : Reply) (sum n : ℕ) (s : List ℕ) → of_reply (answer_of (judge_reply due sum n s)).number ≡ true
unfolding judge_reply
reply_number (reply.Upload index sub) sum n s = among of_reply upload_numbers (answer_of (judge_upload index sub n s)).number refl (upload_number index sub n s)
reply_number (reply.Download index sub) sum n s = among of_reply download_numbers (answer_of (judge_download index sub s)).number refl (download_number index sub s)
reply_number reply.Segment sum n s = among of_reply segment_numbers (answer_of (judge_segment sum n s)).number refl (segment_number sum n s)
reply_number (reply.Fragment begun) sum n s = among of_reply list_numbers (answer_of (judge_list begun sum n s)).number refl (list_number begun sum n s)

both_first : (a b : Bool) → both a b ≡ true → a ≡ true
both_first true b h = refl
both_first false b h = cc

settled_number : (spent : Bool) (v : Verdict) → Listed (answer_of v).number → Listed (answer_of (budgeted spent v)).number
unfolding budgeted answer_of
settled_number spent v h = go (both spent (goes_on v))
  where
    go : (b : Bool) → Listed (answer_of (pick b (Refused (number_of BudgetSpent)) v)).number
    go true = refl
    go false = h

pub judged_number : (t : Transfer) (n : ℕ) (s : List ℕ) → Listed (answer_of (judged t n s)).number
unfolding judged judged_as
judged_number t n s =
    let v = judge_reply (reply_in (due_of t)) t.sum n s in
    settled_number (leb t.left 1) v (both_first (one_of judged_numbers (answer_of v).number) _ (reply_number (reply_in (due_of t)) t.sum n s))

pub not_1x : (t : Transfer) (n : ℕ) (s : List ℕ) → is1x (answer_of (judged t n s)).number ≡ false
not_1x t n s =
    let k = (answer_of (judged t n s)).number in
    not-true (is1x k) (among (λ m. not (is1x m)) judged_numbers k refl (judged_number t n s))

pub entry_15 : (o : Order) → RefusesOnly 0x15 (begins_with o)
unfolding begins_with
entry_15 o = only_pick 0x15 (unfit_of o) _ tt

pub send_16 : (t : Transfer) (c : ℕ) (b : List ℕ) → RefusesOnly 0x16 (sends_with t c b)
unfolding sends_with
send_16 t c b = go (fits (length b)) _
  where
    go : (x : Bool) (r : List ℕ × Transfer) → RefusesOnly 0x16 (pick x (accept r) (refuse 0x16))
    go true r = tt
    go false r = refl

pub receive_16 : (t : Transfer) (l : Lends) → RefusesOnly 0x16 (receives_with t l)
unfolding receives_with
receive_16 t l = only_pick 0x16 (ltb 1486 (length l.0)) _ (only_pick 0x16 (ltb 131070 (length l.1)) _ tt)

-- an accepted reply is short enough, so is the buffer, and what is given is the receipt
pub record Accepted (t : Transfer) (l : Lends) (r : Told × Option Transfer) : Type 0 where
  pub reply_fits : ltb 1486 (length l.0) ≡ false
  pub buffer_fits : ltb 131070 (length l.1) ≡ false
  pub is : receipt t l.0 l.1 ≡ r

pub accepted : (t : Transfer) (l : Lends) (r : Told × Option Transfer) → receives_with t l ≡ accept r → Accepted t l r
unfolding receives_with
accepted t l r e =
    let a = pick_accept (ltb 1486 (length l.0)) 0x16 _ e in
    let b = pick_accept (ltb 131070 (length l.1)) 0x16 _ a.1 in
    record { reply_fits = a.0; buffer_fits = b.0; is = accept_eq b.1 }

abbrev pub coe_numbered : Numbered coe_machine
coe_numbered = record {
  number_of = λ a. a.0.number;
  at_entry = entry_15;
  at_send = send_16;
  at_receive = receive_16;
  at_judgement = λ t l r e.
      ap (λ (x : Told × Option Transfer). is1x x.0.0.number) (sym (accepted t l r e).is)
      ∙ not_1x t (length l.1) l.0;
}
