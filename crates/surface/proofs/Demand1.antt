-- Demand 1 of every exported function follows from what its caller states. Assumes nothing.
use mathlib.Core.Path.{◌≡◌, refl, sym, ap, ◌∙◌, subst}
use mathlib.Core.Bool.{Bool, true, false, false≢true}
use mathlib.Core.List.{List, [], ◌∷◌, ◌++◌}
use mathlib.Core.Option.{Option, none, some, some-injective, some-ne-none}
use Prim.Native.Nat.{ℕ, ◌-◌, ◌%◌}
use borrow.Author.Tests.{eqb-true}
use lib.Dec.{eqb, ltb}
use lib.ListN.{length}
use Rattle.wire.specs.Words.{pick, either, first_of}
use Rattle.wire.specs.Store.{laid}
use Rattle.wire.specs.Fields.{Field}
use Rattle.wire.proofs.Cases.{by}
use Rattle.mailbox.specs.Fields.{Name}
use Rattle.judge.specs.Answers.{one_of}
use Rattle.judge.specs.declared.Answer.{Answer}
use Rattle.judge.proofs.Laid.{laid_nil}
use Rattle.line.specs.Lists.{Each}
use Rattle.line.specs.Line.{seated}
use Rattle.line.specs.Transfers.{seat_of}
use Rattle.line.specs.Numbers.{Test, is1x}
use Rattle.transfer.specs.Coe.{Told}
use Rattle.transfer.specs.declared.due.Reply.{Reply}
use Rattle.transfer.specs.declared.due.Reply.TheVariants as reply
use Rattle.desk.specs.Record.{Good, view_of}
use Rattle.desk.specs.Stand.{desk_stand}
use Rattle.desk.specs.declared.Desk.{Desk}
use Rattle.linked.specs.declared.reading.Unsigned.{Unsigned}
use Rattle.linked.specs.declared.reading.Signed.{Signed}
use Rattle.linked.specs.declared.reading.Item.{Item}
use Rattle.linked.specs.declared.reading.Quantities.{Quantities}
use Rattle.promises.specs.Standing.{Called}
use Rattle.promises.specs.Finding.{Finding}
use Rattle.promises.specs.Rules.{Rule, sdo, rules}
use Rattle.promises.specs.Demand1.{numbers, is2x}
use Rattle.promises.proofs.Demand1.{demand1}
use Rattle.surface.specs.Writers.{Writes}
use Rattle.surface.specs.Judge.{answers, judge_rules, besides, place_at, JudgesReply}
use Rattle.surface.specs.Calls.{Does}
use Rattle.surface.specs.Demand1.{refusal, Writer, Judge, SeatFree, DeskCall, Read, HostDemand1}
use Rattle.surface.proofs.Demand3.{answers_are}

-- what is said of each line of a list is said of the first that holds
first_of_lem : {A : Type 0} (P : A → Type 0) (l : List (Bool × A)) (x : A) → Each (λ r. P r.1) l → first_of l ≡ some x → P x
unfolding first_of
first_of_lem P [] x E e = absurd (some-ne-none x (sym e))
first_of_lem P (r ∷ l) x E e =
    by r.0
    (λ y. subst P (some-injective r.1 x (rw y at e)) E.0)
    (λ n. first_of_lem P l x E.1 (rw n at e))

-- ---- the writers

writer : {tests : List Test} {bytes : ℕ} {fields : List (Name × ℕ)} {skipped : List Field} {n : ℕ} {before after : List ℕ}
    → Each (λ (t : Test). one_of (0x15 ∷ 0x16 ∷ []) t.1 ≡ true) tests → Writes tests bytes fields skipped before n after → Writer n before after
writer {tests} {n = n} {before} {after} E W = go (first_of tests) refl
  where
    wider : (m : ℕ) → one_of (0x15 ∷ 0x16 ∷ []) m ≡ true → one_of (0x02 ∷ 0x15 ∷ 0x16 ∷ []) m ≡ true
    wider m h = by (eqb m 0x02) (λ y. rw y) (λ e. rw e h)

    go : (o : Option ℕ) → first_of {A = ℕ} tests ≡ o → Writer n before after
    go (some m) e =
        let r = W.refused m e in
        record {
          listed = ap (one_of (0x02 ∷ 0x15 ∷ 0x16 ∷ [])) r.0 ∙ wider m (first_of_lem (λ k. one_of (0x15 ∷ 0x16 ∷ []) k ≡ true) tests m E e);
          refusal_leaves = λ _. r.1;
        }
    go none e =
        let w = W.written e in
        record {
          listed = ap (one_of (0x02 ∷ 0x15 ∷ 0x16 ∷ [])) w.0;
          refusal_leaves = λ f. absurd (false≢true (sym (ap refusal w.0) ∙ f));
        }

-- ---- the judge

abbrev judged : List ℕ
judged = 0x00 ∷ 0x01 ∷ 0x02 ∷ 0x15 ∷ 0x16 ∷ 0x20 ∷ 0x21 ∷ 0x22 ∷ 0x23 ∷ 0x24 ∷ 0x25 ∷ 0x26 ∷ []

-- a number of the judge's, and where it is a refusal no chunk
abbrev Sound : Finding → Type 0
Sound f = (one_of judged f.0.number ≡ true) × (refusal f.0.number ≡ true → f.1 ≡ [])

-- a list of which each line stops, with nothing stored, or goes on or is done
data SoundLines : List Rule → Type 0 where
  over : SoundLines []
  stops : {b : Bool} {a : Answer} {l : List Rule} → one_of judged a.number ≡ true → SoundLines l → SoundLines ((b, (a, [])) ∷ l)
  goes : {b : Bool} {a : Answer} {chunk : List ℕ} {l : List Rule} → one_of judged a.number ≡ true → refusal a.number ≡ false
      → SoundLines l → SoundLines ((b, (a, chunk)) ∷ l)

each_sound : {l : List Rule} → SoundLines l → Each (λ (r : Rule). Sound r.1) l
each_sound over = tt
each_sound (stops h E) = ((h, λ _. refl), each_sound E)
each_sound (goes h r E) = ((h, λ e. absurd (false≢true (sym r ∙ e))), each_sound E)

sdo_sound : (least : ℕ) (s : List ℕ) (l : List Rule) → SoundLines l → SoundLines (sdo least s ++ l)
sdo_sound least s l E = stops refl (stops refl (stops refl (stops refl (stops refl (stops refl (stops refl (stops refl (stops refl E))))))))

rules_sound : (due : Reply) (earlier n : ℕ) (s : List ℕ) → SoundLines (rules due earlier n s)
unfolding rules
rules_sound (reply.Download i b) earlier n s = sdo_sound _ s _ (stops refl (stops refl (stops refl (goes refl refl over))))
rules_sound (reply.Upload i b) earlier n s =
    sdo_sound _ s _
    (stops refl (stops refl (stops refl (goes refl refl
    (stops refl (stops refl (stops refl (goes refl refl (goes refl refl over)))))))))
rules_sound reply.Segment earlier n s = sdo_sound _ s _ (stops refl (stops refl (stops refl (goes refl refl (goes refl refl over)))))
rules_sound (reply.Fragment begun) earlier n s =
    stops refl (stops refl (stops refl (stops refl (goes refl refl
    (stops refl (stops refl (stops refl (goes refl refl (goes refl refl over)))))))))

judge_sound : (kind i b earlier : ℕ) (s d : List ℕ) → SoundLines (judge_rules kind i b earlier s d)
unfolding judge_rules
judge_sound kind i b earlier s d = stops refl (stops refl (stops refl (rules_sound (answers kind i b) earlier (length d) s)))

-- what is told besides alters no number
number_kept : (kind : ℕ) (s : List ℕ) (f : Finding) → (besides kind s f).number ≡ f.0.number
unfolding besides
number_kept kind s f =
    by (eqb f.0.number 0x01)
    (λ y. rw y (sym (eqb-true f.0.number 0x01 y)))
    (λ n. rw n (by (eqb f.0.number 0x02) (λ y. rw y (sym (eqb-true f.0.number 0x02 y))) (λ m. rw m)))

judges : {kind i b earlier : ℕ} {s d : List ℕ} {r : Answer} {after : List ℕ} → JudgesReply kind i b earlier s d r after → Judge r.number d after
judges {kind} {i} {b} {earlier} {s} {d} {r} {after} J =
    let f = J.found in
    let n : r.number ≡ f.0.number = ap (λ (a : Answer). a.number) J.told ∙ number_kept kind s f in
    let F = first_of_lem Sound (judge_rules kind i b earlier s d) f (each_sound (judge_sound kind i b earlier s d)) J.first in
    record {
      listed = ap (one_of judged) n ∙ F.0;
      refusal_leaves = λ e.
          J.stored ∙ ap (laid d (place_at kind earlier)) (F.1 (sym (ap refusal n) ∙ e)) ∙ sym (laid_nil d (place_at kind earlier));
    }

-- ---- the desk

calls : (d : Desk) → Good d → (k : Called) (r : Answer) (after : Desk) (lent : List ℕ) → Does d k r after lent → DeskCall d k r after lent
calls d g k r after lent D =
    let told = answers_are g D in
    let J = demand1 d g k in
    let n : (desk_stand.answers d k).0.number ≡ r.number = ap (λ (t : Told). t.0.number) told in
    let l : (desk_stand.answers d k).1 ≡ lent = ap (λ (t : Told). t.1) told in
    let free : SeatFree k (desk_stand.next d k) → SeatFree k after = λ h. ap (λ (x : Desk). seated (seat_of k) (view_of x).line) D.next ∙ h in
    record {
      listed = ap (one_of numbers) (sym n) ∙ J.listed;
      refusal_leaves = λ e. let z = J.refusal_leaves (ap is1x n ∙ e) in (D.next ∙ z.0, sym l ∙ z.1);
      failure_ends = λ e. let z = J.failure_ends (ap is2x n ∙ e) in (free z.0, sym l ∙ z.1);
      done_ends = λ e. free (J.done_ends (n ∙ e));
      leave_ends = λ e. let z = J.leave_ends (n ∙ e) in (free z.0, sym l ∙ z.1);
    }

-- ---- the reads

-- 20 or 00, whichever a test picks
read : {A : Type 0} (number : A → ℕ) (b : Bool) {x y : A} → number x ≡ 0x20 → number y ≡ 0x00 → Read (number (pick b x y))
read number true p q = ap (one_of (0x00 ∷ 0x20 ∷ [])) p
read number false p q = ap (one_of (0x00 ∷ 0x20 ∷ [])) q

pub host_demand1 : HostDemand1
host_demand1 = record {
  upload = λ c i b f n before after W. writer (refl, (refl, (refl, tt))) W;
  download = λ c i b f n sent before after W. writer (refl, (refl, (refl, (refl, tt)))) W;
  segment = λ c t n before after W. writer (refl, (refl, (refl, tt))) W;
  list = λ c k n before after W. writer (refl, (refl, (refl, tt))) W;
  judge = λ kind i b earlier s d r after J. judges J;
  desk = calls;
  read_u8 = λ s. read (λ (x : Unsigned). x.number) (ltb (length s) 1) refl refl;
  read_u16 = λ s. read (λ (x : Unsigned). x.number) (ltb (length s) 2) refl refl;
  read_u32 = λ s. read (λ (x : Unsigned). x.number) (ltb (length s) 4) refl refl;
  read_i8 = λ s. read (λ (x : Signed). x.number) (ltb (length s) 1) refl refl;
  read_i16 = λ s. read (λ (x : Signed). x.number) (ltb (length s) 2) refl refl;
  read_i32 = λ s. read (λ (x : Signed). x.number) (ltb (length s) 4) refl refl;
  list_item = λ s at. read (λ (x : Item). x.number) (either (eqb (length s % 2) 1) (ltb (length s - at) 2)) refl refl;
  read_quantities = λ s. read (λ (x : Quantities). x.number) (ltb (length s) 10) refl refl;
}
