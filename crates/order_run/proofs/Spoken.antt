-- What is printed for each answer of the desk. Assumes nothing.
use Prim.Native.Nat.{ℕ, ◌+◌, ◌-◌, ◌*◌, ◌≤◌, min}
use mathlib.Core.Path.{◌≡◌, refl, sym, ap, ◌∙◌, subst}
use mathlib.Core.Bool.{true, false, true≢false, false≢true}
use mathlib.Core.List.{List, [], ◌∷◌, ◌++◌}
use native.Mathlib.Omega.{arith}
use lib.Dec.{eqb}
use Rattle.std.specs.Prelude.{Ok}
use lib.ListN.{length, set, take, replicate, length-take}
use borrow.Author.Tests.{eq-eqb, ne_eqb, eqb-true, leb-true}
use Rattle.wire.specs.Store.{laid}
use Rattle.wire.proofs.Cases.{by}
use Rattle.line.specs.Desk.{leave}
use Rattle.desk.specs.Record.{Good}
use Rattle.desk.specs.Calls.{Gives, GivesLent}
use Rattle.desk.specs.Change.{moved, changed_by, called_by, Within}
use Rattle.desk.specs.declared.Desk.{Desk}
use Rattle.desk.specs.declared.Called.{Called}
use Rattle.desk.specs.declared.change.Change.{Change}
use Rattle.desk.specs.declared.record.Slot.{Slot}
use Rattle.desk.proofs.Moved.{moved_none}
use Rattle.judge.proofs.Laid.{laid_join, laid_nil}
use Rattle.order_text.specs.Text.{hex_text, text_in}
use Rattle.order_run.specs.Turns.{is_entry, called, lent_back, line_text, Said, last, failed, sending, request, after_receive, after_all, Tells, quiet, Turned}
use Rattle.order_run.specs.declared.turns.Turn.{Turn}
use Rattle.order_run.proofs.Printing.{length_line, all_text, take_least}
use Rattle.order_run.specs.declared.turns.Phase.{Phase}
use Rattle.order_run.specs.declared.turns.Phase.TheVariants.{Reply, Over}

pub turned_as : {x y : Said} {at : ℕ} {r : Turn} {o o' : List ℕ} → x ≡ y → Turned x at r o o' → Turned y at r o o'
turned_as {at = at} {r = r} {o = o} {o' = o'} e T = subst (λ (s : Said). Turned s at r o o') e T

-- ---- the lines that are printed

abbrev turn : Desk → Phase → ℕ → Turn
turn d p e = record { desk = d; phase = p; end = e }

pub turned_at : {x : Said} {at e f : ℕ} {p q : Phase} {d d' : Desk} {o o₁ o₂ : List ℕ} → d ≡ d' → p ≡ q → e ≡ f → o₁ ≡ o₂
    → Turned x at (turn d' q f) o o₂ → Turned x at (turn d p e) o o₁
turned_at {x} {at} {o = o} a b c g T = subst (λ (r : Turn × List ℕ). Turned x at r.0 o r.1) (λ i. (turn (sym a i) (sym b i) (sym c i), sym g i)) T

pub last_turned : (d : Desk) (s o o' : List ℕ) (at e : ℕ) → Good d → at + 2 * length s + 1 ≤ length o → e ≡ at + length (line_text s) → o' ≡ laid o at (line_text s)
    → Turned (last d s) at (turn d Over e) o o'
last_turned d s o o' at e G h p q =
    record { told = ap (turn d Over) p; printed = q; good = G; fits = omega (arith, length_line s); short = λ n. absurd (true≢false n) }

pub request_turned : (d : Desk) (r : Called) (f o o' : List ℕ) (at e : ℕ) → GivesLent d sending r (replicate 16 0) f → length f ≡ 16
    → at + 33 ≤ length o → e ≡ at + length (line_text f) → o' ≡ laid o at (line_text f) → Turned (request d) at (turn r.desk Reply e) o o'
unfolding request called lent_back
request_turned d r f o o' at e G l h p q =
    let n : length (line_text (lent_back d sending (replicate 16 0))) ≡ 33 = omega (arith, ap (λ (s : List ℕ). length (line_text s)) G.lent, length_line f, l) in
    record {
      told =
          ap (λ (c : Called). turn c.desk Reply e) G.told
          ∙ ap (turn (called d sending).desk Reply) (p ∙ ap (λ (s : List ℕ). at + length (line_text s)) G.lent);
      printed = q ∙ ap (λ (s : List ℕ). laid o at (line_text s)) G.lent;
      good = G.good;
      fits = omega (arith, n);
      short = λ m. omega (arith, n);
    }

two : length (hex_text (0 ∷ [])) ≡ 2
unfolding hex_text
two = refl

zero_first : (s : List ℕ) → hex_text (0 ∷ []) ++ line_text s ≡ line_text (0 ∷ s)
unfolding hex_text line_text
zero_first s = refl

-- 00, and the payload behind it
pub done_turned : (d : Desk) (k o o₁ o₂ : List ℕ) (at from e p stored : ℕ) → Good d → at + 2 * length k + 3 ≤ length o
    → stored ≡ min p (length k) → from ≡ at + length (text_in (length o - at) (0 ∷ [])) → o₁ ≡ laid o at (text_in (length o - at) (0 ∷ []))
    → e ≡ from + length (line_text (take stored k)) → o₂ ≡ laid o₁ from (line_text (take stored k))
    → Turned (last d (0 ∷ take p k)) at (turn d Over e) o o₂
done_turned d k o o₁ o₂ at from e p stored G h m f q g r =
    let z : text_in (length o - at) (0 ∷ []) ≡ hex_text (0 ∷ []) = all_text (length o - at) (0 ∷ []) (omega arith) in
    let t : take stored k ≡ take p k = ap (λ (n : ℕ). take n k) m ∙ take_least p k in
    let w : from ≡ at + length (hex_text (0 ∷ [])) = f ∙ ap (λ (s : List ℕ). at + length s) z in
    let u : o₁ ≡ laid o at (hex_text (0 ∷ [])) = q ∙ ap (laid o at) z in
    last_turned d (0 ∷ take p k) o o₂ at e G (omega (arith, length-take p k))
    (g ∙ ap (λ (s : List ℕ). from + length (line_text s)) t ∙ joined_length k p at from w)
    (r ∙ ap (λ (s : List ℕ). laid o₁ from (line_text s)) t ∙ ap (λ (x : List ℕ). laid x from (line_text (take p k))) u
    ∙ ap (λ (n : ℕ). laid (laid o at (hex_text (0 ∷ []))) n (line_text (take p k))) w
    ∙ joined o k p at h)
  where
    joined_length : (k : List ℕ) (p at from : ℕ) → from ≡ at + length (hex_text (0 ∷ []))
        → from + length (line_text (take p k)) ≡ at + length (line_text (0 ∷ take p k))
    joined_length k p at from w = omega (arith, w, two, length_line (take p k), length_line (0 ∷ take p k))

    joined : (o k : List ℕ) (p at : ℕ) → at + 2 * length k + 3 ≤ length o
        → laid (laid o at (hex_text (0 ∷ []))) (at + length (hex_text (0 ∷ []))) (line_text (take p k)) ≡ laid o at (line_text (0 ∷ take p k))
    joined o k p at h =
        laid_join o at (hex_text (0 ∷ [])) (line_text (take p k)) (omega (arith, two, length_line (take p k), length-take p k)) ∙ ap (laid o at) (zero_first (take p k))

-- behind 00 there is room for the payload
pub done_room : (k o : List ℕ) (at from stored n : ℕ) → at + 2 * length k + 3 ≤ length o
    → from ≡ at + length (text_in (length o - at) (0 ∷ [])) → n ≡ length o → from + 2 * length (take stored k) + 1 ≤ n
done_room k o at from stored n h f l =
    let z = all_text (length o - at) (0 ∷ []) (omega arith) in
    omega (arith, f ∙ ap (λ (s : List ℕ). at + length s) z, two, l, length-take stored k)

-- nothing is printed
abbrev quietly : Desk → Said
quietly d = record { desk = d; phase = Reply; text = [] }

pub still_turned : (d : Desk) (o : List ℕ) (at : ℕ) → Good d → at ≤ length o → Turned (quietly d) at (turn d Reply at) o o
still_turned d o at G h =
    record { told = ap (turn d Reply) (omega arith); printed = laid_nil o at; good = G; fits = omega arith; short = λ n. omega arith }

-- ---- the numbers of the answers

module _ (r : Called) (k : List ℕ) where
  pub number_0 : r.answer.number ≡ 0 → last r.desk (0 ∷ take r.answer.length k) ≡ after_receive r k
  unfolding after_receive
  number_0 e = sym (rw (eq-eqb r.answer.number 0 e))

  pub number_1 : (r.answer.number ≡ 0 → ⊥) → r.answer.number ≡ 1 → request r.desk ≡ after_receive r k
  unfolding after_receive
  number_1 z e = sym (rw (ne_eqb r.answer.number 0 z, eq-eqb r.answer.number 1 e))

  pub number_2 : (r.answer.number ≡ 0 → ⊥) → (r.answer.number ≡ 1 → ⊥) → r.answer.number ≡ 2
      → quietly r.desk ≡ after_receive r k
  unfolding after_receive
  number_2 z y e = sym (rw (ne_eqb r.answer.number 0 z, ne_eqb r.answer.number 1 y, eq-eqb r.answer.number 2 e))

  pub number_last : (r.answer.number ≡ 0 → ⊥) → (r.answer.number ≡ 1 → ⊥) → (r.answer.number ≡ 2 → ⊥)
      → last r.desk (r.answer.number ∷ []) ≡ after_receive r k
  unfolding after_receive
  number_last z y x = sym (rw (ne_eqb r.answer.number 0 z, ne_eqb r.answer.number 1 y, ne_eqb r.answer.number 2 x))

module _ {x r : Called} (e : r ≡ x) where
  pub good_called : Good x.desk → Good r.desk
  good_called G = subst (λ (y : Called). Good y.desk) (sym e) G

  pub said_called : (k : List ℕ) → after_receive r k ≡ after_receive x k
  said_called k = ap (λ (y : Called). after_receive y k) e

-- the laws by which an answer is printed
pub ruleset answers = (turned_as, still_turned, number_0, number_1, number_2, number_last, good_called, said_called)

-- ---- a reply that is still due, where one slot is all that changes: the record with that slot

quiet_is : (c : Change) → quiet c ≡ true → (c.last ≤ c.first) × (c.answer.number ≡ 2)
quiet_is c q =
    by (eqb c.answer.number 2)
    (λ n. (leb-true _ _ (rw n at q), eqb-true _ _ n))
    (λ n. absurd (false≢true (rw n at q)))

slot_set : (d : Desk) (c : Change) → Within c → quiet c ≡ true
    → record { line = set d.line c.at c.slot; waiting = c.waiting; counter = c.counter } ≡ changed_by c d
slot_set d c W q =
    let f : c.last ≡ c.first = omega (arith, W.ordered, (quiet_is c q).0) in
    let m : d.line ≡ moved d.line c.first c.last = sym (ap (moved d.line c.first) f ∙ moved_none d.line c.first) in
    ap (λ (l : List Slot). record { line = set l c.at c.slot; waiting = c.waiting; counter = c.counter }) m

pub quiet_turned : {d : Desk} {x : Said} {c : Change} {k : List ℕ} (o : List ℕ) (at : ℕ) → Tells d x (Ok c) k → quiet c ≡ true → at ≤ length o
    → Turned x at (turn (record { line = set d.line c.at c.slot; waiting = c.waiting; counter = c.counter }) Reply at) o o
quiet_turned {d} {x} {c} {k} o at S q h =
    let n = (quiet_is c q).1 in
    let s = number_2 (called_by (Ok c) d) k (λ e. omega (arith, n, e)) (λ e. omega (arith, n, e)) n ∙ S.told in
    turned_as s
    (subst (λ (e : Desk). Turned (quietly (changed_by c d)) at (turn e Reply at) o o) (sym (slot_set d c S.within q)) (still_turned (changed_by c d) o at S.good h))

module _ (p : Phase) (d : Desk) where
  pub all_none : is_entry p ≡ true → failed d ≡ after_all p d
  unfolding after_all
  all_none e = sym (rw e)

  pub all_left : (r : Called) → is_entry p ≡ false → Gives d (leave 0) r → last r.desk (r.answer.number ∷ []) ≡ after_all p d
  unfolding after_all called
  all_left r e G = ap (λ (c : Called). last c.desk (c.answer.number ∷ [])) G.told ∙ sym (rw e)
