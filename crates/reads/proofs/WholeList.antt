-- The list read item by item is the payload's words in order. Assumes nothing.
use mathlib.Core.Path.{◌≡◌, refl, sym, ap, ◌∙◌}
use Rattle.std.specs.Prelude.{Result, Ok, Err, Some}
use mathlib.Core.Bool.{false}
use mathlib.Core.List.{List, [], ◌∷◌}
use Prim.Native.Nat.{ℕ, zero, suc, ◌+◌, ◌-◌, ◌*◌, ◌%◌, ◌<◌, ◌≤◌}
use native.Mathlib.Numerals.{add-one}
use native.Mathlib.Omega.{arith}
use borrow.Author.Tests.{eq-eqb, ne_eqb, lt-ltb, le-ltb, ltb-true, ltb-false}
use lib.Dec.{eqb, ltb}
use lib.ListN.{length, drop, length-drop}
use lib.Seq.{drop-cons}
use Rattle.wire.specs.Bytes.{bytes, value, byte_at, word_at}
use Rattle.wire.proofs.Cases.{by}
use Rattle.wire.specs.declared.refusal.Refusal.{Refusal}
use Rattle.wire.specs.declared.refusal.Refusal.TheVariants.{Undecodable}
use Rattle.reads.specs.List.{item_at, Listed, going_on, read_from, words, in_bytes, AllWords}
use Rattle.reads.specs.declared.list.Item.{Item}

-- of an odd payload every read is refused
pub odd_refused : (s : List ℕ) (at : ℕ) → length s % 2 ≡ 1 → item_at s at ≡ Err Undecodable
unfolding item_at
odd_refused s at h = simp (eq-eqb _ _ h)

pub words_none : (s : List ℕ) → length s < 2 → words s ≡ []
words_none [] h = refl
words_none (lo ∷ []) h = refl
words_none (lo ∷ hi ∷ s) h = absurd (omega arith)

two_bytes : (s : List ℕ) (at : ℕ) → at + 2 ≤ length s → drop at s ≡ byte_at s at ∷ byte_at s (at + 1) ∷ drop (at + 2) s
two_bytes s at h =
    let e : at + 2 ≡ suc (suc at) = omega arith in
    rw (e, add-one at, drop-cons s at 0 (omega arith), drop-cons s (suc at) 0 (omega arith))

pub words_more : (s : List ℕ) (at : ℕ) → at + 2 ≤ length s → words (drop at s) ≡ word_at s at ∷ words (drop (at + 2) s)
words_more s at h = ap words (two_bytes s at h)

module _ (s : List ℕ) (even : length s % 2 ≡ 0) where
  not_odd : eqb (length s % 2) 1 ≡ false
  not_odd = ne_eqb (length s % 2) 1 (λ o. omega arith)

  item_none : (at : ℕ) → length s - at < 2 → item_at s at ≡ Err Undecodable
  unfolding item_at
  item_none at h = simp (not_odd, lt-ltb _ _ h)

  item_more : (at : ℕ) → 2 ≤ length s - at → item_at s at ≡ Ok (record { index = word_at s at; next = at + 2 })
  unfolding item_at
  item_more at h = simp (not_odd, le-ltb _ _ h)

  -- reading from a position on, with turns enough, gives the words from there on, and ends with 20
  pub reads_words : (turns at : ℕ) → length s - at < 2 * turns → read_from turns s at ≡ (words (drop at s), Some Undecodable)
  unfolding read_from
  reads_words zero at h = absurd (omega arith)
  reads_words (suc turns) at h =
      by (ltb (length s - at) 2)
      (λ e. let l : length s - at < 2 = ltb-true _ _ e in
      ap (λ (i : Result Item Refusal). going_on i (read_from turns s)) (item_none at l)
      ∙ ap (λ (ws : List ℕ). (ws, Some Undecodable)) (sym (words_none (drop at s) (rw (length-drop at s) l))))
      (λ e. let l : 2 ≤ length s - at = ltb-false _ _ e in
      ap (λ (i : Result Item Refusal). going_on i (read_from turns s)) (item_more at l)
      ∙ ap (λ (r : Listed). (word_at s at ∷ r.0, r.1)) (reads_words turns (at + 2) (omega arith))
      ∙ ap (λ (ws : List ℕ). (ws, Some Undecodable)) (sym (words_more s at (omega arith))))

  -- from the start: all of the payload's words
  pub reads_all : (turns : ℕ) → length s < 2 * turns → read_from turns s 0 ≡ (words s, Some Undecodable)
  reads_all turns h = reads_words turns 0 (omega arith)

-- ---- a list that was written as words

pub word_back : (x : ℕ) → x < 65536 → value (bytes 2 x) ≡ x
word_back x h = omega arith

words_back : (ws : List ℕ) → AllWords ws → words (in_bytes ws) ≡ ws
words_back [] h = refl
words_back (w ∷ ws) h = rw (word_back w (h 0), words_back ws (λ i. h (suc i)))

length_in_bytes : (ws : List ℕ) → length (in_bytes ws) ≡ 2 * length ws
length_in_bytes [] = refl
length_in_bytes (w ∷ ws) = omega (arith, length_in_bytes ws)

-- it is read as those words, and ends with 20
pub list_back : (ws : List ℕ) (turns : ℕ) → AllWords ws → length ws < turns → read_from turns (in_bytes ws) 0 ≡ (ws, Some Undecodable)
list_back ws turns h l =
    let long : length (in_bytes ws) ≡ 2 * length ws = length_in_bytes ws in
    reads_all (in_bytes ws) (omega arith) turns (omega arith)
    ∙ ap (λ (l : List ℕ). (l, Some Undecodable)) (words_back ws h)
