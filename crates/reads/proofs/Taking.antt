-- The loop of `read_list`: how many indices come, and that laying a list is laying its first word, and then the others behind it. Assumes
-- nothing.
use mathlib.Core.Path.{◌≡◌, refl, sym, ap, ◌∙◌}
use mathlib.Core.List.{List, [], ◌∷◌}
use native.Mathlib.Omega.{arith}
use Prim.Native.Nat.{ℕ, suc, ◌+◌, ◌-◌, ◌*◌, ◌/◌, ◌<◌, ◌≤◌, min}
use lib.Dec.{ltb}
use lib.ListN.{length, set, length-set}
use lib.Seq.{paste, paste-zero, set_out}
use borrow.Author.Tests.{ltb-true, ltb-false}
use Rattle.wire.proofs.Store.{paste_turn, paste_join}
use Rattle.wire.specs.Store.{laid}
use Rattle.wire.proofs.Cases.{by}
use Rattle.reads.specs.List.{words, odd, listed}

first_laid : (d : List ℕ) (at w : ℕ) (ws : List ℕ) → at < length d → paste d at (w ∷ ws) 1 ≡ set d at w
first_laid d at w ws h =
    sym (ap (λ (l : List ℕ). set l at w) (paste-zero d at (w ∷ ws)) ∙ paste_turn d at (w ∷ ws) 0 at (omega arith) h (omega arith))

laid_none : (d : List ℕ) (at : ℕ) (c : List ℕ) → min (length c) (length d - at) ≡ 0 → laid d at c ≡ d
laid_none d at c none = ap (paste d at c) none ∙ sym (paste-zero d at c)

laid_next : (d : List ℕ) (at w : ℕ) (ws : List ℕ) → laid d at (w ∷ ws) ≡ laid (set d at w) (at + 1) ws
laid_next d at w ws =
    by (ltb at (length d))
    (λ y. let h : at < length d = ltb-true at (length d) y in
    let m : ℕ = min (length ws) (length (set d at w) - (at + 1)) in
    let e : min (suc (length ws)) (length d - at) ≡ 1 + m = omega (arith, length-set d at w) in
    ap (paste d at (w ∷ ws)) e
    ∙ sym (paste_join d at (w ∷ ws) 1 m (omega arith) (omega arith))
    ∙ ap (λ (l : List ℕ). paste l (at + 1) ws m) (first_laid d at w ws h))
    (λ n. let h : length d ≤ at = ltb-false at (length d) n in
    laid_none d at (w ∷ ws) (omega arith)
    ∙ sym (laid_none (set d at w) (at + 1) ws (omega (arith, length-set d at w)) ∙ set_out d at w h))

-- a turn: the first of what is to come is set, and what comes after it lies behind
pub one_turn : (items : List ℕ) (count index : ℕ) (to_come after whole : List ℕ) → to_come ≡ index ∷ after
    → laid items count to_come ≡ whole → laid (set items count index) (count + 1) after ≡ whole
one_turn items count index to_come after whole first all =
    sym (laid_next items count index after) ∙ ap (laid items count) (sym first) ∙ all

pub laid_all : (d : List ℕ) (at : ℕ) → laid d at [] ≡ d
laid_all d at = laid_none d at [] (omega arith)

-- ---- how many words there are

pub words_half : (s : List ℕ) → length (words s) ≡ length s / 2
words_half [] = refl
words_half (lo ∷ []) = refl
words_half (lo ∷ hi ∷ s) = omega (arith, words_half s)

pub listed_fit : (s : List ℕ) → 2 * length (listed s) ≤ length s
listed_fit s = by (odd s) (λ o. rw o (omega arith)) (λ e. rw e (omega (arith, words_half s)))
