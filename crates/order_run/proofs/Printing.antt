-- Laws of printing: a line's text, laid where there is room. Assumes nothing.
use Prim.Native.Nat.{ℕ, suc, ◌+◌, ◌-◌, ◌*◌, ◌/◌, ◌<◌, ◌≤◌, min}
use mathlib.Core.Path.{◌≡◌, sym, ap, ◌∙◌}
use mathlib.Core.List.{List, [], ◌∷◌, ◌++◌}
use native.Mathlib.Omega.{arith}
use native.Mathlib.Numerals.{add-one}
use lib.Dec.{ltb}
use lib.ListN.{length, take, drop, set, length-append}
use lib.Seq.{paste, set_split, append_snoc, take_all, take-length}
use borrow.Author.Tests.{ltb-true, ltb-false}
use Rattle.wire.specs.Store.{laid}
use Rattle.wire.proofs.Cases.{by}
use Rattle.judge.proofs.Laid.{laid_join, laid_length}
use Rattle.order_text.specs.Text.{hex_text, text_in}
use Rattle.order_text.proofs.Text.{length-text}
use Rattle.order_run.specs.Turns.{line_text}

pub length_line : (s : List ℕ) → length (line_text s) ≡ 2 * length s + 1
unfolding line_text
length_line s = length-append (hex_text s) (10 ∷ []) ∙ ap (λ (n : ℕ). n + 1) (length-text s)

-- where all bytes have room, their text is the whole text
pub all_text : (n : ℕ) (s : List ℕ) → 2 * length s ≤ n → text_in n s ≡ hex_text s
unfolding text_in
all_text n s h = ap hex_text (take_all (n / 2) s (omega arith))

set_laid : (d : List ℕ) (k x : ℕ) → k < length d → set d k x ≡ laid d k (x ∷ [])
set_laid d k x h =
    let m : 1 ≡ min (length (x ∷ [])) (length d - k) = omega arith in
    set_split d k x h
    ∙ sym (append_snoc (take k d) x (drop (suc k) d))
    ∙ ap (λ (n : ℕ). take k d ++ (x ∷ []) ++ drop n d) (sym (add-one k))
    ∙ ap (paste d k (x ∷ [])) m

module _ (o s : List ℕ) (at r : ℕ) (o' : List ℕ) (h : at + 2 * length s + 1 ≤ length o)
    (p : r ≡ at + length (text_in (length o - at) s)) (q : o' ≡ laid o at (text_in (length o - at) s)) where
  t : text_in (length o - at) s ≡ hex_text s
  t = all_text (length o - at) s (omega arith)

  place : r ≡ at + length (hex_text s)
  place = p ∙ ap (λ (x : List ℕ). at + length x) t

  kept : length o' ≡ length o
  kept = ap length (q ∙ ap (laid o at) t) ∙ laid_length o at (hex_text s) (omega (arith, length-text s))

  -- there is room for the line's end
  pub line_room : r < length o'
  line_room = omega (arith, place, kept, length-text s)

  -- the text of the bytes and a line's end behind it are the line
  pub line_laid : (r + 1 ≡ at + length (line_text s)) × (set o' r 10 ≡ laid o at (line_text s))
  unfolding line_text
  line_laid =
      let n : length (hex_text s) ≡ 2 * length s = length-text s in
      let e : o' ≡ laid o at (hex_text s) = q ∙ ap (laid o at) t in (
        omega (arith, place, n, length_line s),
        set_laid o' r 10 line_room
            ∙ ap (λ (x : List ℕ). laid x r (10 ∷ [])) e
            ∙ ap (λ (x : ℕ). laid (laid o at (hex_text s)) x (10 ∷ [])) place
            ∙ laid_join o at (hex_text s) (10 ∷ []) (omega arith),
      )

pub take_least : (p : ℕ) (k : List ℕ) → take (min p (length k)) k ≡ take p k
take_least p k =
    by (ltb p (length k))
    (λ e. let l : p < length k = ltb-true p (length k) e in
    let m : min p (length k) ≡ p = omega arith in ap (λ (n : ℕ). take n k) m)
    (λ e. let l : length k ≤ p = ltb-false p (length k) e in
    let m : min p (length k) ≡ length k = omega arith in ap (λ (n : ℕ). take n k) m ∙ take-length k ∙ sym (take_all p k l))
