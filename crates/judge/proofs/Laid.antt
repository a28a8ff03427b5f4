-- Laws of `laid`: chunks that fit, laid one after another, are their join laid at once. Assumes nothing.
use Prim.Native.Nat.{ℕ, ◌+◌, ◌-◌, ◌≤◌, min}
use mathlib.Core.List.{List, [], ◌++◌, append_assoc}
use mathlib.Core.Path.{◌≡◌, sym, ap, ◌∙◌}
use native.Mathlib.Nat.{zero-add}
use native.Mathlib.Omega.{arith}
use lib.ListN.{length, take, drop, length-append, length-drop}
use lib.Seq.{paste, paste-zero, take-length, length-take-le, take_at, drop_at, drop-drop}
use Rattle.wire.specs.Store.{laid}
use Rattle.judge.specs.Replies.{holding}

pub laid_nil : (d : List ℕ) (at : ℕ) → d ≡ laid d at []
laid_nil d at =
    let z : min (length {A = ℕ} []) (length d - at) ≡ 0 = omega arith in
    paste-zero d at [] ∙ ap (paste d at []) (sym z)

-- from the start of a buffer: the sentence's own words
pub laid_front : (d p : List ℕ) → laid d 0 p ≡ holding p d
laid_front d p =
    let m : min (length p) (length d - 0) ≡ min (length p) (length d) = omega arith in
    rw (m, zero-add (min (length p) (length d)))

-- d with the whole of c written over it
abbrev over : List ℕ → ℕ → List ℕ → List ℕ
over d at c = (take at d ++ c) ++ drop (at + length c) d

module _ (d : List ℕ) (at : ℕ) (a : List ℕ) (h : at + length a ≤ length d) where
  laid_over : laid d at a ≡ over d at a
  laid_over = let e : min (length a) (length d - at) ≡ length a = omega arith in rw (e, take-length a)

  over_head : length (take at d ++ a) ≡ at + length a
  over_head = simp (length-append, length-take-le at d (omega arith))

  over_length : length (over d at a) ≡ length d
  over_length = simp (length-append, length-take-le at d (omega arith), length-drop) (omega arith)

  pub laid_length : length (laid d at a) ≡ length d
  laid_length = ap length laid_over ∙ over_length

over_join : (d : List ℕ) (at : ℕ) (a b : List ℕ) → at + length a + length b ≤ length d
    → over (over d at a) (at + length a) b ≡ over d at (a ++ b)
over_join d at a b h =
    let n = at + length a in
    let p = take at d ++ a in
    let hp : length p ≡ n = over_head d at a (omega arith) in
    let front : take n (over d at a) ≡ p = take_at p (drop n d) n hp in
    let back : drop (n + length b) (over d at a) ≡ drop (n + length b) d =
    sym (drop-drop (length b) n (over d at a)) ∙ ap (drop (length b)) (drop_at p (drop n d) n hp) ∙ drop-drop (length b) n d in
    let len : at + length (a ++ b) ≡ n + length b = omega (arith, length-append a b) in
    rw (front, back, len) (ap (λ (l : List ℕ). l ++ drop (n + length b) d) (append_assoc (take at d) a b))

pub laid_join : (d : List ℕ) (at : ℕ) (a b : List ℕ) → at + length a + length b ≤ length d
    → laid (laid d at a) (at + length a) b ≡ laid d at (a ++ b)
laid_join d at a b h =
    let ha : at + length a ≤ length d = omega arith in
    let l : length (over d at a) ≡ length d = over_length d at a ha in
    ap (λ (x : List ℕ). laid x (at + length a) b) (laid_over d at a ha)
    ∙ laid_over (over d at a) (at + length a) b (omega arith)
    ∙ over_join d at a b h
    ∙ sym (laid_over d at (a ++ b) (omega (arith, length-append a b)))
