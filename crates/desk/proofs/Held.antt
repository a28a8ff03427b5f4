-- Laws of the record: the place of a seat, and the records that the changes make. Assumes nothing.
use mathlib.Core.Path.{◌≡◌, refl, sym, ap, ◌∙◌}
use mathlib.Core.Bool.{Bool, true, false, not, cond}
use mathlib.Core.List.{List, [], ◌∷◌, ◌++◌, map, tail, append_assoc, map-append}
use Prim.Native.Nat.{ℕ, zero, suc, ◌+◌, ◌-◌, ◌<◌, ◌≤◌, min}
use native.Mathlib.Omega.{arith}
use native.Mathlib.Nat.{not-suc-le-zero, le_of_suc-le-suc}
use borrow.Author.Tests.{lt-ltb, le-ltb, ltb-true, ltb-false}
use lib.Dec.{eqb, ltb, leb-suc-suc}
use lib.ListN.{length, take, set, get_or, replicate, length-append, length-map, length-take, length-replicate, replicate-append-replicate}
use lib.Seq.{set_at, set-append_left, append_snoc, take_at, get_or-take, length-take-le}
use Rattle.std.specs.Prelude.{Option, Some, None}
use Rattle.std.specs.Option.{is_some}
use Rattle.std.specs.List.{position, position_or_len}
use Rattle.wire.specs.Words.{pick, either}
use Rattle.wire.proofs.Cases.{by}
use Rattle.line.specs.Line.{Line, seated, vacate}
use Rattle.line.proofs.Room.{line_room}
use Rattle.transfer.specs.declared.Transfer.{Transfer}
use Rattle.desk.specs.declared.record.Slot.{Slot}
use Rattle.desk.specs.declared.Desk.{Desk}
use Rattle.desk.specs.Record.{Queue, lined, pair_of, slot_of, blank_of, view_of, desk_of, Good, is_at, place_in, place_of}
use Rattle.desk.specs.Change.{moved}
use Rattle.desk.proofs.Moved.{gone, length_moved, moved_front, moved_all, get_d_map}

-- ---- the records that changes make

-- the record with other slots
abbrev pub held : List Slot → ℕ → Desk → Desk
held l n d = record { line = l; waiting = n; counter = d.counter }

abbrev pub closed_at : Desk → ℕ → Desk
closed_at d n = held (set (moved d.line n (d.waiting - 1)) (d.waiting - 1) blank_of) (d.waiting - 1) d

abbrev pub with_head : Desk → ℕ → Transfer → Desk
with_head d s t = held (set d.line 0 (slot_of (s, t))) d.waiting d

abbrev pub joined_by : Desk → ℕ → Transfer → Desk
joined_by d s t = held (set d.line d.waiting (slot_of (s, t))) (d.waiting + 1) d

-- ---- the place of a seat in a line

place_seated : (s : ℕ) (l : Line Transfer) → ltb (place_in s l) (length l) ≡ seated s l
unfolding place_in seated
place_seated s [] = refl
place_seated s (q ∷ l) = go (eqb s q.0) (place_seated s l)
  where
    go : (b : Bool) → ltb (place_in s l) (length l) ≡ seated s l → ltb (pick b 0 (suc (place_in s l))) (suc (length l)) ≡ either b (seated s l)
    go true h = lt-ltb 0 (suc (length l)) (omega arith)
    go false h = leb-suc-suc (suc (place_in s l)) (length l) ∙ h

-- the seat at a place, and no seat
pub record Placed (s : ℕ) (l : Line Transfer) (n : ℕ) : Type 0 where
  pub taken : seated s l ≡ true
  pub at : n ≡ place_in s l
  pub within : n < length l

is_some_place_of : (s : ℕ) (l : Line Transfer) → is_some (place_of s l) ≡ seated s l
is_some_place_of s l = go (seated s l)
  where
    go : (b : Bool) → is_some (pick b (Some (place_in s l)) None) ≡ b
    go true = refl
    go false = refl

pub seated_is : (s : ℕ) (l : Line Transfer) {o : Option ℕ} {b c : Bool} → o ≡ place_of s l → c ≡ is_some o → c ≡ b → seated s l ≡ b
seated_is s l e f g = sym (is_some_place_of s l) ∙ ap is_some (sym e) ∙ sym f ∙ g

pub placed : (s : ℕ) (l : Line Transfer) (n : ℕ) → Some n ≡ place_of s l → Placed s l n
placed s l n e = go (seated s l) refl e
  where
    go : (b : Bool) → seated s l ≡ b → Some n ≡ pick b (Some (place_in s l)) None → Placed s l n
    go true t h =
        let at : n ≡ place_in s l = cc in
        let w = ltb-true (place_in s l) (length l) (place_seated s l ∙ t) in
        record { taken = t; at = at; within = omega arith }
    go false t h = absurd cc

pub unplaced : (s : ℕ) (l : Line Transfer) → None ≡ place_of s l → seated s l ≡ false
unplaced s l e = sym (is_some_place_of s l) ∙ ap is_some (sym e)

-- the first of all slots that is the seat's, where it is in the line
abbrev pub in_line : ℕ → Option ℕ → Option ℕ
in_line n None = None
in_line n (Some i) = pick (ltb i n) (Some i) None

first_of : (s : ℕ) (l : List Slot) (n : ℕ) → place_in s (map pair_of (take n l)) ≡ min n (position_or_len (is_at s) l)
unfolding place_in
first_of s [] zero = refl
first_of s [] (suc n) = omega arith
first_of s (x ∷ l) zero = omega arith
first_of s (x ∷ l) (suc n) = go (is_at s x) (place_in s (map pair_of (take n l))) (position_or_len (is_at s) l) (first_of s l n)
  where
    go : (b : Bool) (r m : ℕ) → r ≡ min n m → pick b 0 (suc r) ≡ min (suc n) (cond (not b) (1 + m) 0)
    go true r m h = omega arith
    go false r m h = omega arith

found_below : (n m p : ℕ) → in_line n (cond (ltb p m) (Some p) None) ≡ pick (ltb (min n p) (min n m)) (Some (min n p)) None
found_below n m p =
    by (ltb p m)
    (λ e. by (ltb p n)
    (λ f. let h = ltb-true p m e in let g = ltb-true p n f in
    let q : min n p ≡ p = omega arith in
    rw (e, f, q, lt-ltb p (min n m) (omega arith)) refl)
    (λ f. let g = ltb-false p n f in
    rw (e, f, le-ltb (min n p) (min n m) (omega arith)) refl))
    (λ e. let h = ltb-false p m e in rw (e, le-ltb (min n p) (min n m) (omega arith)) refl)

pub place_in_line : (s : ℕ) (l : List Slot) (n : ℕ) → in_line n (position (is_at s) l) ≡ place_of s (map pair_of (take n l))
place_in_line s l n =
    let long : length (map pair_of (take n l)) ≡ min n (length l) = length-map (take n l) pair_of ∙ length-take n l in
    rw (← place_seated s (map pair_of (take n l)), first_of s l n, long) (found_below n (length l) (position_or_len (is_at s) l))

pub gone_place : (s : ℕ) (l : Line Transfer) → gone (place_in s l) l ≡ vacate s l
unfolding place_in gone vacate
gone_place s [] = refl
gone_place s (q ∷ l) = go (eqb s q.0) (gone_place s l)
  where
    go : (b : Bool) → gone (place_in s l) l ≡ vacate s l → gone (pick b 0 (suc (place_in s l))) (q ∷ l) ≡ pick b l (q ∷ vacate s l)
    go true h = refl
    go false h = ap {B = Line Transfer} (λ r. q ∷ r) h

-- a seat is the head's where its place is 0
pub place-head : (s : ℕ) (q : ℕ × Transfer) (l : Line Transfer) → place_in s (q ∷ l) ≡ 0 → eqb s q.0 ≡ true
unfolding place_in
place-head s q l h = go (eqb s q.0) h
  where
    go : (b : Bool) → pick b 0 (suc (place_in s l)) ≡ 0 → b ≡ true
    go true e = refl
    go false e = absurd (omega arith)

pub place_later : (s : ℕ) (q : ℕ × Transfer) (l : Line Transfer) → 0 < place_in s (q ∷ l) → eqb s q.0 ≡ false
unfolding place_in
place_later s q l h = go (eqb s q.0) h
  where
    go : (b : Bool) → 0 < pick b 0 (suc (place_in s l)) → b ≡ false
    go true e = absurd (omega arith)
    go false e = refl

-- ---- a list filled up to m with blanks

module _ {A : Type 0} where
  pub length_gone : (n : ℕ) (l : List A) → n < length l → length (gone n l) ≡ length l - 1
  unfolding gone
  length_gone n [] h = absurd (not-suc-le-zero h)
  length_gone zero (x ∷ l) h = omega arith
  length_gone (suc n) (x ∷ l) h = omega (arith, length_gone n l (le_of_suc-le-suc h))

  gone_first : (l : List A) → gone 0 l ≡ tail l
  unfolding gone
  gone_first [] = refl
  gone_first (x ∷ l) = refl

  gone_map : {B : Type 0} (f : A → B) (n : ℕ) (l : List A) → gone n (map f l) ≡ map f (gone n l)
  unfolding gone
  gone_map f n [] = refl
  gone_map f zero (x ∷ l) = refl
  gone_map {B} f (suc n) (x ∷ l) = ap {B = List B} (λ r. f x ∷ r) (gone_map f n l)

  -- one more in front of the blanks, and one taken out
  fill_join : (l : List A) (n m : ℕ) (e x : A) → length l ≡ n → n < m
      → set (l ++ replicate (m - n) e) n x ≡ (l ++ (x ∷ [])) ++ replicate (m - (n + 1)) e
  fill_join l n m e x w h =
      let q : m - n ≡ suc (m - (n + 1)) = omega arith in
      rw q (set_at l e (replicate (m - (n + 1)) e) x n w ∙ sym (append_snoc l x (replicate (m - (n + 1)) e)))

  fill_close : (l : List A) (k n m : ℕ) (e : A) → length l ≡ n → k < n → n ≤ m
      → set (moved (l ++ replicate (m - n) e) k (n - 1)) (n - 1) e ≡ gone k l ++ replicate (m - (n - 1)) e
  fill_close l k n m e w h g =
      let r = replicate (m - n) e in
      let q : m - (n - 1) ≡ 1 + (m - n) = omega arith in
      let i : n - 1 < length l = omega arith in
      ap (λ (x : List A). set x (n - 1) e) (moved_front l r k (n - 1) (omega arith) i)
      ∙ set-append_left (moved l k (n - 1)) r (n - 1) e (rw (length_moved l k (n - 1)) i)
      ∙ ap (λ (x : List A). x ++ r) (moved_all l k (n - 1) e (omega arith) (omega arith))
      ∙ append_assoc (gone k l) (e ∷ []) r
      ∙ rw q (ap (λ (x : List A). gone k l ++ x) (replicate-append-replicate 1 (m - n) e))

-- ---- these records, at the record of a queue

held_is : {l m : List Slot} {n o : ℕ} (d : Desk) → l ≡ m → n ≡ o → held l n d ≡ held m o d
held_is d e f = rw (e, f)

join_desk : (q : Queue) (s : ℕ) (t : Transfer) → length q.line < 8 → joined_by (desk_of q) s t ≡ desk_of (lined (q.line ++ ((s, t) ∷ [])) q)
unfolding desk_of
join_desk q s t h =
    let l = q.line in
    let p : ℕ × Transfer = (s, t) in
    let n : length (l ++ (p ∷ [])) ≡ length l + 1 = length-append l (p ∷ []) in
    held_is (desk_of q)
    (rw (n, map-append) (fill_join (map slot_of l) (length l) 8 blank_of (slot_of p) (length-map l slot_of) h))
    (sym n)

close_desk : (q : Queue) (n : ℕ) → n < length q.line → length q.line ≤ 8 → closed_at (desk_of q) n ≡ desk_of (lined (gone n q.line) q)
unfolding desk_of
close_desk q n h g =
    let l = q.line in
    let e : length (gone n l) ≡ length l - 1 = length_gone n l h in
    held_is (desk_of q)
    (rw (e, ← gone_map slot_of n l) (fill_close (map slot_of l) n (length l) 8 blank_of (length-map l slot_of) h g))
    (sym e)

head_desk : (q : Queue) (l : Line Transfer) (p : ℕ × Transfer) (s : ℕ) (u : Transfer) → with_head (desk_of (lined (p ∷ l) q)) s u ≡ desk_of (lined ((s, u) ∷ l) q)
unfolding desk_of
head_desk q l p s u = refl

pairs_slots : (l : Line Transfer) → map pair_of (map slot_of l) ≡ l
pairs_slots [] = refl
pairs_slots (q ∷ l) = ap {B = Line Transfer} (λ r. q ∷ r) (pairs_slots l)

pub view_desk : (q : Queue) → view_of (desk_of q) ≡ q
unfolding desk_of view_of
view_desk q =
    ap (λ (l : Line Transfer). lined l q)
    (ap (map pair_of) (take_at (map slot_of q.line) _ (length q.line) (length-map q.line slot_of)) ∙ pairs_slots q.line)

-- the line is as long as the record says, and what stands in it is what stands in the slots
pub view_length : (d : Desk) → d.waiting ≤ length d.line → length (view_of d).line ≡ d.waiting
unfolding view_of
view_length d h = length-map (take d.waiting d.line) pair_of ∙ length-take-le d.waiting d.line h

pub view_at : (d : Desk) (i : ℕ) (z : Slot) → i < d.waiting → get_or (view_of d).line i (pair_of z) ≡ pair_of (get_or d.line i z)
unfolding view_of
view_at d i z h = get_d_map pair_of (take d.waiting d.line) i z ∙ ap pair_of (get_or-take d.waiting d.line i z h)

-- ---- a good record

module _ (d : Desk) (g : Good d) where
  abbrev line : Line Transfer
  line = (view_of d).line

  pub good_length : d.waiting ≡ length line
  unfolding desk_of
  good_length = ap (λ (e : Desk). e.waiting) g.laid

  pub good_small : d.waiting ≤ 8
  good_small = omega (arith, good_length, g.sound.few)

  pub good_long : length d.line ≡ 8
  unfolding desk_of
  good_long =
      let l = map slot_of line in
      let n : length l ≡ length line = length-map line slot_of in
      let r : length (replicate (8 - length line) blank_of) ≡ 8 - length line = length-replicate (8 - length line) blank_of in
      ap (λ (e : Desk). length e.line) g.laid
      ∙ length-append l (replicate (8 - length line) blank_of)
      ∙ omega (arith, n, r, good_length, good_small)

  pub good_room : (s : ℕ) (t : Transfer) → s < 8 → seated s line ≡ false → length line < 8
  good_room s t h e = line_room s t line g.sound h e

  pub good_join : (s : ℕ) (t : Transfer) → length line < 8 → joined_by d s t ≡ desk_of (lined (line ++ ((s, t) ∷ [])) (view_of d))
  good_join s t h = ap (λ (e : Desk). joined_by e s t) g.laid ∙ join_desk (view_of d) s t h

  pub good_close : (n : ℕ) → n < d.waiting → closed_at d n ≡ desk_of (lined (gone n line) (view_of d))
  good_close n h =
      ap (λ (e : Desk). closed_at e n) g.laid ∙
      close_desk (view_of d) n (omega (arith, good_length)) (omega (arith, good_length, good_small))

  pub good_end : 0 < d.waiting → closed_at d 0 ≡ desk_of (lined (tail line) (view_of d))
  good_end h = good_close 0 h ∙ ap (λ (l : Line Transfer). desk_of (lined l (view_of d))) (gone_first line)

  pub good_front : (z : Slot) → 0 < d.waiting → line ≡ pair_of (get_or d.line 0 z) ∷ tail line
  good_front z h = front line (pair_of z) (omega (arith, good_length)) ∙ ap {B = Line Transfer} (λ (q : ℕ × Transfer). q ∷ tail line) (view_at d 0 z h)
    where
      front : (l : Line Transfer) (z : ℕ × Transfer) → 0 < length l → l ≡ get_or l 0 z ∷ tail l
      front [] z h = absurd (not-suc-le-zero h)
      front (q ∷ l) z h = refl

  pub good_head : (s : ℕ) (t : Transfer) → 0 < d.waiting → with_head d s t ≡ desk_of (lined ((s, t) ∷ tail line) (view_of d))
  good_head s t h =
      ap (λ (e : Desk). with_head e s t) (g.laid ∙ ap (λ (l : Line Transfer). desk_of (lined l (view_of d))) (good_front blank_of h)) ∙
      head_desk (view_of d) (tail line) (pair_of (get_or d.line 0 blank_of)) s t
