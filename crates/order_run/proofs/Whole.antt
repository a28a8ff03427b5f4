-- The whole program: what it prints for an input that was read in pieces is what the document says of its lines. Assumes nothing.
use Rattle.std.specs.Prelude.{Option, Some, None}
use Prim.Native.Nat.{ℕ, ◌+◌, ◌*◌, ◌/◌, ◌<◌, ◌≤◌}
use mathlib.Core.Path.{◌≡◌, refl, sym, ap, ◌∙◌, subst}
use mathlib.Core.Bool.{true, false, true≢false}
use mathlib.Core.List.{List, [], ◌∷◌, ◌++◌, append_assoc, append-nil}
use native.Mathlib.Omega.{arith}
use lib.Dec.{eqb, ltb}
use lib.ListN.{length, set, take, replicate, length-append, length-set}
use lib.Seq.{take-suc-set}
use native.Mathlib.Numerals.{add-one}
use borrow.Author.Tests.{eqb-true, eqb-false, ne_eqb, ltb-true, ltb-false, leb-true, leb-false, lt-ltb, le-ltb}
use Rattle.wire.proofs.Cases.{by}
use Rattle.desk.specs.Record.{empty_at}
use Rattle.desk.specs.declared.Desk.{Desk}
use Rattle.order_text.specs.Digits.{digit_of, byte_of}
use Rattle.order_text.specs.Lines.{has_bad, bytes_of, good, bad, line_of}
use Rattle.order_text.proofs.Digits.{byte_digits}
use Rattle.order_text.proofs.Lines.{head_digit, tail_good}
use Rattle.order_text.proofs.Refused.{bad_character, odd_line, overlong_line, good_line, has_bad_lem}
use Rattle.order_run.specs.Turns.{is_over, Said, failed, after_line, kept_line}
use Rattle.order_run.specs.Printed.{lines_in, said, printed}
use Rattle.order_run.specs.Part.{Part, nothing}
use Rattle.order_run.specs.Feed.{St, st, Did, behind, end_said, end_kept, ended, stopped, fails, put_byte, put_frame, put, after, begun, line_ended, closed, finished, in_pieces, joined, st_of, AsPrinted}
use Rattle.order_run.specs.Run.{Run}
use Rattle.order_run.proofs.Parts.{fails_room, fails_not, put_first, put_second}
use Rattle.order_run.proofs.Characters.{after_over, after_none, after_line_lem, after_put, after_bad, put_digit, no_line_end, end_whole, end_odd}
use Rattle.order_run.proofs.Closing.{begun_bytes, begun_digit}
use Rattle.order_run.proofs.Pieces.{total, pieces}
use Rattle.order_run.specs.declared.turns.Phase.{Phase}
use Rattle.order_run.specs.declared.turns.Phase.TheVariants.{Entry, Over}

-- ---- a run that is over prints nothing more

over_finished : (s : St) → is_over s.phase ≡ true → (finished s).text ≡ []
unfolding finished line_ended closed
over_finished s e =
    by (begun s.part)
    (λ b. rw (b, after_over s (10 ∷ []) e, e))
    (λ b. rw (b, e))

over_total : (s : St) (t : List ℕ) → is_over s.phase ≡ true → total s t ≡ []
unfolding total
over_total s t e = rw (after_over s t e) (over_finished s e)

pub over_said : (d : Desk) (ph : Phase) (k : List ℕ) (ls : List (List ℕ)) → is_over ph ≡ true → said d ph k ls ≡ []
unfolding said
over_said d ph k [] e = rw (e)
over_said d ph k (l ∷ ls) e = rw (e)

-- ---- a line so far

-- the characters of whole bytes
record Pairs (n : ℕ) (f w : List ℕ) : Type 0 where
  even : length w ≡ 2 * n
  room : n ≤ 1486
  digits : has_bad w ≡ false
  bytes : bytes_of w ≡ take n f

data Partly (s : St) : List ℕ → Type 0 where
  whole : (w : List ℕ) → s.part.half ≡ None → Pairs s.part.count s.frame w → Partly s w
  halved : (w : List ℕ) (c : ℕ) → s.part.half ≡ Some (digit_of c) → digit_of c ≤ 15 → s.part.count < 1486 → Pairs s.part.count s.frame w → Partly s (w ++ c ∷ [])

no_pairs : (f : List ℕ) → Pairs 0 f []
unfolding has_bad bytes_of
no_pairs f = record { even = refl; room = omega arith; digits = refl; bytes = refl }

good_append : (v : List ℕ) (c : ℕ) → has_bad v ≡ false → digit_of c ≤ 15 → has_bad (v ++ c ∷ []) ≡ false
unfolding has_bad
good_append [] c g h = rw (le-ltb 15 (digit_of c) h)
good_append (a ∷ v) c g h = rw (le-ltb 15 (digit_of a) (head_digit a v g)) (good_append v c (tail_good a v g) h)

-- the bytes of a line with two characters more
more_bytes : (w : List ℕ) (n a b : ℕ) → length w ≡ 2 * n → bytes_of (w ++ a ∷ b ∷ []) ≡ bytes_of w ++ byte_of a b ∷ []
unfolding bytes_of
more_bytes [] n a b h = refl
more_bytes (x ∷ []) n a b h = absurd (omega arith)
more_bytes (x ∷ y ∷ w) n a b h =
    let m : length w ≡ 2 * (length w / 2) = omega arith in
    ap (λ (l : List ℕ). byte_of x y ∷ l) (more_bytes w (length w / 2) a b m)

module _ (s : St) where
  line_said : {w : List ℕ} → Partly s w
      → (end_said s ≡ after_line s.phase s.desk (line_of 1486 w) s.kept) × (end_kept s ≡ kept_line s.phase s.desk (line_of 1486 w) s.kept)
  line_said (whole w h p) =
      let e = end_whole s h in
      let g : line_of 1486 w ≡ good (take s.part.count s.frame) =
      good_line 1486 w p.digits (λ o. omega (arith, o, p.even)) (omega (arith, p.even, p.room)) ∙ ap good p.bytes in
      rw g (sym e.0, sym e.1)
  line_said (halved v c d h l p) =
      let e = end_odd s d in
      let g : line_of 1486 (v ++ c ∷ []) ≡ bad = odd_line 1486 (v ++ c ∷ []) (omega (arith, length-append v (c ∷ []), p.even)) in
      rw g (sym e.0, sym e.1)

-- ---- the lines of what is left, behind a line so far

-- the first line of a text that begins with w, and the others
pub lines_at : (w t : List ℕ) → has_bad w ≡ false → lines_in (w ++ 10 ∷ t) ≡ w ∷ lines_in t
unfolding lines_in
lines_at [] t g = refl
lines_at (c ∷ w) t g =
    rw (ne_eqb c 10 (no_line_end c (head_digit c w g)), lines_at w t (tail_good c w g))

lines_alone : (c : ℕ) (w : List ℕ) → has_bad (c ∷ w) ≡ false → lines_in (c ∷ w) ≡ (c ∷ w) ∷ []
unfolding lines_in
lines_alone c [] g = rw (ne_eqb c 10 (no_line_end c (head_digit c [] g)))
lines_alone c (a ∷ w) g = rw (ne_eqb c 10 (no_line_end c (head_digit c (a ∷ w) g)), lines_alone a w (tail_good c (a ∷ w) g))

-- some line goes on with a character that is no line end
record First (w : List ℕ) (c : ℕ) (x : List (List ℕ)) : Type 0 where
  rest : List ℕ
  others : List (List ℕ)
  is : x ≡ (w ++ c ∷ rest) ∷ others

first_at : (w : List ℕ) (c : ℕ) (t : List ℕ) → has_bad w ≡ false → (c ≡ 10 → ⊥) → First w c (lines_in (w ++ c ∷ t))
unfolding lines_in
first_at [] c t g z = go (lines_in t) refl
  where
    go : (x : List (List ℕ)) → lines_in t ≡ x → First [] c (lines_in (c ∷ t))
    go [] e = record { rest = []; others = []; is = rw (ne_eqb c 10 z, e) }
    go (l ∷ ls) e = record { rest = l; others = ls; is = rw (ne_eqb c 10 z, e) }
first_at (a ∷ w) c t g z =
    let f = first_at w c t (tail_good a w g) z in
    record { rest = f.rest; others = f.others; is = rw (ne_eqb a 10 (no_line_end a (head_digit a w g)), f.is) }

-- ---- one character more

-- a digit begins a byte
put_begins : (s : St) (c : ℕ) (w : List ℕ) → fails s.part c ≡ false → s.part.half ≡ None → Pairs s.part.count s.frame w → Partly (put s (digit_of c)) (w ++ c ∷ [])
put_begins s c w f h p =
    let d = put_digit s.part c f in
    let q = put_first s.part (digit_of c) s.frame h in
    let l = leb-false 1486 s.part.count (sym (fails_room s.part c d h) ∙ f) in
    subst (λ (x : St). Partly x (w ++ c ∷ [])) (λ i. st s.desk s.phase (q.0 i) (q.1 i) s.kept) (halved w c refl d l p)

-- and ends it
put_ends : (s : St) (a c : ℕ) (w : List ℕ) → length s.frame ≡ 1486 → fails s.part c ≡ false → s.part.half ≡ Some (digit_of a) → digit_of a ≤ 15 → s.part.count < 1486
    → Pairs s.part.count s.frame w → Partly (put s (digit_of c)) (w ++ a ∷ c ∷ [])
put_ends s a c w m f e h l p =
    let d = put_digit s.part c f in
    let n = s.part.count in
    let q = put_second s.part (digit_of c) s.frame (digit_of a) e in
    let b : 16 * digit_of a + digit_of c ≡ byte_of a c = sym (byte_digits a c h d) in
    subst (λ (x : St). Partly x (w ++ a ∷ c ∷ [])) (λ i. st s.desk s.phase (q.0 i) (q.1 i) s.kept)
    (whole (w ++ a ∷ c ∷ []) refl
    (record {
      even = length-append w (a ∷ c ∷ []) ∙ omega (arith, p.even);
      room = omega arith;
      digits = rw (sym (append_assoc w (a ∷ []) (c ∷ []))) (good_append (w ++ a ∷ []) c (good_append w a p.digits h) d);
      bytes =
          more_bytes w n a c p.even
          ∙ ap (λ (x : List ℕ). x ++ byte_of a c ∷ []) p.bytes
          ∙ ap (λ (x : ℕ). take n s.frame ++ x ∷ []) (sym b)
          ∙ sym (take-suc-set s.frame n (16 * digit_of a + digit_of c) (omega arith))
          ∙ ap (λ (x : ℕ). take x (set s.frame n (16 * digit_of a + digit_of c))) (sym (add-one n));
    }))

-- a line with a character that fails is bad
fails_bad : (s : St) {w : List ℕ} (c : ℕ) (r : List ℕ) → Partly s w → fails s.part c ≡ true → line_of 1486 (w ++ c ∷ r) ≡ bad
fails_bad s {w} c r P f =
    by (ltb 15 (digit_of c))
    (λ e. bad_character 1486 (w ++ c ∷ r) (has_bad_lem w r c (ltb-true 15 (digit_of c) e)))
    (λ e. full P (ltb-false 15 (digit_of c) e))
  where
    long : (w : List ℕ) → length w ≡ 2972 → line_of 1486 (w ++ c ∷ r) ≡ bad
    long w l =
        by (ltb (length r) 1)
        (λ e. odd_line 1486 (w ++ c ∷ r) (omega (arith, length-append w (c ∷ r), ltb-true (length r) 1 e)))
        (λ e. overlong_line 1486 (w ++ c ∷ r) (omega (arith, length-append w (c ∷ r), ltb-false (length r) 1 e)))

    full : {w : List ℕ} → Partly s w → digit_of c ≤ 15 → line_of 1486 (w ++ c ∷ r) ≡ bad
    full (whole w h p) d =
        let l = leb-true 1486 s.part.count (sym (fails_room s.part c d h) ∙ f) in
        long w (omega (arith, p.even, p.room, l))
    full (halved w a e h l p) d =
        absurd (true≢false (sym f ∙ fails_not s.part c d e))

-- ---- by lines

module _ (s : St) (n : is_over s.phase ≡ false) where
  total_line : (t : List ℕ) → total s (10 ∷ t) ≡ (end_said s).text ++ total (ended s).st t
  unfolding total
  total_line t =
      ap (λ (x : Did). x.text ++ (finished x.st).text) (after_line_lem s t n)
      ∙ append_assoc (end_said s).text (after (ended s).st t).text (finished (after (ended s).st t).st).text

  total-put : (c : ℕ) (t : List ℕ) → (c ≡ 10 → ⊥) → fails s.part c ≡ false → total s (c ∷ t) ≡ total (put s (digit_of c)) t
  unfolding total
  total-put c t z f = ap (λ (x : Did). x.text ++ (finished x.st).text) (after_put s t n c z f)

  total_bad : (c : ℕ) (t : List ℕ) → (c ≡ 10 → ⊥) → fails s.part c ≡ true → total s (c ∷ t) ≡ (failed s.desk).text
  unfolding total
  total_bad c t z f =
      ap (λ (x : Did). x.text ++ (finished x.st).text) (after_bad s t n c z f)
      ∙ ap (λ (x : List ℕ). (failed s.desk).text ++ x) (over_finished (stopped s).st refl)
      ∙ append-nil (failed s.desk).text

  pub said_line : (l : List ℕ) (ls : List (List ℕ)) → said s.desk s.phase s.kept (l ∷ ls)
      ≡ (after_line s.phase s.desk (line_of 1486 l) s.kept).text
      ++ said (after_line s.phase s.desk (line_of 1486 l) s.kept).desk (after_line s.phase s.desk (line_of 1486 l) s.kept).phase (kept_line s.phase s.desk (line_of 1486 l) s.kept) ls
  unfolding said
  said_line l ls = rw (n)

  -- a line that the run has read whole
  said_whole : {w : List ℕ} (ls : List (List ℕ)) → Partly s w
      → said s.desk s.phase s.kept (w ∷ ls) ≡ (end_said s).text ++ said (end_said s).desk (end_said s).phase (end_kept s) ls
  said_whole {w} ls P =
      let e = line_said s P in
      said_line w ls
      ∙ ap (λ (x : Said). x.text ++ said x.desk x.phase (kept_line s.phase s.desk (line_of 1486 w) s.kept) ls) (sym e.0)
      ∙ ap (λ (k : List ℕ). (end_said s).text ++ said (end_said s).desk (end_said s).phase k ls) (sym e.1)

  pub said_bad : (l : List ℕ) (ls : List (List ℕ)) → line_of 1486 l ≡ bad → said s.desk s.phase s.kept (l ∷ ls) ≡ (failed s.desk).text
  said_bad l ls e =
      said_line l ls ∙ rw e
      (ap (λ (x : List ℕ). (failed s.desk).text ++ x) (over_said s.desk Over s.kept ls refl) ∙ append-nil (failed s.desk).text)

-- ---- the input's end

nothing_there : begun nothing ≡ false
unfolding begun
nothing_there = refl

finished_none : (s : St) → begun s.part ≡ false → (finished s).text ≡ said s.desk s.phase s.kept []
unfolding finished line_ended closed said
finished_none s e = rw e (by (is_over s.phase) (λ q. rw q) (λ q. rw q))

module _ (s : St) (n : is_over s.phase ≡ false) where
  finished_begun : begun s.part ≡ true → (finished s).text ≡ (end_said s).text ++ (finished (ended s).st).text
  unfolding finished line_ended begun
  finished_begun b =
      rw b
      (ap (λ (x : Did). x.text ++ (closed x.st).text) (after_line_lem s [] n ∙ ap (behind (end_said s).text) (after_none (ended s).st))
      ∙ ap (λ (x : List ℕ). x ++ (closed (ended s).st).text) (append-nil (end_said s).text))

  lines_only : (w : List ℕ) → has_bad w ≡ false → 0 < length w → lines_in (w ++ []) ≡ w ∷ []
  lines_only [] g h = absurd (omega arith)
  lines_only (c ∷ w) g h = ap lines_in (append-nil (c ∷ w)) ∙ lines_alone c w g

  end_begun : {w : List ℕ} → Partly s w → has_bad w ≡ false → 0 < length w → begun s.part ≡ true
      → (finished s).text ≡ said s.desk s.phase s.kept (lines_in (w ++ []))
  end_begun {w} P g h b =
      finished_begun b
      ∙ ap (λ (x : List ℕ). (end_said s).text ++ x) (finished_none (ended s).st nothing_there)
      ∙ sym (said_whole s n [] P)
      ∙ ap (said s.desk s.phase s.kept) (sym (lines_only w g h))

  by_end : {w : List ℕ} → Partly s w → (finished s).text ≡ said s.desk s.phase s.kept (lines_in (w ++ []))
  unfolding lines_in
  by_end (whole [] h p) = finished_none s (begun_bytes s.part h ∙ le-ltb 0 s.part.count (omega (arith, p.even)))
  by_end (whole (c ∷ w) h p) =
      end_begun (whole (c ∷ w) h p) p.digits (omega arith) (begun_bytes s.part h ∙ lt-ltb 0 s.part.count (omega (arith, p.even)))
  by_end (halved w c e h l p) =
      end_begun (halved w c e h l p) (good_append w c p.digits h) (omega (arith, length-append w (c ∷ [])))
      (begun_digit s.part (digit_of c) e)

-- ---- every text

part_good : {s : St} {w : List ℕ} → Partly s w → has_bad w ≡ false
part_good (whole w h p) = p.digits
part_good (halved w c e h l p) = good_append w c p.digits h

put_long : (p : Part) (d : ℕ) (f : List ℕ) → length (put_frame p d f) ≡ length f
unfolding put_frame
put_long p d f = go p.half
  where
    go : (x : Option ℕ) → length (put_byte p.count x d f) ≡ length f
    go None = refl
    go (Some h) = length-set f p.count (16 * h + d)

put_partly : (s : St) {w : List ℕ} (c : ℕ) → length s.frame ≡ 1486 → fails s.part c ≡ false → Partly s w → Partly (put s (digit_of c)) (w ++ c ∷ [])
put_partly s c m f (whole w h p) = put_begins s c w f h p
put_partly s c m f (halved w a e h l p) =
    subst (Partly (put s (digit_of c))) (sym (append_assoc w (a ∷ []) (c ∷ []))) (put_ends s a c w m f e h l p)

by_lines : (t : List ℕ) (s : St) {w : List ℕ} → length s.frame ≡ 1486 → Partly s w
    → total s t ≡ said s.desk s.phase s.kept (lines_in (w ++ t))
unfolding total after
by_lines [] s {w} m P =
    by (is_over s.phase)
    (λ q. let e = q in over_finished s e ∙ sym (over_said s.desk s.phase s.kept (lines_in (w ++ [])) e))
    (λ q. by_end s q P)
by_lines (c ∷ t) s {w} m P =
    by (is_over s.phase)
    (λ q. let e = q in over_total s (c ∷ t) e ∙ sym (over_said s.desk s.phase s.kept (lines_in (w ++ c ∷ t)) e))
    (λ q. let n = q in
    by (eqb c 10)
    (λ z. let e = eqb-true c 10 z in
    ap (λ (x : ℕ). total s (x ∷ t)) e
    ∙ total_line s n t
    ∙ ap (λ (x : List ℕ). (end_said s).text ++ x) (by_lines t (ended s).st m (whole [] refl (no_pairs s.frame)))
    ∙ sym (said_whole s n (lines_in t) P)
    ∙ ap (said s.desk s.phase s.kept) (sym (lines_at w t (part_good P)))
    ∙ ap (λ (x : ℕ). said s.desk s.phase s.kept (lines_in (w ++ x ∷ t))) (sym e))
    (λ z. let y = eqb-false c 10 z in
    by (fails s.part c)
    (λ f. let F = first_at w c t (part_good P) y in
    total_bad s n c t y f
    ∙ sym (said_bad s n (w ++ c ∷ F.rest) F.others (fails_bad s c F.rest P f))
    ∙ ap (said s.desk s.phase s.kept) (sym F.is))
    (λ f.
    total-put s n c t y f
    ∙ by_lines t (put s (digit_of c)) (put_long s.part (digit_of c) s.frame ∙ m) (put_partly s c m f P)
    ∙ ap (λ (x : List ℕ). said s.desk s.phase s.kept (lines_in x)) (append_assoc w (c ∷ []) t))))

pub as_printed : AsPrinted
unfolding printed
as_printed r S f l ps =
    let s = st (empty_at 1) Entry nothing f (replicate 4096 0) in
    ap (λ (x : Run). in_pieces (st_of x f (replicate 4096 0)) ps) S.told
    ∙ pieces ps s
    ∙ by_lines (joined ps) s l (whole [] refl (no_pairs f))
