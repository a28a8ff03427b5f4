-- Laws of the run by characters, one for each way that a character goes. Assumes nothing.
use Rattle.std.specs.Prelude.{Option, Some, None}
use Prim.Native.Nat.{ℕ, zero, suc, ◌+◌, ◌*◌, ◌<◌, ◌≤◌}
use mathlib.Core.Path.{◌≡◌, refl, sym, ap, ◌∙◌}
use mathlib.Core.Bool.{true, false, true≢false}
use mathlib.Core.List.{List, [], ◌∷◌, append-nil}
use native.Mathlib.Omega.{arith}
use native.Mathlib.Nat.{add-zero}
use lib.Dec.{ltb}
use lib.ListN.{length, get_or, set, take, drop, length-take}
use lib.Seq.{paste, paste-zero, drop-cons, get_or-take}
use borrow.Author.Tests.{ne_eqb, leb-false, lt-leb, ltb-false, ltb-true}
use Rattle.wire.proofs.Cases.{by}
use Rattle.line.specs.Desk.{first_counter}
use Rattle.desk.specs.Record.{empty_at}
use Rattle.desk.specs.Calls.{Fresh}
use Rattle.desk.specs.declared.Desk.{Desk}
use Rattle.order_text.specs.Digits.{digit_of, byte_of}
use Rattle.order_text.specs.Lines.{bytes_of}
use Rattle.order_text.proofs.Digits.{byte_digits}
use Rattle.order_text.proofs.Lines.{digit_at, byte_turn}
use Rattle.order_run.specs.Turns.{is_over, failed, after_frame, kept_frame}
use Rattle.order_run.specs.Part.{Part, part, nothing, Begun}
use Rattle.order_run.specs.Feed.{further, put_part, St, st, Did, behind, end_said, end_kept, ended, stopped, fails, put, after_char, after, Whole, Starts}
use Rattle.order_run.proofs.Parts.{none≢some, some_is, fails_room, fails_not, fails_digit, put_first, put_second}
use Rattle.order_run.specs.declared.turns.Phase.{Phase}
use Rattle.order_run.specs.declared.turns.Phase.TheVariants.{Entry}

module _ (s : St) where
  pub end_whole : s.part.half ≡ None
      → (after_frame s.phase s.desk (take s.part.count s.frame) s.kept ≡ end_said s)
      × (kept_frame s.phase s.desk (take s.part.count s.frame) s.kept ≡ end_kept s)
  unfolding end_said end_kept
  end_whole e = (sym (rw e), sym (rw e))

  pub end_odd : {h : ℕ} → s.part.half ≡ Some h → (failed s.desk ≡ end_said s) × (s.kept ≡ end_kept s)
  unfolding end_said end_kept
  end_odd e = (sym (rw e), sym (rw e))

pub nothing_begun : Begun nothing
nothing_begun = record { room = omega arith; digit = λ h e. none≢some e }

pub started : (d : Desk) (p : Part) → Fresh first_counter d → p ≡ nothing → Starts (record { desk = d; phase = Entry; part = p })
started d p F e =
    record {
      told =
          ap (λ (x : Desk). record { desk = x; phase = Entry; part = p }) F.empty
          ∙ ap (λ (x : Part). record { desk = empty_at 1; phase = Entry; part = x }) e;
      going = record { good = F.good; begun = rw e nothing_begun };
    }

-- ---- what a character does

abbrev pub still : St → Did
still s = record { st = s; text = [] }

module _ (s : St) where
  pub after_over : (t : List ℕ) → is_over s.phase ≡ true → after s t ≡ still s
  unfolding after
  after_over [] e = refl
  after_over (c ∷ t) e = rw (e)

  pub after_none : after s [] ≡ still s
  unfolding after
  after_none = refl

  module _ (t : List ℕ) (n : is_over s.phase ≡ false) where
    pub after_line_lem : after s (10 ∷ t) ≡ behind (end_said s).text (after (ended s).st t)
    unfolding after after_char
    after_line_lem = rw (n)

    module _ (c : ℕ) (z : c ≡ 10 → ⊥) where
      pub after_put : fails s.part c ≡ false → after s (c ∷ t) ≡ after (put s (digit_of c)) t
      unfolding after after_char
      after_put f = rw (n, ne_eqb c 10 z, f)

      pub after_bad : fails s.part c ≡ true → after s (c ∷ t) ≡ stopped s
      unfolding after after_char
      after_bad f =
          rw (n, ne_eqb c 10 z, f)
          (ap (behind (stopped s).text) (after_stopped s t)
          ∙ ap (λ (x : List ℕ). record { st = (stopped s).st; text = x }) (append-nil (stopped s).text))
        where
          after_stopped : (s : St) (t : List ℕ) → after (stopped s).st t ≡ still (stopped s).st
          after_stopped s [] = refl
          after_stopped s (c ∷ t) = refl

-- ---- a part of a line stays one

ten : digit_of 10 ≡ 16
unfolding digit_of
ten = refl

pub no_line_end : (c : ℕ) → digit_of c ≤ 15 → c ≡ 10 → ⊥
no_line_end c h e = omega (arith, ap digit_of e, ten)

pub put_digit : (p : Part) (c : ℕ) → fails p c ≡ false → digit_of c ≤ 15
put_digit p c f =
    by (ltb 15 (digit_of c))
    (λ e. absurd (true≢false (sym (fails_digit p c (ltb-true 15 (digit_of c) e)) ∙ f)))
    (λ e. ltb-false 15 (digit_of c) e)

pub begun_first : {p : Part} (c : ℕ) → Begun p → fails p c ≡ false → p.half ≡ None → Begun (part p.count (Some (digit_of c)))
begun_first {p} c b f e =
    let d = put_digit p c f in
    let r = leb-false 1486 p.count (sym (fails_room p c d e) ∙ f) in
    record { room = b.room; digit = λ h z. (rw (some_is z) at d, r) }

pub begun_put : (p : Part) (c : ℕ) (f : List ℕ) → Begun p → fails p c ≡ false → Begun (put_part p (digit_of c))
begun_put p c f b e = go p.half refl
  where
    go : (x : Option ℕ) → p.half ≡ x → Begun (put_part p (digit_of c))
    go None h = rw (← (put_first p (digit_of c) f h).0) (begun_first c b e h)
    go (Some high) h =
        let l = (b.digit high h).1 in
        rw (← (put_second p (digit_of c) f high h).0) (record { room = omega arith; digit = λ g z. none≢some z })

pub begun_further : (p : Part) (r : ℕ) → Begun p → p.count + r ≤ 1486 → (0 < r → p.half ≡ None) → Begun (further p r)
begun_further p zero b h e = record { room = h; digit = λ high q. ((b.digit high q).0, omega (arith, (b.digit high q).1)) }
begun_further p (suc r) b h e = record { room = h; digit = λ high q. none≢some (sym (e (omega arith)) ∙ q) }

-- ---- whole bytes, two digits at a time

module _ (d : Desk) (ph : Phase) (k : List ℕ) (n : is_over ph ≡ false) where
  pair_step : (m a b : ℕ) (f t : List ℕ) → m < 1486 → digit_of a ≤ 15 → digit_of b ≤ 15
      → after (st d ph (part m None) f k) (a ∷ b ∷ t) ≡ after (st d ph (part (m + 1) None) (set f m (byte_of a b)) k) t
  pair_step m a b f t h x y =
      let p = put_first (part m None) (digit_of a) f refl in
      let q = put_second (part m (Some (digit_of a))) (digit_of b) f (digit_of a) refl in
      after_put (st d ph (part m None) f k) (b ∷ t) n a (no_line_end a x) (fails_room (part m None) a x refl ∙ lt-leb 1486 m h)
      ∙ ap (λ (z : St). after z (b ∷ t)) (λ i. st d ph (sym p.0 i) (sym p.1 i) k)
      ∙ after_put (st d ph (part m (Some (digit_of a))) f k) t n b (no_line_end b y) (fails_not (part m (Some (digit_of a))) b y refl)
      ∙ ap (λ (z : St). after z t) (λ i. st d ph (sym q.0 i) (sym q.1 i) k)
      ∙ ap (λ (z : ℕ). after (st d ph (part (m + 1) None) (set f m z) k) t) (sym (byte_digits a b x y))

  module _ (at : ℕ) (f t : List ℕ) (r : ℕ) (there : 2 * r ≤ length t) (room : at + r ≤ 1486) (long : length f ≡ 1486)
      (good : (i : ℕ) → i < 2 * r → digit_of (get_or t i 0) ≤ 15) where
    stand : ℕ → St
    stand j = st d ph (part (at + j) None) (paste f at (bytes_of t) j) k

    two_at : (j : ℕ) → j < r → drop (2 * j) t ≡ get_or t (2 * j) 0 ∷ get_or t (2 * j + 1) 0 ∷ drop (2 * suc j) t
    two_at j h =
        let e : 2 * j + 1 ≡ suc (2 * j) = omega arith in
        let g : 2 * suc j ≡ suc (suc (2 * j)) = omega arith in
        drop-cons t (2 * j) 0 (omega arith)
        ∙ ap (λ (l : List ℕ). get_or t (2 * j) 0 ∷ l) (drop-cons t (suc (2 * j)) 0 (omega arith))
        ∙ rw (e, g)

    step : (j : ℕ) → j < r → after (stand j) (drop (2 * j) t) ≡ after (stand (suc j)) (drop (2 * suc j) t)
    unfolding stand
    step j h =
        let a = get_or t (2 * j) 0 in
        let b = get_or t (2 * j + 1) 0 in
        let e : at + j + 1 ≡ at + suc j = omega arith in
        let g : j + 1 ≡ suc j = omega arith in
        ap (after (stand j)) (two_at j h)
        ∙ pair_step (at + j) a b (paste f at (bytes_of t) j) (drop (2 * suc j) t) (omega arith) (good (2 * j) (omega arith)) (good (2 * j + 1) (omega arith))
        ∙ ap (λ (z : List ℕ). after (st d ph (part (at + j + 1) None) z k) (drop (2 * suc j) t)) (byte_turn f t at j (at + j) refl (omega arith) (omega arith))
        ∙ rw (e, g)

    steps : (j : ℕ) → j ≤ r → after (st d ph (part at None) f k) t ≡ after (stand j) (drop (2 * j) t)
    unfolding stand
    steps zero h = ap (λ (z : St). after z t) (λ i. st d ph (part (sym (add-zero at) i) None) (paste-zero f at (bytes_of t) i) k)
    steps (suc j) h = steps j (omega arith) ∙ step j (omega arith)

    all_steps : after (st d ph (part at None) f k) t ≡ after (st d ph (part (at + r) None) (paste f at (bytes_of t) r) k) (drop (2 * r) t)
    unfolding stand
    all_steps = steps r (omega arith)

  pub after_whole : (p : Part) (f t : List ℕ) (r : ℕ) (f' : List ℕ) → length f ≡ 1486 → Whole t p.count f r f' → (0 < r → p.half ≡ None)
      → after (st d ph p f k) t ≡ after (st d ph (further p r) f' k) (drop (2 * r) t)
  after_whole p f t zero f' l w e =
      ap (λ (z : St). after z t)
      (λ i. st d ph (part (sym (add-zero p.count) i) p.half) ((paste-zero f p.count (bytes_of t) ∙ sym w.stored) i) k)
  after_whole p f t (suc r) f' l w e =
      let h : p.half ≡ None = e (omega arith) in
      let n : (i : ℕ) → i < 2 * suc r → digit_of (get_or t i 0) ≤ 15 =
      λ i q. rw (get_or-take (2 * suc r) t i 0 q) at (digit_at (take (2 * suc r) t) i w.digits (omega (arith, length-take (2 * suc r) t, w.there))) in
      ap (λ (x : Option ℕ). after (st d ph (part p.count x) f k) t) h
      ∙ all_steps p.count f t (suc r) w.there w.room l n
      ∙ ap (λ (x : Option ℕ). after (st d ph (part (p.count + suc r) x) (paste f p.count (bytes_of t) (suc r)) k) (drop (2 * suc r) t)) (sym h)
      ∙ ap (λ (x : List ℕ). after (st d ph (further p (suc r)) x k) (drop (2 * suc r) t)) (sym w.stored)
