-- What holds where the two loops of `feed_piece` stand, and that each turn keeps it. Assumes nothing.
use Rattle.std.specs.Prelude.{None}
use Prim.Native.Nat.{ℕ, ◌+◌, ◌*◌, ◌<◌, ◌≤◌}
use mathlib.Core.Path.{◌≡◌, refl, sym, ap, ◌∙◌, subst}
use mathlib.Core.Bool.{true, false, true≢false}
use mathlib.Core.List.{List, [], ◌∷◌, ◌++◌, append_assoc, append-nil}
use native.Mathlib.Omega.{arith}
use native.Mathlib.Numerals.{add-one}
use lib.ListN.{length, get_or, drop, length-append, length-drop, drop_of_length-le}
use lib.Seq.{drop-cons, drop-drop}
use Rattle.wire.specs.Store.{laid}
use Rattle.judge.proofs.Laid.{laid_join, laid_nil}
use Rattle.desk.specs.Record.{Good}
use Rattle.desk.specs.declared.Desk.{Desk}
use Rattle.order_text.specs.Digits.{digit_of}
use Rattle.order_run.specs.Turns.{is_over, Said, failed, Turned}
use Rattle.order_run.specs.Part.{Part, nothing, Begun}
use Rattle.order_run.specs.Feed.{further, St, st, Did, behind, stopped, end_said, end_kept, ended, fails, put_part, put_frame, after, Whole, Feeds, run_of}
use Rattle.order_run.specs.declared.turns.Turn.{Turn}
use Rattle.order_run.specs.declared.Fed.{Fed}
use Rattle.order_run.proofs.Characters.{nothing_begun, begun_put, begun_further, still, after_over, after_none, after_line_lem, after_put, after_bad, after_whole}
use Rattle.order_run.specs.declared.turns.Phase.{Phase}
use Rattle.order_run.specs.declared.turns.Phase.TheVariants.{Over}

-- between two digits of a line: from where the line was gone on with, what is left gives the same, and nothing is printed
pub record Digits (t k : List ℕ) (d₁ : Desk) (ph₁ : Phase) (p₁ : Part) (f₁ o₁ : List ℕ) (n₁ i₁ : ℕ) (d : Desk) (ph : Phase) (p : Part) (f o : List ℕ) (n i : ℕ) : Type 0 where
  pub within : i ≤ length t
  pub onward : i₁ ≤ i
  pub good : Good d
  pub begun : Begun p
  pub going : is_over ph ≡ false
  pub long : length f ≡ 1486
  pub desk : d ≡ d₁
  pub phase : ph ≡ ph₁
  pub out : o ≡ o₁
  pub printed : n ≡ n₁
  pub room : n + 8195 ≤ length o
  pub goes : after (st d₁ ph₁ p₁ f₁ k) (drop i₁ t) ≡ after (st d ph p f k) (drop i t)

-- between two lines: what is printed stands at the front of the output, and what is left follows it
pub record Lines (t : List ℕ) (s₁ : St) (o₁ : List ℕ) (s : St) (o : List ℕ) (n i : ℕ) : Type 0 where
  pub within : i ≤ length t
  pub good : Good s.desk
  pub begun : Begun s.part
  pub long : length s.frame ≡ 1486
  pub keeps : length s.kept ≡ 4096
  pub outs : (length o ≡ 143363) × (length o₁ ≡ 143363)
  pub text : List ℕ
  pub printed : n ≡ length text
  pub out : o ≡ laid o₁ 0 text
  pub short : is_over s.phase ≡ false → length text ≤ 33 * i
  pub goes : after s₁ t ≡ behind text (after s (drop i t))

pub lines_start : (t : List ℕ) (s : St) (o : List ℕ) → Good s.desk → Begun s.part → length s.frame ≡ 1486 → length s.kept ≡ 4096
    → length o ≡ 143363 → Lines t s o s o 0 0
lines_start t s o G B l k h =
    record {
      within = omega arith;
      good = G;
      begun = B;
      long = l;
      keeps = k;
      outs = (h, h);
      text = [];
      printed = refl;
      out = laid_nil o 0;
      short = λ n. omega arith;
      goes = refl;
    }

at : (t : List ℕ) (i : ℕ) → i < length t → drop i t ≡ get_or t i 0 ∷ drop (i + 1) t
at t i h = rw (drop-cons t i 0 h, add-one i)

module _ {t : List ℕ} {s₁ : St} {o₁ : List ℕ} {d : Desk} {ph : Phase} {p : Part} {f k o : List ℕ} {n i : ℕ} where
  pub digits_start : Lines t s₁ o₁ (st d ph p f k) o n i → length t ≤ 4096 → is_over ph ≡ false
      → Digits t k d ph p f o n i d ph p f o n i
  digits_start L m g =
      record {
        within = L.within;
        onward = omega arith;
        good = L.good;
        begun = L.begun;
        going = g;
        long = L.long;
        desk = refl;
        phase = refl;
        out = refl;
        printed = refl;
        room = omega (arith, L.within, L.printed, L.short g, L.outs.0);
        goes = refl;
      }

  -- the lines so far, and some digits
  pub through : {d' : Desk} {ph' : Phase} {p' : Part} {f' o' : List ℕ} {n' i' : ℕ} → Lines t s₁ o₁ (st d ph p f k) o n i
      → Digits t k d ph p f o n i d' ph' p' f' o' n' i' → Lines t s₁ o₁ (st d' ph' p' f' k) o' n' i'
  through L D =
      record {
        within = D.within;
        good = D.good;
        begun = D.begun;
        long = D.long;
        keeps = L.keeps;
        outs = (ap length D.out ∙ L.outs.0, L.outs.1);
        text = L.text;
        printed = D.printed ∙ L.printed;
        out = D.out ∙ L.out;
        short = λ g. omega (arith, L.short (sym (ap is_over D.phase) ∙ g), D.onward);
        goes = L.goes ∙ ap (behind L.text) D.goes;
      }

module _ {t k : List ℕ} {d₁ : Desk} {ph₁ : Phase} {p₁ : Part} {f₁ o₁ : List ℕ} {n₁ i₁ : ℕ} {d : Desk} {ph : Phase} {p : Part} {f o : List ℕ} {n i : ℕ}
    (D : Digits t k d₁ ph₁ p₁ f₁ o₁ n₁ i₁ d ph p f o n i) where
  -- some characters further on in the line
  digits_on : {p₂ : Part} {f₂ : List ℕ} {j : ℕ} → i ≤ j → j ≤ length t → Begun p₂ → length f₂ ≡ 1486
      → after (st d ph p f k) (drop i t) ≡ after (st d ph p₂ f₂ k) (drop j t)
      → Digits t k d₁ ph₁ p₁ f₁ o₁ n₁ i₁ d ph p₂ f₂ o n j
  digits_on m w b l e =
      record {
        within = w;
        onward = omega (arith, D.onward);
        good = D.good;
        begun = b;
        going = D.going;
        long = l;
        desk = D.desk;
        phase = D.phase;
        out = D.out;
        printed = D.printed;
        room = D.room;
        goes = D.goes ∙ e;
      }

  pub digits_put : {p₂ : Part} {f₂ : List ℕ} → i < length t → (get_or t i 0 ≡ 10 → ⊥) → fails p (get_or t i 0) ≡ false
      → p₂ ≡ put_part p (digit_of (get_or t i 0)) → f₂ ≡ put_frame p (digit_of (get_or t i 0)) f → length f₂ ≡ 1486
      → Digits t k d₁ ph₁ p₁ f₁ o₁ n₁ i₁ d ph p₂ f₂ o n (i + 1)
  digits_put {p₂} {f₂} h z e a b l =
      let c = get_or t i 0 in
      digits_on (omega arith) (omega arith) (rw a (begun_put p c f D.begun e)) l
      (ap (after (st d ph p f k)) (at t i h)
      ∙ after_put (st d ph p f k) (drop (i + 1) t) D.going c z e
      ∙ ap (λ (x : St). after x (drop (i + 1) t)) (λ j. st d ph (sym a j) (sym b j) k))

  pub digits_whole : {p₂ : Part} {f₂ : List ℕ} {m : ℕ} → Whole (drop i t) p.count f m f₂ → (0 < m → p.half ≡ None) → length f₂ ≡ 1486
      → p₂ ≡ further p m → Digits t k d₁ ph₁ p₁ f₁ o₁ n₁ i₁ d ph p₂ f₂ o n (i + 2 * m)
  digits_whole {p₂} {f₂} {m} w g l r =
      digits_on (omega arith) (omega (arith, w.there, length-drop i t, D.within)) (rw r (begun_further p m D.begun w.room g)) l
      (after_whole d ph k D.going p f (drop i t) m f₂ D.long w g
      ∙ ap (λ (x : Part). after (st d ph x f₂ k) (drop (2 * m) (drop i t))) (sym r)
      ∙ ap (after (st d ph p₂ f₂ k)) (drop-drop (2 * m) i t))

module _ {t : List ℕ} {s₁ : St} {o₁ : List ℕ} {s : St} {o : List ℕ} {n i : ℕ} (L : Lines t s₁ o₁ s o n i) where
  -- what a line prints, behind what is printed
  printed_more : (x : Said) (r : Turn) (o' : List ℕ) → Turned x n r o o' → o' ≡ laid o₁ 0 (L.text ++ x.text)
  printed_more x r o' T =
      let q : n ≡ 0 + length L.text = omega (arith, L.printed) in
      T.printed
      ∙ ap (λ (y : List ℕ). laid y n x.text) L.out
      ∙ ap (λ (y : ℕ). laid (laid o₁ 0 L.text) y x.text) q
      ∙ laid_join o₁ 0 L.text x.text (omega (arith, T.fits, L.printed, L.outs.0, L.outs.1))

  place : (x : Said) (r : Turn) (o' : List ℕ) → Turned x n r o o' → r.end ≡ length (L.text ++ x.text)
  place x r o' T = ap (λ (y : Turn). y.end) T.told ∙ omega (arith, L.printed, length-append L.text x.text)

  pub line_done : {r : Turn} {p' : Part} {k' o' : List ℕ} → i < length t → get_or t i 0 ≡ 10 → is_over s.phase ≡ false → Turned (end_said s) n r o o' → k' ≡ end_kept s
      → length k' ≡ length s.kept → length o' ≡ length o → p' ≡ nothing
      → Lines t s₁ o₁ (st r.desk r.phase p' s.frame k') o' r.end (i + 1)
  line_done {r} {p'} {k'} {o'} h e g T q l m z =
      let x = end_said s in
      let w : (ended s).st ≡ st r.desk r.phase p' s.frame k' = λ j. st (sym T.told j).desk (sym T.told j).phase (sym z j) s.frame (sym q j) in
      record {
        within = omega arith;
        good = T.good;
        begun = rw z nothing_begun;
        long = L.long;
        keeps = l ∙ L.keeps;
        outs = (m ∙ L.outs.0, L.outs.1);
        text = L.text ++ x.text;
        printed = place x r o' T;
        out = printed_more x r o' T;
        short = λ v. omega (arith, length-append L.text x.text, L.short g, T.short (sym (ap (λ (b : Turn). is_over b.phase) T.told) ∙ v));
        goes =
            L.goes
            ∙ ap (λ (y : List ℕ). behind L.text (after s y)) (at t i h ∙ ap (λ (c : ℕ). c ∷ drop (i + 1) t) e)
            ∙ ap (behind L.text) (after_line_lem s (drop (i + 1) t) g)
            ∙ ap (λ (y : List ℕ). record { st = (after (ended s).st (drop (i + 1) t)).st; text = y }) (sym (append_assoc L.text x.text (after (ended s).st (drop (i + 1) t)).text))
            ∙ ap (λ (y : St). behind (L.text ++ x.text) (after y (drop (i + 1) t))) w;
      }

  -- nothing is left to do
  pub rested : after s (drop i t) ≡ still s → Feeds (after s₁ t) (length t) (record { run = run_of s; printed = n }) s.frame s.kept o₁ o
  rested e =
      let a : after s₁ t ≡ record { st = s; text = L.text } =
      L.goes ∙ ap (behind L.text) e ∙ ap (λ (y : List ℕ). record { st = s; text = y }) (append-nil L.text) in
      rw a
      (record {
        told = ap (λ (y : ℕ). record { run = run_of s; printed = y }) L.printed;
        framed = refl;
        stored = refl;
        printed = L.out;
        going = record { good = L.good; begun = L.begun };
        short = λ g. omega (arith, L.short g, L.within);
      })

  pub rested_over : is_over s.phase ≡ true → Feeds (after s₁ t) (length t) (record { run = run_of s; printed = n }) s.frame s.kept o₁ o
  rested_over e = rested (after_over s (drop i t) e)

  pub rested_end : length t ≤ i → Feeds (after s₁ t) (length t) (record { run = run_of s; printed = n }) s.frame s.kept o₁ o
  rested_end h = rested (ap (after s) (drop_of_length-le t h) ∙ after_none s)

  -- a bad character
  pub rested_bad : {r : Turn} {p' : Part} {o' : List ℕ} → i < length t → (get_or t i 0 ≡ 10 → ⊥) → is_over s.phase ≡ false → fails s.part (get_or t i 0) ≡ true
      → Turned (failed s.desk) n r o o' → p' ≡ nothing
      → Feeds (after s₁ t) (length t) (record { run = record { desk = r.desk; phase = r.phase; part = p' }; printed = r.end }) s.frame s.kept o₁ o'
  rested_bad {r} {p'} {o'} h z g f T q =
      let x = failed s.desk in
      let a : after s₁ t ≡ behind L.text (stopped s) =
      L.goes ∙ ap (λ (y : List ℕ). behind L.text (after s y)) (at t i h) ∙ ap (behind L.text) (after_bad s (drop (i + 1) t) g (get_or t i 0) z f) in
      rw a
      (record {
        told =
            ap (λ (y : Turn). record { run = record { desk = y.desk; phase = y.phase; part = p' }; printed = r.end }) T.told
            ∙ ap (λ (y : Part). record { run = record { desk = s.desk; phase = Over; part = y }; printed = r.end }) q
            ∙ ap (λ (y : ℕ). record { run = record { desk = s.desk; phase = Over; part = nothing }; printed = y }) (place x r o' T);
        framed = refl;
        stored = refl;
        printed = printed_more x r o' T;
        going = record { good = T.good; begun = rw q nothing_begun };
        short = λ v. absurd (true≢false v);
      })

-- the same of equal values
pub feeds_at : {x : Did} {n : ℕ} {d d' : Desk} {ph ph' : Phase} {p p' : Part} {m m' : ℕ} {f f' k o o₁ o₂ : List ℕ} → d ≡ d' → ph ≡ ph' → p ≡ p' → m ≡ m' → f ≡ f' → o₁ ≡ o₂
    → Feeds x n (record { run = record { desk = d'; phase = ph'; part = p' }; printed = m' }) f' k o o₂
    → Feeds x n (record { run = record { desk = d; phase = ph; part = p }; printed = m }) f k o o₁
feeds_at {x} {n} {k = k} {o = o} a b q e g h F =
    subst (λ (r : Fed × List ℕ × List ℕ). Feeds x n r.0 r.1 k o r.2)
    (λ i. (record { run = record { desk = sym a i; phase = sym b i; part = sym q i }; printed = sym e i }, sym g i, sym h i)) F
