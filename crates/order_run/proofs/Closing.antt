-- Laws of the input's end, and of a piece that is cut to its room. Assumes nothing.
use Rattle.std.specs.Prelude.{Some, None}
use Prim.Native.Nat.{ℕ, ◌+◌, ◌-◌, ◌≤◌, min}
use mathlib.Core.Path.{◌≡◌, refl, sym, ap, ◌∙◌}
use mathlib.Core.Bool.{true, false, true≢false}
use mathlib.Core.List.{List, [], ◌∷◌, append-nil}
use native.Mathlib.Omega.{arith}
use lib.Dec.{ltb}
use lib.ListN.{length, length-append}
use lib.Seq.{length-paste}
use Rattle.wire.specs.Store.{laid}
use Rattle.judge.proofs.Laid.{laid_join, laid_nil}
use Rattle.desk.specs.declared.Desk.{Desk}
use Rattle.wire.proofs.Cases.{by}
use Rattle.order_run.specs.Turns.{is_entry, is_over, Said, after_all, turn_of, Turned}
use Rattle.order_run.specs.Part.{Part, nothing}
use Rattle.order_run.specs.Feed.{St, Did, behind, read, after, begun, line_ended, closed, finished, st_of, Feeds}
use Rattle.order_run.specs.Run.{Run, Going}
use Rattle.order_run.specs.declared.turns.Turn.{Turn}
use Rattle.order_run.specs.declared.Fed.{Fed}
use Rattle.order_run.proofs.Characters.{nothing_begun, still}
use Rattle.order_run.specs.declared.turns.Phase.{Phase}

pub feeds_within : {x : Did} {n m : ℕ} {r : Fed} {f k o o' : List ℕ} → n ≤ m → Feeds x n r f k o o' → Feeds x m r f k o o'
feeds_within h F =
    record {
      told = F.told;
      framed = F.framed;
      stored = F.stored;
      printed = F.printed;
      going = F.going;
      short = λ g. omega (arith, F.short g);
    }

module _ (p : Part) where
  pub begun_bytes : p.half ≡ None → begun p ≡ ltb 0 p.count
  unfolding begun
  begun_bytes e = rw e

  pub begun_digit : (h : ℕ) → p.half ≡ Some h → begun p ≡ true
  unfolding begun
  begun_digit h e = rw e

module _ (s : St) where
  pub ended_here : begun s.part ≡ true → after s (10 ∷ []) ≡ line_ended s
  unfolding line_ended
  ended_here e = sym (rw e)

  pub ended_before : begun s.part ≡ false → still s ≡ line_ended s
  unfolding line_ended
  ended_before e = sym (rw e)

pub nothing_fed : (r : Run) (f k o : List ℕ) → Going r → begun r.part ≡ false
    → Feeds (line_ended (st_of r f k)) 4096 (record { run = r; printed = 0 }) f k o o
nothing_fed r f k o g e =
    rw (← ended_before (st_of r f k) e)
    (record { told = refl; framed = refl; stored = refl; printed = laid_nil o 0; going = g; short = λ n. omega arith })

all_over : (p : Phase) (d : Desk) → is_over (after_all p d).phase ≡ true
unfolding after_all
all_over p d = by (is_entry p) (λ e. rw e) (λ e. rw e)

abbrev fed : Desk → Phase → Part → ℕ → Fed
fed d ph p n = record { run = record { desk = d; phase = ph; part = p }; printed = n }

-- the run after a last line, and how much is printed then
told_last : (x : Said) (n : ℕ) {t : Turn} {p : Part} {m : ℕ} → t ≡ turn_of n x → p ≡ nothing → n + length x.text ≡ m
    → fed t.desk t.phase p t.end ≡ fed x.desk x.phase nothing m
told_last x n e z h = λ i. fed (e i).desk (e i).phase (z i) ((ap (λ (y : Turn). y.end) e ∙ h) i)

module _ (s : St) {r : Fed} {f k o o₁ : List ℕ} (F : Feeds (line_ended s) 4096 r f k o o₁) {q : Run} (v : q ≡ r.run) where
  over_is : is_over q.phase ≡ is_over (line_ended s).st.phase
  over_is = ap (λ (x : Run). is_over x.phase) v ∙ ap (λ (x : Fed). is_over x.run.phase) F.told

  pub closed_over : is_over q.phase ≡ true → Feeds (finished s) 4096 r f k o o₁
  unfolding finished closed
  closed_over e =
      let x = line_ended s in
      let w : finished s ≡ x =
      rw ((sym over_is ∙ e)) (ap (λ (y : List ℕ). record { st = x.st; text = y }) (append-nil x.text)) in
      rw w F

  pub closed_all : {t : Turn} {p : Part} {o₂ : List ℕ} → is_over q.phase ≡ false
      → Turned (after_all q.phase q.desk) r.printed t o₁ o₂ → p ≡ nothing
      → Feeds (finished s) 4096 (record { run = record { desk = t.desk; phase = t.phase; part = p }; printed = t.end }) f k o o₂
  unfolding finished closed
  closed_all {t} {p} {o₂} g T z =
      let x = line_ended s in
      let m : ℕ = min (length x.text) (length o - 0) in
      let l : length o₁ ≡ length o = ap length F.printed ∙ length-paste o 0 x.text m (omega arith) (omega arith) in
      let u = ap (λ (y : Run). after_all y.phase y.desk) (v ∙ ap (λ (y : Fed). y.run) F.told) in
      let n : r.printed ≡ length x.text = ap (λ (y : Fed). y.printed) F.told in
      let a = after_all q.phase q.desk in
      let w : finished s ≡ behind x.text (read a x.st.frame x.st.kept) =
      rw (sym over_is ∙ g) (ap (λ (y : Said). behind x.text (read y x.st.frame x.st.kept)) (sym u)) in
      let j : r.printed ≡ 0 + length x.text = omega (arith, n) in
      rw w
      (record {
        told =
            told_last a r.printed T.told z (omega (arith, n, length-append x.text a.text));
        framed = F.framed;
        stored = F.stored;
        printed =
            T.printed
            ∙ ap (λ (y : List ℕ). laid y r.printed a.text) F.printed
            ∙ ap (λ (y : ℕ). laid (laid o 0 x.text) y a.text) j
            ∙ laid_join o 0 x.text a.text (omega (arith, T.fits, n, l));
        going = record { good = T.good; begun = rw z nothing_begun };
        short = λ v. absurd (true≢false (sym (all_over q.phase q.desk) ∙ v));
      })
