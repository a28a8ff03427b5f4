-- `feed_piece` meets its contract. Both loops have one invariant each: what is left to do from here gives what the whole gives.
use Rattle.std.specs.Prelude.{None}
use mathlib.Core.Path.{◌≡◌, sym, ◌∙◌}
use mathlib.Core.Bool.{false}
use mathlib.Core.List.{List}
use Prim.Native.Nat.{ℕ, ◌+◌, ◌*◌, ◌<◌, ◌≤◌}
use native.Mathlib.Omega.{arith}
use lib.ListN.{length, get_or, drop}
use Rattle.desk.specs.declared.Desk.{Desk}
use Rattle.order_run.specs.Turns.{is_over, Turned}
use Rattle.order_run.specs.declared.turns.Phase.{Phase}
use Rattle.order_run.specs.Part.{Part}
use Rattle.order_run.specs.Feed.{St, st, further, end_said, Whole}
use Rattle.order_run.proofs.Spoken.{turned_as, turned_at, quiet_turned}
use Rattle.order_run.proofs.Feeding.{Digits, Lines, digits_start, through, digits_put, digits_whole, line_done, rested_over, rested_end, rested_bad, feeds_at}
use Rattle.order_run.proofs.feed_piece.Goals as goal
use Rattle.order_run.proofs.feed_piece.Goals.{else-loop-i-test, then-loop-i-test+then-c-eq10, in-Some+in-Ok, in-Some+in_default, in_default-via-in_default, in_default-via-in-Ok+else-is_quiet, in-None, else-lines-test, then-lines-test+then-is_over, then-lines-test+else-is_over+then-loop-i-test+else-c-eq10+then-is_bad}

-- the lines so far, the whole bytes that a line is gone on with, and the digits behind them
gone_on : {t : List ℕ} {s₁ : St} {o₁ : List ℕ} {d : Desk} {ph : Phase} {p : Part} {f k o : List ℕ} {n i : ℕ} {p₂ : Part} {f₂ : List ℕ} {m : ℕ}
    {d' : Desk} {ph' : Phase} {p' : Part} {f' o' : List ℕ} {n' i' : ℕ}
    → Lines t s₁ o₁ (st d ph p f k) o n i → length t ≤ 4096 → is_over ph ≡ false
    → Whole (drop i t) p.count f m f₂ × (0 < m → p.half ≡ None) → length f₂ ≡ length f → p₂ ≡ further p m
    → Digits t k d ph p₂ f₂ o n (i + 2 * m) d' ph' p' f' o' n' i' → Lines t s₁ o₁ (st d' ph' p' f' k) o' n' i'
gone_on L b g w l e D = through (through L (digits_whole (digits_start L b g) w.0 w.1 (l ∙ L.long) e)) D

pub loop-i-preserved : goal.loop-i-preserved
loop-i-preserved c =
    let l = c.loop-i in
    let p = c.put-part in
    let w = c.whole_bytes-more in
    digits_whole
    (digits_put l.invariant c.loop-i-test.true c.if-c-eq10.false (sym c.is_bad.ensures ∙ c.if-is_bad.false)
    p.ensures.0 p.ensures.1 (p.auto.frame ∙ l.invariant.long))
    w.ensures.0 w.ensures.1 (w.auto.frame ∙ p.auto.frame ∙ l.invariant.long) c.further-part-in-loop-i.ensures

pub lines-preserved-then-i-text : goal.lines-preserved-then-i-text
lines-preserved-then-i-text c =
    let l = c.loop-i in
    let e = c.line_end-change in
    let w = c.whole_bytes-whole in
    let newline : get_or c.args.text.now l.i 0 ≡ 10 =
    elim c.loop-i-test.branch [ else-loop-i-test w ↦ absurd (omega (arith, w.loop-i-test.false, c.if-i-text.true)) | then-loop-i-test+then-c-eq10 w ↦ w.if-c-eq10.true ] in
    let spoken : Turned (end_said (st l.desk l.phase-1 l.part l.frame c.lines.«data»)) l.printed
    (record { desk = c.match-change.desk; phase = c.match-change.phase; end = c.match-change.printed }) l.out c.match-change.out =
    elim c.match-change.branch [
      | in-Some+in-Ok w ↦
          turned_at w.desk-is w.phase-is w.printed-is w.out-is
          (quiet_turned l.out l.printed (rw w.in-Ok.is at (rw w.in-Some.is at e.ensures.0)) (sym w.is_quiet.ensures ∙ w.if-is_quiet.true) (omega (arith, l.invariant.room)))
      | in-Some+in_default w ↦
          let same : w.in-Some.decided ≡ w.in_default.decided =
          elim w.in_default.branch [ in_default-via-in_default v ↦ sym v.decided-is | in_default-via-in-Ok+else-is_quiet v ↦ v.in-Ok.is ∙ sym v.decided-is ] in
          turned_at w.desk-is w.phase-is w.printed-is w.out-is (turned_as (rw same at (rw w.in-Some.is at e.ensures.0)).told w.print_answer-turn.ensures)
      | in-None w ↦ turned_at w.desk-is w.phase-is w.printed-is w.out-is (turned_as (rw w.in-None.is at e.ensures.0) w.last_number-turn.ensures)
    ] in
    line_done (gone_on c.lines.invariant c.requires.text_len_bound (sym c.is_over.ensures ∙ c.if-is_over.false) w.ensures w.auto.frame c.further-part.ensures l.invariant)
    c.if-i-text.true newline l.invariant.going spoken e.ensures.1 e.auto.«data» c.match-change.auto.out c.nothing-part-then-i-text.ensures

pub lines-preserved : goal.lines-preserved
lines-preserved c =
    let w = c.whole_bytes-whole in
    gone_on c.lines.invariant c.requires.text_len_bound (sym c.is_over.ensures ∙ c.if-is_over.false) w.ensures w.auto.frame c.further-part.ensures c.loop-i.invariant

pub returns : goal.returns
returns c =
    rw (← c.run.view_is)
    (elim c.lines-test.branch [
      | else-lines-test w ↦ feeds_at w.desk-is w.phase-is w.part-is w.printed-is w.frame-is w.out-is (rested_end c.lines.invariant w.lines-test.false)
      | then-lines-test+then-is_over w ↦
          feeds_at w.desk-is w.phase-is w.part-is w.printed-is w.frame-is w.out-is (rested_over c.lines.invariant (sym w.is_over.ensures ∙ w.if-is_over.true))
      | then-lines-test+else-is_over+then-loop-i-test+else-c-eq10+then-is_bad w ↦
          let D = w.loop-i.invariant in
          let b = w.whole_bytes-whole in
          feeds_at w.desk-is w.phase-is w.part-is w.printed-is w.frame-is w.out-is
          (rested_bad (gone_on c.lines.invariant c.requires.text_len_bound (sym w.is_over.ensures ∙ w.if-is_over.false) b.ensures b.auto.frame w.further-part.ensures D)
          w.loop-i-test.true w.if-c-eq10.false D.going (sym w.is_bad.ensures ∙ w.if-is_bad.true) w.last_number-bad.ensures w.nothing-part.ensures)
    ])
