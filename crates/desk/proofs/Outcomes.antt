-- Each call that is not refused: what it changes makes the record of the step. Assumes nothing.
use mathlib.Core.Path.{◌≡◌, refl, sym, ap, ◌∙◌}
use mathlib.Core.Bool.{Bool, true, false, not}
use mathlib.Core.List.{List, ◌++◌, tail}
use mathlib.Core.Option.{Option, none, some}
use Prim.Native.Nat.{ℕ, ◌<◌}
use native.Mathlib.Omega.{arith}
use borrow.Author.Tests.{eq-eqb}
use lib.Dec.{ltb}
use lib.ListN.{length}
use Rattle.std.specs.Prelude.{Ok}
use Rattle.wire.specs.Words.{pick}
use Rattle.line.specs.Machine.{Ruling, refuse, accept, and_then}
use Rattle.line.specs.Line.{Line, seated, head, place}
use Rattle.line.specs.Desk.{following, enter, send, receive, leave, Outcome, refused, sent, received, sent_by, received_by, judge, settled, step}
use Rattle.line.specs.Transfers.{seat_of}
use Rattle.line.proofs.Moves.{head_accept}
use Rattle.line.proofs.Steps.{enter_01, leave_03}
use Rattle.judge.specs.Answers.{plain_of}
use Rattle.judge.specs.declared.Answer.{Answer}
use Rattle.transfer.specs.declared.Order.{Order}
use Rattle.transfer.specs.declared.Transfer.{Transfer}
use Rattle.transfer.specs.Due.{request_due}
use Rattle.transfer.specs.Judgement.{next_with}
use Rattle.transfer.specs.Coe.{coe_machine, Told, begins_with, sends_with, sends_if_due, receives_with, receives_if_due}
use Rattle.desk.specs.declared.Desk.{Desk}
use Rattle.desk.specs.Record.{Queue, lined, view_of, desk_of, Good, place_in}
use Rattle.desk.specs.Calls.{answer_for, lent_after, called_of}
use Rattle.desk.specs.Change.{Changes, joins_by, heads_by, closes_at, moves_on}
use Rattle.desk.proofs.Held.{good_length, good_join, good_close, good_end, good_head, gone_place}
use Rattle.desk.proofs.Changed.{called_at, counted_at, joins_is, sends_is, goes_on, leaves_is, is_over_lem}

abbrev outcome : Queue × Outcome coe_machine → Outcome coe_machine
outcome r = r.1

module _ (d : Desk) (g : Good d) (s : ℕ) where
  abbrev q : Queue
  q = view_of d

  pub enters : (o : Order) (t : Transfer) → ltb 7 s ≡ false → seated s q.line ≡ false → length q.line < 8 → begins_with o ≡ accept t
      → Changes d (enter s o) (Ok (joins_by d s t))
  unfolding answer_for
  enters o t h f r e =
      let w = enter_01 coe_machine q s o t h f e in
      joins_is d g (enter s o) s t (omega (arith, good_length d g)) (ap outcome w)
      (ap (called_at (plain_of 0x01)) (good_join d g s t r) ∙ ap called_of (sym w))

  pub leaves : ltb 7 s ≡ false → seated s q.line ≡ true → place_in s q.line < d.waiting
      → Changes d (leave s) (Ok (closes_at (plain_of 0x03) d (place_in s q.line)))
  unfolding answer_for seat_of
  leaves h f r =
      let n = place_in s q.line in
      let e = good_close d g n r ∙ ap (λ (l : Line Transfer). desk_of (lined l q)) (gone_place s q.line) in
      let w = leave_03 coe_machine q s h f in
      leaves_is d g (leave s) (plain_of 0x03) n refl r (ap outcome w) (ap (called_at (plain_of 0x03)) e ∙ ap called_of (sym w))

  -- send and receive, once the head's transfer is t: the transfer's own ruling, 14 in it, is the step's
  module _ (t : Transfer) (h : head s q.line ≡ accept t) where
    pub waits : 0 < d.waiting
    waits = omega (arith, good_length d g, ap length (head_accept s q.line h).1)

    front : place_in s q.line ≡ 0
    unfolding place_in
    front = rw ((head_accept s q.line h).1, eq-eqb s s refl) refl

    module _ (b : List ℕ) where
      abbrev onward : List ℕ × Transfer → Ruling (Queue × Outcome coe_machine)
      onward r = accept (sent_by coe_machine s r.1 q, sent r.0)

      send_is : step coe_machine q (send s b) ≡ settled coe_machine q (and_then (sends_if_due t d.counter b) onward)
      unfolding step judge and_then sends_if_due view_of
      send_is = rw h (ap (settled coe_machine q) (go (request_due t)))
        where
          go : (x : Bool) → ◌≡◌ {A = Ruling (Queue × Outcome coe_machine)}
              (pick (not x) (refuse 0x14) (and_then (sends_with t d.counter b) onward))
              (and_then (pick x (sends_with t d.counter b) (refuse 0x14)) onward)
          go true = refl
          go false = refl

      send_by : (v : Ruling (List ℕ × Transfer)) → sends_if_due t d.counter b ≡ v
          → step coe_machine q (send s b) ≡ settled coe_machine q (and_then v onward)
      send_by v e = send_is ∙ ap (λ (w : Ruling (List ℕ × Transfer)). settled coe_machine q (and_then w onward)) e

      pub send_refuses : (k : ℕ) → sends_if_due t d.counter b ≡ refuse k → step coe_machine q (send s b) ≡ (q, refused k)
      unfolding settled and_then
      send_refuses k e = send_by (refuse k) e

      module _ (f : List ℕ) (u : Transfer) (e : sends_if_due t d.counter b ≡ accept (f, u)) where
        sent_step : step coe_machine q (send s b) ≡ (sent_by coe_machine s u q, sent f)
        unfolding settled and_then
        sent_step = send_by (accept (f, u)) e

        pub sends : Changes d (send s b) (Ok (heads_by (plain_of 0x02) d s u (following d.counter)))
        unfolding answer_for desk_of view_of
        sends =
            let c = following d.counter in
            sends_is d g (send s b) s u (plain_of 0x02) c f (ap outcome sent_step)
            (ap (λ (x : Desk). called_at (plain_of 0x02) (counted_at c x)) (good_head d g s u waits) ∙ ap called_of (sym sent_step))

        pub frame_sent : f ≡ lent_after b (step coe_machine q (send s b)).1
        unfolding lent_after
        frame_sent = ap (λ (r : Queue × Outcome coe_machine). lent_after b r.1) (sym sent_step)

    module _ (p c : List ℕ) where
      abbrev further : Told × Option Transfer → Ruling (Queue × Outcome coe_machine)
      further a = accept (received_by coe_machine s a.1 q, received a.0)

      receive_is : step coe_machine q (receive s (p, c)) ≡ settled coe_machine q (and_then (receives_if_due t p c) further)
      unfolding step judge and_then receives_if_due
      receive_is = rw h (ap (settled coe_machine q) (go (request_due t)))
        where
          go : (x : Bool) → ◌≡◌ {A = Ruling (Queue × Outcome coe_machine)}
              (pick x (refuse 0x14) (and_then (receives_with t (p, c)) further))
              (and_then (pick x (refuse 0x14) (receives_with t (p, c))) further)
          go true = refl
          go false = refl

      receive_by : (v : Ruling (Told × Option Transfer)) → receives_if_due t p c ≡ v
          → step coe_machine q (receive s (p, c)) ≡ settled coe_machine q (and_then v further)
      receive_by v e = receive_is ∙ ap (λ (w : Ruling (Told × Option Transfer)). settled coe_machine q (and_then w further)) e

      pub receive_refuses : (k : ℕ) → receives_if_due t p c ≡ refuse k → step coe_machine q (receive s (p, c)) ≡ (q, refused k)
      unfolding settled and_then
      receive_refuses k e = receive_by (refuse k) e

      module _ (a : Answer) (f : List ℕ) (o : Option Transfer) (e : receives_if_due t p c ≡ accept ((a, f), o)) where
        received_step : step coe_machine q (receive s (p, c)) ≡ (lined (place s o ++ tail q.line) q, received (a, f))
        unfolding settled and_then
        received_step = receive_by (accept ((a, f), o)) e

        pub data_received : f ≡ lent_after c (step coe_machine q (receive s (p, c))).1
        unfolding lent_after
        data_received = ap (λ (z : Queue × Outcome coe_machine). lent_after c z.1) (sym received_step)

        pub moves : Changes d (receive s (p, c)) (Ok (moves_on a d s (next_with o)))
        unfolding answer_for place seat_of
        moves = go o received_step
          where
            go : (o : Option Transfer) → step coe_machine q (receive s (p, c)) ≡ (lined (place s o ++ tail q.line) q, received (a, f))
                → Changes d (receive s (p, c)) (Ok (moves_on a d s (next_with o)))
            go none e = is_over_lem d g (receive s (p, c)) a 0 (sym front) waits (a, f) (ap outcome e) (ap (called_at a) (good_end d g waits) ∙ ap called_of (sym e))
            go (some u) e =
                goes_on d g (receive s (p, c)) s u a d.counter (a, f) (ap outcome e) (ap (called_at a) (good_head d g s u waits) ∙ ap called_of (sym e))
