-- A small machine, to see that the statements speak of something: three tasks at one desk, computed; numbers that `Numbered`
-- asks for; and a stand that serves the first transfer truly and pretends later, which demand 3 rules out. Assumes nothing.
use mathlib.Core.Path.{◌≡◌, refl, ap}
use Prim.Native.Nat.{ℕ, ◌+◌, zero, suc}
use native.Mathlib.Omega.{arith}
use mathlib.Core.Bool.{Bool, true, false}
use mathlib.Core.List.{List, [], ◌∷◌, map, foldr}
use mathlib.Core.Option.{Option, none, some}
use lib.Dec.{ltb}
use Rattle.wire.specs.Words.{pick}
use Rattle.line.specs.Lists.{keep, some_of}
use Rattle.line.specs.Machine.{Ruling, refuse, accept, and_then, Machine}
use Rattle.line.specs.Line.{seated, find, headed, head, vacate, place}
use Rattle.line.specs.Desk.{Call, Outcome, Desk, enter, send, receive, leave, refused, entered, sent, received, left, first, fresh_at, judge, settled, step}
use Rattle.line.specs.Stand.{Stand, Event, calls, trace, after, line_stand, is_accepted}
use Rattle.line.specs.Transfers.{seat_of, is_enter, is_send, own, transfers, sent_frame, listed}
use Rattle.line.specs.Alone.{one_by_one, listed_of, Demand3Of}
use Rattle.line.specs.Numbers.{RefusesOnly, Numbered}
use Rattle.line.proofs.Refusals.{only_pick}

-- how many replies are still to come, and whether a request is due
abbrev Asked : Type 0
Asked = ℕ × Bool

toy_begin : ℕ → Ruling Asked
toy_begin zero = refuse 0x15
toy_begin (suc n) = accept (suc n, true)

toy_next : ℕ → Option Asked
toy_next zero = none
toy_next (suc zero) = none
toy_next (suc (suc n)) = some (suc n, true)

-- an entry is a number of replies, a frame shows its counter and the buffer, and an answer is the reply
abbrev toy : Machine
toy = record {
  Entry = ℕ;
  Lent = ℕ;
  Frame = ℕ × ℕ;
  Reply = ℕ;
  Answer = ℕ;
  Transfer = Asked;
  begin = toy_begin;
  send_due = λ t. t.1;
  sends = λ t c b. pick (ltb 9 b) (refuse 0x16) (accept ((c, b), (t.0, false)));
  receives = λ t m. accept (m, toy_next t.0);
}

begin_15 : (e : ℕ) → RefusesOnly 0x15 (toy_begin e)
unfolding toy_begin
begin_15 zero = refl
begin_15 (suc e) = tt

numbered : Numbered toy
numbered = record {
  number_of = λ a. 0x02;
  at_entry = begin_15;
  at_send = λ t c b. only_pick 0x16 (ltb 9 b) _ tt;
  at_receive = λ t m. tt;
  at_judgement = λ t m r h. refl;
}

abbrev Told : Type 0
Told = Outcome toy

outcomes : List (Event toy Told) → List Told
outcomes = map (λ x. x.told)

-- 5 waits while 3 has the mailbox, 6 leaves unsent, 5 leaves and is taken again. Each refusal from 10 to 16 comes once, 10 where
-- 12 holds too and 11 where 15 does.
abbrev shared : List (Call toy)
shared =
    enter 3 2 ∷ enter 5 1 ∷ send 5 0 ∷ send 3 0 ∷ send 3 0 ∷ receive 3 9 ∷ enter 6 4 ∷ leave 6 ∷ leave 6 ∷ send 9 0 ∷ send 3 10
    ∷ send 3 1 ∷ receive 3 8 ∷ send 5 2 ∷ enter 5 0 ∷ leave 5 ∷ enter 5 0 ∷ enter 5 7 ∷ send 5 3 ∷ []

answered : outcomes (trace (line_stand toy) (fresh_at toy first) shared)
    ≡ entered ∷ entered ∷ refused 0x13 ∷ sent (1, 0) ∷ refused 0x14 ∷ received 9 ∷ entered ∷ left ∷ refused 0x12 ∷ refused 0x10 ∷ refused 0x16
    ∷ sent (2, 1) ∷ received 8 ∷ sent (3, 2) ∷ refused 0x11 ∷ left ∷ refused 0x15 ∷ entered ∷ sent (4, 3) ∷ []
unfolding outcomes trace step judge settled and_then seated find headed head vacate place toy_begin toy_next
answered = refl

three : map outcomes (listed_of (line_stand toy) (is_accepted toy) shared)
    ≡ (entered ∷ sent (1, 0) ∷ received 9 ∷ sent (2, 1) ∷ received 8 ∷ []) ∷ (entered ∷ sent (3, 2) ∷ left ∷ []) ∷ (entered ∷ sent (4, 3) ∷ []) ∷ []
unfolding outcomes trace step judge settled and_then seated find headed head vacate place toy_begin toy_next is_accepted keep some_of seat_of is_enter is_send own transfers sent_frame listed
three = refl

-- true for five calls, and then received 0 whatever comes
abbrev pretender : Stand toy Told
pretender = record {
  State = ℕ × Desk toy;
  fresh = λ p. (0, fresh_at toy p);
  pass = λ s. s.1.pass;
  answers = λ s k. pick (ltb 4 s.0) (received 0) (step toy s.1 k).1;
  next = λ s k. (s.0 + 1, (step toy s.1 k).0);
}

heard : Told → ℕ
heard (refused n) = 0
heard entered = 0
heard (sent f) = 0
heard (received a) = a
heard left = 0

sum_heard : List (List (Event toy Told)) → ℕ
sum_heard = foldr (λ t n. foldr (λ x m. heard x.told + m) 0 t + n) 0

abbrev two : List (Call toy)
two = enter 0 1 ∷ send 0 0 ∷ receive 0 9 ∷ enter 0 1 ∷ send 0 0 ∷ receive 0 7 ∷ []

pretends : Demand3Of pretender (is_accepted toy) → ⊥
unfolding heard sum_heard one_by_one calls trace after step judge settled and_then seated find headed head vacate place toy_begin toy_next is_accepted keep some_of seat_of is_enter is_send own transfers sent_frame listed
pretends D = let z : ◌≡◌ {A = ℕ} 16 9 = ap sum_heard (D two) in omega arith
