-- The desk's answers as a table: which condition gives which number, and what each number leaves. `conditions` is document 01's
-- "Order: enter 10, 11, 15; send and receive 10, 12, 13, 14, 16; leave 10, 12", with the conditions of "Numbers the desk gives back".
-- Assumes nothing.
use Rattle.std.specs.Prelude.{◌≡◌, true, not, List, [], ◌∷◌, ℕ, ltb, length}
use Rattle.std.proofs.Math.Option.{Option, none, some}
use Rattle.wire.specs.Words.{within, first_of}
use Rattle.wire.specs.Front.{in_front}
use Rattle.services.specs.Requests.{packed_of}
use Rattle.judge.specs.Answers.{answer_of}
use Rattle.judge.specs.Storage.{stored}
use Rattle.judge.specs.declared.Answer.{Answer}
use Rattle.line.specs.Line.{Line, seated}
use Rattle.line.specs.Desk.{Pass, enter, send, receive, leave, fresh_at}
use Rattle.line.specs.Stand.{Stand, after, line_stand}
use Rattle.line.specs.Numbers.{Test, leads, of_head}
use Rattle.transfer.specs.Due.{due_of, request_due}
use Rattle.transfer.specs.Coe.{Told, request_in, judged, coe_machine}
use Rattle.transfer.specs.declared.Transfer.{Transfer}
use Rattle.desk.specs.Record.{Queue, Good, view_of}
use Rattle.desk.specs.Stand.{lent_by, desk_stand}
use Rattle.desk.specs.declared.Desk.{Desk}
use Rattle.promises.specs.Finding.{number}
use Rattle.promises.specs.Orders.{unfit}
use Rattle.promises.specs.Standing.{Called}

-- ---- when a call is refused

unfoldable pub conditions : Queue → Called → List Test
conditions q (enter s o) =
    -- "seat above 7"
    (ltb 7 s, 0x10)
    -- "seat taken"
    ∷ (seated s q.line, 0x11)
    -- "entry: data length not 1-4, list kind not 1-5, budget 0"
    ∷ unfit o
conditions q (send s b) =
    (ltb 7 s, 0x10)
    -- "seat empty"
    ∷ (not (seated s q.line), 0x12)
    -- "not at the head"
    ∷ (not (leads s q.line), 0x13)
    ∷ of_head q.line (λ t.
    -- "the other of send and receive is due"
    (not (request_due t), 0x14)
    -- "frame buffer not 16 to 1,486 bytes"
    ∷ (not (within 16 1486 (length b)), 0x16)
    ∷ [])
conditions q (receive s l) =
    (ltb 7 s, 0x10)
    ∷ (not (seated s q.line), 0x12)
    ∷ (not (leads s q.line), 0x13)
    ∷ of_head q.line (λ t.
    (request_due t, 0x14)
    -- "reply above 1,486, N above 131,070"
    ∷ (ltb 1486 (length l.0), 0x16)
    ∷ (ltb 131070 (length l.1), 0x16)
    ∷ [])
conditions q (leave s) =
    (ltb 7 s, 0x10)
    ∷ (not (seated s q.line), 0x12)
    ∷ []

-- ---- what is given back

-- of the head; a desk with nobody in the line refuses before
unfoldable pub of_first : {A : Type 0} → A → (Transfer → A) → Line Transfer → A
of_first a f [] = a
of_first a f (p ∷ l) = f p.1

-- the answer, by the first condition that holds; where none does, "answers 01", "answers 02", as the reply is judged, and 03
unfoldable pub answer_by : Queue → Called → Option ℕ → Answer
answer_by q k (some n) = number n
answer_by q (enter s o) none = number 0x01
answer_by q (send s b) none = number 0x02
answer_by q (receive s l) none = of_first (number 0x12) (λ t. answer_of (judged t (length l.1) l.0)) q.line
answer_by q (leave s) none = number 0x03

-- the lent buffer afterwards: "all unchanged, also for all 1x"; "writes the head's due request with the next counter"; "A frame
-- stands at the front of the lent buffer; zeros fill the rest"; "Each call writes only its own chunk, at the sum of the earlier ones"
unfoldable pub buffer_by : Queue → Called → Option ℕ → List ℕ
buffer_by q k (some n) = lent_by k
buffer_by q (enter s o) none = []
buffer_by q (send s b) none =
    of_first b (λ t. in_front (packed_of q.pass.counter (request_in (due_of t))) (length b)) q.line
buffer_by q (receive s l) none = of_first l.1 (λ t. stored (judged t (length l.1) l.0) l.0 t.sum l.1) q.line
buffer_by q (leave s) none = []

-- at every record that calls made, every call is told so
abbrev pub TableAtRecords : Type 0
TableAtRecords = (d : Desk) → Good d → (k : Called)
    → let q = view_of d in desk_stand.answers d k ≡ (answer_by q k (first_of (conditions q k)), buffer_by q k (first_of (conditions q k)))

-- ---- of any desk that is offered: the answers that the table gives, after any calls from a fresh desk, whatever its first counter.
-- What the calls before have made is told by `line`'s desk.

module _ (S : Stand coe_machine Told) where
  -- what S tells of the call k after the calls ks
  abbrev pub told_by : Pass → List Called → Called → Told
  told_by p ks k = S.answers (after S (S.fresh p) ks) k

  abbrev queue_after : Pass → List Called → Queue
  queue_after p ks = after (line_stand coe_machine) (fresh_at coe_machine p) ks

  -- "Each number is given exactly under its condition."
  abbrev pub ConditionTable : Type 0
  ConditionTable = (p : Pass) → within 1 7 p.counter ≡ true → (ks : List Called) (k : Called)
      → let q = queue_after p ks in (told_by p ks k).0 ≡ answer_by q k (first_of (conditions q k))

  -- the request and storage rules
  abbrev pub RequestAndStorage : Type 0
  RequestAndStorage = (p : Pass) → within 1 7 p.counter ≡ true → (ks : List Called) (k : Called)
      → let q = queue_after p ks in (told_by p ks k).1 ≡ buffer_by q k (first_of (conditions q k))
