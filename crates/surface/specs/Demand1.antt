-- Demand 1 of every exported function: "A refusal is one of document 01's numbers, and the call that gives it changes no byte of a lent
-- buffer." It follows from what their callers state. That no call stops or reads astray is part of each function's proof. Assumes nothing.
use Rattle.std.specs.Prelude.{◌≡◌, Bool, true, false, List, [], ◌∷◌, ℕ}
use Rattle.wire.specs.Words.{either}
use Rattle.judge.specs.Answers.{one_of}
use Rattle.judge.specs.declared.Answer.{Answer}
use Rattle.line.specs.Line.{seated}
use Rattle.line.specs.Transfers.{seat_of}
use Rattle.line.specs.Numbers.{is1x}
use Rattle.desk.specs.Record.{Good, view_of}
use Rattle.desk.specs.Stand.{lent_by}
use Rattle.desk.specs.declared.Desk.{Desk}
use Rattle.promises.specs.Standing.{Called}
use Rattle.promises.specs.Demand1.{numbers, is2x}
use Rattle.surface.specs.Writers.{UploadFrame, DownloadFrame, SegmentFrame, ListFrame}
use Rattle.surface.specs.Judge.{JudgesReply}
use Rattle.surface.specs.Calls.{Does}
use Rattle.surface.specs.Reads.{read_u8, read_u16, read_u32, read_i8, read_i16, read_i32, item_in, quantities_in}

abbrev pub refusal : ℕ → Bool
refusal n = either (is1x n) (is2x n)

-- a number among these, and a refusal leaves the lent buffer
pub record Among (given : List ℕ) (n : ℕ) (before after : List ℕ) : Type 0 where
  pub listed : one_of given n ≡ true
  pub refusal_leaves : refusal n ≡ true → after ≡ before

-- 02, 15 or 16
abbrev pub Writer : ℕ → List ℕ → List ℕ → Type 0
Writer = Among (0x02 ∷ 0x15 ∷ 0x16 ∷ [])

-- the judge knows no desk and no budget: of the desk's numbers, none of 03, 10 to 14 and 27
abbrev pub Judge : ℕ → List ℕ → List ℕ → Type 0
Judge = Among (0x00 ∷ 0x01 ∷ 0x02 ∷ 0x15 ∷ 0x16 ∷ 0x20 ∷ 0x21 ∷ 0x22 ∷ 0x23 ∷ 0x24 ∷ 0x25 ∷ 0x26 ∷ [])

-- "its seat is free again when it ends"
abbrev pub SeatFree : Called → Desk → Type 0
SeatFree k after = seated (seat_of k) (view_of after).line ≡ false

-- a call of the desk: also the record, and the seat
pub record DeskCall (d : Desk) (k : Called) (answer : Answer) (after : Desk) (lent : List ℕ) : Type 0 where
  pub listed : one_of numbers answer.number ≡ true
  -- 10: "all unchanged, also for all 1x"
  pub refusal_leaves : is1x answer.number ≡ true → (after ≡ d) × (lent ≡ lent_by k)
  -- 20: "transfer over, buffers unchanged by this call, also for all 2x"
  pub failure_ends : is2x answer.number ≡ true → SeatFree k after × (lent ≡ lent_by k)
  -- 00: "seat free"; 03: "buffers unchanged, seat free"
  pub done_ends : answer.number ≡ 0x00 → SeatFree k after
  pub leave_ends : answer.number ≡ 0x03 → SeatFree k after × (lent ≡ lent_by k)

-- "Typed reads and list reads refuse with 20."
abbrev pub Read : ℕ → Type 0
Read n = one_of (0x00 ∷ 0x20 ∷ []) n ≡ true

pub record HostDemand1 : Type 0 where
  pub upload : (c i b f n : ℕ) (before after : List ℕ) → UploadFrame c i b f before n after → Writer n before after
  pub download : (c i b f n : ℕ) (sent before after : List ℕ) → DownloadFrame c i b f sent before n after → Writer n before after
  pub segment : (c t n : ℕ) (before after : List ℕ) → SegmentFrame c t before n after → Writer n before after
  pub list : (c k n : ℕ) (before after : List ℕ) → ListFrame c k before n after → Writer n before after
  pub judge : (kind i b earlier : ℕ) (s d : List ℕ) (r : Answer) (after : List ℕ) → JudgesReply kind i b earlier s d r after
      → Judge r.number d after
  pub desk : (d : Desk) → Good d → (k : Called) (r : Answer) (after : Desk) (lent : List ℕ) → Does d k r after lent → DeskCall d k r after lent
  pub read_u8 : (s : List ℕ) → Read (read_u8 s).number
  pub read_u16 : (s : List ℕ) → Read (read_u16 s).number
  pub read_u32 : (s : List ℕ) → Read (read_u32 s).number
  pub read_i8 : (s : List ℕ) → Read (read_i8 s).number
  pub read_i16 : (s : List ℕ) → Read (read_i16 s).number
  pub read_i32 : (s : List ℕ) → Read (read_i32 s).number
  pub list_item : (s : List ℕ) (at : ℕ) → Read (item_in s at).number
  pub read_quantities : (s : List ℕ) → Read (quantities_in s).number
