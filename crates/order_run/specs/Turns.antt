-- What a line of an order file does and prints, by the desk's calls at seat 0. Document 01, "The order program": "It uses seat 0, a 16-byte
-- frame buffer, a data buffer of 4,096 bytes". Assumes nothing.
use Rattle.std.specs.Prelude.{ℕ, ◌+◌, ◌≤◌, ◌≡◌, Bool, true, false, List, [], ◌∷◌, ◌++◌, eqb, leb, length, take, replicate, Option, Some, None, Result, IfOk}
use Rattle.wire.specs.Words.{pick}
use Rattle.wire.specs.Store.{laid}
use Rattle.wire.specs.declared.refusal.Refusal.{Refusal}
use Rattle.line.specs.Desk.{Call, enter, send, receive, leave, step}
use Rattle.transfer.specs.Coe.{coe_machine}
use Rattle.desk.specs.Record.{view_of, Good}
use Rattle.desk.specs.Calls.{called_of, lent_after}
use Rattle.desk.specs.Change.{called_by, Within}
use Rattle.desk.specs.declared.Desk.{Desk}
use Rattle.desk.specs.declared.Called.{Called}
use Rattle.desk.specs.declared.change.Change.{Change}
use Rattle.order_text.specs.Text.{hex_text}
use Rattle.order_text.specs.Lines.{Line, good, bad}
use Rattle.order_run.specs.Entry.{form_of}
use Rattle.transfer.specs.declared.Order.{Order}
use Rattle.order_run.specs.declared.turns.Phase.{Phase}
use Rattle.order_run.specs.declared.turns.Phase.TheVariants.{Entry, Reply, Over}
use Rattle.order_run.specs.declared.turns.Turn.{Turn}

-- what a call gives back, and the buffer b that it was lent, as it is afterwards
unfoldable pub called : Desk → Call coe_machine → Called
called d k = called_of (step coe_machine (view_of d) k)

unfoldable pub lent_back : Desk → Call coe_machine → List ℕ → List ℕ
lent_back d k b = lent_after b (step coe_machine (view_of d) k).1

-- a printed line
unfoldable pub line_text : List ℕ → List ℕ
line_text s = hex_text s ++ (10 ∷ [])

-- the text of frames, a line each
abbrev pub text_of : List (List ℕ) → List ℕ
text_of [] = []
text_of (s ∷ ss) = line_text s ++ text_of ss

-- the run awaits its entry, or a reply, or is over
abbrev pub is_entry : Phase → Bool
is_entry Entry = true
is_entry Reply = false
is_entry Over = false

abbrev pub is_over : Phase → Bool
is_over Entry = false
is_over Reply = false
is_over Over = true

pub record Said : Type 0 where
  pub desk : Desk
  pub phase : Phase
  pub text : List ℕ

-- the bytes are the last line
abbrev pub last : Desk → List ℕ → Said
last d s = record { desk = d; phase = Over; text = line_text s }

-- "makes it print `ff` as its last line and stop"
abbrev pub failed : Desk → Said
failed d = last d (0xff ∷ [])

-- "It prints each request"
abbrev pub sending : Call coe_machine
sending = send 0 (replicate 16 0)

unfoldable pub request : Desk → Said
request d = record { desk = (called d sending).desk; phase = Reply; text = line_text (lent_back d sending (replicate 16 0)) }

-- "a bad entry (none at all, no listed form, or answered 15)"; a fresh desk answers an entry 01 or 15
abbrev pub after_enter : Called → Said
after_enter c = pick (eqb c.answer.number 0x01) (request c.desk) (failed c.desk)

abbrev pub after_form : Desk → Option Order → Said
after_form d (Some o) = after_enter (called d (enter 0 o))
after_form d None = failed d

-- "then the last number and, after 00, the stored payload"
unfoldable pub after_receive : Called → List ℕ → Said
after_receive c kept =
    pick (eqb c.answer.number 0x00) (last c.desk (0x00 ∷ take c.answer.length kept))
    (pick (eqb c.answer.number 0x01) (request c.desk)
    (pick (eqb c.answer.number 0x02) (record { desk = c.desk; phase = Reply; text = [] })
    (last c.desk (c.answer.number ∷ []))))

-- a reply judged where the data buffer holds kept, and what the buffer holds afterwards
unfoldable pub after_reply : Desk → List ℕ → List ℕ → Said
after_reply d s kept = after_receive (called d (receive 0 (s, kept))) (lent_back d (receive 0 (s, kept)) kept)

unfoldable pub kept_reply : Desk → List ℕ → List ℕ → List ℕ
kept_reply d s kept = lent_back d (receive 0 (s, kept)) kept

-- "Line one is the entry", "The others are replies."
unfoldable pub after_frame : Phase → Desk → List ℕ → List ℕ → Said
after_frame phase d s kept = pick (is_entry phase) (after_form d (form_of s)) (after_reply d s kept)

unfoldable pub kept_frame : Phase → Desk → List ℕ → List ℕ → List ℕ
kept_frame phase d s kept = pick (is_entry phase) kept (kept_reply d s kept)

abbrev pub after_line : Phase → Desk → Line → List ℕ → Said
after_line phase d (good s) kept = after_frame phase d s kept
after_line phase d bad kept = failed d

abbrev pub kept_line : Phase → Desk → Line → List ℕ → List ℕ
kept_line phase d (good s) kept = kept_frame phase d s kept
kept_line phase d bad kept = kept

-- "none at all"; "Replies used up: it leaves, 03."
unfoldable pub after_all : Phase → Desk → Said
after_all phase d =
    pick (is_entry phase) (failed d)
    (last (called d (leave 0)).desk ((called d (leave 0)).answer.number ∷ []))

-- ---- what the functions promise that read a line

-- a call at the desk d says x, where the data buffer then holds kept
pub record Tells (d : Desk) (x : Said) (c : Result Change Refusal) (kept : List ℕ) : Type 0 where
  pub told : after_receive (called_by c d) kept ≡ x
  pub good : Good (called_by c d).desk
  pub within : IfOk c Within

-- and of a line: the change that it makes at the desk d, or none of a bad one, which says ff
abbrev pub Says : Desk → Said → Option (Result Change Refusal) → List ℕ → Type 0
Says d x (Some c) kept = Tells d x c kept
Says d x None kept = failed d ≡ x

-- and whatever the data buffer holds
abbrev pub Enters : Desk → Said → Option (Result Change Refusal) → Type 0
Enters d x c = (kept : List ℕ) → Says d x c kept

-- a reply is still due, and one slot is all that changes
abbrev pub quiet : Change → Bool
quiet c = pick (eqb c.answer.number 0x02) (leb c.last c.first) false

-- ---- what the functions promise that print from a place on

abbrev pub turn_of : ℕ → Said → Turn
turn_of at s = record { desk = s.desk; phase = s.phase; end = at + length s.text }

-- a run that goes on has printed one request at most, in 33 characters
pub record Turned (s : Said) (at : ℕ) (r : Turn) (out out' : List ℕ) : Type 0 where
  pub told : r ≡ turn_of at s
  pub printed : out' ≡ laid out at s.text
  pub good : Good r.desk
  pub fits : at + length s.text ≤ length out
  pub short : is_over s.phase ≡ false → length s.text ≤ 33
