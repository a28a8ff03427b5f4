-- The order program by characters, as they come: what a piece of input does to a run, and what it prints. That pieces give what the whole
-- text gives, as Printed says it by lines, is `AsPrinted`, which proofs/Whole proves. Assumes nothing.
use Rattle.std.specs.Prelude.{ℕ, ◌+◌, ◌*◌, ◌≤◌, ◌≡◌, Bool, true, false, List, [], ◌∷◌, ◌++◌, eqb, ltb, leb, length, set, take, replicate, Option, Some, None, is_none}
use Rattle.std.proofs.Math.Seq.{paste}
use Rattle.wire.specs.Words.{pick}
use Rattle.wire.specs.Store.{laid}
use Rattle.desk.specs.Record.{empty_at}
use Rattle.desk.specs.declared.Desk.{Desk}
use Rattle.order_text.specs.Digits.{digit_of}
use Rattle.order_text.specs.Lines.{has_bad, bytes_of}
use Rattle.order_run.specs.Turns.{Said, is_over, failed, after_frame, kept_frame, after_all}
use Rattle.order_run.specs.Printed.{printed}
use Rattle.order_run.specs.Part.{Part, part, nothing}
use Rattle.order_run.specs.declared.turns.Phase.{Phase}
use Rattle.order_run.specs.declared.turns.Phase.TheVariants.{Entry}
use Rattle.order_run.specs.Run.{Run, Going}
use Rattle.order_run.specs.declared.Fed.{Fed}
use Rattle.order_run.specs.declared.Buffers.{Buffers}

-- where a run stands, with its frame and its data buffer
pub record St : Type 0 where
  pub desk : Desk
  pub phase : Phase
  pub part : Part
  pub frame : List ℕ
  pub kept : List ℕ

abbrev pub st : Desk → Phase → Part → List ℕ → List ℕ → St
st d phase p frame kept = record { desk = d; phase = phase; part = p; frame = frame; kept = kept }

pub record Did : Type 0 where
  pub st : St
  pub text : List ℕ

-- what was printed before
abbrev pub behind : List ℕ → Did → Did
behind p x = record { st = x.st; text = p ++ x.text }

-- a line has been read: what it says, and a new line
abbrev pub read : Said → List ℕ → List ℕ → Did
read x frame kept = record { st = st x.desk x.phase nothing frame kept; text = x.text }

abbrev pub stopped : St → Did
stopped s = read (failed s.desk) s.frame s.kept

-- a line's end: "an odd line", or a frame
unfoldable pub end_said : St → Said
end_said s =
    pick (is_none s.part.half) (after_frame s.phase s.desk (take s.part.count s.frame) s.kept)
    (failed s.desk)

unfoldable pub end_kept : St → List ℕ
end_kept s =
    pick (is_none s.part.half) (kept_frame s.phase s.desk (take s.part.count s.frame) s.kept)
    s.kept

abbrev pub ended : St → Did
ended s = read (end_said s) s.frame (end_kept s)

-- "The first character that is not lower-case hexadecimal", and the first of "an overlong line" that has no room
unfoldable pub fails : Part → ℕ → Bool
fails p c = pick (ltb 15 (digit_of c)) true (pick (is_none p.half) (leb 1486 p.count) false)

-- a digit begins a byte or ends it
unfoldable pub put_part : Part → ℕ → Part
put_part p d = pick (is_none p.half) (part p.count (Some d)) (part (p.count + 1) None)

abbrev pub put_byte : ℕ → Option ℕ → ℕ → List ℕ → List ℕ
put_byte at None d frame = frame
put_byte at (Some high) d frame = set frame at (16 * high + d)

unfoldable pub put_frame : Part → ℕ → List ℕ → List ℕ
put_frame p d frame = put_byte p.count p.half d frame

abbrev pub put : St → ℕ → St
put s d = st s.desk s.phase (put_part s.part d) (put_frame s.part d s.frame) s.kept

unfoldable pub after_char : St → ℕ → Did
after_char s c =
    pick (eqb c 10) (ended s)
    (pick (fails s.part c) (stopped s)
    (record { st = put s (digit_of c); text = [] }))

-- a piece; "Surplus lines are not read."
unfoldable pub after : St → List ℕ → Did
after s [] = record { st = s; text = [] }
after s (c ∷ t) = pick (is_over s.phase) (record { st = s; text = [] }) (behind (after_char s c).text (after (after_char s c).st t))

-- the input's end: a last line that lacks its line end, and then what is left to say
unfoldable pub begun : Part → Bool
begun p = pick (is_none p.half) (ltb 0 p.count) true

unfoldable pub line_ended : St → Did
line_ended s = pick (begun s.part) (after s (10 ∷ [])) (record { st = s; text = [] })

unfoldable pub closed : St → Did
closed s = pick (is_over s.phase) (record { st = s; text = [] }) (read (after_all s.phase s.desk) s.frame s.kept)

unfoldable pub finished : St → Did
finished s = behind (line_ended s).text (closed (line_ended s).st)

-- what is printed for an input that was read in pieces
unfoldable pub in_pieces : St → List (List ℕ) → List ℕ
in_pieces s [] = (finished s).text
in_pieces s (p ∷ ps) = (after s p).text ++ in_pieces (after s p).st ps

abbrev pub joined : List (List ℕ) → List ℕ
joined [] = []
joined (p ∷ ps) = p ++ joined ps

-- ---- what the functions promise

abbrev pub further : Part → ℕ → Part
further p more = part (p.count + more) p.half

-- r bytes that the text t begins with, stored in the frame f from a place on
pub record Whole (t : List ℕ) (at : ℕ) (f : List ℕ) (r : ℕ) (f' : List ℕ) : Type 0 where
  pub there : 2 * r ≤ length t
  pub room : at + r ≤ 1486
  pub digits : has_bad (take (2 * r) t) ≡ false
  pub stored : f' ≡ paste f at (bytes_of t) r

-- a fresh run
pub record Starts (r : Run) : Type 0 where
  pub told : r ≡ record { desk = empty_at 1; phase = Entry; part = nothing }
  pub going : Going r

abbrev pub st_of : Run → List ℕ → List ℕ → St
st_of r frame kept = st r.desk r.phase r.part frame kept

abbrev pub st_in : Run → Buffers → St
st_in r b = st_of r b.frame b.«data»

abbrev pub run_of : St → Run
run_of s = record { desk = s.desk; phase = s.phase; part = s.part }

-- the answer and every lent byte are those of x; n characters leave room for one more line where the run goes on
pub record Feeds (x : Did) (n : ℕ) (r : Fed) (frame kept out out' : List ℕ) : Type 0 where
  pub told : r ≡ record { run = run_of x.st; printed = length x.text }
  pub framed : frame ≡ x.st.frame
  pub stored : kept ≡ x.st.kept
  pub printed : out' ≡ laid out 0 x.text
  pub going : Going r.run
  pub short : is_over x.st.phase ≡ false → length x.text ≤ 33 * n

-- ---- the whole program

-- from a fresh run on, with "a data buffer of 4,096 bytes", an input prints what its lines say, however it was cut when it was read
abbrev pub AsPrinted : Type 0
AsPrinted = (r : Run) → Starts r → (frame : List ℕ) → length frame ≡ 1486 → (ps : List (List ℕ))
    → in_pieces (st_of r frame (replicate 4096 0)) ps ≡ printed (joined ps)
