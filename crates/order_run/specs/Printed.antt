-- What the order program prints for a text. Document 01, "The order program": "It reads standard input: lines of lower-case hexadecimal,
-- one frame a line, at most 1,486 bytes each." Assumes nothing.
use Rattle.std.specs.Prelude.{ℕ, List, [], ◌∷◌, ◌++◌, eqb, replicate}
use Rattle.wire.specs.Words.{pick}
use Rattle.desk.specs.Record.{empty_at}
use Rattle.desk.specs.declared.Desk.{Desk}
use Rattle.order_text.specs.Lines.{line_of}
use Rattle.order_run.specs.Turns.{is_over, after_line, kept_line, after_all}
use Rattle.order_run.specs.declared.turns.Phase.{Phase}
use Rattle.order_run.specs.declared.turns.Phase.TheVariants.{Entry}

-- the lines of a text: "the last line may lack its line end", and behind the last line end is no line
abbrev pub before : ℕ → List (List ℕ) → List (List ℕ)
before c [] = (c ∷ []) ∷ []
before c (l ∷ ls) = (c ∷ l) ∷ ls

unfoldable pub lines_in : List ℕ → List (List ℕ)
lines_in [] = []
lines_in (c ∷ t) = pick (eqb c 10) ([] ∷ lines_in t) (before c (lines_in t))

-- what the lines print, from a desk, a phase and a data buffer on; "Surplus lines are not read."
unfoldable pub said : Desk → Phase → List ℕ → List (List ℕ) → List ℕ
said d phase kept [] = pick (is_over phase) [] (after_all phase d).text
said d phase kept (l ∷ ls) =
    pick (is_over phase) []
    ((after_line phase d (line_of 1486 l) kept).text
    ++ said (after_line phase d (line_of 1486 l) kept).desk (after_line phase d (line_of 1486 l) kept).phase (kept_line phase d (line_of 1486 l) kept) ls)

unfoldable pub printed : List ℕ → List ℕ
printed text = said (empty_at 1) Entry (replicate 4096 0) (lines_in text)
