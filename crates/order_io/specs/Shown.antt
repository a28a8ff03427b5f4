-- A piece or the end of the input, as it is taken and written: the run and every lent byte afterwards are those of x. What the output
-- took is not said here. Assumes nothing.
use Rattle.std.specs.Prelude.{◌≡◌, List, ℕ}
use Rattle.wire.specs.Store.{laid}
use Rattle.wire.specs.Words.{One}
use Rattle.order_run.specs.Feed.{Did, run_of}
use Rattle.order_run.specs.Run.{Run, Going}

pub record Shows (x : Did) (r : Run) (frame kept out out' : List ℕ) : Type 0 where
  pub told : r ≡ run_of x.st
  pub framed : frame ≡ x.st.frame
  pub stored : kept ≡ x.st.kept
  pub printed : out' ≡ laid out 0 x.text
  pub going : Going r

-- "that no second answer satisfies it is shown": one run, one frame, one data buffer, one output
abbrev pub Unique : Type 0
Unique = (x : Did) (out : List ℕ) → One (λ (r : Run × List ℕ × List ℕ × List ℕ). Shows x r.0 r.1 r.2 out r.3)

-- The same where it was taken and could not be written: every lent byte is that of x all the same. There is no run to go on with.
pub record Leaves (x : Did) (frame kept out out' : List ℕ) : Type 0 where
  pub framed : frame ≡ x.st.frame
  pub stored : kept ≡ x.st.kept
  pub printed : out' ≡ laid out 0 x.text

-- that too leaves one frame, one data buffer, one output
abbrev pub LeavesUnique : Type 0
LeavesUnique = (x : Did) (out : List ℕ) → One (λ (r : List ℕ × List ℕ × List ℕ). Leaves x r.0 r.1 out r.2)
