-- Uniqueness of the order program's functions on texts: "that no second answer satisfies it is shown". Assumes nothing.
use Rattle.std.specs.Prelude.{List, ℕ}
use Rattle.wire.specs.Words.{One}
use Rattle.order_run.specs.Feed.{Did, Starts, Feeds}
use Rattle.order_run.specs.declared.Fed.{Fed}

pub record Unique : Type 0 where
  pub starts : One Starts
  -- the answer, the frame, the data buffer and the output
  pub feeds : (x : Did) (n : ℕ) (out : List ℕ)
      → One (λ (r : Fed × List ℕ × List ℕ × List ℕ). Feeds x n r.0 r.1 r.2 out r.3)
