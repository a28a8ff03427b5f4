-- What document 01 says of the line's desk over every sequence of calls. Assumes nothing.
use Rattle.std.specs.Prelude.{◌≡◌, true, List, ℕ, zero, suc, length}
use Rattle.wire.specs.Words.{within}
use Rattle.line.specs.Lists.{keep}
use Rattle.line.specs.Machine.{Machine}
use Rattle.line.specs.Desk.{following, first, Pass, Call, Outcome, Desk, fresh_at}
use Rattle.line.specs.Stand.{Event, trace, after, line_stand}
use Rattle.line.specs.Sound.{Sound}
use Rattle.line.specs.Rules.{is_frame}

-- the counter n frames after one with counter c
unfoldable pub nth_after : ℕ → ℕ → ℕ
nth_after zero c = c
nth_after (suc n) c = nth_after n (following c)

module _ (M : Machine) where
  -- how many frames were sent
  unfoldable pub frames : List (Event M (Outcome M)) → ℕ
  frames xs = length (keep (λ x. is_frame x.told) xs)

  -- "Seats are 0 to 7. A transfer is one entry": no two at one seat, and at most eight in the line
  abbrev pub SoundAfter : Type 0
  SoundAfter = (p : Pass) (ks : List (Call M)) → Sound (after (line_stand M) (fresh_at M p) ks).line

  -- "7 is followed by 1": the counter of the next frame, by the frames sent so far
  abbrev pub CounterOfFrames : Type 0
  CounterOfFrames = (d : Desk M) (ks : List (Call M)) →
      (after (line_stand M) d ks).pass.counter ≡ nth_after (frames (trace (line_stand M) d ks)) d.pass.counter

  -- so every counter sent, which is the desk's at that time (`sends_for_head`), is 1 to 7 from a desk that began so
  abbrev pub CounterInRange : Type 0
  CounterInRange = (d : Desk M) (ks : List (Call M)) → within 1 7 d.pass.counter ≡ true →
      within 1 7 (after (line_stand M) d ks).pass.counter ≡ true

  -- "Eighth frame: counter 1."
  abbrev pub EighthFrame : Type 0
  EighthFrame = (ks : List (Call M)) → frames (trace (line_stand M) (fresh_at M first) ks) ≡ 7 →
      (after (line_stand M) (fresh_at M first) ks).pass.counter ≡ 1
