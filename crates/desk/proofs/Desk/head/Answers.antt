-- `head` meets its contract: the seat's place says whose turn it is.
use borrow.Author.Tests.{lt-ltb, le-ltb}
use mathlib.Core.Path.{◌≡◌, sym, ◌∙◌}
use mathlib.Core.List.{◌∷◌, tail}
use Prim.Native.Nat.{◌<◌}
use native.Mathlib.Omega.{arith}
use lib.ListN.{get_or}
use Rattle.line.proofs.Steps.{head_10, head_12, head_13, head_turn}
use Rattle.desk.specs.Record.{view_of, place_in, pair_of}
use Rattle.desk.proofs.Moved.{unread}
use Rattle.desk.proofs.Held.{placed, unplaced, place-head, place_later, good_length, good_front}
use Rattle.desk.proofs.Desk.head.Goals as goal

pub returns-then-seat-gt7 : goal.returns-then-seat-gt7
returns-then-seat-gt7 c = sym (head_10 c.args.seat (view_of c.args.self).line (lt-ltb 7 _ c.if-seat-gt7.true))

pub returns-in-None : goal.returns-in-None
returns-in-None c =
    let l = (view_of c.args.self).line in
    sym (head_12 c.args.seat l (le-ltb 7 _ c.if-seat-gt7.false) (unplaced c.args.seat l (sym c.in-None.is ∙ c.place.ensures)))

pub returns-in-Some-eq0 : goal.returns-in-Some-eq0
returns-in-Some-eq0 c =
    let s = c.args.seat in
    let l = (view_of c.args.self).line in
    let at = placed s l _ (sym c.in-Some-eq0.is ∙ c.place.ensures) in
    let p : place_in s l ≡ 0 = omega arith in
    let q = pair_of (get_or c.args.self.line 0 unread) in
    let front : l ≡ q ∷ tail l = good_front _ c.requires unread (omega (arith, good_length _ c.requires)) in
    rw (front, head_turn s q (tail l) (le-ltb 7 _ c.if-seat-gt7.false) (place-head _ q (tail l) (rw front at p)))

pub returns-in-Some : goal.returns-in-Some
returns-in-Some c =
    let s = c.args.seat in
    let l = (view_of c.args.self).line in
    let at = placed s l _ (sym c.in-Some.is ∙ c.place.ensures) in
    let p : 0 < place_in s l = omega arith in
    let front : l ≡ pair_of (get_or c.args.self.line 0 unread) ∷ tail l = good_front _ c.requires unread (omega (arith, good_length _ c.requires)) in
    rw (front, head_13 s _ _ (le-ltb 7 _ c.if-seat-gt7.false) (rw front at at.taken) (place_later _ _ _ (rw front at p)))
