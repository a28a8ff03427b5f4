-- `place` meets its contract: the first slot that is the seat's, where it is in the line.
use mathlib.Core.Path.{◌≡◌, sym, ◌∙◌, ap}
use borrow.Author.Tests.{lt-ltb, le-ltb}
use Prim.Native.Nat.{ℕ}
use Rattle.std.specs.Prelude.{Option}
use Rattle.std.specs.List.{position}
use Rattle.desk.proofs.Held.{in_line, place_in_line}
use Rattle.desk.specs.declared.Desk.{Desk}
use Rattle.desk.specs.Record.{view_of, is_at, place_of}
use Rattle.desk.proofs.Desk.place.Goals as goal

found : (d : Desk) (s : ℕ) (r : Option ℕ) → r ≡ position (is_at s) d.line → in_line d.waiting r ≡ place_of s (view_of d).line
unfolding view_of
found d s r e = ap (in_line d.waiting) e ∙ place_in_line s d.line d.waiting

pub returns-in-Some : goal.returns-in-Some
returns-in-Some c =
    let h = found c.args.self c.args.seat _ (sym c.in-Some.is ∙ c.first_slot.ensures) in
    rw (lt-ltb _ _ c.if-at-self.true) at h

pub returns-in_default : goal.returns-in_default
returns-in_default c =
    let h = found c.args.self c.args.seat _ (sym c.in-Some.is ∙ c.first_slot.ensures) in
    rw (le-ltb _ _ c.if-at-self.false) at h

pub returns-in_default-2 : goal.returns-in_default-2
returns-in_default-2 c = found c.args.self c.args.seat _ (sym c.in_default.is ∙ c.first_slot.ensures)
