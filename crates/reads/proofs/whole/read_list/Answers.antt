-- `reads::whole::read_list` meets its contract: a turn lays the first of what is to come, and at the end nothing is.
use Rattle.std.proofs.Common.{◌≡◌, sym, ap, ◌∙◌, inl, ◌*◌, ◌≤◌, length, arith, false, Ok}
use Rattle.wire.specs.Store.{laid}
use Rattle.reads.specs.List.{odd}
use Rattle.reads.specs.Reader.{at_start, coming}
use Rattle.reads.proofs.Taking.{one_turn, laid_all, listed_fit, words_half}
use Rattle.reads.proofs.whole.read_list.Goals as goal

pub loop-place-init-derived : goal.loop-place-init-derived
loop-place-init-derived c =
    let begun : c.enumerate-place-items.result.iter ≡ at_start c.args.payload = c.enumerate-place-items.ensures.source ∙ c.new.ensures in
    let few : 2 * length (coming c.enumerate-place-items.result.iter) ≤ length c.args.payload.now = rw begun (listed_fit c.args.payload.now) in
    rw c.into_iter-place-iterator.ensures.into_iter_gives
    ((tt, tt, inl (omega (arith, few, c.enumerate-place-items.ensures.count))), tt)

pub loop-place-preserved : goal.loop-place-preserved
loop-place-preserved c =
    let turn = c.in-Some.ensures.steps in
    rw (c.put.ensures, turn.1, turn.2)
    (one_turn c.loop-place.items c.loop-place.place-iterator.count c.in-Some.index _ (coming c.next.new.self.iter) _ turn.0.0 c.loop-place.invariant)

pub returns : goal.returns
returns c =
    let even : odd c.args.payload.now ≡ false = sym c.odd.ensures ∙ c.if-odd.false in
    (rw even (ap Ok (sym (words_half _))), sym (laid_all _ _) ∙ ap (laid _ _) (sym c.in-None.ensures.steps.0.0.0) ∙ c.loop-place.invariant)
