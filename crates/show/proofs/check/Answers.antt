-- `show::check` meets its contract: each byte turns the sum as the definition does, and the sum stays below 65521.
use mathlib.Core.Path.{◌∙◌, sym}
use Prim.Native.Nat.{◌<◌}
use native.Mathlib.Omega.{arith}
use borrow.Author.Rules.{rules}
use Rattle.std.proofs.lemmas.Fn.{serves_by}
use Rattle.std.proofs.lemmas.Iterator.{YieldsList-from_slice}
use Rattle.std.proofs.lemmas.Iterator.Consumers.{fold_from_yields_List}
use Rattle.show.proofs.Sum.{turned, check_of-fold}
use Rattle.show.proofs.check.Goals as goal

pub fold-requires-clause-callable : goal.fold-requires-clause-callable
fold-requires-clause-callable c =
    serves_by _ (λ xs q. q.1 < 65521) (λ xs q x v j r. search rules) _ _ _ _ (omega arith) (λ xs t q x u y e j. search rules)

pub returns : goal.returns
returns c =
    fold_from_yields_List _ turned 0 _ c.fold.ensures.ran (YieldsList-from_slice c.args.s.now (cc)) (λ a x b q k. search rules)
    ∙ sym (check_of-fold 0 c.args.s.now)
