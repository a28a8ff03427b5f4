-- `order_text::has_bad` meets its contract: it asks of each character what the definition asks.
use mathlib.Core.Path.{◌∙◌, sym}
use Rattle.std.proofs.Common.{rules, tests}
use Rattle.std.proofs.lemmas.Iterator.{YieldsList-from_slice}
use Rattle.std.proofs.lemmas.Iterator.Search.{any_from_yields_List}
use Rattle.order_text.proofs.Lines.{is_bad, has_bad-any}
use Rattle.order_text.proofs.has_bad.Goals as goal

pub returns : goal.returns
returns c =
    any_from_yields_List is_bad _ _ _ c.any.ensures.ran (YieldsList-from_slice c.args.line.now (cc)) (λ x b q k. search (rules, tests))
    ∙ sym (has_bad-any c.args.line.now)
