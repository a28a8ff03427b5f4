-- `CoeAbortCode::from` a number meets its contract: the closure gives a row's number, and the search answers as it does in the list.
use borrow.Author.Rules.{rules}
use Rattle.std.proofs.lemmas.List.Sorted.{answers_always}
use Rattle.mailbox.proofs.AbortCodes.{listed, unlisted}
use Rattle.mailbox.proofs.abort_code.CoeAbortCodeFromU32.from.Goals as goal

pub returns-in-Ok : goal.returns-in-Ok
returns-in-Ok c =
    listed c.args.n c.in-Ok.place c.rows-rows.ensures
    (c.in-Ok.ensures.position (λ row. row.0) (answers_always _ _ _ (λ f a r g called. search rules)))

pub returns-in-Err : goal.returns-in-Err
returns-in-Err c =
    unlisted c.args.n c.in-Err.field-0 c.rows-rows.ensures
    (c.in-Err.ensures.position (λ row. row.0) (answers_always _ _ _ (λ f a r g called. search rules)))
