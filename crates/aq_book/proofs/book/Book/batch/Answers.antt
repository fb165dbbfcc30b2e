use Rattle.std.proofs.Common.{◌∙◌, ◌++◌, map}
use Rattle.aq_rules.specs.Kept.RowChanges.{row_change}
use Rattle.aq_book.specs.Staged.{own_change}
use Rattle.aq_book.proofs.BatchLemmas.{batch_is}
use Rattle.aq_book.proofs.book.Book.batch.Goals as goal

pub returns : goal.returns
returns c number digest body stage =
    c.in_ok-batch.ensures
    ∙ (λ i. map row_change (c.changes.ensures i) ++ map row_change (own_change (c.identity.ensures i) (c.reply.ensures i)))
    ∙ batch_is c.args.staged.now c.args.self.now number digest body stage
