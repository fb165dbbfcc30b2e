use Rattle.std.proofs.Common.{◌∙◌}
use Rattle.aq_book.proofs.MigrationLemmas.{found-opened}
use Rattle.aq_book.proofs.migration.can_be_opened.Goals as goal

pub returns : goal.returns
returns c = c.can_be_opened.ensures ∙ found-opened c.args.rows.now c.in_ok-found.found c.in_ok-found.ensures
