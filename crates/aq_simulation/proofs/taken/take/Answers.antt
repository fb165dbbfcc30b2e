use Rattle.std.proofs.Common.{◌∙◌}
use Rattle.aq_simulation.proofs.Steps.{not_failed, posted_office}
use Rattle.aq_simulation.proofs.taken.take.Goals as goal

pub returns-clause-book : goal.returns-clause-book
returns-clause-book c =
    posted_office _ _ _ _ (not_failed _ _ c.requires.held) (not_failed _ _ (c.in_ok-post_uncounted.ensures.held ∙ c.requires.held)) c.in_ok-post_uncounted.ensures.posted
