use Rattle.std.proofs.Common.{◌∙◌}
use Rattle.aq_rd.proofs.Dates.{date_in-parts}
use Rattle.aq_rd.proofs.spellings.date_in.Goals as goal

pub returns : goal.returns
returns c =
    c.date_of.ensures
    ∙ date_in-parts c.args.text.now _ _ _ _ c.front.ensures.front c.front.ensures.behind c.front-2.ensures.front c.front-2.ensures.behind
