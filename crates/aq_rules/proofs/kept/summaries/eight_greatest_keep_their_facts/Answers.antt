use Rattle.aq_rules.proofs.Pm25Facts.{top-falls, top-count, top-greatest}
use Rattle.aq_rules.proofs.kept.summaries.eight_greatest_keep_their_facts.Goals as goal

pub returns : goal.returns
returns c = record { falls = top-falls; count = top-count; first = top-greatest }
