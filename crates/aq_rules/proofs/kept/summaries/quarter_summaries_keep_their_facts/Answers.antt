use Rattle.aq_rules.proofs.Pm25Facts.{least-there, greatest-there, sum-within, no-sum}
use Rattle.aq_rules.proofs.kept.summaries.quarter_summaries_keep_their_facts.Goals as goal

pub returns : goal.returns
returns c = record { least = least-there; greatest = greatest-there; sum = sum-within; no_sum = no-sum }
