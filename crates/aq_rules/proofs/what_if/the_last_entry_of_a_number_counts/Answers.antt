use Rattle.aq_rules.proofs.Assuming.{last-counts, others-stay, observations-stay, loads-stay}
use Rattle.aq_rules.proofs.what_if.the_last_entry_of_a_number_counts.Goals as goal

pub returns-clause-last : goal.returns-clause-last
returns-clause-last c = last-counts

pub returns-clause-others : goal.returns-clause-others
returns-clause-others c = others-stay

pub returns-clause-observations : goal.returns-clause-observations
returns-clause-observations c office list = observations-stay list office

pub returns-clause-loads : goal.returns-clause-loads
returns-clause-loads c office list = loads-stay list office
