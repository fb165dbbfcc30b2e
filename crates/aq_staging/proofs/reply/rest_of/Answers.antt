use Rattle.aq_base.specs.Rule.{all_rules}
use Rattle.aq_staging.proofs.LoadLaws.{rest_counted}
use Rattle.aq_staging.proofs.reply.rest_of.Goals as goal

pub returns : goal.returns
returns c =
    rest_counted c.args.refused.now c.counts_by_number-counts.result all_rules c.all.result _ _ c.counts_by_number-counts.ensures c.all.ensures c.new-rest.ensures c.in_ok-add_counts.ensures
