use Rattle.std.proofs.Common.{ap, ◌∙◌}
use Rattle.aq_rules.proofs.Changes.{keys-rise}
use Rattle.aq_rules.specs.Office.Office.{observation_key, observation_numbers, rises}
use Rattle.aq_staging.proofs.keys.EitherKeys.new.Goals as goal

pub invariant_of-result : goal.invariant_of-result
invariant_of-result c =
    ap (rises observation_numbers) c.new-2.ensures ∙ keys-rise observation_key observation_numbers c.args.second c.requires
