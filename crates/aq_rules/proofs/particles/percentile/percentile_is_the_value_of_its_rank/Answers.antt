use Rattle.std.proofs.Common.{refl}
use Rattle.aq_rules.proofs.Percentiles.{percentile-is, percentile-only, percentile-some}
use Rattle.aq_rules.proofs.particles.percentile.percentile_is_the_value_of_its_rank.Goals as goal

pub returns : goal.returns
returns c = record { above = λ values counted p at. (percentile-is values counted p at).0; at_or_above = λ values counted p at. (percentile-is values counted p at).1; only = percentile-only; some = percentile-some; none = λ values. refl }
