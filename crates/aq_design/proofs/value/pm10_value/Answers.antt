use Rattle.std.proofs.Common.{[], ◌∷◌}
use Rattle.aq_design.proofs.DesignLemmas.{pm10-value}
use Rattle.aq_design.proofs.value.pm10_value.Goals as goal

pub returns-clause-value : goal.returns-clause-value
returns-clause-value g c =
    pm10-value (g.Y.Years.office c.args.source.now) c.args.site c.args.year (c.pm10-first.result ∷ c.pm10-second.result ∷ c.pm10-third.result ∷ []) c.pm10.result
    (λ i. c.pm10-first.ensures.year i ∷ c.pm10-second.ensures.year i ∷ c.pm10-third.ensures.year i ∷ []) c.pm10.ensures
