use Rattle.std.proofs.Common.{ap, sym, ◌∙◌}
use Rattle.std.specs.Prelude.{unwrap_or}
use Rattle.aq_base.specs.declared.monitor.Duration.TheVariants.{Hour}
use Rattle.aq_listed.proofs.Durations.{lasting, lasts}
use Rattle.aq_listed.proofs.observation_lines.duration_of.Goals as goal

pub returns-in-Some : goal.returns-in-Some
returns-in-Some c =
    sym (ap (λ o. unwrap_or (lasting o) Hour) c.in-Some.is)
    ∙ lasts c.args.registry.now c.args.monitor.now c.monitor.result c.monitor.ensures

pub returns-in-None : goal.returns-in-None
returns-in-None c =
    sym (ap (λ o. unwrap_or (lasting o) Hour) c.in-None.is)
    ∙ lasts c.args.registry.now c.args.monitor.now c.monitor.result c.monitor.ensures
