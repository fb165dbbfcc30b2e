use Rattle.std.proofs.Common.{sym, ap, ◌∙◌, Bool, false, Option}
use Rattle.std.specs.Option.{option_map_or}
use Rattle.aq_base.specs.declared.monitor.Duration.{Duration}
use Rattle.aq_series.proofs.Pocs.{eligible_is}
use Rattle.aq_series.proofs.hours.is_eligible.Goals as goal

pub returns-in-Some : goal.returns-in-Some
returns-in-Some c =
    ap (λ (o : Option (Duration × Bool)). option_map_or (λ (p : Duration × Bool). p.1) o false) (sym c.in-Some.is ∙ c.monitor.ensures)
    ∙ sym (eligible_is c.args.registry.now c.args.monitor.now c.requires)

pub returns-in-None : goal.returns-in-None
returns-in-None c =
    ap (λ (o : Option (Duration × Bool)). option_map_or (λ (p : Duration × Bool). p.1) o false) (sym c.in-None.is ∙ c.monitor.ensures)
    ∙ sym (eligible_is c.args.registry.now c.args.monitor.now c.requires)
