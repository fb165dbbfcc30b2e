use Rattle.std.proofs.Common.{◌∙◌, ap, sym}
use Rattle.aq_rules.specs.Office.Office.{combines_either}
use Rattle.aq_rules.specs.Office.Refusal.{is_combined}
use Rattle.aq_registry.specs.Registry.{office_with}
use Rattle.aq_registry.proofs.RuleLemmas.{some_counted}
use Rattle.aq_registry.proofs.registry.Registry.is_combined.Goals as goal

pub returns-in-Combined : goal.returns-in-Combined
returns-in-Combined c =
    c.combines_either.ensures
    ∙ sym (some_counted (combines_either c.in-Combined.site c.in-Combined.joined c.in-Combined.pollutant) c.args.self.now)
    ∙ sym (ap (is_combined (office_with c.args.self.now)) c.in-Combined.is)
