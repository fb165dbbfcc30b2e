use Rattle.std.proofs.Common.{ℕ, ◌∙◌, Option, ap, is_some, sym}
use Rattle.aq_rules.specs.Office.Refusal.{is_taken}
use Rattle.aq_registry.specs.Registry.{office_with}
use Rattle.aq_registry.proofs.RuleLemmas.{taken_found}
use Rattle.aq_registry.proofs.registry.Registry.is_taken.Goals as goal

pub returns-in-Makeup : goal.returns-in-Makeup
returns-in-Makeup c =
    c.is_some.ensures
    ∙ ap (λ (o : Option ℕ). is_some o) c.missed_of.ensures
    ∙ sym (taken_found c.args.self.now c.in-Makeup.site c.in-Makeup.makeup)
    ∙ sym (ap (is_taken (office_with c.args.self.now)) c.in-Makeup.is)
