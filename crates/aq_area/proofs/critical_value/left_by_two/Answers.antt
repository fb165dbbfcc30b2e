use Rattle.std.proofs.Common.{◌∙◌, ap, sym}
use Rattle.std.specs.Prelude.{option_map}
use Rattle.std.proofs.lemmas.Int.{to_z-of_z}
use Rattle.aq_rules.specs.Areas.CriticalValue.{critical_with, last_two}
use Rattle.aq_verdict.specs.declared.design_value.DesignValue.{DesignValue}
use Rattle.aq_verdict.specs.Designs.{design_of}
use Rattle.aq_area.proofs.critical_value.left_by_two.Goals as goal

pub returns-in-Ozone : goal.returns-in-Ozone
returns-in-Ozone c = simp (to_z-of_z, c.ranges.level) at c.ozone.ensures ∙ ap (λ (value : DesignValue). option_map (critical_with c.args.level) (last_two (design_of value))) (sym c.in-Ozone.is)
