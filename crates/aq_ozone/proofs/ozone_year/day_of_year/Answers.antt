use Rattle.std.proofs.Common.{sym, subst, ap, ◌∙◌}
use Rattle.std.specs.Prelude.{ℤ, Option, IfSome}
use Rattle.aq_rules.specs.Ozone.OzoneDay.{OzoneDay}
use Rattle.aq_rules.specs.Ozone.OzoneYear.{ranked_maximum}
use Rattle.aq_series.specs.Samples.{IsOzone}
use Rattle.aq_ozone.proofs.RangeLemmas.{maximum_range}
use Rattle.aq_ozone.proofs.ozone_year.day_of_year.Goals as goal

pub returns-clause-range : goal.returns-clause-range
returns-clause-range g c =
    subst (λ (o : Option ℤ). IfSome o (λ (value : ℤ). IsOzone value)) (sym (c.ranked_maximum.ensures ∙ ap (λ (day : OzoneDay). ranked_maximum day) c.day_of_windows-ozone.ensures))
    (maximum_range c.args.windows.now c.requires)
