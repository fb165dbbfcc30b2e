use Rattle.std.proofs.Common.{◌&&◌, ◌∙◌, ap}
use Rattle.aq_base.specs.Calendar.{days_of_months, days_of_years, month_of, year_of}
use Rattle.aq_base.specs.declared.office.OfficeRecord.TheVariants.{Makeup}
use Rattle.aq_rules.specs.Lines.OfficeForms.{is_makeup}
use Rattle.aq_rules.specs.Office.Office.{is_day, is_record}
use Rattle.aq_tests.proofs.pm25_cells.samples.Goals as goal

pub apply-requires : goal.apply-requires
unfolding days_of_months days_of_years month_of year_of
apply-requires c =
    (λ i. is_record (Makeup c.args.site (c.new.ensures i) (c.new-2.ensures i)))
    ∙ ap (λ b. (b && is_day 12606) && (is_day 12608 && is_makeup 12606 12608)) c.requires
