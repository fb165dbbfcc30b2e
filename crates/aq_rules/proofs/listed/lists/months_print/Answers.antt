use Rattle.std.proofs.Common.{refl}
use Rattle.std.specs.Fmt.{digits}
use Rattle.aq_base.specs.Calendar.{days_of_months, days_of_years, month_of, year_of}
use Rattle.aq_base.specs.Decimal.{last_digits}
use Rattle.aq_base.specs.Text.{site_text}
use Rattle.aq_rules.specs.Listed.Completeness.{completeness_sheet, listed_months, month_counts}
use Rattle.aq_rules.specs.Listed.Monitors.{monitors_of}
use Rattle.aq_rules.specs.Listed.Places.{days_of_month, standing_at}
use Rattle.aq_rules.specs.Office.Schedule.{is_scheduled}
use Rattle.aq_rules.specs.Ozone.OzoneYear.{days_of}
use Rattle.aq_rules.specs.Shown.Sheet.{text_of}
use Rattle.aq_rules.proofs.listed.lists.months_print.Goals as goal

pub returns : goal.returns
unfolding digits completeness_sheet days_of days_of_month days_of_months days_of_years is_scheduled last_digits listed_months monitors_of month_counts month_of site_text standing_at text_of year_of
returns c = record { order = refl; rows = refl }
