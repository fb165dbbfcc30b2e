use Rattle.std.proofs.Common.{refl}
use Rattle.std.specs.Fmt.{digits}
use Rattle.aq_base.specs.Calendar.{days_of_years, days_of_months, year_of, month_of}
use Rattle.aq_base.specs.Decimal.{last_digits}
use Rattle.aq_rules.specs.Office.Exclusion.{excluded}
use Rattle.aq_rules.specs.Shown.Export.{shown_of, export_of, export_answer}
use Rattle.aq_rules.specs.Shown.Sheet.{site_text, day_text}
use Rattle.aq_rules.proofs.shown.export.exports_print.Goals as goal

pub returns : goal.returns
unfolding days_of_years days_of_months year_of month_of last_digits digits excluded site_text day_text shown_of export_of export_answer
returns c = record { year = refl; other_year = refl; export_shows_codes = refl; ozone = refl; particles = refl; other_site = refl; no_values = refl }
