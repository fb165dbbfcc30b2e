use Rattle.std.proofs.Common.{refl}
use Rattle.std.specs.Fmt.{digits}
use Rattle.aq_base.specs.Calendar.{days_of_years, days_of_months, year_of, month_of}
use Rattle.aq_base.specs.Decimal.{last_digits}
use Rattle.aq_rules.specs.Shown.Sheet.{text_of, site_text, day_text, hour_text}
use Rattle.aq_rules.specs.Shown.Sheets.{days_sheet, load_sheet, windows_sheet, ozone_value_sheet}
use Rattle.aq_rules.proofs.shown.sheets.sheets_of_loads_and_of_ozone_print.Goals as goal

pub returns : goal.returns
unfolding digits days_of_years days_of_months year_of month_of last_digits text_of site_text day_text days_sheet load_sheet hour_text windows_sheet ozone_value_sheet
returns c = record { days_print = refl; refused_lines_print = refl; windows = refl; days = refl; value = refl; met = refl; no_value = refl }
