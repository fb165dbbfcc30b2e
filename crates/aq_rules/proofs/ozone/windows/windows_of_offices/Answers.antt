use Rattle.std.proofs.Common.{refl}
use Rattle.std.specs.Fmt.{digits}
use Rattle.aq_rules.specs.Shown.Sheet.{text_of, site_text, day_text, hour_text}
use Rattle.aq_rules.specs.Shown.Sheets.{load_sheet, windows_sheet, windows_answer}
use Rattle.aq_base.specs.Calendar.{year_of, month_of, days_of_years, days_of_months}
use Rattle.aq_base.specs.Decimal.{last_digits}
use Rattle.aq_rules.specs.Office.Monitors.{is_eligible}
use Rattle.aq_rules.specs.Office.Exclusion.{excluded}
use Rattle.aq_rules.specs.Office.Designation.{primary_on}
use Rattle.aq_rules.specs.Ozone.SiteHour.{site_hour}
use Rattle.aq_rules.specs.Ozone.EightHour.{eight_hours, window}
use Rattle.aq_rules.specs.Ozone.OzoneDay.{starts_of, windows}
use Rattle.aq_rules.proofs.ozone.windows.windows_of_offices.Goals as goal

pub returns : goal.returns
unfolding digits text_of load_sheet year_of month_of last_digits site_text day_text hour_text windows_sheet windows_answer days_of_years days_of_months is_eligible excluded primary_on site_hour eight_hours window starts_of windows
returns c = record { load_of_nine_lines = refl; windows_of_eight_hours = refl; before = refl; same_day = refl; seven_o_clock_counts_for_its_day_before = refl; seven_o_clock_counts_for_its_day_same_day = refl; net = refl; full = refl; net_hours = refl; full_hours = refl }
