use Rattle.std.proofs.Common.{refl}
use Rattle.std.specs.Fmt.{digits}
use Rattle.aq_base.specs.Decimal.{last_digits}
use Rattle.aq_rules.specs.Shown.Sheet.{text_of, site_text}
use Rattle.aq_rules.specs.Shown.AreaSheets.{decisive_sheet, area_sheet, area_sites_sheet}
use Rattle.aq_rules.specs.Areas.CriticalValue.{critical}
use Rattle.aq_rules.proofs.shown.area_sheets.area_sheets_print.Goals as goal

pub returns : goal.returns
unfolding digits last_digits text_of site_text decisive_sheet area_sheet area_sites_sheet critical
returns c = record { ozone = refl; daily = refl; without_value = refl; history = refl; site_row = refl; ozone_sites = refl; annual_sites = refl; daily_sites = refl; pm10_sites = refl }
