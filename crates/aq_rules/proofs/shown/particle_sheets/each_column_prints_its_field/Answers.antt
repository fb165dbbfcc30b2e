use Rattle.std.proofs.Common.{refl}
use Rattle.std.specs.Fmt.{digits}
use Rattle.aq_base.specs.Decimal.{last_digits}
use Rattle.aq_rules.specs.Lists.{ranked}
use Rattle.aq_rules.specs.Shown.ParticleSheets.{pm25_sheet, pm10_sheet, annual_value_sheet, daily_value_sheet, pm10_value_sheet}
use Rattle.aq_rules.specs.Shown.Sheet.{text_of, site_text}
use Rattle.aq_rules.specs.Shown.OtherSheets.{report_sheet, value_sheet}
use Rattle.aq_rules.proofs.shown.particle_sheets.each_column_prints_its_field.Goals as goal

pub returns : goal.returns
unfolding digits last_digits ranked text_of site_text pm25_sheet pm10_sheet annual_value_sheet daily_value_sheet pm10_value_sheet report_sheet value_sheet
returns c = record { fine = refl; coarse = refl; annual = refl; daily = refl; pm10 = refl; sheets = refl; reports = refl }
