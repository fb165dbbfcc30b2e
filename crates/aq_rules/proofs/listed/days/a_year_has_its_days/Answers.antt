use Rattle.std.proofs.Common.{refl}
use Rattle.aq_base.specs.Calendar.{days_of_years}
use Rattle.aq_rules.specs.Ozone.OzoneYear.{days_of}
use Rattle.aq_rules.specs.Listed.Daily.{daily_answer, pm25_days_sheet, pm10_days_sheet}
use Rattle.aq_rules.proofs.listed.days.a_year_has_its_days.Goals as goal

pub returns : goal.returns
unfolding days_of_years days_of daily_answer pm25_days_sheet pm10_days_sheet
returns c = record { ozone = λ office at year. refl; fine = λ office at. refl; coarse = λ office at. refl }
