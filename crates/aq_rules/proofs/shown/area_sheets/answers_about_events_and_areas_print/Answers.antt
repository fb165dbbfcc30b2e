use Rattle.std.proofs.Common.{refl}
use Rattle.std.specs.Fmt.{digits}
use Rattle.aq_base.specs.Calendar.{days_of_years, days_of_months}
use Rattle.aq_base.specs.Decimal.{last_digits}
use Rattle.aq_rules.specs.DesignValues.{design_value}
use Rattle.aq_rules.specs.Office.Designation.{primary_on}
use Rattle.aq_rules.specs.Office.Exclusion.{excluded}
use Rattle.aq_rules.specs.Office.Monitors.{is_eligible}
use Rattle.aq_rules.specs.Office.Schedule.{is_scheduled}
use Rattle.aq_rules.specs.Particles.ParticleDay.{eligible_pocs, monitor_day, site_day}
use Rattle.aq_rules.specs.Particles.Pm10Estimate.{pm10_quarter, pm10_year}
use Rattle.aq_rules.specs.Particles.Pm10Verdict.{pm10_design}
use Rattle.aq_rules.specs.Particles.QuarterCounts.{days_of_quarter}
use Rattle.aq_rules.specs.Particles.Strata.{first_days_after, first_days, strata_of}
use Rattle.aq_rules.specs.WhatIf.Assumed.{what_if, decisive}
use Rattle.aq_rules.specs.Areas.AreaValue.{area_year}
use Rattle.aq_rules.specs.Areas.CriticalValue.{critical}
use Rattle.aq_rules.specs.Shown.Sheet.{text_of, site_text}
use Rattle.aq_rules.specs.Shown.OtherSheets.{sites_with, value_sheet}
use Rattle.aq_rules.specs.Shown.ParticleSheets.{pm10_value_sheet}
use Rattle.aq_rules.specs.Shown.AreaSheets.{what_if_answer, decisive_answer, decisive_sheet, area_sites, site_values, area_in, area_answer, area_sheet, area_sites_answer, area_sites_sheet}
use Rattle.aq_rules.proofs.shown.area_sheets.answers_about_events_and_areas_print.Goals as goal

pub returns : goal.returns
unfolding digits days_of_years days_of_months last_digits design_value primary_on excluded is_eligible is_scheduled eligible_pocs monitor_day site_day pm10_quarter pm10_year pm10_design days_of_quarter first_days_after first_days strata_of what_if decisive area_year critical text_of site_text sites_with value_sheet pm10_value_sheet what_if_answer decisive_answer decisive_sheet area_sites site_values area_in area_answer area_sheet area_sites_answer area_sites_sheet
returns c = record { decisive = refl; as_if = refl; years = refl; area = refl; sites = refl; county = refl; other_county = refl; other_pollutant = refl; named = refl }
