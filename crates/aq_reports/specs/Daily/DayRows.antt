-- The rows of days.
use Rattle.std.specs.Prelude.{ℕ, nat_le, List, filter, length}
use Rattle.aq_base.specs.Site.{Site}
use Rattle.aq_base.specs.declared.monitor.Pollutant.TheVariants.{Pm10}
use Rattle.aq_rules.specs.Listed.Daily.{Pm10Day, pm10_day, pm10_day_cells, pm25_day, pm25_day_cells}
use Rattle.aq_rules.specs.Office.Office.{Office}
use Rattle.aq_rules.specs.Office.Schedule.{is_scheduled}
use Rattle.aq_rules.specs.Particles.ParticleDay.{site_day}
use Rattle.aq_rules.specs.Particles.Strata.{first_days_among}
use Rattle.aq_rules.specs.Shown.Sheet.{SheetCell}

abbrev pub pm25_row : Office → Site → ℕ → List SheetCell
pm25_row office site day = pm25_day_cells (pm25_day office site day)

abbrev pub pm10_row : Office → Site → ℕ → List SheetCell
pm10_row office site day = pm10_day_cells (pm10_day office site day)

-- of a day of a quarter that has these days
abbrev pub place_among : Office → Site → List ℕ → ℕ → ℕ
place_among office site days day =
    length (filter (λ first. nat_le first day) (first_days_among (is_scheduled office.records site Pm10) days))

abbrev pub pm10_day_among : Office → Site → List ℕ → ℕ → Pm10Day
pm10_day_among office site days day = record {
  day = day;
  scheduled = is_scheduled office.records site Pm10 day;
  stratum = place_among office site days day;
  sample = site_day office site Pm10 day;
}

abbrev pub pm10_row_among : Office → Site → List ℕ → ℕ → List SheetCell
pm10_row_among office site days day = pm10_day_cells (pm10_day_among office site days day)
