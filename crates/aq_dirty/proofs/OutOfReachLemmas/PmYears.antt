-- Years of PM2.5 and PM10: a PM2.5 year that is not in reach has the values that it had, and a year none of whose quarters is in reach is as before.
use Rattle.std.proofs.Common.{◌≡◌, ℕ, ◌<◌, Bool, true, false, ◌||◌, List, [], ◌∷◌, ◌++◌, map, refl, sym, ap, ◌∙◌, subst, arith}
use Rattle.std.specs.Prelude.{ℤ}
use Rattle.std.specs.List.{list_any}
use Rattle.std.proofs.lemmas.Bool.{or_parts}
use Rattle.aq_base.specs.Site.{Site}
use Rattle.aq_base.specs.Calendar.{day_of_hour, is_year, year_of, quarter_year, quarter_number}
use Rattle.aq_base.specs.declared.monitor.Pollutant.{Pollutant}
use Rattle.aq_base.specs.declared.monitor.Pollutant.TheVariants.{Pm25, Pm10}
use Rattle.aq_base.specs.declared.office.OfficeRecord.{OfficeRecord}
use Rattle.aq_rules.specs.Office.Office.{Office, IsOffice}
use Rattle.aq_rules.specs.Particles.ParticleDay.{site_day}
use Rattle.aq_rules.specs.Particles.QuarterCounts.{quarter_values, quarters_of, pm25_quarter, pm25_year, values_in}
use Rattle.aq_rules.specs.Particles.Pm10Estimate.{pm10_quarter, pm10_year}
use Rattle.aq_rules.specs.Kept.Summaries.{summary_of_year, eight_greatest, pm25_summary}
use Rattle.aq_rules.specs.Kept.Cells.{PmYearCell, QuarterCell}
use Rattle.aq_rules.specs.Kept.Reach.{reach}
use Rattle.aq_rules.proofs.CellsOnce.{member, cell-itself}
use Rattle.aq_rules.proofs.Unreached.{ReadsAt}
use Rattle.aq_dirty.proofs.OutOfReachLemmas.DaysOfQuarters.{InQuarter, year-of_quarter, quarter-in_year}
use Rattle.aq_dirty.proofs.OutOfReachLemmas.DaysRead.{day-out}
use Rattle.aq_dirty.proofs.OutOfReachLemmas.PmDays.{pm_day-out_of_reach}
use Rattle.aq_dirty.proofs.OutOfReachLemmas.PmQuarters.{values-same, pm25_quarter-out_of_reach, pm10_quarter-out_of_reach}

year-reads : (records : List OfficeRecord) (site : Site) (year day hour : ℕ) → year_of day ≡ year → day_of_hour hour ≡ day → ReadsAt (PmYearCell site year) records site Pm25 hour
year-reads records site year day hour is on = rw (on, is, cell-itself (PmYearCell site year)) refl

pub in-year : (year part : ℕ) → part < 4 → is_year year ≡ true → is_year (quarter_year (quarter_number year part)) ≡ true
in-year year part few inside = subst (λ y. is_year y ≡ true) (sym (quarter-in_year year part few inside)) inside

module _ (a b : Office) (site : Site) (year : ℕ) (valid : IsOffice a) (after : IsOffice b) (inside : is_year year ≡ true) where
  -- ---- values

  module _ (out : member (PmYearCell site year) (reach a b) ≡ false) where
    pub day-same : (day part : ℕ) → part < 4 → InQuarter (quarter_number year part) day → site_day a site Pm25 day ≡ site_day b site Pm25 day
    day-same day part few is =
        let of_year : year_of day ≡ year = year-of_quarter (quarter_number year part) day is ∙ quarter-in_year year part few inside in
        pm_day-out_of_reach a b site day is.in_profile valid after Pm25
        (day-out a b (PmYearCell site year) site Pm25 day (λ hour on. year-reads a.records site year day hour of_year on) (λ hour on. year-reads b.records site year day hour of_year on) out)

    part-same : (part : ℕ) → part < 4 → quarter_values a site Pm25 (quarter_number year part) ≡ quarter_values b site Pm25 (quarter_number year part)
    part-same part few = values-same a b site Pm25 (quarter_number year part) (in-year year part few inside) (λ day is. day-same day part few is)

    abbrev joined : List ℤ → List ℤ → List ℤ → List ℤ → List ℤ
    joined first second third fourth = first ++ (second ++ (third ++ (fourth ++ [])))

    pub values-out_of_reach : values_in (pm25_year a site year) ≡ values_in (pm25_year b site year)
    unfolding pm25_year
    values-out_of_reach =
        let first = part-same 0 (omega arith) in
        let second = part-same 1 (omega arith) in
        let third = part-same 2 (omega arith) in
        let fourth = part-same 3 (omega arith) in
        λ i. joined (first i) (second i) (third i) (fourth i)

    pub top-out_of_reach : (pm25_summary a site year).top ≡ (pm25_summary b site year).top
    unfolding pm25_summary
    top-out_of_reach = ap eight_greatest values-out_of_reach

  -- ---- a year by its quarters

  abbrev AreOut : Pollutant → Type 0
  AreOut pollutant = list_any (λ quarter. member (QuarterCell site pollutant quarter) (reach a b)) (quarters_of year) ≡ false

  by-quarters : {Q : Type 0} (f g : ℕ → Q) (pollutant : Pollutant)
      → ((quarter : ℕ) → is_year (quarter_year quarter) ≡ true → member (QuarterCell site pollutant quarter) (reach a b) ≡ false → f quarter ≡ g quarter)
      → AreOut pollutant → map f (quarters_of year) ≡ map g (quarters_of year)
  by-quarters f g pollutant same out =
      let is_in : ℕ → Bool = λ part. member (QuarterCell site pollutant (quarter_number year part)) (reach a b) in
      let first = or_parts (is_in 0) (is_in 1 || (is_in 2 || (is_in 3 || false))) out in
      let second = or_parts (is_in 1) (is_in 2 || (is_in 3 || false)) first.1 in
      let third = or_parts (is_in 2) (is_in 3 || false) second.1 in
      let fourth = or_parts (is_in 3) false third.1 in
      let one = same (quarter_number year 0) (in-year year 0 (omega arith) inside) first.0 in
      let two = same (quarter_number year 1) (in-year year 1 (omega arith) inside) second.0 in
      let three = same (quarter_number year 2) (in-year year 2 (omega arith) inside) third.0 in
      let four = same (quarter_number year 3) (in-year year 3 (omega arith) inside) fourth.0 in
      λ i. one i ∷ two i ∷ three i ∷ four i ∷ []

  pub pm25_year-out_of_reach : AreOut Pm25 → pm25_year a site year ≡ pm25_year b site year
  unfolding pm25_year
  pm25_year-out_of_reach out = by-quarters (pm25_quarter a site) (pm25_quarter b site) Pm25 (λ quarter within quiet. pm25_quarter-out_of_reach a b site quarter valid after within quiet) out

  pub pm25_summary-out_of_reach : AreOut Pm25 → pm25_summary a site year ≡ pm25_summary b site year
  unfolding pm25_summary
  pm25_summary-out_of_reach out = ap summary_of_year (pm25_year-out_of_reach out)

  pub pm10_year-out_of_reach : AreOut Pm10 → pm10_year a site year ≡ pm10_year b site year
  unfolding pm10_year
  pm10_year-out_of_reach out = by-quarters (pm10_quarter a site) (pm10_quarter b site) Pm10 (λ quarter within quiet. pm10_quarter-out_of_reach a b site quarter valid after within quiet) out
