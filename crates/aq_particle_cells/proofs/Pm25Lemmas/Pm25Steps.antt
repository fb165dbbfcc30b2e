-- The steps in which a day or a quarter of PM2.5 is brought up to date.
use Rattle.std.proofs.Common.{◌≡◌, ℕ, ◌+◌, ◌<◌, ◌≤◌, Bool, true, false, cond, ◌&&◌, List, refl, sym, subst, ◌∙◌, arith}
use Rattle.std.specs.Prelude.{nat_lt, Option}
use Rattle.std.proofs.lemmas.Bool.Decides.{nat_tests}
use Rattle.aq_base.specs.Calendar.{days_in_quarter, quarter_first, quarter_of}
use Rattle.aq_base.specs.Site.{Site}
use Rattle.aq_base.specs.declared.day.TheConstants.{LAST_DAY}
use Rattle.aq_base.specs.declared.monitor.Pollutant.{Pollutant}
use Rattle.aq_base.specs.declared.monitor.Pollutant.TheVariants.{Pm25}
use Rattle.aq_base.specs.declared.office.OfficeRecord.{OfficeRecord}
use Rattle.aq_cal.proofs.Within.{quarter_holds}
use Rattle.aq_rules.specs.Kept.Cells.{CellName, PmDayCell, QuarterCell}
use Rattle.aq_rules.specs.Office.Monitors.{is_same_site}
use Rattle.aq_rules.specs.Office.Office.{Office}
use Rattle.aq_rules.specs.Ozone.SiteHour.{Cell}
use Rattle.aq_series.specs.DayCells.{site_steps}
use Rattle.aq_particle_cells.specs.Days.KeptDays.{cell_at, day_at, sample_at, Days}
use Rattle.aq_particle_cells.proofs.DaysLemmas.TimeLemmas.{is_among}
use Rattle.aq_particle_cells.specs.Pm25.Bound.{own_steps, AreEnough}
use Rattle.aq_particle_cells.specs.Pm25.Pm25Cells.{sample_from, IsCountedBy}
use Rattle.aq_particle_cells.specs.Pm25.Pm25Levels.{IsCellOf}
use Rattle.aq_particle_cells.proofs.Pm25Lemmas.Pm25Samples.{sample-same}

-- a day is kept as it should be, if its value and its sample are
pub day-already : (days : Days) (site : Site) (day : ℕ) (cell sample : Option Cell) → cell ≡ cell_at days site day → sample_at days site day ≡ sample
    → day_at days site day ≡ (record { cell = cell; sample = sample })
unfolding cell_at sample_at
day-already days site day cell sample value counts = λ i. record { cell = sym value i; sample = counts i }

-- the next day of a quarter counts as it should already, if each did at first
pub sample-already : (records : List OfficeRecord) (start now : Days) (site : Site) (first count done quarter day : ℕ)
    → first ≡ quarter_first quarter → count ≡ days_in_quarter quarter → first + count ≤ LAST_DAY + 1 → first + done ≡ day → done < count
    → ((other : Site) (number : ℕ) → cell_at now other number ≡ cell_at start other number)
    → ((other : Site) (number : ℕ) → sample_at now other number ≡ cond (is_same_site site other && is_among first done number) (sample_from records start site number) (sample_at start other number))
    → IsCountedBy records start site quarter → sample_at now site day ≡ sample_from records now site day
unfolding IsCountedBy
sample-already records start now site first count done quarter day opens many in_profile at more cells samples already =
    samples site day ∙ by (is_same_site site site && is_among first done day) ∙ sample-same records start now site day (λ other number. sym (cells other number))
  where
    within : day ≤ LAST_DAY
    within = omega (arith, in_profile, at, more)

    its : quarter_of day ≡ quarter
    its = (quarter_holds quarter day within).1 (omega (arith, opens, at), omega (arith, opens, many, at, more))

    by : (b : Bool) → cond b (sample_from records start site day) (sample_at start site day) ≡ sample_from records start site day
    by true = refl
    by false = already day within its

-- ---- the steps of a cell

module _ (office : Office) (kept : Days) (enough : CellName → ℕ) (are : AreEnough office kept enough) (site : Site) (before after : ℕ) where
  pub day-paid : (day : ℕ) (pollutant : Pollutant) → pollutant ≡ Pm25 → after ≤ before + site_steps office.records site Pm25 + 16
      → after ≤ before + own_steps enough (PmDayCell site pollutant day)
  unfolding own_steps
  day-paid day pollutant same made =
      subst (λ (p : Pollutant). after ≤ before + own_steps enough (PmDayCell site p day)) (sym same) (omega (arith, made, are.days site day))

  pub quarter-paid : (quarter : ℕ) (pollutant : Pollutant) → pollutant ≡ Pm25 → after ≤ before + 800
      → (IsCountedBy office.records kept site quarter → after ≤ before)
      → after ≤ before + own_steps enough (QuarterCell site pollutant quarter)
  unfolding own_steps IsCellOf
  quarter-paid quarter pollutant same made none =
      subst (λ (p : Pollutant). after ≤ before + own_steps enough (QuarterCell site p quarter)) (sym same) (by (nat_lt (enough (QuarterCell site Pm25 quarter)) 800) refl)
    where
      by : (b : Bool) → nat_lt (enough (QuarterCell site Pm25 quarter)) 800 ≡ b → after ≤ before + enough (QuarterCell site Pm25 quarter)
      by true few =
          let less : enough (QuarterCell site Pm25 quarter) < 800 = grind (arith, nat_tests, few) in
          let still = none (are.quarters site quarter less) in
          omega (arith, still)
      by false many = let more : 800 ≤ enough (QuarterCell site Pm25 quarter) = grind (arith, nat_tests, many) in omega (arith, made, more)
