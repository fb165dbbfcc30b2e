-- The steps in which a day, a stratum or a quarter of PM10 is brought up to date.
use Rattle.std.proofs.Common.{◌≡◌, ℕ, ◌+◌, ◌<◌, ◌≤◌, Bool, true, false, cond, ◌&&◌, List, refl, ap, sym, subst, ◌∙◌, arith}
use Rattle.std.specs.Prelude.{nat_lt, Option, None}
use Rattle.std.proofs.lemmas.Bool.Decides.{nat_tests}
use Rattle.aq_base.specs.Calendar.{days_in_quarter, quarter_first, quarter_of}
use Rattle.aq_base.specs.Site.{Site}
use Rattle.aq_base.specs.declared.day.TheConstants.{LAST_DAY}
use Rattle.aq_base.specs.declared.monitor.Pollutant.{Pollutant}
use Rattle.aq_base.specs.declared.monitor.Pollutant.TheVariants.{Pm10}
use Rattle.aq_base.specs.declared.office.OfficeRecord.{OfficeRecord}
use Rattle.aq_cal.proofs.Within.{quarter_holds}
use Rattle.aq_rules.specs.Kept.Cells.{CellName, PmDayCell, QuarterCell, StratumCell}
use Rattle.aq_rules.specs.Office.Monitors.{is_same_site}
use Rattle.aq_rules.specs.Office.Office.{Office}
use Rattle.aq_rules.specs.Office.Schedule.{is_scheduled}
use Rattle.aq_rules.specs.Ozone.SiteHour.{Cell}
use Rattle.aq_series.specs.DayCells.{site_steps}
use Rattle.aq_particle_cells.specs.Days.KeptDays.{cell_at, day_at, sample_at, Days}
use Rattle.aq_particle_cells.proofs.DaysLemmas.TimeLemmas.{is_among}
use Rattle.aq_particle_cells.specs.Pm10.Bound.{own_steps, AreEnough}
use Rattle.aq_particle_cells.specs.Pm10.Pm10Cells.{scheduled_sample, AreSamplesBy, Pm10Kept}
use Rattle.aq_particle_cells.specs.Pm10.Pm10Levels.{IsCellOf}
use Rattle.aq_particle_cells.proofs.Pm10Lemmas.Pm10Exchange.{scheduled-same}

-- a day is kept as it should be, if its value and its sample are
pub day-already : (records : List OfficeRecord) (days : Days) (site : Site) (day : ℕ) (cell sample : Option Cell) → sample ≡ cond (is_scheduled records site Pm10 day) cell None
    → cell_at days site day ≡ cell → sample_at days site day ≡ scheduled_sample records days site day
    → day_at days site day ≡ (record { cell = cell; sample = sample })
unfolding cell_at sample_at scheduled_sample
day-already records days site day cell sample is value counts =
    let same : sample_at days site day ≡ sample = counts ∙ ap (λ (o : Option Cell). cond (is_scheduled records site Pm10 day) o None) value ∙ sym is in
    λ i. record { cell = value i; sample = same i }

-- the next day of a quarter counts as it should already, if each did at first
pub sample-already : (records : List OfficeRecord) (start now : Days) (site : Site) (first count done quarter day : ℕ)
    → first ≡ quarter_first quarter → count ≡ days_in_quarter quarter → first + count ≤ LAST_DAY + 1 → first + done ≡ day → done < count
    → ((other : Site) (number : ℕ) → cell_at now other number ≡ cell_at start other number)
    → ((other : Site) (number : ℕ) → sample_at now other number ≡ cond (is_same_site site other && is_among first done number) (scheduled_sample records start site number) (sample_at start other number))
    → AreSamplesBy records start site quarter → sample_at now site day ≡ scheduled_sample records now site day
unfolding AreSamplesBy
sample-already records start now site first count done quarter day opens many in_profile at more cells samples already =
    samples site day ∙ by (is_same_site site site && is_among first done day) ∙ scheduled-same records start now site day (sym (cells site day))
  where
    within : day ≤ LAST_DAY
    within = omega (arith, in_profile, at, more)

    its : quarter_of day ≡ quarter
    its = (quarter_holds quarter day within).1 (omega (arith, opens, at), omega (arith, opens, many, at, more))

    by : (b : Bool) → cond b (scheduled_sample records start site day) (sample_at start site day) ≡ scheduled_sample records start site day
    by true = refl
    by false = already day within its

-- ---- the steps of a cell

module _ (office : Office) (kept : Pm10Kept) (enough : CellName → ℕ) (are : AreEnough office kept enough) (site : Site) (before after : ℕ) where
  pub day-paid : (day : ℕ) (pollutant : Pollutant) → pollutant ≡ Pm10 → after ≤ before + site_steps office.records site Pm10 + 16
      → after ≤ before + own_steps enough (PmDayCell site pollutant day)
  unfolding own_steps
  day-paid day pollutant same made =
      subst (λ (p : Pollutant). after ≤ before + own_steps enough (PmDayCell site p day)) (sym same) (omega (arith, made, are.days site day))

  pub stratum-paid : (first : ℕ) → after ≤ before + 16 → after ≤ before + own_steps enough (StratumCell site first)
  unfolding own_steps
  stratum-paid first made = omega (arith, made, are.strata site first)

  pub quarter-paid : (quarter : ℕ) (pollutant : Pollutant) → pollutant ≡ Pm10 → after ≤ before + 800
      → (AreSamplesBy office.records kept.days site quarter → after ≤ before)
      → after ≤ before + own_steps enough (QuarterCell site pollutant quarter)
  unfolding own_steps IsCellOf AreSamplesBy
  quarter-paid quarter pollutant same made none =
      subst (λ (p : Pollutant). after ≤ before + own_steps enough (QuarterCell site p quarter)) (sym same) (by (nat_lt (enough (QuarterCell site Pm10 quarter)) 800) refl)
    where
      by : (b : Bool) → nat_lt (enough (QuarterCell site Pm10 quarter)) 800 ≡ b → after ≤ before + enough (QuarterCell site Pm10 quarter)
      by true few =
          let less : enough (QuarterCell site Pm10 quarter) < 800 = grind (arith, nat_tests, few) in
          let still = none (are.quarters site quarter less) in
          omega (arith, still)
      by false many = let more : 800 ≤ enough (QuarterCell site Pm10 quarter) = grind (arith, nat_tests, many) in omega (arith, made, more)
