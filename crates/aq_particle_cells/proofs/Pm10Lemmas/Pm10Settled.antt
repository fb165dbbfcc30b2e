-- Which PM10 cells are the office's, once a day, a stratum or a quarter is brought up to date.
use Rattle.std.proofs.Common.{◌≡◌, ℕ, Bool, true, false, cond, ◌&&◌, List, refl, ap, sym, subst, ◌∙◌, arith}
use Rattle.std.specs.Prelude.{◌==◌, Option, None, option_and_then, filter_map}
use Rattle.std.proofs.lemmas.Bool.{false≢true}
use Rattle.std.proofs.lemmas.Bool.Decides.{nat_tests}
use Rattle.aq_base.specs.Calendar.{quarter_of}
use Rattle.aq_base.specs.Site.{Site}
use Rattle.aq_base.specs.declared.monitor.Pollutant.{Pollutant}
use Rattle.aq_base.specs.declared.monitor.Pollutant.TheVariants.{Ozone, Pm25, Pm10}
use Rattle.aq_base.specs.declared.office.OfficeRecord.{OfficeRecord}
use Rattle.aq_cal.proofs.Within.{quarter_holds}
use Rattle.aq_dirty.specs.Marked.{named as cell_named}
use Rattle.aq_dirty.specs.declared.cell_name.CellName as names
use Rattle.aq_dirty.specs.declared.cell_name.CellName.TheVariants.{Hour, Window, OzoneDay, OzoneYear, PmDay, Stratum, Quarter, PmYear}
use Rattle.aq_rules.specs.Kept.Cells.{CellName, HourCell, WindowCell, OzoneDayCell, OzoneYearCell, PmDayCell, StratumCell, QuarterCell, PmYearCell}
use Rattle.aq_rules.specs.Office.Monitors.{is_same_pollutant, is_same_site}
use Rattle.aq_rules.specs.Office.Office.{Office}
use Rattle.aq_rules.specs.Office.Sameness.{same_site, site_itself}
use Rattle.aq_rules.specs.Office.Schedule.{is_scheduled}
use Rattle.aq_rules.specs.Ozone.SiteHour.{Cell}
use Rattle.aq_rules.specs.Particles.ParticleDay.{site_day, unless_excluded}
use Rattle.aq_particle_cells.specs.Days.KeptDays.{cell_at, sample_at}
use Rattle.aq_particle_cells.specs.Pm10.Pm10Cells.{scheduled_sample, stratum_from, Pm10Kept}
use Rattle.aq_particle_cells.specs.Pm10.Pm10Levels.{office_stratum, AreBelow, AreKept, AreValuesOf, CellsStay, CountsAs, HasStratumOf, HasValueOf, IsCellOf}
use Rattle.aq_particle_cells.specs.Pm10.Strata.{days_of_stratum, stratum_at, stratum_of_samples}
use Rattle.aq_particle_cells.proofs.DaysLemmas.TimeLemmas.{itself, named}
use Rattle.aq_particle_cells.specs.Days.Spans.{is_day_of}

pub cells-stay-still : (office : Office) (kept : Pm10Kept) → CellsStay office kept kept
unfolding CellsStay
cells-stay-still office kept cell is = is

-- the sample of a day rests on its own value
pub sample-same : (records : List OfficeRecord) (a b : Pm10Kept) (site : Site) (day : ℕ) → cell_at a.days site day ≡ cell_at b.days site day → scheduled_sample records a.days site day ≡ scheduled_sample records b.days site day
unfolding scheduled_sample
sample-same records a b site day same = ap (λ (o : Option Cell). cond (is_scheduled records site Pm10 day) o None) same

module _ (office : Office) (before after : Pm10Kept) where
  -- a day that has the value and the sample that it had
  counts-same : (site : Site) (day : ℕ) → cell_at after.days site day ≡ cell_at before.days site day → sample_at after.days site day ≡ sample_at before.days site day → CountsAs office before site day → CountsAs office after site day
  counts-same site day cell sample was = sample ∙ was ∙ sample-same office.records before after site day (sym cell)

  -- ---- a day

  module _ (site : Site) (day : ℕ) (new : Option Cell)
      (cells : (other : Site) (number : ℕ) → cell_at after.days other number ≡ cond (is_same_site site other && (day == number)) new (cell_at before.days other number))
      (samples : (other : Site) (number : ℕ) → sample_at after.days other number ≡ cond (is_same_site site other && (day == number)) (scheduled_sample office.records after.days site day) (sample_at before.days other number)) where
    pub counts-stay : (other : Site) (number : ℕ) → CountsAs office before other number → CountsAs office after other number
    counts-stay other number was = by (is_same_site site other && (day == number)) refl
      where
        by : (b : Bool) → (is_same_site site other && (day == number)) ≡ b → CountsAs office after other number
        by true both =
            let same = named site other day number both in
            samples other number ∙ ap (λ b. cond b (scheduled_sample office.records after.days site day) (sample_at before.days other number)) both
            ∙ (λ i. scheduled_sample office.records after.days (same.0 i) (same.1 i))
        by false off =
            counts-same other number (cells other number ∙ ap (λ b. cond b new (cell_at before.days other number)) off)
            (samples other number ∙ ap (λ b. cond b (scheduled_sample office.records after.days site day) (sample_at before.days other number)) off) was

    module _ (value : new ≡ site_day office site Pm10 day) where
      pub value-here : HasValueOf office after site day
      value-here = cells site day ∙ ap (λ b. cond b new (cell_at before.days site day)) (itself site day) ∙ value

      pub value-stays : (other : Site) (number : ℕ) → HasValueOf office before other number → HasValueOf office after other number
      value-stays other number was = cells other number ∙ by (is_same_site site other && (day == number)) refl
        where
          by : (b : Bool) → (is_same_site site other && (day == number)) ≡ b → cond b new (cell_at before.days other number) ≡ site_day office other Pm10 number
          by true both = let same = named site other day number both in value ∙ (λ i. site_day office (same.0 i) Pm10 (same.1 i))
          by false both = was

      module _ (strata : (other : Site) (first : ℕ) → stratum_at after.strata other first ≡ stratum_at before.strata other first) where
        pub day-stay : CellsStay office before after
        unfolding CellsStay IsCellOf
        day-stay (HourCell other hour) was = tt
        day-stay (WindowCell other start) was = tt
        day-stay (OzoneDayCell other number) was = tt
        day-stay (OzoneYearCell other year) was = tt
        day-stay (PmDayCell other Pm10 number) was = value-stays other number was
        day-stay (PmDayCell other Pm25 number) was = tt
        day-stay (PmDayCell other Ozone number) was = tt
        day-stay (StratumCell other first) was = λ within. strata other first ∙ was within
        day-stay (QuarterCell other Pm10 quarter) was = λ number within its. counts-stay other number (was number within its)
        day-stay (QuarterCell other Pm25 quarter) was = tt
        day-stay (QuarterCell other Ozone quarter) was = tt
        day-stay (PmYearCell other year) was = tt

      pub day-now : IsCellOf office after (PmDayCell site Pm10 day)
      unfolding IsCellOf
      day-now = value-here

  -- ---- a stratum

  module _ (site : Site) (first : ℕ)
      (strata : (other : Site) (number : ℕ) → stratum_at after.strata other number ≡ cond (is_same_site site other && (first == number)) (stratum_from office.records before.days site first) (stratum_at before.strata other number))
      (cells : (other : Site) (day : ℕ) → cell_at after.days other day ≡ cell_at before.days other day)
      (samples : (other : Site) (day : ℕ) → sample_at after.days other day ≡ sample_at before.days other day)
      (values : AreValuesOf office before site) where
    new-stratum : stratum_from office.records before.days site first ≡ office_stratum office site first
    unfolding AreValuesOf office_stratum stratum_from
    new-stratum = λ i. stratum_of_samples (filter_map (λ day. option_and_then unless_excluded (values day i)) (days_of_stratum office.records site first))

    pub stratum-here : HasStratumOf office after site first
    stratum-here =
        strata site first ∙ ap (λ b. cond b (stratum_from office.records before.days site first) (stratum_at before.strata site first)) (itself site first) ∙ new-stratum

    pub stratum-stays : (other : Site) (number : ℕ) → HasStratumOf office before other number → HasStratumOf office after other number
    stratum-stays other number was = strata other number ∙ by (is_same_site site other && (first == number)) refl
      where
        by : (b : Bool) → (is_same_site site other && (first == number)) ≡ b → cond b (stratum_from office.records before.days site first) (stratum_at before.strata other number) ≡ office_stratum office other number
        by true both = let same = named site other first number both in new-stratum ∙ (λ i. office_stratum office (same.0 i) (same.1 i))
        by false both = was

    pub stratum-stay : CellsStay office before after
    unfolding CellsStay IsCellOf
    stratum-stay (HourCell other hour) was = tt
    stratum-stay (WindowCell other start) was = tt
    stratum-stay (OzoneDayCell other number) was = tt
    stratum-stay (OzoneYearCell other year) was = tt
    stratum-stay (PmDayCell other Pm10 number) was = cells other number ∙ was
    stratum-stay (PmDayCell other Pm25 number) was = tt
    stratum-stay (PmDayCell other Ozone number) was = tt
    stratum-stay (StratumCell other number) was = λ within. stratum-stays other number (was within)
    stratum-stay (QuarterCell other Pm10 quarter) was = λ number within its. counts-same other number (cells other number) (samples other number) (was number within its)
    stratum-stay (QuarterCell other Pm25 quarter) was = tt
    stratum-stay (QuarterCell other Ozone quarter) was = tt
    stratum-stay (PmYearCell other year) was = tt

    pub stratum-now : IsCellOf office after (StratumCell site first)
    unfolding IsCellOf
    stratum-now within = stratum-here

  -- ---- a quarter

  module _ (site : Site) (quarter : ℕ)
      (samples : (other : Site) (number : ℕ) → sample_at after.days other number ≡ cond (is_same_site site other && is_day_of quarter number) (scheduled_sample office.records before.days site number) (sample_at before.days other number))
      (cells : (other : Site) (number : ℕ) → cell_at after.days other number ≡ cell_at before.days other number)
      (strata : (other : Site) (first : ℕ) → stratum_at after.strata other first ≡ stratum_at before.strata other first) where
    sample-so : (other : Site) (number : ℕ) → scheduled_sample office.records before.days other number ≡ scheduled_sample office.records after.days other number
    sample-so other number = sample-same office.records before after other number (sym (cells other number))

    counts-after : (other : Site) (number : ℕ) → CountsAs office before other number → CountsAs office after other number
    counts-after other number was = samples other number ∙ by (is_same_site site other) (is_day_of quarter number) refl
      where
        by : (p q : Bool) → is_same_site site other ≡ p → cond (p && q) (scheduled_sample office.records before.days site number) (sample_at before.days other number) ≡ scheduled_sample office.records after.days other number
        by true true same = ap (λ (s : Site). scheduled_sample office.records before.days s number) (same_site site other same) ∙ sample-so other number
        by true false same = was ∙ sample-so other number
        by false q same = was ∙ sample-so other number

    pub quarter-stay : CellsStay office before after
    unfolding CellsStay IsCellOf
    quarter-stay (HourCell other hour) was = tt
    quarter-stay (WindowCell other start) was = tt
    quarter-stay (OzoneDayCell other number) was = tt
    quarter-stay (OzoneYearCell other year) was = tt
    quarter-stay (PmDayCell other Pm10 number) was = cells other number ∙ was
    quarter-stay (PmDayCell other Pm25 number) was = tt
    quarter-stay (PmDayCell other Ozone number) was = tt
    quarter-stay (StratumCell other first) was = λ within. strata other first ∙ was within
    quarter-stay (QuarterCell other Pm10 other_quarter) was = λ number within its. counts-after other number (was number within its)
    quarter-stay (QuarterCell other Pm25 other_quarter) was = tt
    quarter-stay (QuarterCell other Ozone other_quarter) was = tt
    quarter-stay (PmYearCell other year) was = tt

    pub quarter-now : IsCellOf office after (QuarterCell site Pm10 quarter)
    unfolding IsCellOf
    quarter-now number within its =
        let of = (quarter_holds quarter number within).0 its in
        let on : is_day_of quarter number ≡ true = grind (arith, nat_tests, of.0, of.1) in
        samples site number ∙ (λ i. cond (site_itself site i && on i) (scheduled_sample office.records before.days site number) (sample_at before.days site number)) ∙ sample-so site number

-- ---- all cells

-- of other cells nothing is kept
pub no-particles : (office : Office) (kept : Pm10Kept) (cell : names.CellName) → ((s : Site) (p : Pollutant) (d : ℕ) → cell ≡ PmDay s p d → ⊥) → ((s : Site) (f : ℕ) → cell ≡ Stratum s f → ⊥)
    → ((s : Site) (p : Pollutant) (q : ℕ) → cell ≡ Quarter s p q → ⊥) → IsCellOf office kept (cell_named cell)
unfolding IsCellOf
no-particles office kept (Hour s h) a b c = tt
no-particles office kept (Window s h) a b c = tt
no-particles office kept (OzoneDay s n) a b c = tt
no-particles office kept (OzoneYear s y) a b c = tt
no-particles office kept (PmDay s p n) a b c = absurd (a s p n refl)
no-particles office kept (Stratum s n) a b c = absurd (b s n refl)
no-particles office kept (Quarter s p n) a b c = absurd (c s p n refl)
no-particles office kept (PmYear s n) a b c = tt

-- the days of a stratum are those of the level below it
pub below-stratum : (office : Office) (kept : Pm10Kept) (cell : names.CellName) → AreBelow office kept (cell_named cell) → (site : Site) (first : ℕ) → cell ≡ Stratum site first → AreValuesOf office kept site
unfolding AreBelow
below-stratum office kept cell below site first is = subst (λ (c : names.CellName). AreBelow office kept (cell_named c)) is below

pub other-day : (office : Office) (kept : Pm10Kept) (site : Site) (pollutant : Pollutant) (day : ℕ) → is_same_pollutant pollutant Pm10 ≡ false → IsCellOf office kept (PmDayCell site pollutant day)
unfolding IsCellOf
other-day office kept site Ozone day off = tt
other-day office kept site Pm25 day off = tt
other-day office kept site Pm10 day off = absurd (false≢true (sym off))

pub other-quarter : (office : Office) (kept : Pm10Kept) (site : Site) (pollutant : Pollutant) (quarter : ℕ) → is_same_pollutant pollutant Pm10 ≡ false → IsCellOf office kept (QuarterCell site pollutant quarter)
unfolding IsCellOf
other-quarter office kept site Ozone quarter off = tt
other-quarter office kept site Pm25 quarter off = tt
other-quarter office kept site Pm10 quarter off = absurd (false≢true (sym off))

pub all-cells : (office : Office) (kept : Pm10Kept) → ((cell : CellName) → IsCellOf office kept cell) → AreKept office kept
unfolding AreKept IsCellOf
all-cells office kept each site day = record {
  value = each (PmDayCell site Pm10 day);
  counts = λ within. each (QuarterCell site Pm10 (quarter_of day)) day within refl;
  stratum = λ within. each (StratumCell site day) within;
}
