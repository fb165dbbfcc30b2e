-- Which PM2.5 cells are the office's, once a day or a quarter is brought up to date.
use Rattle.std.proofs.Common.{◌≡◌, ℕ, Bool, true, false, cond, ◌&&◌, ◌||◌, List, refl, ap, sym, ◌∙◌, arith}
use Rattle.std.specs.Prelude.{◌==◌, Option, Some, None, option_and_then}
use Rattle.std.specs.Option.{option_map_or, option_or}
use Rattle.std.proofs.lemmas.Bool.{false≢true}
use Rattle.std.proofs.lemmas.Bool.Decides.{nat_tests}
use Rattle.aq_base.specs.Calendar.{quarter_of}
use Rattle.aq_base.specs.Site.{Site}
use Rattle.aq_base.specs.declared.monitor.Pollutant.TheVariants.{Ozone, Pm25, Pm10}
use Rattle.aq_base.specs.declared.monitor.Pollutant.{Pollutant}
use Rattle.aq_base.specs.declared.office.OfficeRecord.{OfficeRecord}
use Rattle.aq_cal.proofs.Within.{quarter_holds}
use Rattle.aq_dirty.specs.Marked.{named as cell_named}
use Rattle.aq_dirty.specs.declared.cell_name.CellName as names
use Rattle.aq_dirty.specs.declared.cell_name.CellName.TheVariants.{Hour, Window, OzoneDay, OzoneYear, PmDay, Stratum, Quarter, PmYear}
use Rattle.aq_rules.specs.Kept.Cells.{CellName, HourCell, WindowCell, OzoneDayCell, OzoneYearCell, PmDayCell, StratumCell, QuarterCell, PmYearCell}
use Rattle.aq_rules.specs.Office.Monitors.{is_same_pollutant, is_same_site}
use Rattle.aq_rules.specs.Office.Office.{IsOffice, Office}
use Rattle.aq_rules.specs.Office.Questions.{makeup_of, missed_of}
use Rattle.aq_rules.specs.Office.Sameness.{same_site, site_itself}
use Rattle.aq_rules.specs.Office.Schedule.{is_scheduled}
use Rattle.aq_rules.specs.Ozone.SiteHour.{Cell}
use Rattle.aq_rules.specs.Particles.ParticleDay.{site_day}
use Rattle.aq_registry.specs.Registry.{office_with}
use Rattle.aq_particles.specs.Pm25.QuarterDays.{is_makeup_day}
use Rattle.aq_particle_cells.specs.Days.KeptDays.{cell_at, sample_at, Days}
use Rattle.aq_particle_cells.specs.Pm25.Pm25Cells.{is_counted_by, sample_from, IsCountedBy}
use Rattle.aq_particle_cells.specs.Pm25.Pm25Levels.{AreKept, CellsStay, CountsAs, HasValueOf, IsCellOf}
use Rattle.aq_particle_cells.proofs.Pm25Lemmas.Makeups.{missed-of_makeup}
use Rattle.aq_particle_cells.proofs.Pm25Lemmas.Pm25Samples.{sample-same}
use Rattle.aq_particle_cells.proofs.DaysLemmas.TimeLemmas.{itself, named}
use Rattle.aq_particle_cells.specs.Days.Spans.{is_day_of}

pub cells-stay-still : (office : Office) (days : Days) → CellsStay office days days
unfolding CellsStay
cells-stay-still office days cell is = is

-- ---- a day

-- a day has another value, and the samples that it may give follow
module _ (records : List OfficeRecord) (valid : IsOffice (office_with records)) (before after : Days) (site : Site) (day : ℕ) (new : Option Cell)
    (cells : (other : Site) (number : ℕ) → cell_at after other number ≡ cond (is_same_site site other && (day == number)) new (cell_at before other number))
    (samples : (other : Site) (number : ℕ) → sample_at after other number ≡ cond (is_same_site site other && is_counted_by records site day number) (sample_from records after site number) (sample_at before other number)) where
  cell-elsewhere : (other : Site) (number : ℕ) → (is_same_site site other && (day == number)) ≡ false → cell_at after other number ≡ cell_at before other number
  cell-elsewhere other number off = cells other number ∙ ap (λ b. cond b new (cell_at before other number)) off

  -- a day that is neither this one nor made up by it
  module _ (other : Site) (number : ℕ) (off : (is_same_site site other && is_counted_by records site day number) ≡ false) where
    not-this : (is_same_site site other && (day == number)) ≡ false
    not-this = by (is_same_site site other) (day == number) (option_map_or (λ m. m == number) (missed_of records site day) false) off
      where
        by : (p q r : Bool) → (p && (q || r)) ≡ false → (p && q) ≡ false
        by true true r is = is
        by true false r is = refl
        by false q r is = refl

    not-made : (makeup : ℕ) → makeup_of records other number ≡ Some makeup → (is_same_site site other && (day == makeup)) ≡ false
    not-made makeup found = by (is_same_site site other && (day == makeup)) refl
      where
        by : (b : Bool) → (is_same_site site other && (day == makeup)) ≡ b → b ≡ false
        by false is = refl
        by true is =
            let both = named site other day makeup is in
            let here : makeup_of records site number ≡ Some day
            = ap (λ (s : Site). makeup_of records s number) both.0 ∙ found ∙ ap (λ n. Some n) (sym both.1) in
            let back = missed-of_makeup records site number day valid here in
            let on : (is_same_site site site && is_counted_by records site day number) ≡ true
            = ap (λ (o : Option ℕ). is_same_site site site && ((day == number) || option_map_or (λ m. m == number) o false)) back ∙ both-tests (day == number) in
            absurd (false≢true (sym off ∙ ap (λ (s : Site). is_same_site site s && is_counted_by records site day number) (sym both.0) ∙ on))
          where
            either : (b : Bool) → (b || (number == number)) ≡ true
            either true = refl
            either false = grind (arith, nat_tests)

            both-tests : (b : Bool) → (is_same_site site site && (b || (number == number))) ≡ true
            both-tests b = λ i. site_itself site i && either b i

    -- its creditable sample rests on no value that is another one
    sample-stays : sample_from records after other number ≡ sample_from records before other number
    unfolding sample_from
    sample-stays =
        ap (λ (o : Option Cell). cond (is_scheduled records other Pm25 number) (option_or o (option_and_then (λ makeup. cond (is_makeup_day (is_scheduled records other Pm25) number makeup) (cell_at after other makeup) None) (makeup_of records other number))) None)
        (cell-elsewhere other number not-this)
        ∙ ap (λ (o : Option Cell). cond (is_scheduled records other Pm25 number) (option_or (cell_at before other number) o) None) (by (makeup_of records other number) refl)
      where
        by : (found : Option ℕ) → makeup_of records other number ≡ found
            → option_and_then (λ makeup. cond (is_makeup_day (is_scheduled records other Pm25) number makeup) (cell_at after other makeup) None) found
            ≡ option_and_then (λ makeup. cond (is_makeup_day (is_scheduled records other Pm25) number makeup) (cell_at before other makeup) None) found
        by None is = refl
        by (Some makeup) is = ap (λ (o : Option Cell). cond (is_makeup_day (is_scheduled records other Pm25) number makeup) o None) (cell-elsewhere other makeup (not-made makeup is))

  -- so the samples that counted by the records count by them still
  pub counts-stay : (other : Site) (number : ℕ) → sample_at before other number ≡ sample_from records before other number → sample_at after other number ≡ sample_from records after other number
  counts-stay other number counted = samples other number ∙ by (is_same_site site other && is_counted_by records site day number) refl
    where
      by : (b : Bool) → (is_same_site site other && is_counted_by records site day number) ≡ b
          → cond b (sample_from records after site number) (sample_at before other number) ≡ sample_from records after other number
      by true is = ap (λ (s : Site). sample_from records after s number) (same_site site other (and_first (is_same_site site other) (is_counted_by records site day number) is))
        where
          and_first : (p q : Bool) → (p && q) ≡ true → p ≡ true
          and_first true q is = refl
          and_first false q is = is
      by false is = counted ∙ sym (sample-stays other number is)

  module _ (office : Office) (of : office.records ≡ records) (value : new ≡ site_day office site Pm25 day) where
    pub value-here : HasValueOf office after site day
    value-here = cells site day ∙ ap (λ b. cond b new (cell_at before site day)) (itself site day) ∙ value

    pub value-stays : (other : Site) (number : ℕ) → HasValueOf office before other number → HasValueOf office after other number
    value-stays other number was = cells other number ∙ by (is_same_site site other && (day == number)) refl
      where
        by : (b : Bool) → (is_same_site site other && (day == number)) ≡ b → cond b new (cell_at before other number) ≡ site_day office other Pm25 number
        by true both = let same = named site other day number both in value ∙ (λ i. site_day office (same.0 i) Pm25 (same.1 i))
        by false both = was

    pub counts-so : (other : Site) (number : ℕ) → CountsAs office before other number → CountsAs office after other number
    counts-so other number counted =
        let here : sample_at before other number ≡ sample_from records before other number = counted ∙ ap (λ (r : List OfficeRecord). sample_from r before other number) of in
        counts-stay other number here ∙ ap (λ (r : List OfficeRecord). sample_from r after other number) (sym of)

    pub day-stay : CellsStay office before after
    unfolding CellsStay IsCellOf IsCountedBy
    day-stay (HourCell other hour) was = tt
    day-stay (WindowCell other start) was = tt
    day-stay (OzoneDayCell other number) was = tt
    day-stay (OzoneYearCell other year) was = tt
    day-stay (PmDayCell other Pm25 number) was = value-stays other number was
    day-stay (PmDayCell other Pm10 number) was = tt
    day-stay (PmDayCell other Ozone number) was = tt
    day-stay (StratumCell other first) was = tt
    day-stay (QuarterCell other Pm25 quarter) was = λ number within its. counts-so other number (was number within its)
    day-stay (QuarterCell other Pm10 quarter) was = tt
    day-stay (QuarterCell other Ozone quarter) was = tt
    day-stay (PmYearCell other year) was = tt

    pub day-now : IsCellOf office after (PmDayCell site Pm25 day)
    unfolding IsCellOf
    day-now = value-here

-- ---- a quarter

module _ (office : Office) (before after : Days) (site : Site) (quarter : ℕ)
    (cells : (other : Site) (number : ℕ) → cell_at after other number ≡ cell_at before other number)
    (samples : (other : Site) (number : ℕ) → sample_at after other number ≡ cond (is_same_site site other && is_day_of quarter number) (sample_from office.records before site number) (sample_at before other number)) where
  sample-so : (other : Site) (number : ℕ) → sample_from office.records before other number ≡ sample_from office.records after other number
  sample-so other number = sample-same office.records before after other number (λ o n. sym (cells o n))

  counts-after : (other : Site) (number : ℕ) → CountsAs office before other number → CountsAs office after other number
  counts-after other number was = samples other number ∙ by (is_same_site site other) (is_day_of quarter number) refl
    where
      by : (p q : Bool) → is_same_site site other ≡ p → cond (p && q) (sample_from office.records before site number) (sample_at before other number) ≡ sample_from office.records after other number
      by true true same = ap (λ (s : Site). sample_from office.records before s number) (same_site site other same) ∙ sample-so other number
      by true false same = was ∙ sample-so other number
      by false q same = was ∙ sample-so other number

  pub quarter-stay : CellsStay office before after
  unfolding CellsStay IsCellOf IsCountedBy
  quarter-stay (HourCell other hour) was = tt
  quarter-stay (WindowCell other start) was = tt
  quarter-stay (OzoneDayCell other number) was = tt
  quarter-stay (OzoneYearCell other year) was = tt
  quarter-stay (PmDayCell other Pm25 number) was = cells other number ∙ was
  quarter-stay (PmDayCell other Pm10 number) was = tt
  quarter-stay (PmDayCell other Ozone number) was = tt
  quarter-stay (StratumCell other first) was = tt
  quarter-stay (QuarterCell other Pm25 other_quarter) was = λ number within its. counts-after other number (was number within its)
  quarter-stay (QuarterCell other Pm10 other_quarter) was = tt
  quarter-stay (QuarterCell other Ozone other_quarter) was = tt
  quarter-stay (PmYearCell other year) was = tt

  pub quarter-now : IsCellOf office after (QuarterCell site Pm25 quarter)
  unfolding IsCellOf IsCountedBy
  quarter-now number within its =
      let of = (quarter_holds quarter number within).0 its in
      let on : is_day_of quarter number ≡ true = grind (arith, nat_tests, of.0, of.1) in
      samples site number ∙ (λ i. cond (site_itself site i && on i) (sample_from office.records before site number) (sample_at before site number)) ∙ sample-so site number

-- ---- all cells

-- of other cells nothing is kept
pub no-particles : (office : Office) (days : Days) (cell : names.CellName) → ((s : Site) (p : Pollutant) (d : ℕ) → cell ≡ PmDay s p d → ⊥) → ((s : Site) (p : Pollutant) (q : ℕ) → cell ≡ Quarter s p q → ⊥) → IsCellOf office days (cell_named cell)
unfolding IsCellOf
no-particles office days (Hour s h) a b = tt
no-particles office days (Window s h) a b = tt
no-particles office days (OzoneDay s n) a b = tt
no-particles office days (OzoneYear s y) a b = tt
no-particles office days (PmDay s p n) a b = absurd (a s p n refl)
no-particles office days (Stratum s n) a b = tt
no-particles office days (Quarter s p n) a b = absurd (b s p n refl)
no-particles office days (PmYear s n) a b = tt

pub other-day : (office : Office) (days : Days) (site : Site) (pollutant : Pollutant) (day : ℕ) → is_same_pollutant pollutant Pm25 ≡ false → IsCellOf office days (PmDayCell site pollutant day)
unfolding IsCellOf
other-day office days site Ozone day off = tt
other-day office days site Pm10 day off = tt
other-day office days site Pm25 day off = absurd (false≢true (sym off))

pub other-quarter : (office : Office) (days : Days) (site : Site) (pollutant : Pollutant) (quarter : ℕ) → is_same_pollutant pollutant Pm25 ≡ false → IsCellOf office days (QuarterCell site pollutant quarter)
unfolding IsCellOf
other-quarter office days site Ozone quarter off = tt
other-quarter office days site Pm10 quarter off = tt
other-quarter office days site Pm25 quarter off = absurd (false≢true (sym off))

pub all-cells : (office : Office) (days : Days) → ((cell : CellName) → IsCellOf office days cell) → AreKept office days
unfolding AreKept IsCellOf IsCountedBy
all-cells office days each site day = record {
  value = each (PmDayCell site Pm25 day);
  counts = λ within. each (QuarterCell site Pm25 (quarter_of day)) day within refl;
}
