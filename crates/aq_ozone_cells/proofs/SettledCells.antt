-- Which cells are the office's, once one of them is brought up to date.
use Rattle.std.proofs.Common.{◌≡◌, ℕ, ◌+◌, ◌%◌, ◌<◌, ◌≤◌, Bool, true, false, cond, ◌&&◌, refl, ap, sym, subst, ◌∙◌, arith}
use Rattle.std.specs.Prelude.{◌==◌, Option, nat_le, nat_lt}
use Rattle.std.proofs.lemmas.Bool.{and_parts}
use Rattle.std.proofs.lemmas.Bool.Decides.{nat_tests}
use Rattle.aq_base.specs.Calendar.{days_in_year, year_first, year_of}
use Rattle.aq_base.specs.Site.{Site}
use Rattle.aq_base.specs.declared.day.TheConstants.{FIRST_YEAR, LAST_DAY, LAST_HOUR, LAST_YEAR}
use Rattle.aq_cal.proofs.Within.{year_holds}
use Rattle.aq_rules.proofs.Days.{in_year}
use Rattle.aq_rules.specs.Kept.Cells.{CellName, HourCell, WindowCell, OzoneDayCell, OzoneYearCell, PmDayCell, StratumCell, QuarterCell, PmYearCell}
use Rattle.aq_rules.specs.Office.Monitors.{is_same_site}
use Rattle.aq_rules.specs.Office.Office.{Office}
use Rattle.aq_rules.specs.Office.Sameness.{same_site, site_itself}
use Rattle.aq_rules.specs.Ozone.EightHour.{window}
use Rattle.aq_rules.specs.Ozone.SiteHour.{Cell, site_hour}
use Rattle.aq_ozone_cells.specs.FilledDays.{AreKept}
use Rattle.aq_ozone_cells.specs.KeptDays.{average_at, averages_of, held_at, hour_at, is_kept_start}
use Rattle.aq_ozone_cells.specs.OzoneCells.{average_of_hours, counts, day_from, held_day, is_day_of, Cells}
use Rattle.aq_ozone_cells.specs.Settling.{CellsStay, CountsAs, HasMaximumOf, IsAverageOf, IsBroughtUp, IsCellOf, IsHourOf}
use Rattle.aq_ozone_cells.specs.declared.kept_days.HeldDay.{HeldDay}
use Rattle.aq_ozone_cells.proofs.LevelLemmas.{average-is, day-is}
use Rattle.aq_ozone_cells.proofs.SiteNumbers.{itself, named}

-- cells are the office's, level by level, if those of each level are
pub each-level : (P : CellName → Type 0) (office : Office) (cells : Cells)
    → ((site : Site) (hour : ℕ) → P (HourCell site hour) → IsHourOf office cells site hour)
    → ((site : Site) (start : ℕ) → P (WindowCell site start) → IsAverageOf office cells site start)
    → ((site : Site) (day : ℕ) → P (OzoneDayCell site day) → day ≤ LAST_DAY → HasMaximumOf office cells site day)
    → ((site : Site) (year : ℕ) → P (OzoneYearCell site year) → (day : ℕ) → day ≤ LAST_DAY → year_of day ≡ year → CountsAs office cells site day)
    → (cell : CellName) → P cell → IsCellOf office cells cell
unfolding IsCellOf
each-level P office cells hours averages days years (HourCell site hour) of = hours site hour of
each-level P office cells hours averages days years (WindowCell site start) of = averages site start of
each-level P office cells hours averages days years (OzoneDayCell site day) of = days site day of
each-level P office cells hours averages days years (OzoneYearCell site year) of = years site year of
each-level P office cells hours averages days years (PmDayCell site pollutant day) of = tt
each-level P office cells hours averages days years (StratumCell site first) of = tt
each-level P office cells hours averages days years (QuarterCell site pollutant quarter) of = tt
each-level P office cells hours averages days years (PmYearCell site year) of = tt

-- the cells that are the office's stay so, if those of each level do
pub cells-stay : (office : Office) (before after : Cells)
    → ((site : Site) (hour : ℕ) → IsHourOf office before site hour → IsHourOf office after site hour)
    → ((site : Site) (start : ℕ) → IsAverageOf office before site start → IsAverageOf office after site start)
    → ((site : Site) (day : ℕ) → day ≤ LAST_DAY → HasMaximumOf office before site day → HasMaximumOf office after site day)
    → ((site : Site) (day : ℕ) → day ≤ LAST_DAY → CountsAs office before site day → CountsAs office after site day)
    → CellsStay office before after
unfolding CellsStay IsCellOf
cells-stay office before after hours averages days counted =
    each-level (IsCellOf office before) office after hours averages (λ site day of within. days site day within (of within))
    (λ site year of day within its. counted site day within (of day within its))

-- nothing is to do for a cell that is the office's
pub nothing-to_do : (office : Office) (cells : Cells) (cell : CellName) → IsCellOf office cells cell → IsBroughtUp office cells cells cell
unfolding CellsStay
nothing-to_do office cells cell of = record { stay = λ other is. is; now = of }

-- a day that gives its year what it gives it in the office
pub day-parts : (office : Office) (cells : Cells) (site : Site) (day : ℕ) → held_at cells site day ≡ held_day office site day → HasMaximumOf office cells site day
unfolding held_day
day-parts office cells site day is = record { valid = ap (λ (d : HeldDay). d.valid) is; maximum = ap (λ (d : HeldDay). d.maximum) is }

pub day-counts : (office : Office) (cells : Cells) (site : Site) (day : ℕ) → held_at cells site day ≡ held_day office site day → CountsAs office cells site day
unfolding held_day
day-counts office cells site day is = subst (λ (d : HeldDay). d.counted ≡ counts office.records site day d.valid) (sym is) refl

module _ (office : Office) (before after : Cells) where
  -- a day that is held as before
  pub same-parts : (site : Site) (day : ℕ) → held_at after site day ≡ held_at before site day → HasMaximumOf office before site day → HasMaximumOf office after site day
  same-parts site day same is = record {
    valid = ap (λ (d : HeldDay). d.valid) same ∙ is.valid;
    maximum = ap (λ (d : HeldDay). d.maximum) same ∙ is.maximum;
  }

  pub same-counts : (site : Site) (day : ℕ) → held_at after site day ≡ held_at before site day → CountsAs office before site day → CountsAs office after site day
  same-counts site day same is = subst (λ (d : HeldDay). d.counted ≡ counts office.records site day d.valid) (sym same) is

  -- ---- an hour

  module _ (site : Site) (hour : ℕ) (value : Option Cell) (is : value ≡ site_hour office site hour)
      (hours : (other : Site) (number : ℕ) → hour_at after other number ≡ cond (is_same_site site other && (hour == number)) value (hour_at before other number))
      (averages : (other : Site) (start : ℕ) → average_at after other start ≡ average_at before other start)
      (days : (other : Site) (day : ℕ) → held_at after other day ≡ held_at before other day) where
    hour-there : (other : Site) (number : ℕ) → IsHourOf office before other number → IsHourOf office after other number
    hour-there other number of within = hours other number ∙ by (is_same_site site other && (hour == number)) refl
      where
        by : (b : Bool) → (is_same_site site other && (hour == number)) ≡ b → cond b value (hour_at before other number) ≡ site_hour office other number
        by true both = let same = named site other hour number both in is ∙ (λ i. site_hour office (same.0 i) (same.1 i))
        by false both = of within

    pub hour-up : IsBroughtUp office before after (HourCell site hour)
    unfolding IsCellOf
    hour-up = record {
      stay = cells-stay office before after hour-there (λ other start of within kept. averages other start ∙ of within kept)
          (λ other day within. same-parts other day (days other day)) (λ other day within. same-counts other day (days other day));
      now = λ within. hours site hour ∙ ap (λ b. cond b value (hour_at before site hour)) (itself site hour hour refl) ∙ is;
    }

  -- ---- an average

  module _ (site : Site) (start : ℕ) (below : (other : Site) (hour : ℕ) → IsHourOf office before other hour)
      (averages : (other : Site) (number : ℕ) → average_at after other number ≡ cond (is_same_site site other && (start == number) && is_kept_start start) (average_of_hours before site start) (average_at before other number))
      (hours : (other : Site) (hour : ℕ) → hour_at after other hour ≡ hour_at before other hour)
      (days : (other : Site) (day : ℕ) → held_at after other day ≡ held_at before other day) where
    new-average : average_of_hours before site start ≡ averages_of (window office site start)
    new-average = average-is office before site start (λ hour low high within. below site hour within)

    average-there : (other : Site) (number : ℕ) → IsAverageOf office before other number → IsAverageOf office after other number
    average-there other number of within kept = averages other number ∙ by (is_same_site site other && (start == number)) (is_kept_start start) refl
      where
        by : (b k : Bool) → (is_same_site site other && (start == number)) ≡ b → cond (b && k) (average_of_hours before site start) (average_at before other number) ≡ averages_of (window office other number)
        by true true both = let same = named site other start number both in new-average ∙ (λ i. averages_of (window office (same.0 i) (same.1 i)))
        by true false both = of within kept
        by false k both = of within kept

    pub average-up : IsBroughtUp office before after (WindowCell site start)
    unfolding IsCellOf
    average-up = record {
      stay = cells-stay office before after (λ other number of within. hours other number ∙ of within) average-there
          (λ other day within. same-parts other day (days other day)) (λ other day within. same-counts other day (days other day));
      now = λ within kept.
          averages site start ∙ (λ i. cond (itself site start start refl i && kept i) (average_of_hours before site start) (average_at before site start)) ∙ new-average;
    }

  -- ---- days

  module _ (below : (other : Site) (start : ℕ) → IsAverageOf office before other start)
      (hours : (other : Site) (hour : ℕ) → hour_at after other hour ≡ hour_at before other hour)
      (averages : (other : Site) (start : ℕ) → average_at after other start ≡ average_at before other start)
      (site : Site) (test : Site → ℕ → Bool) (of_site : (other : Site) (day : ℕ) → test other day ≡ true → site ≡ other) where
    new-day : (day : ℕ) → day ≤ LAST_DAY → day_from office.records before site day ≡ held_day office site day
    new-day day within =
        day-is office before site day
        (λ start low high.
        let profile : start ≤ LAST_HOUR = omega (arith, low, high, within) in
        let kept : nat_le 7 (start % 24) ≡ true = grind (arith, nat_tests, low, high) in
        below site start profile kept)

    module _ (days : (other : Site) (number : ℕ) → held_at after other number ≡ cond (test other number) (day_from office.records before site number) (held_at before other number)) where
      -- a day that the test names is the office's, and any other as before
      day-there : (other : Site) (day : ℕ) → day ≤ LAST_DAY → test other day ≡ true → held_at after other day ≡ held_day office other day
      day-there other day within is =
          let same = of_site other day is in
          days other day ∙ ap (λ b. cond b (day_from office.records before site day) (held_at before other day)) is
          ∙ new-day day within ∙ ap (λ (s : Site). held_day office s day) same

      day-elsewhere : (other : Site) (day : ℕ) → test other day ≡ false → held_at after other day ≡ held_at before other day
      day-elsewhere other day is = days other day ∙ ap (λ b. cond b (day_from office.records before site day) (held_at before other day)) is

      parts-there : (other : Site) (day : ℕ) → day ≤ LAST_DAY → HasMaximumOf office before other day → HasMaximumOf office after other day
      parts-there other day within of = by (test other day) refl
        where
          by : (b : Bool) → test other day ≡ b → HasMaximumOf office after other day
          by true is = day-parts office after other day (day-there other day within is)
          by false is = same-parts other day (day-elsewhere other day is) of

      counts-there : (other : Site) (day : ℕ) → day ≤ LAST_DAY → CountsAs office before other day → CountsAs office after other day
      counts-there other day within of = by (test other day) refl
        where
          by : (b : Bool) → test other day ≡ b → CountsAs office after other day
          by true is = day-counts office after other day (day-there other day within is)
          by false is = same-counts other day (day-elsewhere other day is) of

      days-stay : CellsStay office before after
      days-stay =
          cells-stay office before after (λ other number of within. hours other number ∙ of within) (λ other start of within kept. averages other start ∙ of within kept)
          parts-there counts-there

      pub day-up : (day : ℕ) → test site day ≡ true → IsBroughtUp office before after (OzoneDayCell site day)
      unfolding IsCellOf
      day-up day is = record { stay = days-stay; now = λ within. day-parts office after site day (day-there site day within is) }

      pub year-up : (year : ℕ) → ((day : ℕ) → day ≤ LAST_DAY → year_of day ≡ year → test site day ≡ true) → IsBroughtUp office before after (OzoneYearCell site year)
      unfolding IsCellOf
      year-up year is = record {
        stay = days-stay;
        now = λ day within its. day-counts office after site day (day-there site day within (is day within its));
      }

-- the tests that name a day, and the days of a year
pub one-day : (site : Site) (day : ℕ) (other : Site) (number : ℕ) → (is_same_site site other && (day == number)) ≡ true → site ≡ other
one-day site day other number is = (named site other day number is).0

pub of-year : (site : Site) (year : ℕ) (other : Site) (number : ℕ) → (is_same_site site other && is_day_of year number) ≡ true → site ≡ other
of-year site year other number is = same_site site other (and_parts (is_same_site site other) (is_day_of year number) is).0

pub its-year : (site : Site) (year day : ℕ) → FIRST_YEAR ≤ year → day ≤ LAST_DAY → year_of day ≡ year → (is_same_site site site && is_day_of year day) ≡ true
its-year site year day low within its =
    let of = (year_holds year day low within).0 its in
    let inside : is_day_of year day ≡ true = grind (arith, nat_tests, of.0, of.1) in
    λ i. site_itself site i && inside i

-- no day of the profile is of a year outside
pub no-year : (office : Office) (cells : Cells) (site : Site) (year : ℕ) → ((day : ℕ) → day ≤ LAST_DAY → year_of day ≡ year → ⊥) → IsBroughtUp office cells cells (OzoneYearCell site year)
unfolding IsCellOf
no-year office cells site year none = nothing-to_do office cells (OzoneYearCell site year) (λ day within its. absurd (none day within its))

pub year-inside : (day : ℕ) → day ≤ LAST_DAY → (FIRST_YEAR ≤ year_of day) × (year_of day ≤ LAST_YEAR)
year-inside day within =
    let it = in_year day within in
    (omega (arith, it.year), omega (arith, it.year, it.few))

-- the days of a year are held already as their averages have them, if they have their maxima and count as they should
pub year-already : (office : Office) (cells : Cells) (site : Site) (year : ℕ) → FIRST_YEAR ≤ year
    → ((other : Site) (start : ℕ) → IsAverageOf office cells other start) → ((other : Site) (day : ℕ) → day ≤ LAST_DAY → HasMaximumOf office cells other day)
    → IsCellOf office cells (OzoneYearCell site year) → (day : ℕ) → day ≤ LAST_DAY → is_day_of year day ≡ true → held_at cells site day ≡ day_from office.records cells site day
unfolding IsCellOf held_day
year-already office cells site year low below days of day within is =
    let parts = days site day within in
    let ends = and_parts (nat_le (year_first year) day) (nat_lt day (year_first year + days_in_year year)) is in
    let from : year_first year ≤ day = grind (arith, nat_tests, ends.0) in
    let to : day < year_first year + days_in_year year = grind (arith, nat_tests, ends.1) in
    let counted = of day within ((year_holds year day low within).1 (from, to)) in
    let held : held_at cells site day ≡ held_day office site day = λ i. record {
      valid = parts.valid i;
      counted = (counted ∙ ap (λ (b : Bool). counts office.records site day b) parts.valid) i;
      maximum = parts.maximum i;
    } in
    held
    ∙ sym (day-is office cells site day
    (λ start low high.
    let profile : start ≤ LAST_HOUR = omega (arith, low, high, within) in
    let kept : nat_le 7 (start % 24) ≡ true = grind (arith, nat_tests, low, high) in
    below site start profile kept))

-- ---- all cells

pub all-cells : (office : Office) (cells : Cells) → ((cell : CellName) → IsCellOf office cells cell) → AreKept office cells
unfolding AreKept IsCellOf held_day
all-cells office cells each site day within =
    let parts = each (OzoneDayCell site day) within in
    let counted = each (OzoneYearCell site (year_of day)) day within refl in
    record {
      hours = λ hour lies. each (HourCell site hour) (omega (arith, lies, within));
      averages = λ start lies kept. each (WindowCell site start) (omega (arith, lies, within)) kept;
      held = λ i. record {
        valid = parts.valid i;
        counted = (counted ∙ ap (λ (b : Bool). counts office.records site day b) parts.valid) i;
        maximum = parts.maximum i;
      };
    }
