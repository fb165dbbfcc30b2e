-- The tallies of PM2.5 are those of the days that are kept, once one day is kept otherwise.
use Rattle.std.proofs.Common.{◌≡◌, ℕ, ◌≤◌, List, [], refl, ap, sym, subst}
use Rattle.std.specs.Prelude.{ℤ, Option}
use Rattle.std.specs.List.{range_with_len}
use Rattle.aq_agg.specs.AnyOrder.{ranks-any_order}
use Rattle.aq_base.specs.Calendar.{days_in_quarter, days_in_year, quarter_first, quarter_of, year_first, year_of}
use Rattle.aq_base.specs.Site.{Site}
use Rattle.aq_base.specs.declared.day.TheConstants.{LAST_DAY}
use Rattle.aq_particle_cells.specs.Pm25.DayValues.{values-any_order, AreValuesOf}
use Rattle.aq_particle_cells.specs.Days.KeptDays.{day_at, net_of, no_day, Days}
use Rattle.aq_particle_cells.specs.Pm25.Pm25Cells.{AreCells, AreTallies}
use Rattle.aq_particle_cells.specs.Pm25.Pm25Tallies.{counted_of, AreGreatestOf, ExchangesDay, HasDay}
use Rattle.aq_particle_cells.specs.Days.Tallied.{HasBag, AreSumsOf}
use Rattle.aq_particle_cells.specs.declared.days.kept_days.KeptDay.{KeptDay}
use Rattle.aq_particle_cells.specs.declared.pm25.tallies.Pm25Tallies.{Pm25Tallies}
use Rattle.aq_particle_cells.proofs.DaysLemmas.Replaced.{day-elsewhere, day-here, no-particles, nothing-of, Replaces}
use Rattle.aq_particle_cells.proofs.DaysLemmas.BagLemmas.{bags-after, has-item, sums-in_order}
use Rattle.aq_particle_cells.proofs.DaysLemmas.DayLemmas.{alone-quarter, alone-year, few-quarter, few-year, in-quarter, in-year, its-quarter, its-year}
use Rattle.aq_agg.specs.declared.ranked_bag.RankedBag.{RankedBag}
use Rattle.std.specs.List.Sorted.{IsPermutation}
use Rattle.aq_particle_cells.specs.Days.Spans.{IsQuarter, IsYear}

ranks-in_order : (a b : List ℤ) (kept : RankedBag) → IsPermutation a b → AreGreatestOf a kept → AreGreatestOf b kept
ranks-in_order a b kept moved of = ranks-any_order a b kept.values.items moved of

-- what the days give, by the words of the tallies
module _ (days : Days) where
  abbrev pub net_on : Site → ℕ → Option ℤ
  net_on site day = net_of (day_at days site day)

  abbrev pub counted_on : Site → ℕ → Option ℤ
  counted_on site day = counted_of (day_at days site day)

pub has-day : (days : Days) (tallies : Pm25Tallies) (site : Site) (day : ℕ) → day ≤ LAST_DAY → AreTallies days tallies → HasDay site day (day_at days site day) tallies
has-day days tallies site day in_profile are =
    let quarter = in-quarter day in_profile in
    let year = in-year day in_profile in
    record {
      values = has-item AreValuesOf values-any_order IsQuarter quarter_first days_in_quarter (net_on days) tallies.values site (quarter_of day) day
          (its-quarter day in_profile) quarter.0 quarter.1 (few-quarter (quarter_of day)) are.values;
      samples = has-item AreSumsOf sums-in_order IsQuarter quarter_first days_in_quarter (counted_on days) tallies.samples site (quarter_of day) day
          (its-quarter day in_profile) quarter.0 quarter.1 (few-quarter (quarter_of day)) are.samples;
      greatest = has-item AreGreatestOf ranks-in_order IsYear year_first days_in_year (net_on days) tallies.greatest site (year_of day) day
          (its-year day in_profile) year.0 year.1 (few-year (year_of day)) are.greatest;
    }

-- one day is kept otherwise
pub tallies-after : (before after : Days) (new : KeptDay) (site : Site) (day : ℕ) → Replaces before after new site day → (tallies later : Pm25Tallies) → day ≤ LAST_DAY → ExchangesDay site day (day_at before site day) new tallies later → AreTallies before tallies → AreTallies after later
tallies-after before after new site day replaces tallies later in_profile exchanged are =
    let quarter = in-quarter day in_profile in
    let year = in-year day in_profile in
    let now : ExchangesDay site day (day_at before site day) (day_at after site day) tallies later
    = subst (λ (d : KeptDay). ExchangesDay site day (day_at before site day) d tallies later) (sym (day-here before after new site day replaces)) exchanged in
    record {
      values = bags-after AreValuesOf values-any_order IsQuarter quarter_first days_in_quarter (net_on before) (net_on after) tallies.values later.values site (quarter_of day) day
          quarter.0 quarter.1 (alone-quarter day in_profile) (λ other k off. ap net_of (day-elsewhere before after new site day replaces other k off)) now.values are.values;
      samples = bags-after AreSumsOf sums-in_order IsQuarter quarter_first days_in_quarter (counted_on before) (counted_on after) tallies.samples later.samples site (quarter_of day) day
          quarter.0 quarter.1 (alone-quarter day in_profile) (λ other k off. ap counted_of (day-elsewhere before after new site day replaces other k off)) now.samples are.samples;
      greatest = bags-after AreGreatestOf ranks-in_order IsYear year_first days_in_year (net_on before) (net_on after) tallies.greatest later.greatest site (year_of day) day
          year.0 year.1 (alone-year day in_profile) (λ other k off. ap net_of (day-elsewhere before after new site day replaces other k off)) now.greatest are.greatest;
    }

-- nothing is kept
pub none-tallied : (days : Days) → ((site : Site) (day : ℕ) → day_at days site day ≡ no_day) → (tallies : Pm25Tallies) → ((site : Site) (quarter : ℕ) → HasBag AreValuesOf site quarter [] tallies.values)
    → ((site : Site) (quarter : ℕ) → HasBag AreSumsOf site quarter [] tallies.samples)
    → ((site : Site) (year : ℕ) → HasBag AreGreatestOf site year [] tallies.greatest) → AreCells days tallies
none-tallied days none tallies values samples greatest = record {
  particles = no-particles days none;
  tallied = record {
    values = λ site time ranged.
        subst (λ (l : List ℤ). HasBag AreValuesOf site time l tallies.values) (nothing-of days none net_of refl site (range_with_len (quarter_first time) (days_in_quarter time))) (values site time);
    samples = λ site time ranged.
        subst (λ (l : List ℤ). HasBag AreSumsOf site time l tallies.samples) (nothing-of days none counted_of refl site (range_with_len (quarter_first time) (days_in_quarter time))) (samples site time);
    greatest = λ site time ranged.
        subst (λ (l : List ℤ). HasBag AreGreatestOf site time l tallies.greatest) (nothing-of days none net_of refl site (range_with_len (year_first time) (days_in_year time))) (greatest site time);
  };
}
