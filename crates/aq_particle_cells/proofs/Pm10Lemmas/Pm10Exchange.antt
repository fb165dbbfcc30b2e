-- The tallies of PM10 are those of the days and the strata that are kept, once a day or a stratum is kept otherwise.
use Rattle.std.proofs.Common.{◌≡◌, ℕ, ◌≤◌, cond, ◌&&◌, List, [], ◌∷◌, refl, ap, sym, subst, ◌∙◌}
use Rattle.std.specs.Prelude.{◌==◌, ℤ, Option, None, filter_map}
use Rattle.std.specs.List.{cons_option, range_with_len}
use Rattle.aq_base.specs.Calendar.{days_in_quarter, quarter_first, quarter_of}
use Rattle.aq_base.specs.Site.{Site}
use Rattle.aq_base.specs.declared.day.TheConstants.{LAST_DAY}
use Rattle.aq_base.specs.declared.monitor.Pollutant.TheVariants.{Pm10}
use Rattle.aq_base.specs.declared.office.OfficeRecord.{OfficeRecord}
use Rattle.aq_rules.specs.Office.Monitors.{is_same_site}
use Rattle.aq_rules.specs.Office.Schedule.{is_scheduled}
use Rattle.aq_rules.specs.Ozone.SiteHour.{Cell}
use Rattle.aq_particle_cells.specs.Days.KeptDays.{cell_at, day_at, no_day, Days}
use Rattle.aq_particle_cells.specs.Pm10.Pm10Cells.{scheduled_sample, AreCells, AreTallies}
use Rattle.aq_particle_cells.specs.Pm10.Pm10Tallies.{captured_of}
use Rattle.aq_particle_cells.specs.Pm10.Strata.{stratum_at, Strata}
use Rattle.aq_particle_cells.specs.Pm10.StrataTotals.{totals-any_order, AreTotalsOf}
use Rattle.aq_particle_cells.specs.Days.Tallied.{AreBags, ExchangesItem, HasBag, HasItem, AreSumsOf}
use Rattle.aq_particle_cells.specs.declared.days.kept_days.KeptDay.{KeptDay}
use Rattle.aq_particle_cells.specs.declared.pm10.tallies.Pm10Tallies.{Pm10Tallies}
use Rattle.aq_particle_cells.proofs.DaysLemmas.BagLemmas.{bags-after, has-item, sums-in_order}
use Rattle.aq_particle_cells.proofs.DaysLemmas.DayLemmas.{alone-quarter, few-quarter, in-quarter, its-quarter}
use Rattle.aq_particle_cells.proofs.DaysLemmas.TimeLemmas.{itself}
use Rattle.aq_particle_cells.specs.Days.Spans.{IsQuarter}
use Rattle.aq_particle_cells.proofs.DaysLemmas.Replaced.{day-elsewhere, day-here, no-particles, nothing-of, Replaces}

-- what the days give, by the word of the tally
abbrev pub captured_on : Days → Site → ℕ → Option ℤ
captured_on days site day = captured_of (day_at days site day)

pub has-sample : (days : Days) (strata : Strata) (tallies : Pm10Tallies) (site : Site) (day : ℕ) → day ≤ LAST_DAY → AreTallies days strata tallies
    → HasItem AreSumsOf site (quarter_of day) (captured_of (day_at days site day)) tallies.samples
has-sample days strata tallies site day in_profile are =
    let quarter = in-quarter day in_profile in
    has-item AreSumsOf sums-in_order IsQuarter quarter_first days_in_quarter (captured_on days) tallies.samples site (quarter_of day) day
    (its-quarter day in_profile) quarter.0 quarter.1 (few-quarter (quarter_of day)) are.samples

pub has-stratum : (days : Days) (strata : Strata) (tallies : Pm10Tallies) (site : Site) (first : ℕ) → first ≤ LAST_DAY → AreTallies days strata tallies
    → HasItem AreTotalsOf site (quarter_of first) (stratum_at strata site first) tallies.strata
has-stratum days strata tallies site first in_profile are =
    let quarter = in-quarter first in_profile in
    has-item AreTotalsOf totals-any_order IsQuarter quarter_first days_in_quarter (stratum_at strata) tallies.strata site (quarter_of first) first
    (its-quarter first in_profile) quarter.0 quarter.1 (few-quarter (quarter_of first)) are.strata_are

-- a day is kept otherwise
pub samples-bags : (before after : Days) (new : KeptDay) (site : Site) (day : ℕ) → Replaces before after new site day → (strata : Strata) (tallies later : Pm10Tallies) → day ≤ LAST_DAY
    → ExchangesItem AreSumsOf site (quarter_of day) (captured_of (day_at before site day)) (captured_of new) tallies.samples later.samples → later.strata ≡ tallies.strata
    → AreTallies before strata tallies → AreTallies after strata later
samples-bags before after new site day replaces strata tallies later in_profile exchanged same are =
    let quarter = in-quarter day in_profile in
    let now : ExchangesItem AreSumsOf site (quarter_of day) (captured_of (day_at before site day)) (captured_of (day_at after site day)) tallies.samples later.samples
    = subst (λ (d : KeptDay). ExchangesItem AreSumsOf site (quarter_of day) (captured_of (day_at before site day)) (captured_of d) tallies.samples later.samples)
    (sym (day-here before after new site day replaces)) exchanged in
    record {
      samples =
          bags-after AreSumsOf sums-in_order IsQuarter quarter_first days_in_quarter (captured_on before) (captured_on after) tallies.samples later.samples site (quarter_of day) day
          quarter.0 quarter.1 (alone-quarter day in_profile) (λ other k off. ap captured_of (day-elsewhere before after new site day replaces other k off)) now are.samples;
      strata_are = subst (AreBags AreTotalsOf IsQuarter quarter_first days_in_quarter (stratum_at strata)) (sym same) are.strata_are;
    }

-- a stratum is
pub strata-bags : (days : Days) (before after : Strata) (new : Option (ℕ × ℕ)) (site : Site) (first : ℕ)
    → ((other : Site) (number : ℕ) → stratum_at after other number ≡ cond (is_same_site site other && (first == number)) new (stratum_at before other number))
    → (tallies later : Pm10Tallies) → first ≤ LAST_DAY
    → ExchangesItem AreTotalsOf site (quarter_of first) (stratum_at before site first) new tallies.strata later.strata → later.samples ≡ tallies.samples
    → AreTallies days before tallies → AreTallies days after later
strata-bags days before after new site first replaces tallies later in_profile exchanged same are =
    let quarter = in-quarter first in_profile in
    let here : stratum_at after site first ≡ new = replaces site first ∙ ap (λ b. cond b new (stratum_at before site first)) (itself site first) in
    let now : ExchangesItem AreTotalsOf site (quarter_of first) (stratum_at before site first) (stratum_at after site first) tallies.strata later.strata
    = subst (λ (o : Option (ℕ × ℕ)). ExchangesItem AreTotalsOf site (quarter_of first) (stratum_at before site first) o tallies.strata later.strata) (sym here) exchanged in
    record {
      samples = subst (AreBags AreSumsOf IsQuarter quarter_first days_in_quarter (captured_on days)) (sym same) are.samples;
      strata_are =
          bags-after AreTotalsOf totals-any_order IsQuarter quarter_first days_in_quarter (stratum_at before) (stratum_at after) tallies.strata later.strata site (quarter_of first) first
          quarter.0 quarter.1 (alone-quarter first in_profile)
          (λ other k off. sym (replaces other k ∙ ap (λ b. cond b new (stratum_at before other k)) off)) now are.strata_are;
    }

-- ---- the sample of a day

pub scheduled-same : (records : List OfficeRecord) (a b : Days) (site : Site) (day : ℕ) → cell_at a site day ≡ cell_at b site day → scheduled_sample records a site day ≡ scheduled_sample records b site day
unfolding scheduled_sample
scheduled-same records a b site day same = ap (λ (o : Option Cell). cond (is_scheduled records site Pm10 day) o None) same

-- of the day that has another value
pub scheduled-here : (records : List OfficeRecord) (before after : Days) (site : Site) (day : ℕ) (cell : Option Cell)
    → ((other : Site) (number : ℕ) → cell_at after other number ≡ cond (is_same_site site other && (day == number)) cell (cell_at before other number))
    → cond (is_scheduled records site Pm10 day) cell None ≡ scheduled_sample records after site day
unfolding scheduled_sample
scheduled-here records before after site day cell cells =
    ap (λ (o : Option Cell). cond (is_scheduled records site Pm10 day) o None) (sym (cells site day ∙ ap (λ b. cond b cell (cell_at before site day)) (itself site day)))

-- of a day whose value is kept
pub scheduled-kept : (records : List OfficeRecord) (days : Days) (site : Site) (day : ℕ) (cell : Option Cell) → cell ≡ cell_at days site day → cond (is_scheduled records site Pm10 day) cell None ≡ scheduled_sample records days site day
unfolding scheduled_sample
scheduled-kept records days site day cell same = ap (λ (o : Option Cell). cond (is_scheduled records site Pm10 day) o None) same

-- ---- nothing is kept

none-kept : (strata : Strata) → ((site : Site) (first : ℕ) → stratum_at strata site first ≡ None) → (site : Site) (span : List ℕ) → [] ≡ filter_map (stratum_at strata site) span
none-kept strata none site [] = refl
none-kept strata none site (day ∷ span) = λ i. cons_option (sym (none site day) i) (none-kept strata none site span i)

pub none-tallied : (days : Days) → ((site : Site) (day : ℕ) → day_at days site day ≡ no_day) → (strata : Strata) → ((site : Site) (first : ℕ) → stratum_at strata site first ≡ None) → (tallies : Pm10Tallies)
    → ((site : Site) (quarter : ℕ) → HasBag AreSumsOf site quarter [] tallies.samples) → ((site : Site) (quarter : ℕ) → HasBag AreTotalsOf site quarter [] tallies.strata) → AreCells days strata tallies
none-tallied days none strata no_stratum tallies samples totals = record {
  particles = no-particles days none;
  tallied = record {
    samples = λ site time ranged.
        subst (λ (l : List ℤ). HasBag AreSumsOf site time l tallies.samples) (nothing-of days none captured_of refl site (range_with_len (quarter_first time) (days_in_quarter time))) (samples site time);
    strata_are = λ site time ranged.
        subst (λ (l : List (ℕ × ℕ)). HasBag AreTotalsOf site time l tallies.strata) (none-kept strata no_stratum site (range_with_len (quarter_first time) (days_in_quarter time))) (totals site time);
  };
}
