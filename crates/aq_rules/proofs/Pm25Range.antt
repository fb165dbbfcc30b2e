-- The values of particles of a site in a valid office are in range, and what is kept of its PM2.5 quarters and years keeps its facts.
use Rattle.std.proofs.Common.{◌≡◌, ℕ, zero, suc, ◌+◌, ◌*◌, ◌/◌, ◌%◌, ◌<◌, ◌≤◌, Bool, true, false, ◌&&◌, cond, List, [], ◌∷◌, length, map, take, refl, sym, subst, arith}
use Rattle.std.specs.Prelude.{ℤ, pos, negsuc, ◌≤ℤ◌, int_le, Option, Some, None, option_map, option_and_then, ⊤, IsTrue, ◌==◌, slice_get, nat_le, sum}
use Rattle.std.specs.List.{filter_map, cons_option, find, list_all, list_any, range_with_len}
use Rattle.std.proofs.lemmas.List.Elements.{All-cons, All-nil}
use Rattle.aq_base.specs.Calendar.{quarter_number, quarter_year, days_in_month, days_in_quarter}
use Rattle.aq_rules.specs.Office.Schedule.{is_scheduled}
use Rattle.std.proofs.lemmas.Int.{ints}
use Rattle.std.proofs.lemmas.Bool.Decides.{nat_tests}
use Rattle.std.proofs.Math.Nat.{div-le_of_le-mul}
use Rattle.std.proofs.lemmas.Bool.{and_parts}
use Rattle.aq_base.specs.Decimal.{truncated}
use Rattle.aq_base.specs.Site.{Site}
use Rattle.aq_base.specs.declared.code.Code.{Code}
use Rattle.aq_base.specs.declared.monitor.Duration.{Duration}
use Rattle.aq_base.specs.declared.monitor.Duration.TheVariants.{Hour, Day}
use Rattle.aq_base.specs.declared.monitor.MonitorId.{MonitorId}
use Rattle.aq_base.specs.declared.monitor.Pollutant.{Pollutant}
use Rattle.aq_base.specs.declared.monitor.Pollutant.TheVariants.{Ozone, Pm25, Pm10}
use Rattle.aq_base.specs.declared.observation.ObsKey.{ObsKey}
use Rattle.aq_base.specs.declared.observation.Observation.{Observation}
use Rattle.aq_rules.specs.Lines.Spellings.{is_in_range}
use Rattle.aq_rules.specs.Office.Office.{Office, IsOffice, duration_at, is_measured, is_method, is_content, fits_monitors}
use Rattle.aq_rules.specs.Lists.{least, total, greatest, ranked}
use Rattle.aq_rules.specs.Office.Monitors.{is_same_site, is_same_pollutant, is_same_monitor, is_eligible}
use Rattle.aq_rules.specs.Office.Exclusion.{excluded}
use Rattle.aq_rules.specs.Office.Designation.{primary_on}
use Rattle.aq_rules.specs.Ozone.SiteHour.{Cell, Sample, is_of_poc}
use Rattle.aq_rules.specs.Particles.ParticleDay.{starts_on, cell_of, counting_poc, mean_of_hours, mean_or_high_sum, day_value, day_cell, day_of_samples, monitor_day, sample_on, samples_on, eligible_pocs, site_day, net_day, unless_excluded}
use Rattle.aq_rules.specs.Particles.QuarterCounts.{days_of_quarter, quarter_counts, pm25_quarter, quarter_values, quarters_of, pm25_year, values_in}
use Rattle.aq_rules.specs.Kept.Summaries.{is_value, PmQuarter, KeepsPmQuarter, KeepsPmYear, eight_greatest, summary_of_quarter, pm25_summary}
use Rattle.aq_rules.proofs.Elements.{Every, every-append}
use Rattle.aq_rules.specs.Office.Sameness.{same_pollutant}
use Rattle.aq_rules.proofs.Pm25Facts.{least-there, greatest-there, sum-within, no-sum, top-falls, top-count, top-greatest}
use Rattle.aq_rules.proofs.Pm10Facts.{length-days, length-filter-le}
use Rattle.aq_rules.proofs.Pm25Counts.{HoldsDays, counts-keep}
use Rattle.aq_rules.proofs.ValueRange.{InRangeTo, SumTo, IfValueTo, CellTo, IfCellTo, SampleTo, IfSampleTo, from_test, to_test, total-between, trunc-in_range, value-onto, least-in_range, greatest-in_range, every-ranked, cell-onto, found-in_range, chosen-in_range}

-- the greatest value that a line can state
abbrev top : ℕ
top = 99999

abbrev InRange : ℤ → Type 0
InRange = InRangeTo top

abbrev Between : ℕ → ℤ → Type 0
Between = SumTo top

abbrev IfValue : Option ℤ → Type 0
IfValue = IfValueTo top

abbrev CellIn : Cell → Type 0
CellIn = CellTo top

abbrev IfCell : Option Cell → Type 0
IfCell = IfCellTo top

abbrev SampleIn : Sample → Type 0
SampleIn = SampleTo top

-- the values of particles are tenths of a µg/m3
abbrev IsParticle : Pollutant → Type 0
IsParticle Ozone = ⊥
IsParticle Pm25 = ⊤
IsParticle Pm10 = ⊤

-- ---- means

-- and of few hours over 24
high-in_range : (t : ℤ) (n : ℕ) → n ≤ 17 → pos 8520 ≤ℤ t → Between n t → InRange (truncated t (pos 24))
high-in_range (pos a) n few high h =
    let q : a / 24 ≤ 99999 = div-le_of_le-mul 24 (omega (arith, ints, h.1)) in
    (omega (arith, ints), omega (arith, ints, q))
high-in_range (negsuc a) n few high h = absurd (omega (arith, ints, high))

hours-in_range : (n : ℕ) (t : ℤ) → Between n t → IfValue (mean_or_high_sum n t)
hours-in_range n t h = by_tests (nat_le 18 n) (int_le (pos 8520) t) refl refl
  where
    by_tests : (a b : Bool) → nat_le 18 n ≡ a → int_le (pos 8520) t ≡ b
        → IfValue (cond a (Some (truncated t (pos n))) (cond b (Some (truncated t (pos 24))) None))
    by_tests true b e f = let many : 18 ≤ n = grind (arith, nat_tests) in trunc-in_range top t n (omega arith) h
    by_tests false true e f =
        let few : n ≤ 17 = grind (arith, nat_tests) in
        let high : pos 8520 ≤ℤ t = grind (arith, ints) in
        high-in_range t n few high h
    by_tests false false e f = tt

means-in_range : (n : ℕ) (t : ℤ) → Between n t → IfValue (mean_of_hours n t)
means-in_range n t h = by_test (nat_le 18 n) refl
  where
    by_test : (b : Bool) → nat_le 18 n ≡ b → IfValue (cond b (Some (truncated t (pos n))) None)
    by_test true e = let many : 18 ≤ n = grind (arith, nat_tests) in trunc-in_range top t n (omega arith) h
    by_test false e = tt

first-in_range : (values : List ℤ) → Every InRange values → IfValue (slice_get values 0)
first-in_range [] every = tt
first-in_range (v ∷ vs) every = every.0

-- ---- observations, monitors and sites

pub measured-in_range : (pollutant : Pollutant) (v : ℤ) (null : Option Code) → is_measured pollutant (Some v) null ≡ true → is_in_range pollutant v ≡ true
measured-in_range pollutant v None h = h
measured-in_range pollutant v (Some code) h = cc

of_value : (out : Bool) (pollutant : Pollutant) (value : Option ℤ) (null : Option Code) → IsParticle pollutant → is_measured pollutant value null ≡ true
    → IfCell (option_map (λ v. record { value = v; excluded = out }) value)
of_value out pollutant None null is h = tt
of_value out Ozone (Some v) null is h = absurd is
of_value out Pm25 (Some v) null is h = from_test top v (measured-in_range Pm25 v null h)
of_value out Pm10 (Some v) null is h = from_test top v (measured-in_range Pm10 v null h)

pub measured-of : (office : Office) (entry : ObsKey × Observation) → fits_monitors office entry ≡ true → is_measured entry.0.monitor.pollutant entry.1.value entry.1.null ≡ true
measured-of office entry fits =
    let content = (and_parts _ (is_content entry.0.monitor.pollutant entry.1) fits).1 in
    let d = and_parts _ (is_method entry.1.method) content in
    let c = and_parts _ (nat_le (length entry.1.quals) 10) d.0 in
    let b = and_parts _ _ c.0 in
    (and_parts (is_measured entry.0.monitor.pollutant entry.1.value entry.1.null) _ b.0).0

cell-in_range : (office : Office) (monitor : MonitorId) (duration : Duration) (day : ℕ) (entry : ObsKey × Observation) → IsParticle monitor.pollutant → fits_monitors office entry ≡ true
    → IfCell (cell_of office monitor duration day entry)
cell-in_range office monitor duration day entry is fits =
    by_test (is_same_monitor entry.0.monitor monitor) (starts_on duration day entry.0.hour) refl
  where
    by_test : (a b : Bool) → is_same_monitor entry.0.monitor monitor ≡ a
        → IfCell (cond (a && b) (option_map (λ value. record { value = value; excluded = excluded office.records entry.0 entry.1.quals }) entry.1.value) None)
    by_test false b e = tt
    by_test true false e = tt
    by_test true true e =
        let site_and = and_parts _ (entry.0.monitor.poc == monitor.poc) e in
        let pollutant = (and_parts (is_same_site entry.0.monitor.site monitor.site) (is_same_pollutant entry.0.monitor.pollutant monitor.pollutant) site_and.0).1 in
        of_value (excluded office.records entry.0 entry.1.quals) entry.0.monitor.pollutant entry.1.value entry.1.null (subst IsParticle (sym (same_pollutant entry.0.monitor.pollutant monitor.pollutant pollutant)) is) (measured-of office entry fits)

cells-in_range : (office : Office) (monitor : MonitorId) (duration : Duration) (day : ℕ) (entries : List (ObsKey × Observation)) → IsParticle monitor.pollutant
    → list_all (fits_monitors office) entries ≡ true → Every CellIn (filter_map (cell_of office monitor duration day) entries)
cells-in_range office monitor duration day [] is fits = tt
cells-in_range office monitor duration day (entry ∷ entries) is fits =
    let parts = and_parts (fits_monitors office entry) (list_all (fits_monitors office) entries) fits in
    cell-onto top (cell_of office monitor duration day entry) (filter_map (cell_of office monitor duration day) entries) (cell-in_range office monitor duration day entry is parts.0)
    (cells-in_range office monitor duration day entries is parts.1)

values-in_range : (cells : List Cell) → Every CellIn cells → Every InRange (map (λ (c : Cell). c.value) cells)
values-in_range [] every = tt
values-in_range (cell ∷ cells) every = (every.0, values-in_range cells every.1)

day_value-in_range : (pollutant : Pollutant) (duration : Duration) (values : List ℤ) → IsParticle pollutant → Every InRange values → IfValue (day_value pollutant duration values)
day_value-in_range Ozone duration values is every = absurd is
day_value-in_range Pm25 Hour values is every = hours-in_range (length values) (total values) (total-between top values every)
day_value-in_range Pm25 Day values is every = first-in_range values every
day_value-in_range Pm10 Hour values is every = means-in_range (length values) (total values) (total-between top values every)
day_value-in_range Pm10 Day values is every = first-in_range values every

with_value : (out : Bool) (o : Option ℤ) → IfValue o → IfCell (option_map (λ value. record { value = value; excluded = out }) o)
with_value out None h = tt
with_value out (Some v) h = h

day_cell-in_range : (pollutant : Pollutant) (duration : Duration) (cells : List Cell) → IsParticle pollutant → Every CellIn cells → IfCell (day_cell pollutant duration cells)
day_cell-in_range pollutant duration cells is every =
    let values = map (λ (c : Cell). c.value) cells in
    with_value (list_any (λ (c : Cell). c.excluded) cells) (day_value pollutant duration values) (day_value-in_range pollutant duration values is (values-in_range cells every))

day_of_samples-in_range : (office : Office) (monitor : MonitorId) (duration : Duration) (day : ℕ) → IsOffice office → IsParticle monitor.pollutant → IfCell (day_of_samples office monitor duration day)
day_of_samples-in_range office monitor duration day valid is =
    day_cell-in_range monitor.pollutant duration (filter_map (cell_of office monitor duration day) office.observations) is
    (cells-in_range office monitor duration day office.observations is valid.observations_fit)

monitor_day-in_range : (office : Office) (monitor : MonitorId) (day : ℕ) → IsOffice office → IsParticle monitor.pollutant → IfCell (monitor_day office monitor day)
unfolding monitor_day
monitor_day-in_range office monitor day valid is = by_case (is_eligible office.records monitor) (duration_at office monitor)
  where
    by_case : (b : Bool) (o : Option Duration) → IfCell (cond b (option_and_then (λ duration. day_of_samples office monitor duration day) o) None)
    by_case false o = tt
    by_case true None = tt
    by_case true (Some duration) = day_of_samples-in_range office monitor duration day valid is

sample-onto : (poc : ℕ) (o : Option Cell) (samples : List Sample) → IfCell o → Every SampleIn samples
    → Every SampleIn (cons_option (option_map (λ (cell : Cell). record { poc = poc; cell = cell }) o) samples)
sample-onto poc None samples h every = every
sample-onto poc (Some cell) samples h every = (h, every)

samples-in_range : (office : Office) (site : Site) (pollutant : Pollutant) (day : ℕ) (pocs : List ℕ) → IsOffice office → IsParticle pollutant
    → Every SampleIn (filter_map (sample_on office site pollutant day) pocs)
samples-in_range office site pollutant day [] valid is = tt
samples-in_range office site pollutant day (poc ∷ pocs) valid is =
    let monitor : MonitorId = record { site = site; pollutant = pollutant; poc = poc } in
    sample-onto poc (monitor_day office monitor day) (filter_map (sample_on office site pollutant day) pocs)
    (monitor_day-in_range office monitor day valid is) (samples-in_range office site pollutant day pocs valid is)

pub site_day-in_range : (office : Office) (site : Site) (day : ℕ) → IsOffice office → IfCell (site_day office site Pm25 day)
unfolding site_day
site_day-in_range office site day valid =
    let every = samples-in_range office site Pm25 day (eligible_pocs office.records site Pm25) valid tt in
    chosen-in_range top (find (is_of_poc (primary_on office.records site Pm25 day)) (samples_on office site Pm25 day)) (samples_on office site Pm25 day)
    (found-in_range top (is_of_poc (primary_on office.records site Pm25 day)) (samples_on office site Pm25 day) every) every

of_sample : (o : Option Sample) → IfSampleTo top o → IfCell (option_map (λ (s : Sample). s.cell) o)
of_sample None h = tt
of_sample (Some sample) h = h

pub pm10_day-in_range : (office : Office) (site : Site) (day : ℕ) → IsOffice office → IfCell (site_day office site Pm10 day)
unfolding site_day
pm10_day-in_range office site day valid =
    let counts = is_of_poc (counting_poc office site day) in
    of_sample (find counts (samples_on office site Pm10 day))
    (found-in_range top counts (samples_on office site Pm10 day) (samples-in_range office site Pm10 day (eligible_pocs office.records site Pm10) valid tt))

-- ---- the quarter

pub net-in_range : (o : Option Cell) → IfCell o → IfValue (option_and_then unless_excluded o)
net-in_range None h = tt
net-in_range (Some cell) h = elim cell.excluded as (λ b. IfValue (cond b None (Some cell.value))) [ true ↦ tt | false ↦ h ]

days-in_range : (office : Office) (site : Site) (days : List ℕ) → IsOffice office → Every InRange (filter_map (net_day office site Pm25) days)
days-in_range office site [] valid = tt
days-in_range office site (day ∷ days) valid =
    value-onto top (net_day office site Pm25 day) (filter_map (net_day office site Pm25) days) (net-in_range (site_day office site Pm25 day) (site_day-in_range office site day valid)) (days-in_range office site days valid)

pub quarter_values-in_range : (office : Office) (site : Site) (quarter : ℕ) → IsOffice office → Every InRange (quarter_values office site Pm25 quarter)
unfolding quarter_values
quarter_values-in_range office site quarter valid = days-in_range office site (days_of_quarter quarter) valid

value_test : (o : Option ℤ) → IfValue o → IsTrue (is_value Pm25 o)
value_test None h = refl
value_test (Some v) h = to_test top v h

pub pm25_quarter-keeps : (office : Office) (site : Site) (quarter : ℕ) → IsOffice office → HoldsDays quarter → KeepsPmQuarter (summary_of_quarter (pm25_quarter office site quarter))
pm25_quarter-keeps office site quarter valid holds =
    let counts = counts-keep office site quarter valid holds in
    let values = quarter_values office site Pm25 quarter in
    let every = quarter_values-in_range office site quarter valid in
    record {
      counted = counts.counted;
      creditable = counts.creditable;
      scheduled = counts.scheduled;
      counted_net = counts.counted_days;
      net_days = counts.room;
      some_least = least-there values;
      some_greatest = greatest-there values;
      least_in_range = value_test (least values) (least-in_range top values every);
      greatest_in_range = value_test (greatest values) (greatest-in_range top values every);
      sum_within = sum-within (pm25_quarter office site quarter);
      no_sum = no-sum values;
    }

-- ---- the year

pub every-take : (n : ℕ) (values : List ℤ) → Every InRange values → Every InRange (take n values)
every-take zero values every = tt
every-take (suc n) [] every = tt
every-take (suc n) (v ∷ vs) every = (every.0, every-take n vs every.1)

all_in_range : (values : List ℤ) → Every InRange values → list_all (is_in_range Pm25) values ≡ true
all_in_range [] every = refl
all_in_range (v ∷ vs) every = let h = to_test top v every.0 in rw h (all_in_range vs every.1)

year_values-in_range : (office : Office) (site : Site) (quarters : List ℕ) → IsOffice office → Every InRange (values_in (map (pm25_quarter office site) quarters))
year_values-in_range office site [] valid = tt
year_values-in_range office site (quarter ∷ quarters) valid =
    every-append InRange (quarter_values office site Pm25 quarter) (values_in (map (pm25_quarter office site) quarters)) (quarter_values-in_range office site quarter valid)
    (year_values-in_range office site quarters valid)

-- the days of the four quarters of a year
most_days : (quarter year part : ℕ) → quarter_year quarter ≡ year → quarter % 4 ≡ part → part < 4 → days_in_quarter quarter ≤ cond (nat_le 2 part) 92 91
most_days quarter year part y p low =
    let P : ℕ → Type 0 = λ n. sum (map (days_in_month (quarter_year quarter)) (range_with_len (3 * n + 1) 3)) ≤ cond (nat_le 2 part) 92 91 in
    subst P (sym p) (by_part (quarter_year quarter) part low)
  where
    feb : (b : Bool) → 0 + 31 + cond b 29 28 + 31 ≤ 91
    feb true = omega arith
    feb false = omega arith

    by_part : (y n : ℕ) → n < 4 → sum (map (days_in_month y) (range_with_len (3 * n + 1) 3)) ≤ cond (nat_le 2 n) 92 91
    by_part y zero low = feb (y % 4 == 0)
    by_part y (suc zero) low = omega arith
    by_part y (suc (suc zero)) low = omega arith
    by_part y (suc (suc (suc zero))) low = omega arith
    by_part y (suc (suc (suc (suc n)))) low = absurd (omega arith)

scheduled-most : (office : Office) (site : Site) (quarter : ℕ) → (quarter_counts office site quarter).scheduled ≤ days_in_quarter quarter
unfolding quarter_counts
scheduled-most office site quarter =
    omega (arith, length-filter-le (is_scheduled office.records site Pm25) (days_of_quarter quarter), length-days quarter)

part_most : (office : Office) (site : Site) (year part : ℕ) → part < 4 → (quarter_counts office site (quarter_number year part)).scheduled ≤ cond (nat_le 2 part) 92 91
part_most office site year part low =
    let p : quarter_number year part % 4 ≡ part = omega arith in
    omega (arith, scheduled-most office site (quarter_number year part), most_days (quarter_number year part) (quarter_year (quarter_number year part)) part refl p low)

pub pm25_year-keeps : (office : Office) (site : Site) (year : ℕ) → IsOffice office
    → ((part : ℕ) → part < 4 → HoldsDays (quarter_number year part)) → KeepsPmYear (pm25_summary office site year)
unfolding pm25_summary pm25_year
pm25_year-keeps office site year valid holds =
    let quarters = map (pm25_quarter office site) (quarters_of year) in
    let every = year_values-in_range office site (quarters_of year) valid in
    let keeps : (part : ℕ) → part < 4 → KeepsPmQuarter (summary_of_quarter (pm25_quarter office site (quarter_number year part))) =
    λ part low. pm25_quarter-keeps office site (quarter_number year part) valid (holds part low)
    in
    let q : ℕ → PmQuarter = λ part. summary_of_quarter (pm25_quarter office site (quarter_number year part)) in
    record {
      four = refl;
      quarters =
          All-cons KeepsPmQuarter (q 0) (q 1 ∷ q 2 ∷ q 3 ∷ []) (keeps 0 (omega arith))
          (All-cons KeepsPmQuarter (q 1) (q 2 ∷ q 3 ∷ []) (keeps 1 (omega arith))
          (All-cons KeepsPmQuarter (q 2) (q 3 ∷ []) (keeps 2 (omega arith))
          (All-cons KeepsPmQuarter (q 3) [] (keeps 3 (omega arith)) (All-nil KeepsPmQuarter))));
      scheduled = omega (arith, part_most office site year 0 (omega arith), part_most office site year 1 (omega arith), part_most office site year 2 (omega arith), part_most office site year 3 (omega arith));
      top_falls = top-falls (values_in quarters);
      top_in_range = all_in_range (eight_greatest (values_in quarters)) (every-take 8 (ranked (values_in quarters)) (every-ranked top (values_in quarters) every));
      top_count = top-count quarters;
      top_greatest = top-greatest quarters;
    }
