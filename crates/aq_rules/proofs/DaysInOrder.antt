-- A site's day, quarter and year of particles do not depend on the order of the observations, nor a mean on that of the monitors.
use Rattle.std.proofs.Common.{◌≡◌, ℕ, zero, suc, ◌+◌, ◌-◌, ◌≤◌, not, Bool, true, false, cond, ◌&&◌, ◌||◌, List, [], ◌∷◌, length, map, refl, sym, ap, ◌∙◌, arith}
use Rattle.std.specs.Prelude.{ℤ, pos, ◌+ℤ◌, Option, Some, None, option_map, option_and_then, is_some, ◌==◌}
use Rattle.std.specs.Option.{option_or, option_map_or}
use Rattle.std.specs.List.{filter, filter_map, cons_option, find, list_any, count_by, range_with_len}
use Rattle.std.specs.List.Sorted.{IsPermutation}
use Rattle.std.proofs.lemmas.List.Sorted.{length_permutation}
use Rattle.std.proofs.lemmas.List.{length-map}
use Rattle.std.proofs.lemmas.Int.{ints}
use Rattle.aq_base.specs.Calendar.{hour_number, days_in_quarter}
use Rattle.aq_base.specs.Decimal.{truncated}
use Rattle.aq_base.specs.Site.{Site}
use Rattle.aq_base.specs.declared.monitor.Duration.{Duration}
use Rattle.aq_base.specs.declared.monitor.Duration.TheVariants.{Hour, Day}
use Rattle.aq_base.specs.declared.monitor.MonitorId.{MonitorId}
use Rattle.aq_base.specs.declared.monitor.Pollutant.{Pollutant}
use Rattle.aq_base.specs.declared.monitor.Pollutant.TheVariants.{Ozone, Pm25, Pm10}
use Rattle.aq_base.specs.declared.observation.ObsKey.{ObsKey}
use Rattle.aq_base.specs.declared.observation.Observation.{Observation}
use Rattle.aq_base.specs.declared.office.OfficeRecord.{OfficeRecord}
use Rattle.aq_rules.specs.Office.Office.{Office, duration_at}
use Rattle.aq_rules.specs.Lists.{total}
use Rattle.aq_rules.specs.Office.Monitors.{is_same_monitor, is_same_key, is_eligible}
use Rattle.aq_rules.specs.Ozone.SiteHour.{Cell, Sample, mean_of, chosen, is_of_poc}
use Rattle.aq_rules.specs.Office.Designation.{primary_on}
use Rattle.aq_rules.specs.Office.Schedule.{is_scheduled}
use Rattle.aq_rules.specs.Particles.ParticleDay.{cell_of, mean_of_hours, mean_or_high_sum, day_cell, day_of_samples, monitor_day, eligible_pocs, lowest_poc, site_day, unless_excluded}
use Rattle.aq_rules.specs.Particles.QuarterCounts.{Makeup, makeup_by, QuarterDays, days_of_quarter, credits, quarter_counts, quarter_values, quarters_of, pm25_year}
use Rattle.aq_rules.specs.Particles.Strata.{first_days_among, first_days, strata_from, quarter_end, strata_of}
use Rattle.aq_rules.specs.Particles.Pm10Estimate.{Pm10Quarter, exceeds, quarter_of_strata, pm10_quarter, pm10_year}
use Rattle.aq_rules.proofs.Tests.{or_turns}
use Rattle.aq_rules.proofs.Order.{fold_in_any_order, filter_map-moved, one_order}
use Rattle.aq_rules.proofs.Sums.{total-cons}

sum_turns : (a b c : ℤ) → a +ℤ (b +ℤ c) ≡ b +ℤ (a +ℤ c)
sum_turns a b c = omega (arith, ints)

-- ---- sums and exclusions of lists in any order

module _ {X : Type 0} (value : X → ℤ) (out : X → Bool) where
  pub total-any_order : (xs ys : List X) → IsPermutation xs ys → total (map value xs) ≡ total (map value ys)
  total-any_order =
      fold_in_any_order (λ (xs : List X). total (map value xs)) (λ x sum. value x +ℤ sum) (λ x xs. total-cons (value x) (map value xs))
      (λ x y sum. sum_turns (value x) (value y) sum)

  pub out-any_order : (xs ys : List X) → IsPermutation xs ys → list_any out xs ≡ list_any out ys
  out-any_order =
      fold_in_any_order (λ (xs : List X). list_any out xs) (λ x so_far. out x || so_far) (λ x xs. refl)
      (λ x y so_far. or_turns (out x) (out y) so_far)

-- ---- a mean of monitors

abbrev value_of : Sample → ℤ
value_of sample = sample.cell.value

abbrev is_out : Sample → Bool
is_out sample = sample.cell.excluded

abbrev mean_by : ℕ → ℤ → Bool → Option Cell
mean_by zero sum out = None
mean_by (suc n) sum out = Some (record { value = truncated sum (pos (suc n)); excluded = out })

mean_of-by : (samples : List Sample) → mean_of samples ≡ mean_by (length samples) (total (map value_of samples)) (list_any is_out samples)
mean_of-by [] = refl
mean_of-by (sample ∷ samples) = refl

pub mean-any_order : (xs ys : List Sample) → IsPermutation xs ys → mean_of xs ≡ mean_of ys
mean-any_order xs ys moved =
    mean_of-by xs
    ∙ (λ i. mean_by (sym (length_permutation xs ys moved) i) (total-any_order value_of is_out xs ys moved i) (out-any_order value_of is_out xs ys moved i))
    ∙ sym (mean_of-by ys)

-- ---- a monitor's day

abbrev cell_value : Cell → ℤ
cell_value cell = cell.value

abbrev cell_out : Cell → Bool
cell_out cell = cell.excluded

abbrev hours_by : (ℕ → ℤ → Option ℤ) → ℕ → ℤ → Bool → Option Cell
hours_by mean count sum out = option_map (λ value. record { value = value; excluded = out }) (mean count sum)

hours-any_order : (mean : ℕ → ℤ → Option ℤ) (xs ys : List Cell) → IsPermutation xs ys
    → hours_by mean (length (map cell_value xs)) (total (map cell_value xs)) (list_any cell_out xs)
    ≡ hours_by mean (length (map cell_value ys)) (total (map cell_value ys)) (list_any cell_out ys)
hours-any_order mean xs ys moved =
    λ i. hours_by mean
    ((length-map xs cell_value ∙ sym (length_permutation xs ys moved) ∙ sym (length-map ys cell_value)) i)
    (total-any_order cell_value cell_out xs ys moved i) (out-any_order cell_value cell_out xs ys moved i)

day_cell-any_order : (pollutant : Pollutant) (duration : Duration) (xs ys : List Cell) → (duration ≡ Day → length xs ≤ 1) → IsPermutation xs ys
    → day_cell pollutant duration xs ≡ day_cell pollutant duration ys
day_cell-any_order Ozone Hour xs ys one moved = hours-any_order mean_or_high_sum xs ys moved
day_cell-any_order Pm25 Hour xs ys one moved = hours-any_order mean_or_high_sum xs ys moved
day_cell-any_order Pm10 Hour xs ys one moved = hours-any_order mean_of_hours xs ys moved
day_cell-any_order pollutant Day xs ys one moved = ap (day_cell pollutant Day) (sym (one_order xs ys (one refl) moved))

-- a sample of 24 hours stands at one key
abbrev Entry : Type 0
Entry = ObsKey × Observation

bound_by : (b : Bool) (of : ℤ → Cell) (value : Option ℤ) (cells : List Cell) (entry : Entry) (entries : List Entry) → length cells ≤ length entries
    → length (cons_option (cond b (option_map of value) None) cells) ≤ length (cond b (entry ∷ entries) entries)
bound_by true of None cells entry entries few = omega arith
bound_by true of (Some v) cells entry entries few = omega arith
bound_by false of value cells entry entries few = few

bound : (office : Office) (monitor : MonitorId) (day : ℕ) (entries : List Entry)
    → length (filter_map (cell_of office monitor Day day) entries) ≤ length (filter (λ (e : Entry). is_same_key e.0 (record { monitor = monitor; hour = hour_number day 0 })) entries)
bound office monitor day [] = omega arith
bound office monitor day (entry ∷ entries) =
    bound_by (is_same_monitor entry.0.monitor monitor && (entry.0.hour == hour_number day 0)) _ entry.1.value
    (filter_map (cell_of office monitor Day day) entries) entry
    (filter (λ (e : Entry). is_same_key e.0 (record { monitor = monitor; hour = hour_number day 0 })) entries) (bound office monitor day entries)

one_cell : (office : Office) (monitor : MonitorId) (duration : Duration) (day : ℕ)
    → ((key : ObsKey) → length (filter (λ (e : Entry). is_same_key e.0 key) office.observations) ≤ 1)
    → duration ≡ Day → length (filter_map (cell_of office monitor duration day) office.observations) ≤ 1
one_cell office monitor Hour day distinct is = cc
one_cell office monitor Day day distinct is =
    omega (arith, bound office monitor day office.observations, distinct (record { monitor = monitor; hour = hour_number day 0 }))

abbrev with_observations : List OfficeRecord → List Entry → Office
with_observations records entries = record { records = records; observations = entries; loads = [] }

day_of_samples-any_order : (a b : Office) (monitor : MonitorId) (duration : Duration) (day : ℕ) → a.records ≡ b.records → IsPermutation a.observations b.observations
    → ((key : ObsKey) → length (filter (λ (e : Entry). is_same_key e.0 key) a.observations) ≤ 1)
    → day_of_samples a monitor duration day ≡ day_of_samples b monitor duration day
day_of_samples-any_order a b monitor duration day records moved distinct =
    let first : day_of_samples a monitor duration day ≡ day_of_samples (with_observations a.records b.observations) monitor duration day =
    day_cell-any_order monitor.pollutant duration (filter_map (cell_of a monitor duration day) a.observations) (filter_map (cell_of a monitor duration day) b.observations)
    (one_cell a monitor duration day distinct) (filter_map-moved (cell_of a monitor duration day) a.observations b.observations moved)
    in
    let second : day_of_samples (with_observations a.records b.observations) monitor duration day ≡ day_of_samples b monitor duration day =
    ap (λ (r : List OfficeRecord). day_of_samples (with_observations r b.observations) monitor duration day) records
    in
    first ∙ second

pub monitor_day-any_order : (a b : Office) (monitor : MonitorId) (day : ℕ) → a.records ≡ b.records → IsPermutation a.observations b.observations
    → ((key : ObsKey) → length (filter (λ (e : Entry). is_same_key e.0 key) a.observations) ≤ 1)
    → monitor_day a monitor day ≡ monitor_day b monitor day
unfolding monitor_day
monitor_day-any_order a b monitor day records moved distinct =
    λ i. cond (is_eligible (records i) monitor)
    (option_and_then (λ duration. day_of_samples-any_order a b monitor duration day records moved distinct i) (duration_at (with_observations (records i) []) monitor))
    None

-- ---- a site's day, by its records and the days of its monitors

abbrev samples_by : List OfficeRecord → (MonitorId → Option Cell) → Site → Pollutant → List Sample
samples_by records days site pollutant =
    filter_map
    (λ poc. option_map (λ (cell : Cell). record { poc = poc; cell = cell }) (days (record { site = site; pollutant = pollutant; poc = poc })))
    (eligible_pocs records site pollutant)

abbrev site_by : Pollutant → List OfficeRecord → (MonitorId → Option Cell) → Site → ℕ → Option Cell
site_by Ozone records days site day = None
site_by Pm25 records days site day =
    chosen (find (is_of_poc (primary_on records site Pm25 day)) (samples_by records days site Pm25)) (samples_by records days site Pm25)
site_by Pm10 records days site day =
    option_map (λ (s : Sample). s.cell)
    (find (is_of_poc (option_or (primary_on records site Pm10 day) (lowest_poc (eligible_pocs records site Pm10)))) (samples_by records days site Pm10))

site_by-is : (office : Office) (site : Site) (pollutant : Pollutant) (day : ℕ)
    → site_day office site pollutant day ≡ site_by pollutant office.records (λ m. monitor_day office m day) site day
unfolding site_day
site_by-is office site Ozone day = refl
site_by-is office site Pm25 day = refl
site_by-is office site Pm10 day = refl

pub site_day-any_order : (a b : Office) (site : Site) (pollutant : Pollutant) (day : ℕ) → a.records ≡ b.records → IsPermutation a.observations b.observations
    → ((key : ObsKey) → length (filter (λ (e : Entry). is_same_key e.0 key) a.observations) ≤ 1)
    → site_day a site pollutant day ≡ site_day b site pollutant day
site_day-any_order a b site pollutant day records moved distinct =
    site_by-is a site pollutant day
    ∙ (λ i. site_by pollutant (records i) (λ m. monitor_day-any_order a b m day records moved distinct i) site day)
    ∙ sym (site_by-is b site pollutant day)

-- ---- a year, by its records and the days of the site

abbrev sampled_by : (ℕ → Option Cell) → ℕ → Bool
sampled_by days day = is_some (days day)

abbrev kept_by : (ℕ → Option Cell) → ℕ → Bool
kept_by days day = is_some (option_and_then unless_excluded (days day))

abbrev gives_by : List OfficeRecord → (ℕ → Option Cell) → Site → Makeup → Bool
gives_by records days site m =
    is_scheduled records site Pm25 m.missed && not (sampled_by days m.missed)
    && not (is_scheduled records site Pm25 m.makeup) && sampled_by days m.makeup
    && (not (list_any (is_scheduled records site Pm25) (range_with_len (m.missed + 1) (m.makeup - m.missed))) || (m.makeup == m.missed + 7))

abbrev credits_by : List OfficeRecord → (ℕ → Option Cell) → Site → ℕ → List Makeup
credits_by records days site quarter = filter (gives_by records days site) (filter_map (makeup_by site quarter) records)

abbrev scheduled_by : List OfficeRecord → Site → Pollutant → ℕ → List ℕ
scheduled_by records site pollutant quarter = filter (is_scheduled records site pollutant) (days_of_quarter quarter)

abbrev pm25_by : List OfficeRecord → (ℕ → Option Cell) → Site → ℕ → QuarterDays
pm25_by records days site quarter = record {
  counts =
      record {
        scheduled = length (scheduled_by records site Pm25 quarter);
        creditable = count_by (sampled_by days) (scheduled_by records site Pm25 quarter) + length (credits_by records days site quarter);
        counted = count_by (kept_by days) (scheduled_by records site Pm25 quarter) + count_by (λ (m : Makeup). kept_by days m.makeup) (credits_by records days site quarter);
      };
  values = filter_map (λ day. option_and_then unless_excluded (days day)) (days_of_quarter quarter);
}

pub pm25_year-any_order : (a b : Office) (site : Site) (year : ℕ) → a.records ≡ b.records → IsPermutation a.observations b.observations
    → ((key : ObsKey) → length (filter (λ (e : Entry). is_same_key e.0 key) a.observations) ≤ 1)
    → pm25_year a site year ≡ pm25_year b site year
unfolding pm25_year quarter_counts quarter_values credits
pm25_year-any_order a b site year records moved distinct =
    λ i. map (pm25_by (records i) (λ day. site_day-any_order a b site Pm25 day records moved distinct i) site) (quarters_of year)

abbrev pm10_by : List OfficeRecord → (ℕ → Option Cell) → Site → ℕ → Pm10Quarter
pm10_by records days site quarter =
    quarter_of_strata (days_in_quarter quarter) (length (scheduled_by records site Pm10 quarter))
    (count_by (sampled_by days) (scheduled_by records site Pm10 quarter))
    (count_by (λ day. option_map_or exceeds (option_and_then unless_excluded (days day)) false) (scheduled_by records site Pm10 quarter))
    (map (filter_map (λ day. option_and_then unless_excluded (days day))) (strata_from (quarter_end quarter) (first_days_among (is_scheduled records site Pm10) (days_of_quarter quarter))))

pub pm10_year-any_order : (a b : Office) (site : Site) (year : ℕ) → a.records ≡ b.records → IsPermutation a.observations b.observations
    → ((key : ObsKey) → length (filter (λ (e : Entry). is_same_key e.0 key) a.observations) ≤ 1)
    → pm10_year a site year ≡ pm10_year b site year
unfolding pm10_year pm10_quarter strata_of first_days
pm10_year-any_order a b site year records moved distinct =
    λ i. map (pm10_by (records i) (λ day. site_day-any_order a b site Pm10 day records moved distinct i) site) (quarters_of year)
