-- The sampled days of a PM2.5 quarter and what they are counted against (40 CFR Part 50, Appendix N, 1.0(c) and 3.0). The records of make-up samples are (own).
use Rattle.std.specs.Prelude.{ℕ, ◌+◌, ◌-◌, ◌*◌, Bool, not, ◌&&◌, ◌||◌, ◌==◌, if◌then◌else◌, List, [], ◌∷◌, length, map, filter, filter_map, count_by, sum_by, flat_map, Option, Some, None, is_some, ℤ, pos, unsigned_abs}
use Rattle.std.specs.List.{list_any, range_with_len}
use Rattle.aq_base.specs.Calendar.{quarter_of, quarter_number, quarter_first, days_in_quarter}
use Rattle.aq_base.specs.Decimal.{half_up}
use Rattle.aq_base.specs.Site.{Site}
use Rattle.aq_base.specs.declared.monitor.Pollutant.{Pollutant}
use Rattle.aq_base.specs.declared.monitor.Pollutant.TheVariants.{Pm25}
use Rattle.aq_base.specs.declared.office.OfficeRecord.{OfficeRecord}
use Rattle.aq_base.specs.declared.office.OfficeRecord.TheVariants.{Makeup as MakeupRecord}
use Rattle.aq_rules.specs.Office.Office.{Office}
use Rattle.aq_rules.specs.Office.Monitors.{is_same_site}
use Rattle.aq_rules.specs.Office.Schedule.{is_scheduled}
use Rattle.aq_rules.specs.Particles.ParticleDay.{site_day, net_day}

unfoldable pub days_of_quarter : ℕ → List ℕ
days_of_quarter quarter = range_with_len (quarter_first quarter) (days_in_quarter quarter)

abbrev pub scheduled_days : Office → Site → Pollutant → ℕ → List ℕ
scheduled_days office site pollutant quarter = filter (is_scheduled office.records site pollutant) (days_of_quarter quarter)

abbrev pub is_sampled : Office → Site → Pollutant → ℕ → Bool
is_sampled office site pollutant day = is_some (site_day office site pollutant day)

-- sampled, and not excluded
abbrev pub is_kept : Office → Site → Pollutant → ℕ → Bool
is_kept office site pollutant day = is_some (net_day office site pollutant day)

-- ---- make-up samples (Appendix N, 1.0(c))

-- a missed day, and the day of the sample that makes up for it
pub record Makeup : Type 0 where
  pub missed : ℕ
  pub makeup : ℕ

-- the make-up of the site that the record makes, if its missed day is in the quarter
abbrev pub makeup_by : Site → ℕ → OfficeRecord → Option Makeup
makeup_by site quarter (MakeupRecord other missed makeup) =
    if is_same_site other site && (quarter_of missed == quarter) then Some (record { missed = missed; makeup = makeup }) else None
makeup_by site quarter _ = None

-- before the next scheduled day, or exactly a week later
abbrev pub in_time_by : (ℕ → Bool) → Makeup → Bool
in_time_by scheduled m =
    not (list_any scheduled (range_with_len (m.missed + 1) (m.makeup - m.missed)))
    || (m.makeup == m.missed + 7)

abbrev pub is_in_time : Office → Site → Makeup → Bool
is_in_time office site m = in_time_by (is_scheduled office.records site Pm25) m

-- a sample on an unscheduled day makes up for a scheduled day without one: by what is scheduled and what is sampled, of a site or of a pair of combined sites
abbrev pub credit_by : (ℕ → Bool) → (ℕ → Bool) → Makeup → Bool
credit_by scheduled sampled m =
    scheduled m.missed && not (sampled m.missed)
    && not (scheduled m.makeup) && sampled m.makeup
    && in_time_by scheduled m

abbrev pub gives_credit : Office → Site → Makeup → Bool
gives_credit office site m = credit_by (is_scheduled office.records site Pm25) (is_sampled office site Pm25) m

unfoldable pub credits : Office → Site → ℕ → List Makeup
credits office site quarter = filter (gives_credit office site) (filter_map (makeup_by site quarter) office.records)

-- ---- counts

-- how many days are scheduled, how many samples are creditable (scheduled ones and make-up samples), and how many of those are not excluded
pub record QuarterCounts : Type 0 where
  pub scheduled : ℕ
  pub creditable : ℕ
  pub counted : ℕ

-- of the scheduled days of a quarter and its make-ups with credit: by which days are sampled, and which are kept
abbrev pub counts_by : (ℕ → Bool) → (ℕ → Bool) → List ℕ → List Makeup → QuarterCounts
counts_by sampled kept days made_up = record {
  scheduled = length days;
  creditable = count_by sampled days + length made_up;
  counted = count_by kept days + count_by (λ (m : Makeup). kept m.makeup) made_up;
}

unfoldable pub quarter_counts : Office → Site → ℕ → QuarterCounts
quarter_counts office site quarter =
    counts_by (is_sampled office site Pm25) (is_kept office site Pm25) (scheduled_days office site Pm25 quarter) (credits office site quarter)

-- the quarter's data capture rate (Appendix N, 1.0(c)): creditable samples in percent of the scheduled days, to the nearest whole one; 0 if nothing is scheduled (own)
abbrev pub capture : QuarterCounts → ℕ
capture counts =
    if counts.scheduled == 0 then 0 else unsigned_abs (half_up (pos (100 * counts.creditable)) (pos counts.scheduled))

-- ---- what a site has for a quarter

-- the counts, and the values of all days that are not excluded, scheduled or not
pub record QuarterDays : Type 0 where
  pub counts : QuarterCounts
  pub values : List ℤ

unfoldable pub quarter_values : Office → Site → Pollutant → ℕ → List ℤ
quarter_values office site pollutant quarter = filter_map (net_day office site pollutant) (days_of_quarter quarter)

abbrev pub pm25_quarter : Office → Site → ℕ → QuarterDays
pm25_quarter office site quarter = record { counts = quarter_counts office site quarter; values = quarter_values office site Pm25 quarter }

-- the four quarters of a year, by their numbers
abbrev pub quarters_of : ℕ → List ℕ
quarters_of year = map (quarter_number year) (0 ∷ 1 ∷ 2 ∷ 3 ∷ [])

unfoldable pub pm25_year : Office → Site → ℕ → List QuarterDays
pm25_year office site year = map (pm25_quarter office site) (quarters_of year)

-- the counted samples of a year, and its values
abbrev pub counted_in : List QuarterDays → ℕ
counted_in quarters = sum_by (λ (q : QuarterDays). q.counts.counted) quarters

abbrev pub values_in : List QuarterDays → List ℤ
values_in quarters = flat_map (λ (q : QuarterDays). q.values) quarters
