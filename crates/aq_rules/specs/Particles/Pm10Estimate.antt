-- The estimated number of PM10 exceedances of quarters, years and three years (40 CFR Part 50, Appendix K, 2.1 and 3.0). Each exceedance is adjusted for days without a sample, the first one too (own).
use Rattle.std.specs.Prelude.{ℕ, ◌*◌, ◌/◌, Bool, true, false, ◌==◌, if◌then◌else◌, List, [], ◌∷◌, length, map, filter, filter_map, count_by, sum_by, Option, Some, None, option_map, ℤ, pos, int_lt}
use Rattle.std.specs.Option.{option_map_or}
use Rattle.aq_base.specs.Calendar.{days_in_quarter}
use Rattle.aq_base.specs.Decimal.{half_up}
use Rattle.aq_base.specs.Site.{Site}
use Rattle.aq_base.specs.declared.monitor.Pollutant.TheVariants.{Pm10}
use Rattle.aq_rules.specs.Office.Office.{Office}
use Rattle.aq_rules.specs.Lists.{total, all_of}
use Rattle.aq_rules.specs.Standards.{PM10_DAY_LEVEL}
use Rattle.aq_rules.specs.Particles.ParticleDay.{net_day}
use Rattle.aq_rules.specs.Particles.QuarterCounts.{scheduled_days, is_sampled, quarters_of}
use Rattle.aq_rules.specs.Particles.Strata.{strata_of}

-- a value in tenths, rounded to the nearest 10 µg/m3 (Appendix K, 1.0(b)), in tens
abbrev pub in_tens : ℤ → ℤ
in_tens value = half_up value (pos 100)

-- above 150 µg/m3 once rounded so, which is 155.0 and up
abbrev pub exceeds : ℤ → Bool
exceeds value = int_lt PM10_DAY_LEVEL (in_tens value)

-- ---- what a site has for a quarter

-- the days of the calendar quarter, its scheduled days and those of them with a sample; its strata with a sample, its samples, and how many exceed, of all and of those on scheduled days; and the sum over the strata of the part of their samples that exceed, in sixtieths. What is excluded is no sample but for `captured`
pub record Pm10Quarter : Type 0 where
  pub calendar_days : ℕ
  pub scheduled : ℕ
  pub captured : ℕ
  pub strata : ℕ
  pub samples : ℕ
  pub exceedances : ℕ
  pub scheduled_exceedances : ℕ
  pub sixtieths : ℕ

abbrev pub has_sample : List ℤ → Bool
has_sample [] = false
has_sample (value ∷ values) = true

abbrev pub sampled_strata : List (List ℤ) → List (List ℤ)
sampled_strata strata = filter has_sample strata

-- the part of a stratum's samples that exceed, in sixtieths: whole, since a stratum has six days at most
abbrev pub sixtieths_of : List ℤ → ℕ
sixtieths_of values = 60 * count_by exceeds values / length values

-- the quarter of these days, scheduled days, captured ones and exceeding ones, with the samples of each stratum
abbrev pub quarter_of_strata : ℕ → ℕ → ℕ → ℕ → List (List ℤ) → Pm10Quarter
quarter_of_strata days scheduled captured scheduled_exceedances strata = record {
  calendar_days = days;
  scheduled = scheduled;
  captured = captured;
  strata = length (sampled_strata strata);
  samples = sum_by length strata;
  exceedances = sum_by (count_by exceeds) strata;
  scheduled_exceedances = scheduled_exceedances;
  sixtieths = sum_by sixtieths_of (sampled_strata strata);
}

-- whether the day has a sample that exceeds
abbrev pub is_exceedance : Office → Site → ℕ → Bool
is_exceedance office site day = option_map_or exceeds (net_day office site Pm10 day) false

-- the samples of each stratum
abbrev pub strata_samples : Office → Site → ℕ → List (List ℤ)
strata_samples office site quarter = map (filter_map (net_day office site Pm10)) (strata_of office site quarter)

unfoldable pub pm10_quarter : Office → Site → ℕ → Pm10Quarter
pm10_quarter office site quarter =
    quarter_of_strata (days_in_quarter quarter) (length (scheduled_days office site Pm10 quarter))
    (count_by (is_sampled office site Pm10) (scheduled_days office site Pm10 quarter))
    (count_by (is_exceedance office site) (scheduled_days office site Pm10 quarter))
    (strata_samples office site quarter)

-- the four quarters of a year
unfoldable pub pm10_year : Office → Site → ℕ → List Pm10Quarter
pm10_year office site year = map (pm10_quarter office site) (quarters_of year)

-- ---- estimates

-- of a quarter, in hundredths: its days times the mean of its strata's parts; none without a sample
abbrev pub quarter_estimate : Pm10Quarter → Option ℤ
quarter_estimate q =
    if q.strata == 0 then None
    else Some (half_up (pos (100 * q.calendar_days * q.sixtieths)) (pos (60 * q.strata)))

-- the lower estimate of a quarter, in hundredths: its days times the exceedances on scheduled days that are not excluded, over the scheduled days; 0 if nothing is scheduled (own wording of 40 CFR Part 50, Appendix K, 2.3(c))
abbrev pub quarter_lower : Pm10Quarter → Option ℤ
quarter_lower q =
    if q.scheduled == 0 then Some (pos 0)
    else Some (half_up (pos (100 * q.calendar_days * q.scheduled_exceedances)) (pos q.scheduled))

-- of a year, in tenths: the sum of its quarters' hundredths, rounded
abbrev pub year_of_quarters : (Pm10Quarter → Option ℤ) → List Pm10Quarter → Option ℤ
year_of_quarters estimate quarters = option_map (λ hundredths. half_up (total hundredths) (pos 10)) (all_of (map estimate quarters))

-- of three years, in tenths: the mean of their tenths, rounded
abbrev pub mean_of_years : (Pm10Quarter → Option ℤ) → List (List Pm10Quarter) → Option ℤ
mean_of_years estimate years = option_map (λ tenths. half_up (total tenths) (pos 3)) (all_of (map (year_of_quarters estimate) years))
