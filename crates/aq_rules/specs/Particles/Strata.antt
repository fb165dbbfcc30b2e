-- The strata of a PM10 quarter (40 CFR Part 50, Appendix K, 3.2): its days, cut so that each stratum holds one scheduled day at most.
use Rattle.std.specs.Prelude.{ℕ, ◌+◌, ◌-◌, Bool, true, false, ◌||◌, ◌==◌, nat_le, if◌then◌else◌, List, [], ◌∷◌, filter, Option}
use Rattle.std.specs.List.{range_with_len}
use Rattle.aq_base.specs.Calendar.{quarter_of, quarter_first, days_in_quarter}
use Rattle.aq_base.specs.Site.{Site}
use Rattle.aq_base.specs.declared.monitor.Pollutant.TheVariants.{Pm10}
use Rattle.aq_base.specs.declared.office.OfficeRecord.{OfficeRecord}
use Rattle.aq_rules.specs.Lists.{latest}
use Rattle.aq_rules.specs.Office.Office.{Office}
use Rattle.aq_rules.specs.Office.Schedule.{is_scheduled}
use Rattle.aq_rules.specs.Particles.QuarterCounts.{days_of_quarter}

-- ---- first days

-- a stratum starts at each scheduled day, and six days after the last start if none came sooner (own)
abbrev pub begins : (ℕ → Bool) → ℕ → ℕ → Bool
begins is_scheduled start day = is_scheduled day || (day == start + 6)

-- the day before the first days that follow, if it is one
abbrev pub first_day_onto : Bool → ℕ → List ℕ → List ℕ
first_day_onto true day firsts = day ∷ firsts
first_day_onto false day firsts = firsts

-- of these days, those that begin a stratum, if the last one began at `start`
unfoldable pub first_days_after : (ℕ → Bool) → ℕ → List ℕ → List ℕ
first_days_after is_scheduled start [] = []
first_days_after is_scheduled start (day ∷ days) =
    first_day_onto (begins is_scheduled start day) day
    (first_days_after is_scheduled (if begins is_scheduled start day then day else start) days)

-- of a quarter's days: the first of them begins one too
abbrev pub first_days_among : (ℕ → Bool) → List ℕ → List ℕ
first_days_among is_scheduled [] = []
first_days_among is_scheduled (day ∷ days) = day ∷ first_days_after is_scheduled day days

-- of a quarter, by the schedules among these records
abbrev pub first_days_by : List OfficeRecord → Site → ℕ → List ℕ
first_days_by records site quarter = first_days_among (is_scheduled records site Pm10) (days_of_quarter quarter)

unfoldable pub first_days : Office → Site → ℕ → List ℕ
first_days office site quarter = first_days_by office.records site quarter

-- ---- strata

-- the next first day, or the end
abbrev pub next_or : ℕ → List ℕ → ℕ
next_or end [] = end
next_or end (first ∷ firsts) = first

-- a stratum has the days from its first day to before the next one; the last stratum goes to the end
abbrev pub strata_from : ℕ → List ℕ → List (List ℕ)
strata_from end [] = []
strata_from end (first ∷ firsts) = range_with_len first (next_or end firsts - first) ∷ strata_from end firsts

-- the day after a quarter's last one
abbrev pub quarter_end : ℕ → ℕ
quarter_end quarter = quarter_first quarter + days_in_quarter quarter

unfoldable pub strata_of : Office → Site → ℕ → List (List ℕ)
strata_of office site quarter = strata_from (quarter_end quarter) (first_days office site quarter)

-- the stratum that holds a day, by its first day: the latest one that is not after the day
abbrev pub stratum_by : List OfficeRecord → Site → ℕ → Option ℕ
stratum_by records site day =
    latest (λ first. first) (filter (λ first. nat_le first day) (first_days_by records site (quarter_of day)))

abbrev pub stratum_of : Office → Site → ℕ → Option ℕ
stratum_of office site day = stratum_by office.records site day
