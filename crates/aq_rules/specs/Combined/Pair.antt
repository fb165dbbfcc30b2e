-- A pair of combined sites, read as one site: a site, and the one that is joined to it from a day on (own wording of 40 CFR Part 50, Appendix U, 2(c)). The rules are those of a site: each is written once, over what it reads (`window_by`, `windows_by`, `year_by`, `credit_by`, `counts_by` and the verdicts), so what stands here is only what the pair reads. One office with the rows of both under one site would not do: monitors of both may have one POC, and an event of one would exclude what the other measured.
use Rattle.std.specs.Prelude.{ℕ, Bool, not, ◌&&◌, ◌||◌, ◌==◌, nat_lt, nat_le, if◌then◌else◌, List, ◌++◌, map, filter, filter_map, Option, None, option_map, option_and_then, is_some, ℤ}
use Rattle.std.specs.List.{list_any}
use Rattle.std.specs.Option.{option_or}
use Rattle.aq_base.specs.Calendar.{day_of_hour}
use Rattle.aq_base.specs.Site.{Site}
use Rattle.aq_base.specs.declared.monitor.Pollutant.{Pollutant}
use Rattle.aq_base.specs.declared.monitor.Pollutant.TheVariants.{Ozone, Pm25}
use Rattle.aq_base.specs.declared.standard.Standard.{Standard}
use Rattle.aq_base.specs.declared.standard.Standard.TheVariants.{Ozone2015, Annual2012, AnnualSecondary, Annual2024, Daily2006, Pm10Of1987}
use Rattle.aq_rules.specs.Standards.{level_of, years_to}
use Rattle.aq_rules.specs.Office.Office.{Office}
use Rattle.aq_rules.specs.Office.Approval.{is_approved}
use Rattle.aq_rules.specs.Office.Questions.{Joined, combined}
use Rattle.aq_rules.specs.Office.Schedule.{is_scheduled}
use Rattle.aq_rules.specs.Ozone.SiteHour.{Cell, site_hour}
use Rattle.aq_rules.specs.Ozone.EightHour.{WindowRow, window_by}
use Rattle.aq_rules.specs.Ozone.OzoneDay.{OzoneDay, windows_by, day_of_windows}
use Rattle.aq_rules.specs.Ozone.OzoneYear.{OzoneYear, days_of, is_season_day, year_by}
use Rattle.aq_rules.specs.Ozone.OzoneVerdict.{ozone_dv}
use Rattle.aq_rules.specs.Particles.ParticleDay.{site_day, unless_excluded}
use Rattle.aq_rules.specs.Particles.QuarterCounts.{Makeup, QuarterCounts, QuarterDays, days_of_quarter, quarters_of, makeup_by, credit_by, counts_by}
use Rattle.aq_rules.specs.Particles.AnnualVerdict.{annual_dv}
use Rattle.aq_rules.specs.Particles.DailyVerdict.{daily_dv}
use Rattle.aq_rules.specs.Kept.Summaries.{summary_of_year}
use Rattle.aq_rules.specs.DesignValues.{DesignValue, OfOzone, OfAnnual, OfDaily}

-- the joined site takes the place of the site from this day on
pub record Pair : Type 0 where
  pub site : Site
  pub joined : Site
  pub from : ℕ

-- the pair whose first site this is, if there is one
abbrev pub pair_of : Office → Site → Pollutant → Option Pair
pair_of office site pollutant =
    option_map (λ (j : Joined). record { site = site; joined = j.site; from = j.from }) (combined office.records site pollutant)

-- ---- what the pair reads

-- before the day the site's; from the day on the joined site's if there is one, else the site's. An excluded value is there, and hides the site's
abbrev pub of_either : Pair → ℕ → (Site → Option Cell) → Option Cell
of_either pair day cell_of =
    if nat_lt day pair.from then cell_of pair.site else option_or (cell_of pair.joined) (cell_of pair.site)

unfoldable pub pair_hour : Office → Pair → ℕ → Option Cell
pair_hour office pair hour = of_either pair (day_of_hour hour) (λ site. site_hour office site hour)

-- of PM2.5
unfoldable pub pair_day : Office → Pair → ℕ → Option Cell
pair_day office pair day = of_either pair day (λ site. site_day office site Pm25 day)

-- the site whose schedule, approvals and make-ups hold on a day: from the day on the joined site's alone
abbrev pub site_in_force : Pair → ℕ → Site
site_in_force pair day = if nat_lt day pair.from then pair.site else pair.joined

-- of PM2.5
abbrev pub is_pair_scheduled : Office → Pair → ℕ → Bool
is_pair_scheduled office pair day = is_scheduled office.records (site_in_force pair day) Pm25 day

abbrev pub is_pair_approved : Office → Pair → ℕ → Bool
is_pair_approved office pair day = is_approved office.records (site_in_force pair day) day

-- the make-ups of a quarter, each of the site in force on its missed day: of the site those of days before `from`, and of the joined site those of days from then on
abbrev pub makeups_before : Office → Pair → ℕ → List Makeup
makeups_before office pair quarter =
    filter (λ (m : Makeup). nat_lt m.missed pair.from) (filter_map (makeup_by pair.site quarter) office.records)

abbrev pub makeups_after : Office → Pair → ℕ → List Makeup
makeups_after office pair quarter =
    filter (λ (m : Makeup). nat_le pair.from m.missed) (filter_map (makeup_by pair.joined quarter) office.records)

-- ---- ozone

abbrev pub pair_windows_on : Office → Pair → ℕ → List WindowRow
pair_windows_on office pair day = windows_by (window_by (pair_hour office pair)) day

unfoldable pub pair_ozone_day : Office → Pair → ℕ → OzoneDay
pair_ozone_day office pair day = day_of_windows (pair_windows_on office pair day)

-- the season is the site's
unfoldable pub pair_ozone_year : Office → Pair → ℕ → OzoneYear
pair_ozone_year office pair year =
    year_by (is_season_day office pair.site year) (λ day. (pair_ozone_day office pair day).valid || is_pair_approved office pair day)
    (map (pair_ozone_day office pair) (days_of year)) year

-- ---- PM2.5

abbrev pub is_pair_sampled : Office → Pair → ℕ → Bool
is_pair_sampled office pair day = is_some (pair_day office pair day)

abbrev pub pair_net_day : Office → Pair → ℕ → Option ℤ
pair_net_day office pair day = option_and_then unless_excluded (pair_day office pair day)

-- whether a make-up would give credit, by the pair's schedule and its days
abbrev pub would_give_credit : Office → Pair → Makeup → Bool
would_give_credit office pair m = credit_by (is_pair_scheduled office pair) (is_pair_sampled office pair) m

abbrev pub has_makeup_day : List Makeup → ℕ → Bool
has_makeup_day makeups day = list_any (λ (m : Makeup). m.makeup == day) makeups

abbrev pub credits_before : Office → Pair → ℕ → List Makeup
credits_before office pair quarter = filter (would_give_credit office pair) (makeups_before office pair quarter)

-- of two make-ups with one day that would both give credit, only the one with the earlier missed day does: that is the site's, since one site has no two with one day, and its missed day is before `from`. One that gives no credit takes none from another
abbrev pub credits_after : Office → Pair → ℕ → List Makeup
credits_after office pair quarter =
    filter (λ (m : Makeup). would_give_credit office pair m && not (has_makeup_day (credits_before office pair quarter) m.makeup))
    (makeups_after office pair quarter)

unfoldable pub pair_credits : Office → Pair → ℕ → List Makeup
pair_credits office pair quarter = credits_before office pair quarter ++ credits_after office pair quarter

unfoldable pub pair_counts : Office → Pair → ℕ → QuarterCounts
pair_counts office pair quarter =
    counts_by (is_pair_sampled office pair) (λ day. is_some (pair_net_day office pair day))
    (filter (is_pair_scheduled office pair) (days_of_quarter quarter)) (pair_credits office pair quarter)

abbrev pub pair_quarter : Office → Pair → ℕ → QuarterDays
pair_quarter office pair quarter =
    record { counts = pair_counts office pair quarter; values = filter_map (pair_net_day office pair) (days_of_quarter quarter) }

unfoldable pub pair_pm25_year : Office → Pair → ℕ → List QuarterDays
pair_pm25_year office pair year = map (pair_quarter office pair) (quarters_of year)

-- ---- the answers

-- the day's averages, if the site is the first of a pair for ozone
unfoldable pub pair_windows : Office → Site → ℕ → Option (List WindowRow)
pair_windows office site day = option_map (λ pair. pair_windows_on office pair day) (pair_of office site Ozone)

abbrev pub pair_ozone_years : Office → ℕ → Pair → List OzoneYear
pair_ozone_years office year pair = map (pair_ozone_year office pair) (years_to year)

abbrev pub pair_pm25_years : Office → ℕ → Pair → List (List QuarterDays)
pair_pm25_years office year pair = map (pair_pm25_year office pair) (years_to year)

abbrev pub ozone_value_of : List OzoneYear → DesignValue
ozone_value_of years = OfOzone years (ozone_dv years)

abbrev pub annual_value_of : ℤ → List (List QuarterDays) → DesignValue
annual_value_of level years = OfAnnual (map summary_of_year years) (annual_dv level years)

abbrev pub daily_value_of : List (List QuarterDays) → DesignValue
daily_value_of years = OfDaily (map summary_of_year years) (daily_dv years)

-- the design value of three years, if the site is the first of a pair for the standard's pollutant. PM10 has no pairs
unfoldable pub pair_value : Standard → Office → Site → ℕ → Option DesignValue
pair_value Ozone2015 office site year = option_map (λ pair. ozone_value_of (pair_ozone_years office year pair)) (pair_of office site Ozone)
pair_value Annual2012 office site year = option_map (λ pair. annual_value_of (level_of Annual2012) (pair_pm25_years office year pair)) (pair_of office site Pm25)
pair_value AnnualSecondary office site year = option_map (λ pair. annual_value_of (level_of AnnualSecondary) (pair_pm25_years office year pair)) (pair_of office site Pm25)
pair_value Annual2024 office site year = option_map (λ pair. annual_value_of (level_of Annual2024) (pair_pm25_years office year pair)) (pair_of office site Pm25)
pair_value Daily2006 office site year = option_map (λ pair. daily_value_of (pair_pm25_years office year pair)) (pair_of office site Pm25)
pair_value Pm10Of1987 office site year = None
