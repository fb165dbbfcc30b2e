-- The generated loads of `simulate`: an office of some sites and years, from a start number (own).
use Rattle.std.specs.Prelude.{ℕ, ◌+◌, ◌-◌, ◌*◌, ◌/◌, ◌%◌, ◌^◌, true, false, ◌||◌, ◌==◌, nat_lt, if◌then◌else◌, List, [], ◌∷◌, ◌++◌, length, map, filter, flat_map, fold, codes, sum_by, Option, Some, None, pos}
use Rattle.std.specs.List.{range_with_len}
use Rattle.aq_base.specs.Calendar.{day_number, hour_number, days_in_year, year_first}
use Rattle.aq_base.specs.Site.{Site}
use Rattle.aq_base.specs.Standard.{standards}
use Rattle.aq_base.specs.declared.code.Code.{Code}
use Rattle.aq_base.specs.declared.monitor.MonitorId.{MonitorId}
use Rattle.aq_base.specs.declared.monitor.Pollutant.{Pollutant}
use Rattle.aq_base.specs.declared.monitor.Pollutant.TheVariants.{Ozone, Pm25, Pm10}
use Rattle.aq_base.specs.declared.monitor.Duration.{Duration}
use Rattle.aq_base.specs.declared.monitor.Duration.TheVariants.{Hour, Day}
use Rattle.aq_base.specs.declared.observation.Observation.{Observation}
use Rattle.aq_base.specs.declared.office.OfficeRecord.{OfficeRecord}
use Rattle.aq_base.specs.declared.office.OfficeRecord.TheVariants.{Monitor, Primary, Schedule, Season}
use Rattle.aq_base.specs.declared.office.OfficeLine.TheVariants.{Put}
use Rattle.aq_rules.specs.Lines.Lines.{line_count}
use Rattle.aq_rules.specs.Ozone.OzoneYear.{days_of}
use Rattle.aq_rules.specs.Lines.RdForm.{Put as PutSample}
use Rattle.aq_rules.specs.Lines.Canonical.{canonical_rd, canonical_office}
use Rattle.aq_rules.specs.Office.Office.{Office, nothing}
use Rattle.aq_rules.specs.Office.Load.{post}
use Rattle.aq_rules.specs.Shown.Sheet.{text_of}
use Rattle.aq_rules.specs.Shown.OtherSheets.{report_answer, summary_sheet}

-- ---- draws: the state after one more, and the number below `n` that it gives

abbrev pub next_state : ℕ → ℕ
next_state x = (x * 6364136223846793005 + 1442695040888963407) % 2 ^ 64

abbrev pub drawn : ℕ → ℕ → ℕ
drawn x n = (x / 2 ^ 33) % n

-- the null code AN
abbrev pub null_an : Code
null_an = record { first = 65; second = 78 }

-- an observation and the state after it
pub record Drawn : Type 0 where
  pub content : Observation
  pub state : ℕ

-- from the state after a first draw: one in twenty has the null code, and the others a value of the range; the method is 000
abbrev pub observed : ℕ → ℕ → ℕ → Drawn
observed base span x =
    if drawn x 20 == 0 then record { content = record { value = None; null = Some null_an; quals = []; method = Some 0 }; state = x }
    else record { content = record { value = Some (pos (base + drawn (next_state x) span)); null = None; quals = []; method = Some 0 }; state = next_state x }

-- ---- the office

abbrev pub FIRST_GENERATED_YEAR : ℕ
FIRST_GENERATED_YEAR = 2021

abbrev pub generated_start : ℕ
generated_start = day_number FIRST_GENERATED_YEAR 1 1

-- 99-001-0001 upwards
abbrev pub generated_site : ℕ → Site
generated_site n = record { state = 99; county = 1; number = n }

abbrev pub generated_monitor : ℕ → Pollutant → MonitorId
generated_monitor n pollutant = record { site = generated_site n; pollutant = pollutant; poc = 1 }

abbrev pub generated_season : ℕ → ℕ → OfficeRecord
generated_season n year = Season (generated_site n) year (day_number year 3 1) (day_number year 10 31)

unfoldable pub generated_years : ℕ → List ℕ
generated_years years = range_with_len FIRST_GENERATED_YEAR years

abbrev pub generated_records : ℕ → ℕ → List OfficeRecord
generated_records years n =
    Monitor (generated_monitor n Ozone) Hour true ∷ Monitor (generated_monitor n Pm25) Day true ∷ Monitor (generated_monitor n Pm10) Day true
    ∷ Primary (generated_site n) Ozone generated_start 1 ∷ Primary (generated_site n) Pm25 generated_start 1 ∷ Primary (generated_site n) Pm10 generated_start 1
    ∷ Schedule (generated_site n) Pm25 generated_start 3 generated_start ∷ Schedule (generated_site n) Pm10 generated_start 6 generated_start
    ∷ map (generated_season n) (generated_years years)

abbrev pub record_text : OfficeRecord → List ℕ
record_text r = canonical_office (Put r) ++ codes "\n"

unfoldable pub office_load : ℕ → ℕ → List ℕ
office_load sites years = flat_map record_text (flat_map (generated_records years) (range_with_len 1 sites))

-- ---- a site and year

-- a sample to be drawn: its monitor and duration, where it starts, and the range of its values
pub record Wanted : Type 0 where
  pub monitor : MonitorId
  pub duration : Duration
  pub hour : ℕ
  pub base : ℕ
  pub span : ℕ

-- every so many days from the start of the schedules on
abbrev pub every : ℕ → ℕ → List ℕ
every interval year = filter (λ day. (day - generated_start) % interval == 0) (days_of year)

abbrev pub wanted_hour : ℕ → ℕ → Wanted
wanted_hour n hour = record { monitor = generated_monitor n Ozone; duration = Hour; hour = hour; base = 20; span = 60 }

abbrev pub wanted_day : ℕ → Pollutant → ℕ → ℕ → ℕ → Wanted
wanted_day n pollutant base span day =
    record { monitor = generated_monitor n pollutant; duration = Day; hour = hour_number day 0; base = base; span = span }

-- each hour of ozone, then the scheduled days of PM2.5, then those of PM10
unfoldable pub wanted_in : ℕ → ℕ → List Wanted
wanted_in n year =
    map (wanted_hour n) (range_with_len (hour_number (year_first year) 0) (24 * days_in_year year))
    ++ map (wanted_day n Pm25 40 200) (every 3 year) ++ map (wanted_day n Pm10 100 1500) (every 6 year)

abbrev pub sample_text : Wanted → Observation → List ℕ
sample_text w content = canonical_rd (PutSample false w.monitor w.duration w.hour content) ++ codes "\n"

unfoldable pub samples_from : ℕ → List Wanted → List ℕ
samples_from x [] = []
samples_from x (w ∷ ws) =
    sample_text w (observed w.base w.span (next_state x)).content
    ++ samples_from (observed w.base w.span (next_state x)).state ws

-- ---- the loads

abbrev pub load_count : ℕ → ℕ → ℕ
load_count sites years = 1 + sites * years

-- load 1 has the office, and the others the sites and their years in order, each from a state of its own
abbrev pub generated_load : ℕ → ℕ → ℕ → ℕ → List ℕ
generated_load start sites years load =
    if load == 1 then office_load sites years
    else samples_from ((start + load) % 2 ^ 64) (wanted_in ((load - 2) / years + 1) (FIRST_GENERATED_YEAR + (load - 2) % years))

-- the body of a load, or nothing if there is no such load
unfoldable pub generate : ℕ → ℕ → ℕ → ℕ → Option (List ℕ)
generate start sites years load =
    if (load == 0) || nat_lt (load_count sites years) load then None else Some (generated_load start sites years load)

-- ---- what is printed, by the digest of each body

unfoldable pub loads_to_take : ℕ → ℕ → List ℕ
loads_to_take sites years = range_with_len 1 (load_count sites years)

unfoldable pub generated_office : (List ℕ → List ℕ) → ℕ → ℕ → ℕ → Office
generated_office digest start sites years =
    fold (λ office load. post office load (digest (generated_load start sites years load)) (generated_load start sites years load))
    nothing (loads_to_take sites years)

unfoldable pub generated_lines : ℕ → ℕ → ℕ → ℕ
generated_lines start sites years = sum_by (λ load. line_count (generated_load start sites years load)) (loads_to_take sites years)

-- the summary, and the report of each standard for the last year
unfoldable pub simulation : (List ℕ → List ℕ) → ℕ → ℕ → ℕ → List ℕ
simulation digest start sites years =
    text_of (summary_sheet (load_count sites years) (generated_lines start sites years) (length (generated_office digest start sites years).observations))
    ++ flat_map (λ standard. text_of (report_answer standard (generated_office digest start sites years) (FIRST_GENERATED_YEAR + years - 1))) standards
