-- An office's hours, days and export are those of the office without methods.
use Rattle.std.proofs.Common.{◌≡◌, ℕ, Bool, true, false, cond, List, [], ◌∷◌, ◌++◌, map, None, Option, refl, ap}
use Rattle.std.specs.Prelude.{filter, filter_map, flat_map, find, option_map}
use Rattle.std.specs.List.{cons_option}
use Rattle.std.specs.Option.{option_and_then}
use Rattle.aq_base.specs.Calendar.{day_of_hour}
use Rattle.aq_base.specs.Site.{Site}
use Rattle.aq_base.specs.declared.shown.Shown.{Shown}
use Rattle.aq_base.specs.declared.monitor.Duration.{Duration}
use Rattle.aq_base.specs.declared.monitor.MonitorId.{MonitorId}
use Rattle.aq_base.specs.declared.monitor.Pollutant.{Pollutant}
use Rattle.aq_base.specs.declared.monitor.Pollutant.TheVariants.{Ozone, Pm25, Pm10}
use Rattle.aq_base.specs.declared.observation.ObsKey.{ObsKey}
use Rattle.aq_base.specs.declared.observation.Observation.{Observation}
use Rattle.aq_rules.specs.Office.Office.{Office, duration_at}
use Rattle.aq_rules.specs.Office.Designation.{primary_on}
use Rattle.aq_rules.specs.Office.Exclusion.{excluded}
use Rattle.aq_rules.specs.Office.Methods.{without_method, without_methods}
use Rattle.aq_rules.specs.Office.Monitors.{is_eligible}
use Rattle.aq_rules.specs.Ozone.SiteHour.{Sample, sample_of, samples_at, chosen, is_of_poc, site_hour}
use Rattle.aq_rules.specs.Particles.ParticleDay.{cell_of, day_cell, monitor_day, eligible_pocs, counting_poc, samples_on, site_day}
use Rattle.aq_rules.specs.Shown.Export.{csv_record, shown_fields, export_header, export_of, is_of_year, shown_of, export_answer}

-- what is given of each item is the same of the item without its method
given-same : {X Y : Type 0} (f : X → Option Y) (g : X → X) → ((x : X) → f (g x) ≡ f x) → (xs : List X) → filter_map f (map g xs) ≡ filter_map f xs
given-same f g same [] = refl
given-same f g same (x ∷ xs) = λ i. cons_option (same x i) (given-same f g same xs i)

-- ---- hours

samples-same : (office : Office) (site : Site) (hour : ℕ) → samples_at (without_methods office) site hour ≡ samples_at office site hour
samples-same office site hour = given-same (sample_of office site hour) without_method (λ entry. refl) office.observations

pub hour-unread : (office : Office) (site : Site) (hour : ℕ) → site_hour (without_methods office) site hour ≡ site_hour office site hour
unfolding site_hour
hour-unread office site hour =
    ap (λ (samples : List Sample). chosen (find (is_of_poc (primary_on office.records site Ozone (day_of_hour hour))) samples) samples) (samples-same office site hour)

-- ---- days

cells-same : (office : Office) (monitor : MonitorId) (duration : Duration) (day : ℕ)
    → filter_map (cell_of (without_methods office) monitor duration day) (without_methods office).observations ≡ filter_map (cell_of office monitor duration day) office.observations
cells-same office monitor duration day = given-same (cell_of office monitor duration day) without_method (λ entry. refl) office.observations

monitor_day-same : (office : Office) (monitor : MonitorId) (day : ℕ) → monitor_day (without_methods office) monitor day ≡ monitor_day office monitor day
unfolding monitor_day
monitor_day-same office monitor day = λ i.
    cond (is_eligible office.records monitor)
    (option_and_then (λ duration. day_cell monitor.pollutant duration (cells-same office monitor duration day i)) (duration_at office monitor))
    None

samples_on-same : (office : Office) (site : Site) (pollutant : Pollutant) (day : ℕ) → samples_on (without_methods office) site pollutant day ≡ samples_on office site pollutant day
samples_on-same office site pollutant day = λ i.
    filter_map
    (λ poc. option_map (λ cell. record { poc = poc; cell = cell }) (monitor_day-same office (record { site = site; pollutant = pollutant; poc = poc }) day i))
    (eligible_pocs office.records site pollutant)

pub day-unread : (office : Office) (site : Site) (pollutant : Pollutant) (day : ℕ) → site_day (without_methods office) site pollutant day ≡ site_day office site pollutant day
unfolding site_day
day-unread office site Ozone day = refl
day-unread office site Pm25 day =
    ap (λ (samples : List Sample). chosen (find (is_of_poc (primary_on office.records site Pm25 day)) samples) samples) (samples_on-same office site Pm25 day)
day-unread office site Pm10 day =
    ap (λ (samples : List Sample). option_map (λ (s : Sample). s.cell) (find (is_of_poc (counting_poc office site day)) samples)) (samples_on-same office site Pm10 day)

-- ---- the export

module _ (office : Office) (site : Site) (pollutant : Pollutant) (year : ℕ) where
  abbrev Entry : Type 0
  Entry = ObsKey × Observation

  abbrev show : Entry → Shown
  show entry = record { key = entry.0; content = entry.1; excluded = excluded office.records entry.0 entry.1.quals }

  abbrev line : Shown → List ℕ
  line s = csv_record (shown_fields s)

  lines-same : (entries : List Entry) → flat_map line (map show (filter (is_of_year site pollutant year) (map without_method entries)))
      ≡ flat_map line (map show (filter (is_of_year site pollutant year) entries))
  lines-same [] = refl
  lines-same (entry ∷ entries) = by_test (is_of_year site pollutant year entry) (lines-same entries)
    where
      rest : List Entry → List Shown
      rest l = map show (filter (is_of_year site pollutant year) l)

      by_test : (b : Bool) → flat_map line (rest (map without_method entries)) ≡ flat_map line (rest entries)
          → flat_map line (map show (cond b (without_method entry ∷ filter (is_of_year site pollutant year) (map without_method entries)) (filter (is_of_year site pollutant year) (map without_method entries))))
          ≡ flat_map line (map show (cond b (entry ∷ filter (is_of_year site pollutant year) entries) (filter (is_of_year site pollutant year) entries)))
      by_test true same = ap (λ l. line (show entry) ++ l) same
      by_test false same = same

  pub export-unread : export_answer (without_methods office) site pollutant year ≡ export_answer office site pollutant year
  unfolding export_answer export_of shown_of
  export-unread = ap (λ l. export_header ++ l) (lines-same office.observations)
