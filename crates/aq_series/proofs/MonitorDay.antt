-- What the rows of observations give for a monitor's day is what it has at the hours at which the day's samples start.
use Rattle.std.proofs.Common.{◌≡◌, ℕ, suc, zero, ◌+◌, ◌*◌, ◌/◌, ◌<◌, Bool, true, false, cond, ◌&&◌, ◌||◌, ◌==◌, Some, None, Option, List, [], ◌∷◌, map, refl, ap, sym, ◌∙◌, arith}
use Rattle.std.specs.Prelude.{ℤ, nat_lt, nat_le, slice_get, option_map, IsTrue}
use Rattle.std.specs.List.{filter_map, cons_option, list_any, range_with_len}
use Rattle.std.specs.Option.{option_and_then, option_map_or}
use Rattle.std.proofs.Math.Bool.{or-false}
use Rattle.std.proofs.lemmas.Bool.Decides.{nat_tests}
use Rattle.aq_base.specs.Calendar.{hour_number}
use Rattle.aq_base.specs.declared.monitor.Duration.{Duration}
use Rattle.aq_base.specs.declared.monitor.Duration.TheVariants.{Hour, Day}
use Rattle.aq_base.specs.declared.monitor.MonitorId.{MonitorId}
use Rattle.aq_base.specs.declared.monitor.Pollutant.{Pollutant}
use Rattle.aq_base.specs.declared.observation.ObsKey.{ObsKey}
use Rattle.aq_base.specs.declared.observation.Observation.{Observation}
use Rattle.aq_base.specs.declared.office.OfficeRecord.{OfficeRecord}
use Rattle.aq_base.specs.declared.office.OfficeRecord.TheVariants.{Monitor}
use Rattle.aq_base.specs.declared.office.OfficeKey.TheVariants.{Monitor as MonitorKey}
use Rattle.aq_rules.specs.Lines.Spellings.{◌>>=◌}
use Rattle.aq_rules.specs.Office.Exclusion.{excluded}
use Rattle.aq_rules.specs.Office.Monitors.{is_same_monitor, is_eligible}
use Rattle.aq_rules.specs.Office.Office.{IsOffice, content_of, duration_at, is_same, key_numbers, monitor_duration, observation_numbers, observation_rank, record_rank, rises, row_at}
use Rattle.aq_rules.specs.Office.Questions.{registration_by, registration_of}
use Rattle.aq_rules.specs.Ozone.SiteHour.{Cell}
use Rattle.aq_rules.specs.Particles.ParticleDay.{day_cell, monitor_day, starts_on}
use Rattle.aq_rules.specs.Particles.ParticleDay as particle_day
use Rattle.aq_shelf.proofs.Order.{before_hour, same_hour}
use Rattle.aq_registry.specs.Registry.{office_with, pair_of}
use Rattle.aq_series.specs.OfficeView.{office_of}
use Rattle.aq_series.specs.DayCells.{cell_at, cell_of, cells_in, hours_of, key_at, monitor_steps, steps_by}
use Rattle.aq_series.proofs.Rising.{Rising, Later, found, found-ranked, found-under, rising-ranked, rising-under, same_list, row_at-is}
use Rattle.aq_series.proofs.Pocs.{eligible_is}
use Rattle.aq_series.proofs.SitePocs.{same_rank}
use Rattle.aq_series.proofs.Spans.{Entry, as_cell, key_is, key_there}

-- a cell and its hour
pub record Timed : Type 0 where
  pub hour : ℕ
  pub cell : Cell

abbrev as_timed : ℕ → Cell → Timed
as_timed hour cell = record { hour = hour; cell = cell }

module _ (records : List OfficeRecord) (rows : List Entry) (monitor : MonitorId) (starts : ℕ → Bool) where
  -- what a row gives, with its hour
  abbrev give : Entry → Option Timed
  give row =
      cond (is_same_monitor row.0.monitor monitor && starts row.0.hour) (option_map (λ (value : ℤ). as_timed row.0.hour (as_cell value (excluded records row.0 row.1.quals))) row.1.value) None

  abbrev pub give_cell : Entry → Option Cell
  give_cell row =
      cond (is_same_monitor row.0.monitor monitor && starts row.0.hour) (option_map (λ (value : ℤ). as_cell value (excluded records row.0 row.1.quals)) row.1.value) None

  abbrev at : ℕ → Option Timed
  at hour = option_map (as_timed hour) (cell_at records rows monitor hour)

  abbrev numbers : ℕ → List ℕ
  numbers hour = observation_numbers (key_at monitor hour)

  -- ---- one row

  given : (row : Entry) (t : Timed) → give row ≡ Some t → (is_same_monitor row.0.monitor monitor ≡ true) × (row.0.hour ≡ t.hour) × (starts t.hour ≡ true)
  given row t h = by_tests (is_same_monitor row.0.monitor monitor) refl (starts row.0.hour) refl row.1.value h
    where
      by_tests : (a : Bool) → is_same_monitor row.0.monitor monitor ≡ a → (b : Bool) → starts row.0.hour ≡ b → (v : Option ℤ)
          → cond (a && b) (option_map (λ (value : ℤ). as_timed row.0.hour (as_cell value (excluded records row.0 row.1.quals))) v) None ≡ Some t
          → (is_same_monitor row.0.monitor monitor ≡ true) × (row.0.hour ≡ t.hour) × (starts t.hour ≡ true)
      by_tests true is true begins (Some v) h = let hour : row.0.hour ≡ t.hour = cc in (is, hour, ap starts (sym hour) ∙ begins)
      by_tests true is true begins None h = cc
      by_tests true is false begins v h = cc
      by_tests false is b begins v h = cc

  ranked : (row : Entry) (t : Timed) → give row ≡ Some t → observation_rank row ≡ numbers t.hour
  ranked row t h =
      let parts = given row t h in
      ap observation_numbers (key_is monitor row.0 parts.0) ∙ ap numbers parts.1

  -- ---- the row of a key

  gives : (key : ObsKey) (content : Observation) (hour : ℕ) → is_same_monitor key.monitor monitor ≡ true → key ≡ key_at monitor hour
      → give (key, content) ≡ cond (starts hour) (option_map (as_timed hour) (cell_of records (key_at monitor hour) content)) None
  gives key content hour there is =
      (λ i. cond (there i && starts (is i).hour) (option_map (λ (value : ℤ). as_timed (is i).hour (as_cell value (excluded records (is i) content.quals))) content.value) None)
      ∙ by_cases (starts hour) content.value
    where
      by_cases : (b : Bool) (v : Option ℤ)
          → cond b (option_map (λ (value : ℤ). as_timed hour (as_cell value (excluded records (key_at monitor hour) content.quals))) v) None
          ≡ cond b (option_map (as_timed hour) (option_map (λ (value : ℤ). as_cell value (excluded records (key_at monitor hour) content.quals)) v)) None
      by_cases true None = refl
      by_cases true (Some v) = refl
      by_cases false v = refl

  either : (b : Bool) (o : Option Timed) → o ≡ cond b o o
  either true o = refl
  either false o = refl

  row_gives : (hour : ℕ) (o : Option Entry) → ((row : Entry) → o ≡ Some row → is_same (observation_rank row) (numbers hour) ≡ true)
      → option_and_then give o ≡ cond (starts hour) (option_map (as_timed hour) (option_and_then (cell_of records (key_at monitor hour)) (option_map content_of o))) None
  row_gives hour None there = either (starts hour) None
  row_gives hour (Some row) there =
      let parts = key_there monitor row.0 hour (there row refl) in
      gives row.0 row.1 hour parts.0 parts.1

  -- ---- all of them

  module _ (rising : IsTrue (rises observation_rank rows)) (hours : List ℕ) (hours_rise : Rising (λ k. k) hours) (are : (hour : ℕ) → list_any (λ k. k == hour) hours ≡ starts hour) where
    found_in_rows : (hour : ℕ) → found (λ (t : Timed). t.hour) hour (filter_map give rows) ≡ cond (starts hour) (at hour) None
    found_in_rows hour =
        found-ranked observation_rank numbers (λ (t : Timed). t.hour) give ranked (same_hour monitor) hour rows rising
        ∙ row_gives hour (row_at observation_rank (numbers hour) rows) (row_at-is observation_rank (numbers hour) rows)

    numbered : (hour : ℕ) (t : Timed) → at hour ≡ Some t → t.hour ≡ hour
    numbered hour t h = by_cell (cell_at records rows monitor hour) h
      where
        by_cell : (o : Option Cell) → option_map (as_timed hour) o ≡ Some t → t.hour ≡ hour
        by_cell None h = cc
        by_cell (Some cell) h = let is : hour ≡ t.hour = cc in sym is

    found_in_hours : (hour : ℕ) → found (λ (t : Timed). t.hour) hour (filter_map at hours) ≡ cond (starts hour) (at hour) None
    found_in_hours hour = found-under (λ (t : Timed). t.hour) at numbered hour hours ∙ ap (λ b. cond b (at hour) None) (are hour)

    timed_are : filter_map give rows ≡ filter_map at hours
    timed_are =
        same_list (λ (t : Timed). t.hour) (filter_map give rows) (filter_map at hours)
        (rising-ranked observation_rank numbers (λ (t : Timed). t.hour) give ranked (before_hour monitor) rows rising)
        (rising-under (λ (t : Timed). t.hour) at numbered hours hours_rise)
        (λ n. found_in_rows n ∙ sym (found_in_hours n))

    cells_given : (es : List Entry) → map (λ (t : Timed). t.cell) (filter_map give es) ≡ filter_map give_cell es
    cells_given [] = refl
    cells_given (e ∷ es) = by_tests (cells_given es) (is_same_monitor e.0.monitor monitor && starts e.0.hour) e.1.value
      where
        by_tests : map (λ (t : Timed). t.cell) (filter_map give es) ≡ filter_map give_cell es → (b : Bool) (v : Option ℤ)
            → map (λ (t : Timed). t.cell) (cons_option (cond b (option_map (λ (value : ℤ). as_timed e.0.hour (as_cell value (excluded records e.0 e.1.quals))) v) None) (filter_map give es))
            ≡ cons_option (cond b (option_map (λ (value : ℤ). as_cell value (excluded records e.0 e.1.quals)) v) None) (filter_map give_cell es)
        by_tests rest true (Some v) = ap (λ (l : List Cell). as_cell v (excluded records e.0 e.1.quals) ∷ l) rest
        by_tests rest true None = rest
        by_tests rest false v = rest

    cells_under : (ns : List ℕ) → map (λ (t : Timed). t.cell) (filter_map at ns) ≡ cells_in records rows monitor ns
    cells_under [] = refl
    cells_under (n ∷ ns) = by_cell (cells_under ns) (cell_at records rows monitor n)
      where
        by_cell : map (λ (t : Timed). t.cell) (filter_map at ns) ≡ cells_in records rows monitor ns → (o : Option Cell)
            → map (λ (t : Timed). t.cell) (cons_option (option_map (as_timed n) o) (filter_map at ns)) ≡ cons_option o (cells_in records rows monitor ns)
        by_cell rest None = rest
        by_cell rest (Some c) = ap (λ (l : List Cell). c ∷ l) rest

    pub cells-are : filter_map give_cell rows ≡ cells_in records rows monitor hours
    cells-are = sym (cells_given rows) ∙ ap (map (λ (t : Timed). t.cell)) timed_are ∙ cells_under hours

-- ---- the hours of a day

later_range : (n s k : ℕ) → n < s → Later (λ m. m) n (range_with_len s k)
later_range n s zero less = tt
later_range n s (suc k) less = (less, later_range n (s + 1) k (omega (arith, less)))

pub rising_range : (s k : ℕ) → Rising (λ m. m) (range_with_len s k)
rising_range s zero = tt
rising_range s (suc k) = (later_range s (s + 1) k (omega arith), rising_range (s + 1) k)

pub in_range : (h s k : ℕ) → list_any (λ m. m == h) (range_with_len s k) ≡ (nat_le s h && nat_lt h (s + k))
in_range h s zero = grind (arith, nat_tests)
in_range h s (suc k) = ap (λ b. (s == h) || b) (in_range h (s + 1) k) ∙ grind (arith, nat_tests)

of_day : (h day : ℕ) → (nat_le (24 * day + 0) h && nat_lt h (24 * day + 0 + 24)) ≡ (h / 24 == day)
of_day h day = grind (arith, nat_tests)

in_day : (day hour : ℕ) → list_any (λ m. m == hour) (hours_of day) ≡ starts_on Hour day hour
unfolding hours_of
in_day day hour = in_range hour (24 * day + 0) 24 ∙ of_day hour day

rising_day : (day : ℕ) → Rising (λ m. m) (hours_of day)
unfolding hours_of
rising_day day = rising_range (24 * day + 0) 24

-- what the rows give for a day of hours
pub cells-of_day : (records : List OfficeRecord) (rows : List Entry) (monitor : MonitorId) (day : ℕ) → IsTrue (rises observation_rank rows)
    → filter_map (give_cell records rows monitor (starts_on Hour day)) rows ≡ cells_in records rows monitor (hours_of day)
cells-of_day records rows monitor day rising = cells-are records rows monitor (starts_on Hour day) rising (hours_of day) (rising_day day) (in_day day)

at_start : (day hour : ℕ) → list_any (λ m. m == hour) (hour_number day 0 ∷ []) ≡ starts_on Day day hour
at_start day hour = grind (arith, nat_tests)

-- ---- a registered monitor's day

lasts_by : (m : MonitorId) (records : List OfficeRecord)
    → row_at record_rank (key_numbers (MonitorKey m)) records >>= monitor_duration
    ≡ option_map (λ (p : Duration × Bool). p.0) (option_map pair_of (slice_get (filter_map (registration_by m) records) 0))
lasts_by m [] = refl
lasts_by m (Monitor id duration eligible ∷ records) =
    ap (λ b. cond b (Some (Monitor id duration eligible)) (row_at record_rank (key_numbers (MonitorKey m)) records) >>= monitor_duration) (same_rank id m)
    ∙ by_test (lasts_by m records) (is_same_monitor id m)
  where
    by_test : row_at record_rank (key_numbers (MonitorKey m)) records >>= monitor_duration ≡ option_map (λ (p : Duration × Bool). p.0) (option_map pair_of (slice_get (filter_map (registration_by m) records) 0))
        → (b : Bool)
        → cond b (Some (Monitor id duration eligible)) (row_at record_rank (key_numbers (MonitorKey m)) records) >>= monitor_duration
        ≡ option_map (λ (p : Duration × Bool). p.0) (option_map pair_of (slice_get (cons_option (cond b (Some (record { duration = duration; eligible = eligible })) None) (filter_map (registration_by m) records)) 0))
    by_test rest true = refl
    by_test rest false = rest
lasts_by m (r ∷ records) = lasts_by m records

lasts : (m : MonitorId) (records : List OfficeRecord) (o : Option (Duration × Bool)) → o ≡ option_map pair_of (registration_of records m) → duration_at (office_with records) m ≡ option_map (λ (p : Duration × Bool). p.0) o
unfolding registration_of
lasts m records o is = lasts_by m records ∙ ap (option_map (λ (p : Duration × Bool). p.0)) (sym is)

-- the steps of a registered monitor's day
pub steps-lasting : (m : MonitorId) (records : List OfficeRecord) (stated duration : Duration) (eligible : Bool) → Some (stated, eligible) ≡ option_map pair_of (registration_of records m) → stated ≡ duration
    → monitor_steps records m ≡ steps_by duration
steps-lasting m records stated duration eligible is of = ap (λ (o : Option Duration). option_map_or steps_by o 0) (lasts m records (Some (stated, eligible)) is) ∙ ap steps_by of

module _ (records : List OfficeRecord) (rows : List Entry) (monitor : MonitorId) (day : ℕ) (valid : IsOffice (office_with records)) (rising : IsTrue (rises observation_rank rows)) where
  eligible : (o : Option (Duration × Bool)) → o ≡ option_map pair_of (registration_of records monitor) → is_eligible records monitor ≡ option_map_or (λ (p : Duration × Bool). p.1) o false
  eligible o is = eligible_is records monitor valid ∙ ap (λ o. option_map_or (λ (p : Duration × Bool). p.1) o false) (sym is)

  -- where its values do not count
  pub uncounted-day : (o : Option (Duration × Bool)) → o ≡ option_map pair_of (registration_of records monitor) → option_map_or (λ (p : Duration × Bool). p.1) o false ≡ false
      → None ≡ monitor_day (office_of records rows) monitor day
  unfolding monitor_day
  uncounted-day o is none =
      sym (ap (λ b. cond b (option_and_then (λ duration. particle_day.day_of_samples (office_of records rows) monitor duration day) (duration_at (office_of records rows) monitor)) None) (eligible o is ∙ none))

  counted_day : (duration : Duration) → Some (duration, true) ≡ option_map pair_of (registration_of records monitor)
      → monitor_day (office_of records rows) monitor day ≡ particle_day.day_of_samples (office_of records rows) monitor duration day
  unfolding monitor_day
  counted_day duration is =
      (λ i. cond (eligible (Some (duration, true)) is i) (option_and_then (λ duration. particle_day.day_of_samples (office_of records rows) monitor duration day) (lasts monitor records (Some (duration, true)) is i)) None)

  pub hourly-day : Some (Hour, true) ≡ option_map pair_of (registration_of records monitor)
      → day_cell monitor.pollutant Hour (cells_in records rows monitor (hours_of day)) ≡ monitor_day (office_of records rows) monitor day
  hourly-day is =
      ap (day_cell monitor.pollutant Hour) (sym (cells-are records rows monitor (starts_on Hour day) rising (hours_of day) (rising_day day) (in_day day)))
      ∙ sym (counted_day Hour is)

  one_cell : (pollutant : Pollutant) (o : Option Cell) → o ≡ day_cell pollutant Day (cons_option o [])
  one_cell pollutant None = refl
  one_cell pollutant (Some cell) = ap (λ b. Some (as_cell cell.value b)) (sym (or-false cell.excluded))

  pub daily-day : Some (Day, true) ≡ option_map pair_of (registration_of records monitor)
      → cell_at records rows monitor (hour_number day 0) ≡ monitor_day (office_of records rows) monitor day
  daily-day is =
      one_cell monitor.pollutant (cell_at records rows monitor (hour_number day 0))
      ∙ ap (day_cell monitor.pollutant Day) (sym (cells-are records rows monitor (starts_on Day day) rising (hour_number day 0 ∷ []) (tt, tt) (at_start day)))
      ∙ sym (counted_day Day is)
