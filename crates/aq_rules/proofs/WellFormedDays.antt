-- The days behind a number, and the highest of a year, are well formed.
use Rattle.std.proofs.Common.{◌≡◌, ℕ, zero, suc, ◌+◌, ◌<◌, ◌≤◌, Bool, true, false, cond, List, [], ◌∷◌, length, map, take, refl, arith}
use Rattle.std.specs.Prelude.{ℤ, Option, Some, None, option_map, IfSome, ⊤, nat_le, ◌==◌, int_lt, codes, filter_map, find}
use Rattle.std.specs.List.{enumerate_from, list_all}
use Rattle.std.proofs.lemmas.List.{length-map}
use Rattle.aq_base.specs.Calendar.{is_year, quarter_of}
use Rattle.aq_base.specs.Site.{Site}
use Rattle.aq_base.specs.declared.day.TheConstants.{LAST_YEAR}
use Rattle.aq_base.specs.declared.monitor.Pollutant.{Pollutant}
use Rattle.aq_base.specs.declared.monitor.Pollutant.TheVariants.{Ozone, Pm25, Pm10}
use Rattle.aq_rules.specs.Listed.Daily.{Pm10Day, Pm25Day, daily_answer, exclusion_of, pm10_day, pm10_day_cells, pm10_days_sheet, pm25_day, pm25_day_cells, pm25_days_sheet, stratum_place, value_of}
use Rattle.aq_rules.specs.Listed.Highest.{MaximumAt, RankedDay, TEN, day_ranked_in, days_ranked, deciding_pm25, deciding_rank, first_at, highest_answer, highest_heads, highest_ozone_sheet, highest_particles_sheet, is_net, maximum_at, number_cell, ozone_cells, particle_cells, place_cells, ranked_day, ranked_days, ranked_value, with_start}
use Rattle.aq_rules.specs.Kept.Summaries.{pm25_summary}
use Rattle.aq_rules.specs.Office.Office.{IsOffice, Office}
use Rattle.aq_rules.specs.Office.Schedule.{is_scheduled}
use Rattle.aq_rules.specs.Ozone.EightHour.{WindowRow, window}
use Rattle.aq_rules.specs.Ozone.OzoneDay.{OzoneDay, ozone_day, starts_of, windows}
use Rattle.aq_rules.specs.Ozone.OzoneYear.{days_of, ranked_maximum}
use Rattle.aq_rules.specs.Ozone.SiteHour.{Cell}
use Rattle.aq_rules.specs.Particles.ParticleDay.{site_day}
use Rattle.aq_rules.specs.Particles.Percentile.{rank_of}
use Rattle.aq_rules.specs.Particles.Pm10Estimate.{exceeds}
use Rattle.aq_rules.specs.Particles.QuarterCounts.{counted_in, days_of_quarter, pm25_year}
use Rattle.aq_rules.specs.Particles.Strata.{begins, first_day_onto, first_days, first_days_after, first_days_among}
use Rattle.aq_rules.specs.Shown.Sheet.{count_cell, day_text, ppm_cell, tenths_cell}
use Rattle.aq_rules.specs.Shown.Sheet.SheetCell.{Text}
use Rattle.aq_rules.specs.Shown.WellFormed.{IsWellFormed, is_cell, is_head, is_row}
use Rattle.aq_rules.proofs.Elements.{Every, every-map, every-to}
use Rattle.aq_rules.proofs.Held.{Held, IfHeld, if_held-wider}
use Rattle.aq_rules.proofs.OzoneFacts.{day-in_range}
use Rattle.aq_rules.proofs.Pm10Facts.{length-days, length-filter-le, length-kept, quarter_days}
use Rattle.aq_rules.proofs.Pm25Range.{net-in_range, pm10_day-in_range, site_day-in_range}
use Rattle.aq_rules.proofs.SheetCells.{count, day-word, fixed, heads-of, hour-word, if_fixed, numbered-rows, row-of, rows-of, site-word, truth-word}
use Rattle.aq_rules.proofs.ValueRange.{IfCellTo}
use Rattle.aq_rules.proofs.WellFormedLists.{days-few, every-each, every-kept, if_truth, parameter-word}
use Rattle.aq_rules.proofs.WellFormedOzone.{WindowIn, days-well_formed, of_profile, windows-in}
use Rattle.aq_rules.proofs.WellFormedQuarters.{year-held}

-- ---- the days of particles

if_tenths : (value : Option ℤ) → IfHeld 999 99999 value → is_cell (tenths_cell value) ≡ true
if_tenths value held = if_fixed 999 99999 1 value (omega arith) (omega arith) refl held

if_value : (sample : Option Cell) → IfCellTo 99999 sample → is_cell (tenths_cell (value_of sample)) ≡ true
if_value None is = refl
if_value (Some cell) is = if_tenths (Some cell.value) is

pm25_columns : List (List ℕ)
pm25_columns = codes "day" ∷ codes "scheduled" ∷ codes "value" ∷ codes "excluded" ∷ codes "credit" ∷ []

pm25-row : (row : Pm25Day) → IfCellTo 99999 row.sample → is_row pm25_columns (pm25_day_cells row) ≡ true
unfolding pm25_columns
pm25-row row is =
    row-of pm25_columns (pm25_day_cells row) refl
    (day-word row.day, (truth-word row.scheduled, (if_value row.sample is, (if_truth (exclusion_of row.sample), (truth-word row.credit, tt)))))

pm25_days : (office : Office) (site : Site) (year : ℕ) → IsOffice office → year ≤ LAST_YEAR → IsWellFormed (pm25_days_sheet site year (map (pm25_day office site) (days_of year)))
unfolding pm25_days_sheet pm25_columns
pm25_days office site year valid few =
    let rows = map (pm25_day office site) (days_of year) in
    record {
      heads = heads-of (pm25_days_sheet site year rows).heads (site-word site, (parameter-word Pm25, (count year (omega (arith, few)), tt)));
      names_differ = refl;
      columns = refl;
      rows =
          rows-of pm25_columns (λ (row : Pm25Day). IfCellTo 99999 row.sample) pm25_day_cells pm25-row rows
          (every-map (λ day. ⊤) (λ (row : Pm25Day). IfCellTo 99999 row.sample) (pm25_day office site) (λ day h. site_day-in_range office site day valid) (days_of year) (every-each (λ day. ⊤) (λ day. tt) (days_of year)));
    }

-- a stratum begins on a day of its quarter
onto-few : (b : Bool) (day n : ℕ) (firsts : List ℕ) → length firsts ≤ n → length (first_day_onto b day firsts) ≤ suc n
onto-few true day n firsts few = omega (arith, few)
onto-few false day n firsts few = omega (arith, few)

after-few : (asked : ℕ → Bool) (start : ℕ) (days : List ℕ) → length (first_days_after asked start days) ≤ length days
unfolding first_days_after
after-few asked start [] = omega arith
after-few asked start (day ∷ days) =
    let next : ℕ = cond (begins asked start day) day start in
    onto-few (begins asked start day) day (length days) (first_days_after asked next days) (after-few asked next days)

firsts-few : (asked : ℕ → Bool) (days : List ℕ) → length (first_days_among asked days) ≤ length days
firsts-few asked [] = omega arith
firsts-few asked (day ∷ days) = omega (arith, after-few asked day days)

stratum-few : (office : Office) (site : Site) (day : ℕ) → stratum_place office site day ≤ 92
unfolding stratum_place first_days
stratum-few office site day =
    let quarter = quarter_of day in
    let most = (quarter_days quarter).1 in
    omega (arith, most, length-days quarter, firsts-few (is_scheduled office.records site Pm10) (days_of_quarter quarter), length-filter-le (λ first. nat_le first day) (first_days office site quarter))

record Pm10In (row : Pm10Day) : Type 0 where
  sample : IfCellTo 99999 row.sample
  stratum : row.stratum ≤ 92

pm10_columns : List (List ℕ)
pm10_columns = codes "day" ∷ codes "scheduled" ∷ codes "stratum" ∷ codes "value" ∷ codes "excluded" ∷ codes "exceeds" ∷ []

pm10-row : (row : Pm10Day) → Pm10In row → is_row pm10_columns (pm10_day_cells row) ≡ true
unfolding pm10_columns
pm10-row row is =
    row-of pm10_columns (pm10_day_cells row) refl (
      day-word row.day,
      (
        truth-word row.scheduled,
        (
          count row.stratum (omega (arith, is.stratum)),
          (if_value row.sample is.sample, (if_truth (exclusion_of row.sample), (if_truth (option_map exceeds (value_of row.sample)), tt))),
        ),
      ),
    )

pm10_days : (office : Office) (site : Site) (year : ℕ) → IsOffice office → year ≤ LAST_YEAR → IsWellFormed (pm10_days_sheet site year (map (pm10_day office site) (days_of year)))
unfolding pm10_days_sheet pm10_columns
pm10_days office site year valid few =
    let rows = map (pm10_day office site) (days_of year) in
    record {
      heads = heads-of (pm10_days_sheet site year rows).heads (site-word site, (parameter-word Pm10, (count year (omega (arith, few)), tt)));
      names_differ = refl;
      columns = refl;
      rows =
          rows-of pm10_columns Pm10In pm10_day_cells pm10-row rows
          (every-map (λ day. ⊤) Pm10In (pm10_day office site) (λ day h. record { sample = pm10_day-in_range office site day valid; stratum = stratum-few office site day }) (days_of year) (every-each (λ day. ⊤) (λ day. tt) (days_of year)));
    }

pub daily-well_formed : (office : Office) (site : Site) (pollutant : Pollutant) (year : ℕ) → IsOffice office → is_year year ≡ true → IsWellFormed (daily_answer office site pollutant year)
unfolding daily_answer
daily-well_formed office site Ozone year valid asked = days-well_formed office site year valid asked
daily-well_formed office site Pm25 year valid asked = pm25_days office site year valid (of_profile year asked)
daily-well_formed office site Pm10 year valid asked = pm10_days office site year valid (of_profile year asked)

-- ---- ranked days

abbrev RankedIn : RankedDay → Type 0
RankedIn row = Held 999 99999 row.value

maximum-in : (day : OzoneDay) → IfHeld 999 9999 day.maximum → IfHeld 999 99999 (ranked_maximum day)
maximum-in day held =
    elim day.valid as (λ b. IfHeld 999 99999 (cond b day.maximum None)) [
      | true ↦ if_held-wider 999 9999 999 99999 day.maximum (omega arith) (omega arith) held
      | false ↦ tt
    ]

value-in : (office : Office) (site : Site) (pollutant : Pollutant) (day : ℕ) → IsOffice office → IfHeld 999 99999 (ranked_value office site pollutant day)
value-in office site Ozone day valid = maximum-in (ozone_day office site day) (day-in_range office site day valid)
value-in office site Pm25 day valid = net-in_range (site_day office site Pm25 day) (site_day-in_range office site day valid)
value-in office site Pm10 day valid = net-in_range (site_day office site Pm10 day) (pm10_day-in_range office site day valid)

on_day : (day : ℕ) (value : Option ℤ) → IfHeld 999 99999 value → IfSome (option_map (λ value. record { day = day; value = value }) value) RankedIn
on_day day None held = tt
on_day day (Some value) held = held

every-put : (row : RankedDay) (rows : List RankedDay) → RankedIn row → Every RankedIn rows → Every RankedIn (day_ranked_in row rows)
every-put row [] is every = (is, tt)
every-put row (other ∷ others) is every =
    elim (int_lt row.value other.value) as (λ b. Every RankedIn (cond b (other ∷ day_ranked_in row others) (row ∷ other ∷ others))) [
      | true ↦ (every.0, every-put row others is every.1)
      | false ↦ (is, every)
    ]

every-day : (rows : List RankedDay) → Every RankedIn rows → Every RankedIn (days_ranked rows)
unfolding days_ranked
every-day [] every = tt
every-day (row ∷ rows) every = every-put row (days_ranked rows) every.0 (every-day rows every.1)

put-long : (row : RankedDay) (rows : List RankedDay) → length (day_ranked_in row rows) ≡ suc (length rows)
put-long row [] = refl
put-long row (other ∷ others) =
    elim (int_lt row.value other.value) as (λ b. length (cond b (other ∷ day_ranked_in row others) (row ∷ other ∷ others)) ≡ suc (suc (length others))) [
      | true ↦ omega (arith, put-long row others)
      | false ↦ refl
    ]

ranked-long : (rows : List RankedDay) → length (days_ranked rows) ≡ length rows
unfolding days_ranked
ranked-long [] = refl
ranked-long (row ∷ rows) = omega (arith, put-long row (days_ranked rows), ranked-long rows)

ranked-few : (office : Office) (site : Site) (pollutant : Pollutant) (year : ℕ) → length (ranked_days office site pollutant year) ≤ 366
unfolding ranked_days
ranked-few office site pollutant year =
    omega (arith, ranked-long (filter_map (ranked_day office site pollutant) (days_of year)), length-kept (ranked_day office site pollutant) (days_of year), days-few year)

ranked-in : (office : Office) (site : Site) (pollutant : Pollutant) (year : ℕ) → IsOffice office → Every RankedIn (ranked_days office site pollutant year)
unfolding ranked_days
ranked-in office site pollutant year valid =
    every-day (filter_map (ranked_day office site pollutant) (days_of year))
    (every-kept (λ day. ⊤) RankedIn (ranked_day office site pollutant) (λ day h. on_day day (ranked_value office site pollutant day) (value-in office site pollutant day valid)) (days_of year) (every-each (λ day. ⊤) (λ day. tt) (days_of year)))

every-front : {X : Type 0} (P : X → Type 0) (n : ℕ) (xs : List X) → Every P xs → Every P (take n xs)
every-front P zero xs every = tt
every-front P (suc n) [] every = tt
every-front P (suc n) (x ∷ xs) every = (every.0, every-front P n xs every.1)

front-few : {X : Type 0} (n : ℕ) (xs : List X) → length (take n xs) ≤ length xs
front-few zero xs = omega arith
front-few (suc n) [] = omega arith
front-few (suc n) (x ∷ xs) = omega (arith, front-few n xs)

-- ---- the start of a maximum

found-in : {X : Type 0} (P : X → Type 0) (p : X → Bool) (xs : List X) → Every P xs → IfSome (find p xs) P
found-in P p [] every = tt
found-in P p (x ∷ xs) every =
    elim (p x) as (λ b. IfSome (cond b (Some x) (find p xs)) P) [
      | true ↦ every.0
      | false ↦ found-in P p xs every.1
    ]

every-numbered : {X : Type 0} (P : X → Type 0) (n : ℕ) (xs : List X) → Every P xs → Every (λ (row : ℕ × X). P row.1) (enumerate_from n xs)
every-numbered P n [] every = tt
every-numbered P n (x ∷ xs) every = (every.0, every-numbered P (n + 1) xs every.1)

abbrev StartIn : MaximumAt → Type 0
StartIn at = at.hours ≤ 8

abbrev FewHours : WindowRow → Type 0
FewHours row = row.net_hours ≤ 8

of_row : (row : Option (ℕ × WindowRow)) → IfSome row (λ (r : ℕ × WindowRow). FewHours r.1) → IfSome (option_map maximum_at row) StartIn
of_row None is = tt
of_row (Some row) is = is

start-in : (office : Office) (site : Site) (day : ℕ) (value : ℤ) → IsOffice office → IfSome (first_at office site day value) StartIn
unfolding first_at windows starts_of
start-in office site day value valid =
    let rows = windows office site day in
    let few : Every FewHours rows = every-to WindowIn FewHours (λ row is. is.net_hours) (map (window office site) (starts_of day)) (windows-in office site (starts_of day) valid) in
    of_row (find (is_net value) (enumerate_from 7 rows)) (found-in (λ (r : ℕ × WindowRow). FewHours r.1) (is_net value) (enumerate_from 7 rows) (every-numbered FewHours 7 rows few))

-- ---- the highest days

abbrev PlacedIn : RankedDay × Option MaximumAt → Type 0
PlacedIn row = RankedIn row.0 × IfSome row.1 StartIn

ozone_columns : List (List ℕ)
ozone_columns = codes "rank" ∷ codes "day" ∷ codes "value" ∷ codes "hour" ∷ codes "hours" ∷ []

ozone-row : (rank : ℕ) (row : RankedDay × Option MaximumAt) → rank < 368 → PlacedIn row → is_row ozone_columns (ozone_cells (rank, row)) ≡ true
unfolding ozone_columns
ozone-row rank row few is = by_start row.1 is.1
  where
    by_start : (start : Option MaximumAt) → IfSome start StartIn
        → is_row ozone_columns (count_cell rank ∷ Text (day_text row.0.day) ∷ ppm_cell (Some row.0.value) ∷ place_cells start) ≡ true
    by_start None h =
        row-of ozone_columns (count_cell rank ∷ Text (day_text row.0.day) ∷ ppm_cell (Some row.0.value) ∷ place_cells None) refl
        (count rank (omega (arith, few)), (day-word row.0.day, (fixed 999 99999 3 row.0.value (omega arith) (omega arith) refl is.0, (refl, (refl, tt)))))
    by_start (Some at) h =
        row-of ozone_columns (count_cell rank ∷ Text (day_text row.0.day) ∷ ppm_cell (Some row.0.value) ∷ place_cells (Some at)) refl
        (count rank (omega (arith, few)), (day-word row.0.day, (fixed 999 99999 3 row.0.value (omega arith) (omega arith) refl is.0, (hour-word at.hour, (count at.hours (omega (arith, h)), tt)))))

particle_columns : List (List ℕ)
particle_columns = codes "rank" ∷ codes "day" ∷ codes "value" ∷ []

particle-row : (rank : ℕ) (row : RankedDay) → rank < 368 → RankedIn row → is_row particle_columns (particle_cells (rank, row)) ≡ true
unfolding particle_columns
particle-row rank row few is =
    row-of particle_columns (particle_cells (rank, row)) refl
    (count rank (omega (arith, few)), (day-word row.day, (if_tenths (Some row.value) is, tt)))

heads-in : (site : Site) (pollutant : Pollutant) (year ranked : ℕ) (decides : Option ℕ) → year ≤ LAST_YEAR → ranked ≤ 366 → is_cell (number_cell decides) ≡ true
    → list_all is_head (highest_heads site pollutant year ranked decides) ≡ true
heads-in site pollutant year ranked decides few most cell =
    heads-of (highest_heads site pollutant year ranked decides)
    (site-word site, (parameter-word pollutant, (count year (omega (arith, few)), (count ranked (omega (arith, most)), (cell, tt)))))

pm25-decides : (counted : ℕ) → counted ≤ 368 → is_cell (number_cell (deciding_pm25 counted)) ≡ true
pm25-decides counted few =
    elim (counted == 0) as (λ b. is_cell (number_cell (cond b None (Some (rank_of counted)))) ≡ true) [
      | true ↦ refl
      | false ↦ count (rank_of counted) (omega arith)
    ]

decides-in : (office : Office) (site : Site) (pollutant : Pollutant) (year : ℕ) → IsOffice office → is_cell (number_cell (deciding_rank office site pollutant year)) ≡ true
unfolding deciding_rank pm25_summary pm25_year
decides-in office site Ozone year valid = count 4 (omega arith)
decides-in office site Pm25 year valid = pm25-decides (counted_in (pm25_year office site year)) (year-held office site year valid).counted
decides-in office site Pm10 year valid = refl

particles : (office : Office) (site : Site) (pollutant : Pollutant) (year : ℕ) → IsOffice office → year ≤ LAST_YEAR
    → IsWellFormed (highest_particles_sheet site pollutant year (length (ranked_days office site pollutant year)) (deciding_rank office site pollutant year) (take TEN (ranked_days office site pollutant year)))
unfolding highest_particles_sheet particle_columns
particles office site pollutant year valid few =
    let rows = ranked_days office site pollutant year in
    let most = ranked-few office site pollutant year in
    record {
      heads = heads-in site pollutant year (length rows) (deciding_rank office site pollutant year) few most (decides-in office site pollutant year valid);
      names_differ = refl;
      columns = refl;
      rows =
          numbered-rows particle_columns RankedIn 368 particle_cells particle-row 1 (take TEN rows) (omega (arith, most, front-few TEN rows))
          (every-front RankedIn TEN rows (ranked-in office site pollutant year valid));
    }

ozone : (office : Office) (site : Site) (year : ℕ) → IsOffice office → year ≤ LAST_YEAR
    → IsWellFormed (highest_ozone_sheet site year (length (ranked_days office site Ozone year)) (deciding_rank office site Ozone year) (map (with_start office site) (take TEN (ranked_days office site Ozone year))))
unfolding highest_ozone_sheet ozone_columns
ozone office site year valid few =
    let rows = ranked_days office site Ozone year in
    let most = ranked-few office site Ozone year in
    record {
      heads = heads-in site Ozone year (length rows) (deciding_rank office site Ozone year) few most (decides-in office site Ozone year valid);
      names_differ = refl;
      columns = refl;
      rows =
          numbered-rows ozone_columns PlacedIn 368 ozone_cells ozone-row 1 (map (with_start office site) (take TEN rows)) (omega (arith, most, front-few TEN rows, length-map (take TEN rows) (with_start office site)))
          (every-map RankedIn PlacedIn (with_start office site) (λ row is. (is, start-in office site row.day row.value valid)) (take TEN rows)
          (every-front RankedIn TEN rows (ranked-in office site Ozone year valid)));
    }

pub highest-well_formed : (office : Office) (site : Site) (pollutant : Pollutant) (year : ℕ) → IsOffice office → is_year year ≡ true → IsWellFormed (highest_answer office site pollutant year)
unfolding highest_answer
highest-well_formed office site Ozone year valid asked = ozone office site year valid (of_profile year asked)
highest-well_formed office site Pm25 year valid asked = particles office site Pm25 year valid (of_profile year asked)
highest-well_formed office site Pm10 year valid asked = particles office site Pm10 year valid (of_profile year asked)
