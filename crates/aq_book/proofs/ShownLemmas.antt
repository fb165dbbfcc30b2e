-- The shown observations of a site, pollutant and year, monitor after monitor.
use Rattle.std.proofs.Common.{◌≡◌, ℕ, ◌+◌, ◌*◌, ◌<◌, ◌≤◌, Bool, true, false, cond, ◌&&◌, ◌||◌, ◌==◌, Option, Some, None, List, [], ◌∷◌, ◌++◌, map, refl, ap, sym, subst, ◌∙◌, arith, inl, inr}
use Rattle.std.specs.Prelude.{nat_lt, nat_le, filter}
use Rattle.std.specs.List.{AllByRecursion, cons_option, list_all, list_any}
use Rattle.std.proofs.lemmas.Bool.{false≢true, and_parts, cases_Bool, eqb-true, eq-eqb}
use Rattle.std.proofs.lemmas.Bool.Decides.{nat_tests}
use Rattle.std.proofs.lemmas.List.{map-append}
use Rattle.aq_base.specs.Calendar.{day_of_hour, days_in_year, year_first, year_of}
use Rattle.aq_base.specs.Site.{Site}
use Rattle.aq_base.specs.declared.day.TheConstants.{FIRST_YEAR, LAST_HOUR}
use Rattle.aq_base.specs.declared.shown.Shown.{Shown}
use Rattle.aq_base.specs.declared.monitor.Duration.{Duration}
use Rattle.aq_base.specs.declared.monitor.Duration.TheVariants.{Hour, Day}
use Rattle.aq_base.specs.declared.monitor.Pollutant.{Pollutant}
use Rattle.aq_base.specs.declared.monitor.MonitorId.{MonitorId}
use Rattle.aq_base.specs.declared.observation.ObsKey.{ObsKey}
use Rattle.aq_base.specs.declared.observation.Observation.{Observation}
use Rattle.aq_base.specs.declared.office.OfficeKey.TheVariants.{Monitor as MonitorKey}
use Rattle.aq_base.specs.declared.office.OfficeRecord.{OfficeRecord}
use Rattle.aq_base.specs.declared.office.OfficeRecord.TheVariants.{Monitor}
use Rattle.aq_rules.specs.Lines.Spellings.{◌>>=◌}
use Rattle.aq_rules.specs.Office.Exclusion.{excluded}
use Rattle.aq_rules.specs.Office.Monitors.{is_same_monitor, is_same_pollutant, is_same_site}
use Rattle.aq_rules.specs.Office.Office.{Office, IsOffice, comes_before, duration_at, fits_monitors, fits_records, is_content, is_kept_hour, is_same, key_numbers, monitor_duration, observation_numbers, observation_rank, pollutant_number, record_rank, rises, row_at}
use Rattle.aq_rules.specs.Office.Questions.{next_poc}
use Rattle.aq_rules.specs.Office.RowOrder.{before-trans}
use Rattle.aq_rules.specs.Office.Sameness.{number_itself, same_monitor, same_pollutant, same_site}
use Rattle.aq_rules.specs.Shown.Export.{is_of_year, shown_of}
use Rattle.aq_rules.proofs.Spans.{before-itself}
use Rattle.aq_cal.proofs.Within.{year_holds}
use Rattle.aq_shelf.specs.Standing.{hour_content, in_span, observations_in}
use Rattle.aq_book.specs.Questions.{shown_at}
use Rattle.aq_registry.specs.Registry.{office_with}
use Rattle.aq_series.specs.DayCells.{monitor_at, pocs_after}
use Rattle.aq_series.specs.OfficeView.{office_of}
use Rattle.aq_series.proofs.SitePocs.{pocs-end, pocs-next, same_rank, some_poc}
use Rattle.aq_series.proofs.SiteWalk.{Above, above-first, rises-behind}

abbrev Entry : Type 0
Entry = ObsKey × Observation

-- ---- a list in two parts, of which the one stands before the other

module _ {X : Type 0} (rank : X → List ℕ) (p q : X → Bool) (ordered : (x y : X) → p x ≡ true → q y ≡ true → comes_before (rank x) (rank y) ≡ true) where
  none-behind : (y : X) (rows : List X) → q y ≡ true → Above rank (rank y) rows → filter p rows ≡ []
  none-behind y [] is above = refl
  none-behind y (x ∷ rows) is above = choose (p x) refl (none-behind y rows is above.1)
    where
      choose : (b : Bool) → p x ≡ b → filter p rows ≡ [] → cond b (x ∷ filter p rows) (filter p rows) ≡ []
      choose true holds rest = absurd (before-itself (rank x) (before-trans (rank x) (rank y) (rank x) (ordered x y holds is) above.0))
      choose false fails rest = rest

  two-parts : (rows : List X) → rises rank rows ≡ true → filter (λ x. p x || q x) rows ≡ filter p rows ++ filter q rows
  two-parts [] rising = refl
  two-parts (x ∷ rows) rising = choose (p x) (q x) refl refl (two-parts rows (rises-behind rank x rows rising))
    where
      choose : (a b : Bool) → p x ≡ a → q x ≡ b → filter (λ x. p x || q x) rows ≡ filter p rows ++ filter q rows
          → cond (a || b) (x ∷ filter (λ x. p x || q x) rows) (filter (λ x. p x || q x) rows) ≡ cond a (x ∷ filter p rows) (filter p rows) ++ cond b (x ∷ filter q rows) (filter q rows)
      choose true true first second rest = absurd (before-itself (rank x) (ordered x x first second))
      choose true false first second rest = ap (λ (l : List X). x ∷ l) rest
      choose false true first second rest =
          let none = none-behind x rows second (above-first rank x rows rising) in
          ap (λ (l : List X). x ∷ l) (rest ∙ ap (λ (l : List X). l ++ filter q rows) none) ∙ ap (λ (l : List X). l ++ x ∷ filter q rows) (sym none)
      choose false false first second rest = rest

same-tests : {X : Type 0} (p q : X → Bool) (rows : List X) → AllByRecursion (λ x. p x ≡ q x) rows → filter p rows ≡ filter q rows
same-tests p q [] same = refl
same-tests p q (x ∷ rows) same =
    ap (λ b. cond b (x ∷ filter p rows) (filter p rows)) same.0 ∙ ap (λ l. cond (q x) (x ∷ l) l) (same-tests p q rows same.1)

-- ---- registered monitors

abbrev is_of : MonitorId → OfficeRecord → Bool
is_of m (Monitor id duration eligible) = is_same_monitor id m
is_of m r = false

module _ (site : Site) (pollutant : Pollutant) where
  -- the POCs above a number are those of registered monitors
  pocs-tell : (n c : ℕ) (records : List OfficeRecord) → list_any (λ q. q == c) (pocs_after records site pollutant n) ≡ (list_any (is_of (monitor_at site pollutant c)) records && nat_lt n c)
  pocs-tell n c [] = refl
  pocs-tell n c (Monitor id duration eligible ∷ records) =
      choose (is_same_site id.site site && is_same_pollutant id.pollutant pollutant) (nat_lt n id.poc) (id.poc == c) (nat_lt n c) refl refl refl (list_any (is_of (monitor_at site pollutant c)) records) (pocs-tell n c records)
    where
      by_number : (a b d : Bool) → nat_lt n id.poc ≡ a → (id.poc == c) ≡ b → nat_lt n c ≡ d → b ≡ true → a ≡ d
      by_number a b d below same under is =
          let one : id.poc ≡ c = eqb-true id.poc c (same ∙ is) in
          sym below ∙ ap (nat_lt n) one ∙ under

      choose : (s a b d : Bool) → nat_lt n id.poc ≡ a → (id.poc == c) ≡ b → nat_lt n c ≡ d → (m : Bool) → list_any (λ q. q == c) (pocs_after records site pollutant n) ≡ (m && d)
          → list_any (λ q. q == c) (cons_option (cond (s && a) (Some id.poc) None) (pocs_after records site pollutant n)) ≡ (((s && b) || m) && d)
      choose true true true true below same under m rest = ap (λ t. t || list_any (λ q. q == c) (pocs_after records site pollutant n)) same
      choose true true true false below same under m rest = absurd (false≢true (sym (by_number true true false below same under refl)))
      choose true false true true below same under m rest = absurd (false≢true (by_number false true true below same under refl))
      choose true false true false below same under m rest = rest ∙ both_false m
        where
          both_false : (m : Bool) → (m && false) ≡ false
          both_false true = refl
          both_false false = refl
      choose true true false d below same under m rest = ap (λ t. t || list_any (λ q. q == c) (pocs_after records site pollutant n)) same ∙ rest
      choose true false false d below same under m rest = rest
      choose false a b d below same under m rest = rest
  pocs-tell n c (r ∷ records) = pocs-tell n c records

-- a monitor with a duration is registered
has-record : (m : MonitorId) (records : List OfficeRecord) (duration : Duration) → (row_at record_rank (key_numbers (MonitorKey m)) records >>= monitor_duration) ≡ Some duration
    → list_any (is_of m) records ≡ true
has-record m [] duration is = cc
has-record m (Monitor id period eligible ∷ records) duration is =
    choose (is_same (key_numbers (MonitorKey id)) (key_numbers (MonitorKey m))) refl is (has-record m records duration)
  where
    choose : (b : Bool) → is_same (key_numbers (MonitorKey id)) (key_numbers (MonitorKey m)) ≡ b
        → (cond b (Some (Monitor id period eligible)) (row_at record_rank (key_numbers (MonitorKey m)) records) >>= monitor_duration) ≡ Some duration
        → ((row_at record_rank (key_numbers (MonitorKey m)) records >>= monitor_duration) ≡ Some duration → list_any (is_of m) records ≡ true)
        → (is_same_monitor id m || list_any (is_of m) records) ≡ true
    choose true same is rest = ap (λ b. b || list_any (is_of m) records) (sym (same_rank id m) ∙ same)
    choose false other is rest = ap (λ b. b || list_any (is_of m) records) (sym (same_rank id m) ∙ other) ∙ rest is
has-record m (r ∷ records) duration is = has-record m records duration is

kept-at : (o : Option Duration) (hour : ℕ) → is_kept_hour o hour ≡ true → (duration : Duration) × (o ≡ Some duration)
kept-at None hour kept = cc
kept-at (Some Hour) hour kept = (Hour, refl)
kept-at (Some Day) hour kept = (Day, refl)

numbered : (m : MonitorId) (office : Office) (records : List OfficeRecord) → list_all (fits_records office) records ≡ true → list_any (is_of m) records ≡ true → nat_lt 0 m.poc ≡ true
numbered m office [] fits there = cc
numbered m office (Monitor id duration eligible ∷ records) fits there =
    choose (is_same_monitor id m) refl there (numbered m office records parts.1)
  where
    parts : (fits_records office (Monitor id duration eligible) ≡ true) × (list_all (fits_records office) records ≡ true)
    parts = and_parts _ _ fits

    choose : (b : Bool) → is_same_monitor id m ≡ b → (b || list_any (is_of m) records) ≡ true → (list_any (is_of m) records ≡ true → nat_lt 0 m.poc ≡ true) → nat_lt 0 m.poc ≡ true
    choose true same there rest = subst (λ (k : MonitorId). nat_lt 0 k.poc ≡ true) (same_monitor id m same) (some_poc id duration eligible office parts.0)
    choose false other there rest = rest there
numbered m office (r ∷ records) fits there = numbered m office records (and_parts _ _ fits).1 there

-- ---- the hours of a year

hours-of-year : (year hour : ℕ) → FIRST_YEAR ≤ year → hour ≤ LAST_HOUR
    → (year_of (day_of_hour hour) == year) ≡ (nat_le (24 * year_first year) hour && nat_lt hour (24 * year_first year + 24 * days_in_year year))
hours-of-year year hour low high =
    let holds = year_holds year (day_of_hour hour) low (omega arith) in
    elim (cases_Bool (year_of (day_of_hour hour) == year)) [
      | inl is ↦
          let within = holds.0 (eqb-true (year_of (day_of_hour hour)) year is) in
          let from : nat_le (24 * year_first year) hour ≡ true = let h : 24 * year_first year ≤ hour = omega (arith, within.0) in grind (arith, nat_tests) in
          let to : nat_lt hour (24 * year_first year + 24 * days_in_year year) ≡ true = let h : hour < 24 * year_first year + 24 * days_in_year year = omega (arith, within.1) in grind (arith, nat_tests) in
          is ∙ sym (λ i. from i && to i)
      | inr other ↦
          other
          ∙ sym (none (nat_le (24 * year_first year) hour) (nat_lt hour (24 * year_first year + 24 * days_in_year year)) refl refl other)
    ]
  where
    none : (a b : Bool) → nat_le (24 * year_first year) hour ≡ a → nat_lt hour (24 * year_first year + 24 * days_in_year year) ≡ b → (year_of (day_of_hour hour) == year) ≡ false → (a && b) ≡ false
    none true true from to other =
        let first : 24 * year_first year ≤ hour = grind (arith, nat_tests) in
        let last : hour < 24 * year_first year + 24 * days_in_year year = grind (arith, nat_tests) in
        let is = (year_holds year (day_of_hour hour) low (omega arith)).1 (omega (arith, first), omega (arith, last)) in
        absurd (false≢true (sym other ∙ eq-eqb (year_of (day_of_hour hour)) year is))
    none true false from to other = refl
    none false b from to other = refl

-- ---- the shown observations

module _ (records : List OfficeRecord) (site : Site) (pollutant : Pollutant) (year : ℕ) where
  -- an observation of the year, of a monitor with a POC above a number
  abbrev pub stands_above : ℕ → Entry → Bool
  stands_above after entry = is_of_year site pollutant year entry && nat_lt after entry.0.monitor.poc

  abbrev pub part_above : ℕ → List Entry → List Entry
  part_above after rows = filter (stands_above after) rows

  abbrev show : Entry → Shown
  show entry = record { key = entry.0; content = entry.1; excluded = excluded records entry.0 entry.1.quals }

  abbrev pub shown_above : ℕ → List Entry → List Shown
  shown_above after rows = map show (part_above after rows)

  abbrev monitor : ℕ → MonitorId
  monitor poc = monitor_at site pollutant poc

  abbrev of_year : ℕ → Entry → Bool
  of_year poc = in_span (monitor poc) (24 * year_first year) (24 * days_in_year year)

  -- a standing observation: its hour is one of the profile, and its monitor is registered
  record IsRegistered (entry : Entry) : Type 0 where
    hour_within : entry.0.hour ≤ LAST_HOUR
    registered : list_any (is_of entry.0.monitor) records ≡ true

  all-registered : (rows all : List Entry) → list_all (fits_monitors (office_of records all)) rows ≡ true → AllByRecursion IsRegistered rows
  all-registered [] all fits = tt
  all-registered (entry ∷ rows) all fits =
      let parts = and_parts (fits_monitors (office_of records all) entry) (list_all (fits_monitors (office_of records all)) rows) fits in
      let whole = and_parts (nat_le entry.0.hour LAST_HOUR && is_kept_hour (duration_at (office_of records all) entry.0.monitor) entry.0.hour) (is_content entry.0.monitor.pollutant entry.1) parts.0 in
      let front = and_parts (nat_le entry.0.hour LAST_HOUR) (is_kept_hour (duration_at (office_of records all) entry.0.monitor) entry.0.hour) whole.0 in
      let duration = kept-at (duration_at (office_of records all) entry.0.monitor) entry.0.hour front.1 in
      let within : entry.0.hour ≤ LAST_HOUR = let h = front.0 in grind (arith, nat_tests) in
      (record { hour_within = within; registered = has-record entry.0.monitor records duration.0 duration.1 }, all-registered rows all parts.1)

  -- the registered monitor of an observation, where it is of the site and pollutant
  its-monitor : (m : MonitorId) → is_same_site m.site site ≡ true → is_same_pollutant m.pollutant pollutant ≡ true → m ≡ monitor m.poc
  its-monitor m at of =
      let place = same_site m.site site at in
      let what = same_pollutant m.pollutant pollutant of in
      λ i. record { site = place i; pollutant = what i; poc = m.poc }

  module _ (low : FIRST_YEAR ≤ year) where
    -- an observation above a POC is of the next one, or above that
    module _ (after poc : ℕ) (next : pocs_after records site pollutant after ≡ poc ∷ pocs_after records site pollutant poc) where
      next-or-above : (entry : Entry) → IsRegistered entry → stands_above after entry ≡ (of_year poc entry || stands_above poc entry)
      next-or-above entry stands =
          choose (is_same_site m.site site) (is_same_pollutant m.pollutant pollutant) refl refl
          ∙ ap (λ y. ((is_same_site m.site site && is_same_pollutant m.pollutant pollutant) && (m.poc == poc)) && y || stands_above poc entry) (hours-of-year year entry.0.hour low stands.hour_within)
          ∙ ap (λ b. b || stands_above poc entry) (regroup (is_same_site m.site site && is_same_pollutant m.pollutant pollutant && (m.poc == poc)) _ _)
        where
          m : MonitorId
          m = entry.0.monitor

          regroup : (a b c : Bool) → (a && (b && c)) ≡ ((a && b) && c)
          regroup true b c = refl
          regroup false b c = refl

          turned : (n : ℕ) → (poc == n) ≡ (n == poc)
          turned n = grind (arith, nat_tests)

          above : is_same_site m.site site ≡ true → is_same_pollutant m.pollutant pollutant ≡ true → nat_lt after m.poc ≡ ((m.poc == poc) || nat_lt poc m.poc)
          above at of =
              let there : list_any (is_of (monitor m.poc)) records ≡ true = subst (λ k. list_any (is_of k) records ≡ true) (its-monitor m at of) stands.registered in
              sym (pocs-tell site pollutant after m.poc records ∙ ap (λ b. b && nat_lt after m.poc) there)
              ∙ ap (λ (l : List ℕ). list_any (λ q. q == m.poc) l) next
              ∙ (λ i. turned m.poc i || (pocs-tell site pollutant poc m.poc records ∙ ap (λ b. b && nat_lt poc m.poc) there) i)

          spread : (y a b : Bool) → (y && (a || b)) ≡ ((a && y) || (y && b))
          spread true true b = refl
          spread true false b = refl
          spread false true b = refl
          spread false false b = refl

          choose : (s p : Bool) → is_same_site m.site site ≡ s → is_same_pollutant m.pollutant pollutant ≡ p
              → (((s && p) && (year_of (day_of_hour entry.0.hour) == year)) && nat_lt after m.poc)
              ≡ ((((s && p) && (m.poc == poc)) && (year_of (day_of_hour entry.0.hour) == year)) || (((s && p) && (year_of (day_of_hour entry.0.hour) == year)) && nat_lt poc m.poc))
          choose true true at of =
              ap (λ b. (year_of (day_of_hour entry.0.hour) == year) && b) (above at of)
              ∙ spread (year_of (day_of_hour entry.0.hour) == year) (m.poc == poc) (nat_lt poc m.poc)
          choose true false at of = refl
          choose false p at of = refl

      all-next : (rows : List Entry) → AllByRecursion IsRegistered rows → AllByRecursion (λ entry. stands_above after entry ≡ (of_year poc entry || stands_above poc entry)) rows
      all-next [] stand = tt
      all-next (entry ∷ rows) stand = (next-or-above entry stand.0, all-next rows stand.1)

      -- those of the monitor stand before those above it
      poc-decides : (a b h k : ℕ) → nat_lt a b ≡ true → (nat_lt a b || ((a == b) && (nat_lt h k || ((h == k) && false)))) ≡ true
      poc-decides a b h k less = ap (λ c. c || ((a == b) && (nat_lt h k || ((h == k) && false)))) less

      not-below-itself : (n : ℕ) → nat_lt n n ≡ false
      not-below-itself n = grind (arith, nat_tests)

      ranked : (m : MonitorId) (hour : ℕ) → m ≡ monitor m.poc → observation_numbers (record { monitor = m; hour = hour }) ≡ observation_numbers (record { monitor = monitor m.poc; hour = hour })
      ranked m hour is = ap (λ (k : MonitorId). observation_numbers (record { monitor = k; hour = hour })) is

      by-poc : (a b h k : ℕ) → nat_lt a b ≡ true → comes_before (observation_numbers (record { monitor = monitor a; hour = h })) (observation_numbers (record { monitor = monitor b; hour = k })) ≡ true
      by-poc a b h k less =
          rw (number_itself site.state, number_itself site.county, number_itself site.number, number_itself (pollutant_number pollutant), not-below-itself site.state, not-below-itself site.county, not-below-itself site.number, not-below-itself (pollutant_number pollutant))
          (poc-decides a b h k less)

      ordered : (x y : Entry) → of_year poc x ≡ true → stands_above poc y ≡ true → comes_before (observation_rank x) (observation_rank y) ≡ true
      ordered x y first second =
          let x_whole = and_parts _ _ first in
          let x_front = and_parts (is_same_monitor x.0.monitor (monitor poc)) _ x_whole.0 in
          let x_is : x.0.monitor ≡ monitor poc = same_monitor x.0.monitor (monitor poc) x_front.0 in
          let y_whole = and_parts (is_of_year site pollutant year y) (nat_lt poc y.0.monitor.poc) second in
          let y_front = and_parts (is_same_site y.0.monitor.site site && is_same_pollutant y.0.monitor.pollutant pollutant) _ y_whole.0 in
          let y_series = and_parts (is_same_site y.0.monitor.site site) (is_same_pollutant y.0.monitor.pollutant pollutant) y_front.0 in
          let y_is : y.0.monitor ≡ monitor y.0.monitor.poc = its-monitor y.0.monitor y_series.0 y_series.1 in
          let x_rank : observation_rank x ≡ observation_numbers (record { monitor = monitor poc; hour = x.0.hour }) = ap (λ (k : MonitorId). observation_numbers (record { monitor = k; hour = x.0.hour })) x_is in
          (λ i. comes_before (x_rank i) (ranked y.0.monitor y.0.hour y_is i)) ∙ by-poc poc y.0.monitor.poc x.0.hour y.0.hour y_whole.1

      shown-span : (rows : List Entry) → map show (filter (of_year poc) rows) ≡ map (shown_at records (monitor poc)) (map hour_content (filter (of_year poc) rows))
      shown-span [] = refl
      shown-span (entry ∷ rows) = choose (of_year poc entry) refl (shown-span rows)
        where
          choose : (b : Bool) → of_year poc entry ≡ b → map show (filter (of_year poc) rows) ≡ map (shown_at records (monitor poc)) (map hour_content (filter (of_year poc) rows))
              → map show (cond b (entry ∷ filter (of_year poc) rows) (filter (of_year poc) rows)) ≡ map (shown_at records (monitor poc)) (map hour_content (cond b (entry ∷ filter (of_year poc) rows) (filter (of_year poc) rows)))
          choose true holds rest =
              let whole = and_parts _ _ holds in
              let front = and_parts (is_same_monitor entry.0.monitor (monitor poc)) _ whole.0 in
              let is : entry.0.monitor ≡ monitor poc = same_monitor entry.0.monitor (monitor poc) front.0 in
              let key : entry.0 ≡ record { monitor = monitor poc; hour = entry.0.hour } = λ i. record { monitor = is i; hour = entry.0.hour } in
              λ i. record { key = key i; content = entry.1; excluded = excluded records (key i) entry.1.quals } ∷ rest i
          choose false fails rest = rest

      more : (rows : List Entry) → rises observation_rank rows ≡ true → AllByRecursion IsRegistered rows
          → shown_above after rows ≡ map (shown_at records (monitor poc)) (observations_in (monitor poc) (24 * year_first year) (24 * days_in_year year) rows) ++ shown_above poc rows
      more rows rising stand =
          ap (map show)
          (same-tests (stands_above after) (λ entry. of_year poc entry || stands_above poc entry) rows (all-next rows stand)
          ∙ two-parts observation_rank (of_year poc) (stands_above poc) ordered rows rising)
          ∙ map-append show (filter (of_year poc) rows) (filter (stands_above poc) rows)
          ∙ ap (λ (l : List Shown). l ++ shown_above poc rows) (shown-span rows)

    -- none is above the last POC
    module _ (after : ℕ) (last : pocs_after records site pollutant after ≡ []) where
      none-above : (rows : List Entry) → AllByRecursion IsRegistered rows → part_above after rows ≡ []
      none-above [] stand = refl
      none-above (entry ∷ rows) stand = choose (is_of_year site pollutant year entry) refl (none-above rows stand.1)
        where
          choose : (b : Bool) → is_of_year site pollutant year entry ≡ b → part_above after rows ≡ []
              → cond (b && nat_lt after entry.0.monitor.poc) (entry ∷ part_above after rows) (part_above after rows) ≡ []
          choose true holds rest =
              let front = and_parts (is_same_site entry.0.monitor.site site && is_same_pollutant entry.0.monitor.pollutant pollutant) _ holds in
              let series = and_parts (is_same_site entry.0.monitor.site site) (is_same_pollutant entry.0.monitor.pollutant pollutant) front.0 in
              let there : list_any (is_of (monitor entry.0.monitor.poc)) records ≡ true =
              subst (λ k. list_any (is_of k) records ≡ true) (its-monitor entry.0.monitor series.0 series.1) stand.0.registered
              in
              let none : nat_lt after entry.0.monitor.poc ≡ false =
              sym (pocs-tell site pollutant after entry.0.monitor.poc records ∙ ap (λ b. b && nat_lt after entry.0.monitor.poc) there)
              ∙ ap (λ (l : List ℕ). list_any (λ q. q == entry.0.monitor.poc) l) last
              in
              ap (λ b. cond b (entry ∷ part_above after rows) (part_above after rows)) none ∙ rest
          choose false fails rest = rest

    -- all are above none
    all-above : (office : Office) → list_all (fits_records office) records ≡ true → (rows : List Entry) → AllByRecursion IsRegistered rows → part_above 0 rows ≡ filter (is_of_year site pollutant year) rows
    all-above office fits [] stand = refl
    all-above office fits (entry ∷ rows) stand =
        ap (λ b. cond b (entry ∷ part_above 0 rows) (part_above 0 rows)) (and-true (is_of_year site pollutant year entry) (nat_lt 0 entry.0.monitor.poc) (numbered entry.0.monitor office records fits stand.0.registered))
        ∙ ap (λ l. cond (is_of_year site pollutant year entry) (entry ∷ l) l) (all-above office fits rows stand.1)
      where
        and-true : (a b : Bool) → b ≡ true → (a && b) ≡ a
        and-true true b h = h
        and-true false b h = refl

    module _ (rows : List Entry) (valid : IsOffice (office_with records)) (fit : list_all (fits_monitors (office_of records rows)) rows ≡ true) where
      pub shown-start : shown_above 0 rows ≡ shown_of (office_of records rows) site pollutant year
      unfolding shown_of
      shown-start = ap (map show) (all-above (office_with records) valid.records_fit rows (all-registered rows rows fit))

      pub shown-more : rises observation_rank rows ≡ true → (after poc : ℕ) → next_poc records site pollutant after ≡ Some poc
          → shown_above after rows ≡ map (shown_at records (monitor poc)) (observations_in (monitor poc) (24 * year_first year) (24 * days_in_year year) rows) ++ shown_above poc rows
      shown-more rising after poc next =
          more after poc (pocs-next site pollutant records after poc valid.keys_rise.records next) rows rising (all-registered rows rows fit)

      pub shown-end : (after : ℕ) → next_poc records site pollutant after ≡ None → shown_above after rows ≡ []
      shown-end after last = ap (map show) (none-above after (pocs-end site pollutant records after last) rows (all-registered rows rows fit))
