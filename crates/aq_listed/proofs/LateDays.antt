-- The last day of a monitor, of what stands from a day on.
use Rattle.std.proofs.Common.{◌≡◌, ℕ, ◌+◌, ◌-◌, ◌*◌, ◌/◌, ◌<◌, ◌≤◌, suc, Bool, true, false, cond, ◌&&◌, Option, Some, None, List, [], ◌∷◌, length, map, refl, ap, sym, ◌∙◌, arith}
use Rattle.std.specs.Prelude.{filter, max, nat_le, nat_lt, option_map, slice_get}
use Rattle.std.specs.List.{AllByRecursion}
use Rattle.std.proofs.lemmas.Bool.Decides.{nat_tests}
use Rattle.aq_base.specs.declared.day.TheConstants.{LAST_HOUR}
use Rattle.aq_base.specs.declared.monitor.MonitorId.{MonitorId}
use Rattle.aq_base.specs.declared.observation.ObsKey.{ObsKey}
use Rattle.aq_base.specs.declared.observation.Observation.{Observation}
use Rattle.aq_base.specs.declared.office.OfficeRecord.{OfficeRecord}
use Rattle.aq_rules.specs.Listed.Monitors.{ListedMonitor, RegisteredMonitor, listed_monitor}
use Rattle.aq_rules.specs.Office.Monitors.{is_same_monitor}
use Rattle.aq_series.specs.OfficeView.{office_of}
use Rattle.aq_series.proofs.Rising.{Later, Rising}
use Rattle.aq_series.proofs.Spans.{Item, hour_of, span-rises}
use Rattle.aq_shelf.specs.Standing.{IsShelf, IsStanding, hour_content, in_span, observations_in}
use Rattle.aq_listed.specs.LastDay.{first_hour, later}
use Rattle.aq_listed.specs.MonitorDays.{day_of_item, first_day, last_day}
use Rattle.aq_listed.proofs.MonitorRows.{row_of_span}

-- ---- the last day of a list that rises, from a day on

last-cons : (x y : Item) (ys : List Item) → last_day (x ∷ y ∷ ys) ≡ last_day (y ∷ ys)
last-cons x y ys =
    let one_less : length (x ∷ y ∷ ys) - 1 ≡ suc (length (y ∷ ys) - 1) = omega arith in
    ap (λ (n : ℕ). option_map day_of_item (slice_get (x ∷ y ∷ ys) n)) one_less

module _ (day : ℕ) where
  abbrev is_late : Item → Bool
  is_late item = nat_le (24 * day) item.0

  all-late : (hour : ℕ) (xs : List Item) → 24 * day ≤ hour → Later hour_of hour xs → filter is_late xs ≡ xs
  all-late hour [] from later_ones = refl
  all-late hour (x ∷ xs) from later_ones =
      let one : is_late x ≡ true = grind (arith, nat_tests, from, later_ones.0) in
      ap (λ (b : Bool). cond b (x ∷ filter is_late xs) (filter is_late xs)) one
      ∙ ap (λ (l : List Item). x ∷ l) (all-late hour xs from later_ones.1)

  early-first : (x : Item) (xs : List Item) → is_late x ≡ false → later (Some day) (last_day (x ∷ xs)) ≡ later (Some day) (last_day xs)
  early-first x [] early =
      let before : x.0 < 24 * day = grind (arith, nat_tests, early) in
      let same : max day (x.0 / 24) ≡ day = omega (arith, before) in
      ap Some same
  early-first x (y ∷ ys) early = ap (later (Some day)) (last-cons x y ys)

  late-last : (xs : List Item) → Rising hour_of xs → later (Some day) (last_day (filter is_late xs)) ≡ later (Some day) (last_day xs)
  late-last [] rises = refl
  late-last (x ∷ xs) rises = choose (is_late x) refl (late-last xs rises.1)
    where
      choose : (b : Bool) → is_late x ≡ b → later (Some day) (last_day (filter is_late xs)) ≡ later (Some day) (last_day xs) → later (Some day) (last_day (cond b (x ∷ filter is_late xs) (filter is_late xs))) ≡ later (Some day) (last_day (x ∷ xs))
      choose true late rest =
          let from : 24 * day ≤ x.0 = grind (arith, nat_tests, late) in
          ap (λ (l : List Item). later (Some day) (last_day (x ∷ l))) (all-late x.0 xs from rises.0)
      choose false early rest = rest ∙ sym (early-first x xs early)

-- ---- a span from a day on is what is late in the span over all hours

module _ (monitor : MonitorId) (day : ℕ) (within : 24 * day ≤ LAST_HOUR + 1) where
  same-test : (hour : ℕ) → hour ≤ LAST_HOUR
      → (nat_le (24 * day) hour && nat_lt hour (24 * day + (LAST_HOUR + 1 - 24 * day))) ≡ nat_le (24 * day) hour
  same-test hour standing = grind (arith, nat_tests, within, standing)

  all-hours : (hour : ℕ) → hour ≤ LAST_HOUR → (nat_le 0 hour && nat_lt hour (0 + (LAST_HOUR + 1))) ≡ true
  all-hours hour standing = grind (arith, nat_tests, standing)

  by-hour :
      (item : Item) (b : Bool) (late all : List Item) → late ≡ filter (is_late day) all
      → cond b (item ∷ late) late ≡ cond b (item ∷ filter (is_late day) all) (filter (is_late day) all)
  by-hour item b late all same = ap (λ (l : List Item). cond b (item ∷ l) l) same

  mapped : (row : ObsKey × Observation) (b : Bool) (rows : List (ObsKey × Observation)) → map hour_content (cond b (row ∷ rows) rows) ≡ cond b (hour_content row ∷ map hour_content rows) (map hour_content rows)
  mapped row true rows = refl
  mapped row false rows = refl

  late-step :
      (row : ObsKey × Observation) (b : Bool) (late all : List (ObsKey × Observation)) → row.0.hour ≤ LAST_HOUR
      → map hour_content late ≡ filter (is_late day) (map hour_content all)
      → map hour_content (cond (b && nat_le (24 * day) row.0.hour && nat_lt row.0.hour (24 * day + (LAST_HOUR + 1 - 24 * day))) (row ∷ late) late)
      ≡ filter (is_late day) (map hour_content (cond (b && nat_le 0 row.0.hour && nat_lt row.0.hour (0 + (LAST_HOUR + 1))) (row ∷ all) all))
  late-step row true late all standing rest =
      ap (λ (b : Bool). map hour_content (cond b (row ∷ late) late)) (same-test row.0.hour standing)
      ∙ mapped row (nat_le (24 * day) row.0.hour) late
      ∙ by-hour (hour_content row) (nat_le (24 * day) row.0.hour) (map hour_content late) (map hour_content all) rest
      ∙ sym (ap (λ (b : Bool). filter (is_late day) (map hour_content (cond b (row ∷ all) all))) (all-hours row.0.hour standing))
  late-step row false late all standing rest = rest

  late-span :
      (rows : List (ObsKey × Observation)) → AllByRecursion IsStanding rows
      → observations_in monitor (24 * day) (LAST_HOUR + 1 - 24 * day) rows ≡ filter (is_late day) (observations_in monitor 0 (LAST_HOUR + 1) rows)
  late-span [] standing = refl
  late-span (row ∷ rows) standing =
      late-step row (is_same_monitor row.0.monitor monitor) (filter (in_span monitor (24 * day) (LAST_HOUR + 1 - 24 * day)) rows) (filter (in_span monitor 0 (LAST_HOUR + 1)) rows) standing.0.0
      (late-span rows standing.1)

-- ---- the last day of a monitor as it is listed

module _ (rows : List (ObsKey × Observation)) (monitor : MonitorId) (shelf : IsShelf rows) where
  abbrev all-standing : List Item
  all-standing = observations_in monitor 0 (LAST_HOUR + 1) rows

  listed-last : (records : List OfficeRecord) (registered : RegisteredMonitor) → registered.id ≡ monitor → last_day all-standing ≡ (listed_monitor (office_of records rows) registered).last
  listed-last records registered same =
      ap (λ (row : ListedMonitor). row.last)
      (row_of_span rows monitor 0 (LAST_HOUR + 1) all-standing shelf refl records registered (length all-standing) (first_day all-standing) (last_day all-standing) same refl refl refl refl refl)

  since : (day : Option ℕ) (from : ℕ) → from ≤ LAST_HOUR → from ≡ first_hour day
      → later day (last_day (observations_in monitor from (LAST_HOUR + 1 - from) rows)) ≡ later day (last_day all-standing)
  since None from within is = ap (λ (n : ℕ). last_day (observations_in monitor n (LAST_HOUR + 1 - n) rows)) is
  since (Some day) from within is =
      ap (λ (n : ℕ). later (Some day) (last_day (observations_in monitor n (LAST_HOUR + 1 - n) rows))) is
      ∙ ap (λ (l : List Item). later (Some day) (last_day l)) (late-span monitor day (omega (arith, within, is)) rows shelf.standing)
      ∙ late-last day all-standing (span-rises monitor 0 (LAST_HOUR + 1) rows shelf.rising)

  pub later-since :
      (day late : Option ℕ) (from number : ℕ) (span : List Item) → number ≤ LAST_HOUR → number ≡ from → from ≡ first_hour day
      → span ≡ observations_in monitor from (LAST_HOUR + 1 - number) rows → late ≡ last_day span
      → (records : List OfficeRecord) (registered : RegisteredMonitor) → registered.id ≡ monitor
      → later day late ≡ later day (listed_monitor (office_of records rows) registered).last
  later-since day late from number span within numbered first is last records registered same =
      ap (later day) (last ∙ ap last_day (is ∙ ap (λ (n : ℕ). observations_in monitor from (LAST_HOUR + 1 - n) rows) numbered))
      ∙ since day from (omega (arith, within, numbered)) first
      ∙ ap (later day) (listed-last records registered same)
