-- A monitor's span of a day, put into the states of the day's hours one observation after another.
use Rattle.std.proofs.Common.{◌≡◌, ℕ, ◌+◌, ◌*◌, ◌<◌, ◌≤◌, Bool, true, false, cond, ◌&&◌, ◌==◌, Some, None, Option, List, [], ◌∷◌, length, get_or, set, refl, ap, sym, subst, ◌∙◌, arith}
use Rattle.std.specs.Prelude.{nat_lt, nat_le, filter, map, option_map, IsTrue}
use Rattle.std.specs.List.{AllByRecursion}
use Rattle.std.specs.Option.{option_and_then}
use Rattle.std.proofs.lemmas.Bool.{and_parts}
use Rattle.std.proofs.lemmas.Bool.Decides.{nat_tests}
use Rattle.std.proofs.lemmas.Grind.{get_or-set_at}
use Rattle.std.proofs.lemmas.List.{get_or-set_other}
use Rattle.aq_base.specs.declared.monitor.MonitorId.{MonitorId}
use Rattle.aq_base.specs.declared.observation.ObsKey.{ObsKey}
use Rattle.aq_base.specs.declared.observation.Observation.{Observation}
use Rattle.aq_base.specs.declared.office.OfficeRecord.{OfficeRecord}
use Rattle.aq_rules.specs.Office.Office.{observation_rank, rises}
use Rattle.aq_rules.specs.Office.Monitors.{is_same_monitor}
use Rattle.aq_rules.specs.Ozone.SiteHour.{Cell}
use Rattle.aq_shelf.specs.Standing.{content_at, hour_content, in_span, observations_in}
use Rattle.aq_series.specs.declared.day_hours.HourState.{HourState}
use Rattle.aq_series.specs.DayStates.{Adds, AddsValue, standing_at, stood_at}
use Rattle.aq_series.specs.Samples.{cell_of}
use Rattle.aq_series.proofs.Rising.{Later, Rising, found, found_first, none_later}
use Rattle.aq_series.proofs.Spans.{Item, hour_of, span-at}

-- ---- the hours of a span

abbrev pub Within : ℕ → ℕ → List Item → Type 0
Within low high items = AllByRecursion (λ (item : Item). (low ≤ item.0) × (item.0 < high)) items

pub span-within : (monitor : MonitorId) (from hours : ℕ) (rows : List (ObsKey × Observation)) → Within from (from + hours) (observations_in monitor from hours rows)
span-within monitor from hours [] = tt
span-within monitor from hours (row ∷ rows) = by_test (span-within monitor from hours rows) (in_span monitor from hours row) refl
  where
    by_test : Within from (from + hours) (observations_in monitor from hours rows) → (b : Bool) → in_span monitor from hours row ≡ b
        → Within from (from + hours) (map hour_content (cond b (row ∷ filter (in_span monitor from hours) rows) (filter (in_span monitor from hours) rows)))
    by_test rest true is =
        let outer = and_parts (is_same_monitor row.0.monitor monitor && nat_le from row.0.hour) (nat_lt row.0.hour (from + hours)) is in
        let low = (and_parts (is_same_monitor row.0.monitor monitor) (nat_le from row.0.hour) outer.0).1 in
        let high = outer.1 in
        ((grind (arith, nat_tests), grind (arith, nat_tests)), rest)
    by_test rest false is = rest

few_later : (n high : ℕ) (items : List Item) → n < high → Later hour_of n items → Rising hour_of items → Within n high items → n + length items < high
few_later n high [] some later rising within = omega (arith, some)
few_later n high (item ∷ items) some later rising within =
    let rest = few_later item.0 high items within.0.1 rising.0 rising.1 (from_on items rising.0 within.1) in
    omega (arith, rest, later.0)
  where
    from_on : (is : List Item) → Later hour_of item.0 is → Within n high is → Within item.0 high is
    from_on [] later within = tt
    from_on (i ∷ is) later within = ((omega (arith, later.0), within.0.1), from_on is later.1 within.1)

pub few_within : (low hours : ℕ) (items : List Item) → Rising hour_of items → Within low (low + hours) items → length items ≤ hours
few_within low hours [] rising within = omega arith
few_within low hours (item ∷ items) rising within =
    let rest = few_later item.0 (low + hours) items within.0.1 rising.0 rising.1 (from_on items rising.0 within.1) in
    omega (arith, rest, within.0.0)
  where
    from_on : (is : List Item) → Later hour_of item.0 is → Within low (low + hours) is → Within item.0 (low + hours) is
    from_on [] later within = tt
    from_on (i ∷ is) later within = ((omega (arith, later.0), within.0.1), from_on is later.1 within.1)

-- ---- the states

same_or_not : (m n : ℕ) → (m == n) ≡ true → m ≡ n
same_or_not m n h = grind (arith, nat_tests)

apart : (m n : ℕ) → (m == n) ≡ false → m ≡ n → ⊥
apart m n h e = grind (arith, nat_tests)

module _ (records : List OfficeRecord) (rows : List (ObsKey × Observation)) (monitor : MonitorId) (day : ℕ) where
  -- what is still to be read for an hour, and its state before and now
  abbrev pub Read : ℕ → Option Item → HourState → HourState → Type 0
  Read k None before now = Adds monitor.poc (stood_at records rows (standing_at monitor day k)) before now
  Read k (Some item) before now = (now ≡ before) × (content_at (standing_at monitor day k) rows ≡ Some item.1)

  abbrev pub Reads : List Item → List HourState → List HourState → Type 0
  Reads items before now = (k : ℕ) (d : HourState) → k < 192 → Read k (found hour_of (24 * day + k) items) (get_or before k d) (get_or now k d)

  -- what a span still has to give
  abbrev pub Ahead : List HourState → List HourState → List Item → Type 0
  Ahead before now items = Rising hour_of items × Within (24 * day) (24 * day + 192) items × Reads items before now

  unread : (k : ℕ) (state : HourState) (o : Option Item) → option_map (λ (i : Item). i.1) o ≡ content_at (standing_at monitor day k) rows → Read k o state state
  unread k state None is =
      subst (λ (content : Option Observation). Adds monitor.poc (option_and_then (cell_of records (standing_at monitor day k)) content) state state) is refl
  unread k state (Some item) is = (refl, sym is)

  pub reads-start : IsTrue (rises observation_rank rows) → (states : List HourState) → Reads (observations_in monitor (24 * day) 192 rows) states states
  reads-start rising states k d within =
      unread k (get_or states k d) (found hour_of (24 * day + k) (observations_in monitor (24 * day) 192 rows))
      (span-at monitor (24 * day) 192 (24 * day + k) (omega arith) (omega (arith, within)) rows rising)

  module _ (item : Item) (items : List Item) (rising : Rising hour_of (item ∷ items)) (before now : List HourState) (reads : Reads (item ∷ items) before now) where
    -- the hour of the observation, and another one
    here : (k : ℕ) (d : HourState) → k < 192 → item.0 ≡ 24 * day + k → (get_or now k d ≡ get_or before k d) × (content_at (standing_at monitor day k) rows ≡ Some item.1)
    here k d within is =
        subst (λ (o : Option Item). Read k o (get_or before k d) (get_or now k d)) (ap (λ (hour : ℕ). found hour_of hour (item ∷ items)) (sym is) ∙ found_first hour_of item items) (reads k d within)

    elsewhere : (k : ℕ) (d : HourState) → k < 192 → (item.0 == 24 * day + k) ≡ false → Read k (found hour_of (24 * day + k) items) (get_or before k d) (get_or now k d)
    elsewhere k d within other =
        subst (λ (o : Option Item). Read k o (get_or before k d) (get_or now k d)) (ap (λ (b : Bool). cond b (Some item) (found hour_of (24 * day + k) items)) other) (reads k d within)

    -- no further one has its hour
    none_more : (k : ℕ) → item.0 ≡ 24 * day + k → found hour_of (24 * day + k) items ≡ None
    none_more k is = none_later hour_of (24 * day + k) item.0 items (omega (arith, is)) rising.0

    stood : (k : ℕ) (d : HourState) → k < 192 → item.0 ≡ 24 * day + k → stood_at records rows (standing_at monitor day k) ≡ cell_of records (record { monitor = monitor; hour = item.0 }) item.1
    stood k d within is =
        ap (λ (content : Option Observation). option_and_then (cell_of records (standing_at monitor day k)) content) (here k d within is).1
        ∙ (λ i. cell_of records (record { monitor = monitor; hour = sym is i }) item.1)

    pub unchanged_yet : (k : ℕ) (d : HourState) → k < 192 → item.0 ≡ 24 * day + k → get_or now k d ≡ get_or before k d
    unchanged_yet k d within is = (here k d within is).0

    -- an observation without a value
    pub reads-past : cell_of records (record { monitor = monitor; hour = item.0 }) item.1 ≡ None → Reads items before now
    reads-past none k d within = by_test (item.0 == 24 * day + k) refl
      where
        by_test : (b : Bool) → (item.0 == 24 * day + k) ≡ b → Read k (found hour_of (24 * day + k) items) (get_or before k d) (get_or now k d)
        by_test false other = elsewhere k d within other
        by_test true same =
            let is = same_or_not item.0 (24 * day + k) same in
            subst (λ (o : Option Item). Read k o (get_or before k d) (get_or now k d)) (sym (none_more k is))
            (subst (λ (o : Option Cell). Adds monitor.poc o (get_or before k d) (get_or now k d)) (sym (stood k d within is ∙ none)) (here k d within is).0)

    -- one with a value, which is put into the state of its hour
    pub reads-more : (cell : Cell) (place : ℕ) (after : HourState) → cell_of records (record { monitor = monitor; hour = item.0 }) item.1 ≡ Some cell → item.0 ≡ 24 * day + place → place < length now
        → ((d : HourState) → AddsValue monitor.poc cell (get_or now place d) after) → Reads items before (set now place after)
    reads-more cell place after given at many adds k d within = by_test (item.0 == 24 * day + k) refl
      where
        by_test : (b : Bool) → (item.0 == 24 * day + k) ≡ b → Read k (found hour_of (24 * day + k) items) (get_or before k d) (get_or (set now place after) k d)
        by_test false other =
            subst (λ (state : HourState). Read k (found hour_of (24 * day + k) items) (get_or before k d) state)
            (sym (get_or-set_other now place k after d (λ e. apart item.0 (24 * day + k) other (omega (arith, at, e)))))
            (elsewhere k d within other)
        by_test true same =
            let is = same_or_not item.0 (24 * day + k) same in
            let there : k ≡ place = omega (arith, is, at) in
            subst (λ (o : Option Item). Read k o (get_or before k d) (get_or (set now place after) k d)) (sym (none_more k is))
            (subst (λ (o : Option Cell). Adds monitor.poc o (get_or before k d) (get_or (set now place after) k d)) (sym (stood k d within is ∙ given))
            (subst (λ (state : HourState). AddsValue monitor.poc cell (get_or before k d) state) (sym (get_or-set_at now place k after d there many))
            (subst (λ (state : HourState). AddsValue monitor.poc cell state after) (ap (λ (n : ℕ). get_or now n d) (sym there) ∙ (here k d within is).0) (adds d))))
