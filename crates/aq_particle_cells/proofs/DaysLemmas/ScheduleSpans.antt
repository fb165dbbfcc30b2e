-- The days that one schedule decides: from its first day to the day on which it is found in force.
use Rattle.std.proofs.Common.{◌≡◌, ℕ, ◌+◌, ◌-◌, ◌<◌, ◌≤◌, Bool, true, false, cond, ◌&&◌, List, [], ◌∷◌, fold, refl, ap, sym, ◌∙◌, arith}
use Rattle.std.specs.Prelude.{Option, Some, None, count_by, filter_map, nat_le, nat_lt}
use Rattle.std.specs.List.{cons_option, range_with_len}
use Rattle.std.specs.Option.{option_map_or}
use Rattle.std.proofs.lemmas.Bool.{false≢true}
use Rattle.std.proofs.lemmas.Bool.Decides.{nat_tests}
use Rattle.std.proofs.lemmas.List.Sums.{sum_by-append}
use Rattle.aq_base.specs.Site.{Site}
use Rattle.aq_base.specs.declared.monitor.Pollutant.{Pollutant}
use Rattle.aq_base.specs.declared.office.OfficeRecord.{OfficeRecord}
use Rattle.aq_base.specs.declared.office.OfficeRecord.TheVariants.{Schedule as ScheduleRecord}
use Rattle.aq_rules.specs.Lists.{later}
use Rattle.aq_rules.specs.Office.Monitors.{is_same_site, is_same_pollutant}
use Rattle.aq_rules.specs.Office.Schedule.{Schedule, schedule_by, asks_for, is_scheduled}
use Rattle.aq_rules.proofs.Ranges.{range-agree}
use Rattle.aq_registry.specs.Registry.{schedule_on}
use Rattle.aq_agg.proofs.ItemsOfDays.{range-joined}
use Rattle.aq_particle_cells.proofs.DaysLemmas.ItemCounts.{count_cons}

-- ---- the later of two schedules

-- whether a schedule begins after a day
abbrev begins_after : ℕ → Option Schedule → Bool
begins_after day None = false
begins_after day (Some s) = nat_lt day s.from

abbrev taken : Option Schedule → Schedule → Option Schedule
taken before s = later (λ (t : Schedule). t.from) before s

not_after : (from day : ℕ) → nat_le from day ≡ true → nat_lt day from ≡ false
not_after from day h = grind (arith, nat_tests)

after_it : (from day : ℕ) → nat_le from day ≡ false → nat_lt day from ≡ true
after_it from day h = grind (arith, nat_tests)

by_later : (from other day : ℕ) → nat_le from other ≡ true → other ≤ day → nat_le from day ≡ true
by_later from other day h before = grind (arith, nat_tests, before)

not_later : (day from : ℕ) → nat_lt day from ≡ false → from ≤ day
not_later day from h = grind (arith, nat_tests)

begun_by : (day from : ℕ) → from ≤ day → nat_lt day from ≡ false
begun_by day from h = grind (arith, nat_tests)

-- what begins after the day stays, or gives way to what begins later still
after-first : (day : ℕ) (before : Option Schedule) (s : Schedule) → begins_after day (taken before s) ≡ false → nat_lt day s.from ≡ false
after-first day None s h = h
after-first day (Some t) s h = by (nat_lt s.from t.from) refl h
  where
    by : (b : Bool) → nat_lt s.from t.from ≡ b → begins_after day (Some (cond b t s)) ≡ false → nat_lt day s.from ≡ false
    by true less h = grind (arith, nat_tests)
    by false less h = h

after-second : (day : ℕ) (before : Option Schedule) (s : Schedule) → begins_after day (taken before s) ≡ false → begins_after day before ≡ false
after-second day None s h = refl
after-second day (Some t) s h = by (nat_lt s.from t.from) refl h
  where
    by : (b : Bool) → nat_lt s.from t.from ≡ b → begins_after day (Some (cond b t s)) ≡ false → nat_lt day t.from ≡ false
    by true less h = h
    by false less h = grind (arith, nat_tests)

neither : (day : ℕ) (before : Option Schedule) (s : Schedule) → begins_after day before ≡ false → nat_lt day s.from ≡ false → begins_after day (taken before s) ≡ false
neither day None s h k = k
neither day (Some t) s h k = by (nat_lt s.from t.from)
  where
    by : (b : Bool) → begins_after day (Some (cond b t s)) ≡ false
    by true = h
    by false = k

module _ (site : Site) (pollutant : Pollutant) where
  -- the schedules that begin by a day, onto one
  abbrev latest_from : ℕ → Option Schedule → List OfficeRecord → Option Schedule
  latest_from day start records = fold taken start (filter_map (schedule_by site pollutant day) records)

  -- the schedule in force on a day has begun by then
  begun : (day : ℕ) (records : List OfficeRecord) (a : Option Schedule) → begins_after day a ≡ false → begins_after day (latest_from day a records) ≡ false
  begun day [] a h = h
  begun day (ScheduleRecord at p from interval anchor ∷ records) a h =
      by (λ c k. begun day records c k) (is_same_site at site && is_same_pollutant p pollutant) (nat_le from day) refl
    where
      s : Schedule
      s = record { from = from; interval = interval; anchor = anchor }

      by : ((c : Option Schedule) → begins_after day c ≡ false → begins_after day (latest_from day c records) ≡ false) → (m x : Bool) → nat_le from day ≡ x
          → begins_after day (fold taken a (cons_option (cond (m && x) (Some s) None) (filter_map (schedule_by site pollutant day) records))) ≡ false
      by on false x _ = on a h
      by on true true soon = on (taken a s) (neither day a s h (not_after from day soon))
      by on true false _ = on a h
  begun day (r ∷ records) a h = begun day records a h

  -- the schedule in force on a later day is that of the day, if it does not begin after it
  same-latest : (other day : ℕ) → other ≤ day → (records : List OfficeRecord) (a b : Option Schedule) → (begins_after other a ≡ false → a ≡ b)
      → begins_after other (latest_from day a records) ≡ false → latest_from day a records ≡ latest_from other b records
  same-latest other day before [] a b same h = same h
  same-latest other day before (ScheduleRecord at p from interval anchor ∷ records) a b same h =
      by (λ c d. same-latest other day before records c d) (is_same_site at site && is_same_pollutant p pollutant) (nat_le from day) (nat_le from other) refl refl h
    where
      s : Schedule
      s = record { from = from; interval = interval; anchor = anchor }

      by : ((c d : Option Schedule) → (begins_after other c ≡ false → c ≡ d) → begins_after other (latest_from day c records) ≡ false → latest_from day c records ≡ latest_from other d records)
          → (m x y : Bool) → nat_le from day ≡ x → nat_le from other ≡ y
          → begins_after other (fold taken a (cons_option (cond (m && x) (Some s) None) (filter_map (schedule_by site pollutant day) records))) ≡ false
          → fold taken a (cons_option (cond (m && x) (Some s) None) (filter_map (schedule_by site pollutant day) records))
          ≡ fold taken b (cons_option (cond (m && y) (Some s) None) (filter_map (schedule_by site pollutant other) records))
      by on false x y _ _ h = on a b same h
      by on true true true _ _ h = on (taken a s) (taken b s) (λ k. ap (λ o. taken o s) (same (after-second other a s k))) h
      by on true true false _ late h = on (taken a s) b (λ k. absurd (false≢true (sym (after-first other a s k) ∙ after_it from other late))) h
      by on true false true late soon h = absurd (false≢true (sym late ∙ by_later from other day soon before))
      by on true false false _ _ h = on a b same h
  same-latest other day before (r ∷ records) a b same h = same-latest other day before records a b same h

  module _ (records : List OfficeRecord) (day : ℕ) where
    abbrev asked : ℕ → Bool
    asked d = is_scheduled records site pollutant d

    pub begun-schedule : (s : Schedule) → schedule_on records site pollutant day ≡ Some s → s.from ≤ day
    unfolding schedule_on
    begun-schedule s is = not_later day s.from (sym (ap (begins_after day) is) ∙ begun day records None refl)

    -- a day on which the schedule in force on a later day had begun
    pub asked-by : (s : Schedule) → schedule_on records site pollutant day ≡ Some s → (other : ℕ) → s.from ≤ other → other ≤ day → asked other ≡ asks_for other s
    unfolding schedule_on is_scheduled
    asked-by s is other from before =
        ap (λ (o : Option Schedule). option_map_or (asks_for other) o false)
        (sym (same-latest other day before records None None (λ _. refl) (ap (begins_after other) is ∙ begun_by other s.from from)) ∙ is)

    -- before the first schedule no day is scheduled
    pub none-asked : schedule_on records site pollutant day ≡ None → (other : ℕ) → other ≤ day → asked other ≡ false
    unfolding schedule_on is_scheduled
    none-asked is other before =
        ap (λ (o : Option Schedule). option_map_or (asks_for other) o false)
        (sym (same-latest other day before records None None (λ _. refl) (ap (begins_after other) is)) ∙ is)

-- ---- counts over days

count-range_same : (p q : ℕ → Bool) (a n : ℕ) → ((d : ℕ) → a ≤ d → d < a + n → p d ≡ q d) → count_by p (range_with_len a n) ≡ count_by q (range_with_len a n)
count-range_same p q a n same = range-agree (λ (f : ℕ → Bool) days. count_by f days) (λ b d rest. cond b 1 0 + rest) (λ f d days. count_cons f d days) (λ f g. refl) p q a n same

count-nothing : (days : List ℕ) → count_by (λ (d : ℕ). false) days ≡ 0
count-nothing [] = refl
count-nothing (d ∷ days) =
    let first = count_cons (λ k. false) d days in
    omega (arith, first, count-nothing days)

-- the days from one on and before an end
abbrev days_to : ℕ → ℕ → List ℕ
days_to first end = range_with_len first (end - first)

pub count-parts : (p : ℕ → Bool) (first start end : ℕ) → first ≤ start → start ≤ end → count_by p (days_to first start) + count_by p (days_to start end) ≡ count_by p (days_to first end)
count-parts p first start end low high =
    let all : (start - first) + (end - start) ≡ end - first = omega (arith, low, high) in
    let next : first + (start - first) ≡ start = omega (arith, low) in
    sym (ap (λ n. count_by p (range_with_len first n)) (sym all) ∙ ap (count_by p) (range-joined first (start - first) (end - start))
    ∙ sum_by-append (λ (k : ℕ). cond (p k) 1 0) (days_to first start) (range_with_len (first + (start - first)) (end - start))
    ∙ ap (λ k. count_by p (days_to first start) + count_by p (range_with_len k (end - start))) next)

module _ (records : List OfficeRecord) (site : Site) (pollutant : Pollutant) (first end day : ℕ) (some : first < end) (last : day + 1 ≡ end) where
  abbrev counted : ℕ → ℕ → ℕ
  counted a b = count_by (is_scheduled records site pollutant) (days_to a b)

  -- the days before an end, by the schedule in force on the last of them
  pub counted-by : (s : Schedule) (start : ℕ) → schedule_on records site pollutant day ≡ Some s → first ≤ start → s.from ≤ start → start ≤ end
      → counted first start + count_by (λ d. asks_for d s) (days_to start end) ≡ counted first end
  counted-by s start is low started high =
      ap (λ n. counted first start + n)
      (sym (count-range_same (is_scheduled records site pollutant) (λ d. asks_for d s) start (end - start)
      (λ d from before. asked-by site pollutant records day s is d (omega (arith, started, from)) (omega (arith, before, high, last)))))
      ∙ count-parts (is_scheduled records site pollutant) first start end low high

  pub none-counted : schedule_on records site pollutant day ≡ None → counted first end ≡ 0
  none-counted is =
      count-range_same (is_scheduled records site pollutant) (λ d. false) first (end - first)
      (λ d from before. none-asked site pollutant records day is d (omega (arith, before, some, last)))
      ∙ count-nothing (days_to first end)
