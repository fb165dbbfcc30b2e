-- What a walk over a monitor's span of a month counts is what the month counts.
use Rattle.std.proofs.Common.{◌≡◌, ℕ, ◌+◌, ◌-◌, ◌*◌, ◌/◌, ◌<◌, ◌≤◌, Bool, true, false, cond, ◌&&◌, ◌==◌, Some, None, Option, List, [], ◌∷◌, length, map, refl, ap, sym, ◌∙◌, arith, nat_le, nat_lt}
use Rattle.std.specs.Prelude.{count_by, filter, not, is_some}
use Rattle.std.specs.List.{AllByRecursion, list_any, range_with_len}
use Rattle.std.specs.Option.{option_map_or}
use Rattle.std.proofs.lemmas.Bool.{and_parts}
use Rattle.std.proofs.lemmas.Bool.Decides.{nat_tests}
use Rattle.aq_base.specs.Calendar.{day_number, days_in_month, day_of_hour, month_of, year_of}
use Rattle.aq_base.specs.declared.day.TheConstants.{LAST_DAY, LAST_HOUR}
use Rattle.aq_base.specs.declared.monitor.Duration.{Duration}
use Rattle.aq_base.specs.declared.monitor.MonitorId.{MonitorId}
use Rattle.aq_base.specs.declared.observation.ObsKey.{ObsKey}
use Rattle.aq_base.specs.declared.observation.Observation.{Observation}
use Rattle.aq_rules.specs.Listed.Completeness.{MonthCounts, counts_with, due_hours, is_extra, is_null_in, is_valued_in, standing_in}
use Rattle.aq_rules.specs.Listed.Places.{days_of_month, is_of_monitor, standing_at}
use Rattle.aq_rules.specs.Office.Monitors.{is_same_monitor}
use Rattle.aq_rules.specs.Office.Office.{Office}
use Rattle.aq_registry.specs.Registry.{office_with}
use Rattle.aq_shelf.specs.Standing.{IsShelf, IsStanding, hour_content, in_span, observations_in}
use Rattle.aq_series.proofs.DaySteps.{Within, span-within}
use Rattle.aq_series.proofs.Spans.{Item, hour_of, span-at, span-rises}
use Rattle.aq_series.proofs.Rising.{Rising}
use Rattle.aq_listed.specs.DueSamples.{is_beside, is_due, is_due_with, is_null, is_valued, stands}
use Rattle.aq_listed.proofs.CountedOnce.{all-of, all-on, count-cons, count-not, count-same, counted-once, holds_at}
use Rattle.aq_listed.proofs.DueHours.{Between, due, due-is, due-records, due-rises, due-within}
use Rattle.aq_listed.proofs.MonthDays.{IsMonth, days_of_month_are, is_in_month}

turned : (a b : Bool) → (a && b) ≡ (b && a)
turned true true = refl
turned true false = refl
turned false true = refl
turned false false = refl

some_stands : (o : Option Observation) → is_some o ≡ option_map_or stands o false
some_stands None = refl
some_stands (Some content) = refl

abbrev pub as_counts : ℕ → ℕ → ℕ → ℕ → ℕ → MonthCounts
as_counts due valued null missing extra = record { due = due; valued = valued; null = null; missing = missing; extra = extra }

day_low : (f x : ℕ) → nat_le f (x / 24) ≡ nat_le (24 * f) x
day_low f x = grind (arith, nat_tests)

day_high : (f d x : ℕ) → nat_lt (x / 24) (f + d) ≡ nat_lt x (24 * f + 24 * d)
day_high f d x = grind (arith, nat_tests)

-- ---- the samples that stand where nothing is due

module _ (monitor : MonitorId) (year month from hours : ℕ) (hours_due : List ℕ) (test : ℕ → Bool) where
  abbrev beside : Item → Bool
  beside item = is_some item.1.value && not (test item.0)

  abbrev extra : ObsKey × Observation → Bool
  extra row = is_extra hours_due year month row

  module _ (tells : (x : ℕ) → x ≤ LAST_HOUR → ((year_of (day_of_hour x) == year) && (month_of (day_of_hour x) == month)) ≡ (nat_le from x && nat_lt x (from + hours))) (is : (x : ℕ) → from ≤ x → x < from + hours → list_any (λ h. h == x) hours_due ≡ test x) where
    inside : (x : ℕ) → (nat_le from x && nat_lt x (from + hours)) ≡ true → (from ≤ x) × (x < from + hours)
    inside x h =
        let parts = and_parts (nat_le from x) (nat_lt x (from + hours)) h in
        let low = parts.0 in
        let high = parts.1 in
        (grind (arith, nat_tests), grind (arith, nat_tests))

    and_true : (b : Bool) → (b && true) ≡ b
    and_true true = refl
    and_true false = refl

    and_false : (b c : Bool) → ((b && false) && c) ≡ false
    and_false true c = refl
    and_false false c = refl

    one-there : (row : ObsKey × Observation) → row.0.hour ≤ LAST_HOUR → (nat_le from row.0.hour && nat_lt row.0.hour (from + hours)) ≡ true → extra row ≡ beside (hour_content row)
    one-there row last t =
        let x = row.0.hour in
        let within = inside x t in
        let now : ((year_of (day_of_hour x) == year) && (month_of (day_of_hour x) == month)) ≡ true = tells x last ∙ t in
        (λ i. (is_some row.1.value && now i) && not (is x within.0 within.1 i)) ∙ ap (λ b. b && not (test x)) (and_true (is_some row.1.value))

    none-there : (row : ObsKey × Observation) → row.0.hour ≤ LAST_HOUR → (nat_le from row.0.hour && nat_lt row.0.hour (from + hours)) ≡ false → extra row ≡ false
    none-there row last t =
        let x = row.0.hour in
        let now : ((year_of (day_of_hour x) == year) && (month_of (day_of_hour x) == month)) ≡ false = tells x last ∙ t in
        ap (λ b. (is_some row.1.value && b) && not (list_any (λ h. h == x) hours_due)) now
        ∙ and_false (is_some row.1.value) (not (list_any (λ h. h == x) hours_due))

    abbrev kept : List (ObsKey × Observation) → List (ObsKey × Observation)
    kept rows = filter (is_of_monitor monitor) rows

    abbrev spanned : List (ObsKey × Observation) → List (ObsKey × Observation)
    spanned rows = filter (in_span monitor from hours) rows

    extras : (rows : List (ObsKey × Observation)) → AllByRecursion IsStanding rows → count_by extra (kept rows) ≡ count_by beside (map hour_content (spanned rows))
    extras [] all = refl
    extras (row ∷ rows) all = by_monitor (extras rows all.1) (is_same_monitor row.0.monitor monitor) (nat_le from row.0.hour) (nat_lt row.0.hour (from + hours)) refl
      where
        by_monitor : count_by extra (kept rows) ≡ count_by beside (map hour_content (spanned rows))
            → (b low high : Bool) → (nat_le from row.0.hour && nat_lt row.0.hour (from + hours)) ≡ (low && high)
            → count_by extra (cond b (row ∷ kept rows) (kept rows)) ≡ count_by beside (map hour_content (cond ((b && low) && high) (row ∷ spanned rows) (spanned rows)))
        by_monitor rest false low high t = rest
        by_monitor rest true true true t =
            count-cons extra row (kept rows)
            ∙ (λ i. cond (one-there row all.0.0 t i) 1 0 + rest i)
            ∙ sym (count-cons beside (hour_content row) (map hour_content (spanned rows)))
        by_monitor rest true true false t =
            let none = none-there row all.0.0 t in
            count-cons extra row (kept rows) ∙ ap (λ b. cond b 1 0 + count_by extra (kept rows)) none ∙ omega (arith, rest)
        by_monitor rest true false high t =
            let none = none-there row all.0.0 t in
            count-cons extra row (kept rows) ∙ ap (λ b. cond b 1 0 + count_by extra (kept rows)) none ∙ omega (arith, rest)

-- ---- a month

module _ (office : Office) (monitor : MonitorId) (duration : Duration) (year month : ℕ) where
  abbrev first : ℕ
  first = day_number year month 1

  abbrev days : ℕ
  days = days_in_month year month

  abbrev pub month_due : List ℕ
  month_due = due office monitor duration first days

  abbrev pub month_items : List Item
  month_items = observations_in monitor (24 * first) (24 * days) office.observations

  module _ (is : IsMonth year month) (shelf : IsShelf office.observations) where
    rises-so : Rising hour_of month_items
    rises-so = span-rises monitor (24 * first) (24 * days) office.observations shelf.rising

    within : Within (24 * first) (24 * first + 24 * days) month_items
    within = span-within monitor (24 * first) (24 * days) office.observations

    module _ (p : Observation → Bool) where
      abbrev holds : ℕ → Bool
      holds hour = option_map_or p (standing_in office monitor hour) false

      asked : count_by holds month_due ≡ count_by (holds_at p month_items) month_due
      asked =
          count-same holds (holds_at p month_items) month_due
          (all-on (Between (24 * first) (24 * first + 24 * days)) (λ h. holds h ≡ holds_at p month_items h)
          (λ h between. ap (λ o. option_map_or p o false) (sym (span-at monitor (24 * first) (24 * days) h between.0 between.1 office.observations shelf.rising)))
          month_due (due-within office monitor duration first days))

      told : count_by (λ (item : Item). list_any (λ h. h == item.0) month_due && p item.1) month_items ≡ count_by (is_due_with office.records monitor duration p) month_items
      told =
          count-same (λ (item : Item). list_any (λ h. h == item.0) month_due && p item.1) (is_due_with office.records monitor duration p) month_items
          (all-on (λ (item : Item). (24 * first ≤ item.0) × (item.0 < 24 * first + 24 * days)) (λ (item : Item). (list_any (λ h. h == item.0) month_due && p item.1) ≡ is_due_with office.records monitor duration p item)
          (λ item at. turned (list_any (λ h. h == item.0) month_due) (p item.1) ∙ ap (λ b. p item.1 && b) (due-is office monitor duration first days item.0 at.0 at.1))
          month_items within)

      pub counted : count_by holds month_due ≡ count_by (is_due_with office.records monitor duration p) month_items
      counted = asked ∙ counted-once p month_due month_items (due-rises office monitor duration first days) rises-so ∙ told

    stood : count_by (λ hour. is_some (standing_in office monitor hour)) month_due ≡ count_by (is_due_with office.records monitor duration stands) month_items
    stood =
        count-same (λ hour. is_some (standing_in office monitor hour)) (holds stands) month_due
        (all-of (λ hour. is_some (standing_in office monitor hour) ≡ holds stands hour) (λ hour. some_stands (standing_in office monitor hour)) month_due)
        ∙ counted stands

    missed : count_by (λ hour. not (is_some (standing_in office monitor hour))) month_due + count_by (is_due_with office.records monitor duration stands) month_items ≡ length month_due
    missed =
        let all = count-not (λ hour. is_some (standing_in office monitor hour)) month_due in
        omega (arith, all, stood)

    pub few_stand : count_by (is_due_with office.records monitor duration stands) month_items ≤ length month_due
    few_stand = omega (arith, missed)

    last_day : (x : ℕ) → x ≤ LAST_HOUR → x / 24 ≤ LAST_DAY
    last_day x h = omega (arith, h)

    day_inside : (x : ℕ) → (nat_le first (x / 24) && nat_lt (x / 24) (first + days)) ≡ (nat_le (24 * first) x && nat_lt x (24 * first + 24 * days))
    day_inside x = λ i. day_low first x i && day_high first days x i

    beyond : count_by (is_extra month_due year month) (standing_at office monitor) ≡ count_by (is_beside office.records monitor duration) month_items
    unfolding standing_at
    beyond =
        extras monitor year month (24 * first) (24 * days) month_due (is_due office.records monitor duration)
        (λ x last. is_in_month year month is (x / 24) (last_day x last) ∙ day_inside x)
        (λ x low high. due-is office monitor duration first days x low high)
        office.observations shelf.standing

    due_at : due_hours office monitor duration (days_of_month year month) ≡ month_due
    due_at = ap (due_hours office monitor duration) (days_of_month_are year month is)

    pub month_is : (d s v n e : ℕ) → d ≡ length month_due
        → s ≡ count_by (is_due_with office.records monitor duration stands) month_items
        → v ≡ count_by (is_due_with office.records monitor duration is_valued) month_items
        → n ≡ count_by (is_due_with office.records monitor duration is_null) month_items
        → e ≡ count_by (is_beside office.records monitor duration) month_items
        → as_counts d v n (d - s) e ≡ counts_with office monitor year month (due_hours office monitor duration (days_of_month year month))
    month_is d s v n e d_is s_is v_is n_is e_is =
        let valued : v ≡ count_by (λ hour. is_valued_in (standing_in office monitor hour)) month_due = v_is ∙ sym (counted is_valued) in
        let null : n ≡ count_by (λ hour. is_null_in (standing_in office monitor hour)) month_due = n_is ∙ sym (counted is_null) in
        let missing : d - s ≡ count_by (λ hour. not (is_some (standing_in office monitor hour))) month_due = omega (arith, d_is, s_is, missed) in
        let more : e ≡ count_by (is_extra month_due year month) (standing_at office monitor) = e_is ∙ sym beyond in
        (λ i. as_counts (d_is i) (valued i) (null i) (missing i) (more i))
        ∙ ap (λ (hours : List ℕ). counts_with office monitor year month hours) (sym due_at)

    -- the same of the days that the month's are
    module _ (start count : ℕ) (start_is : start ≡ first) (count_is : count ≡ days) where
      abbrev walked : List Item
      walked = observations_in monitor (24 * start) (24 * count) office.observations

      pub month_walked : (d s v n e : ℕ) → d ≡ length (due_hours (office_with office.records) monitor duration (range_with_len start count))
          → s ≡ count_by (is_due_with office.records monitor duration stands) walked
          → v ≡ count_by (is_due_with office.records monitor duration is_valued) walked
          → n ≡ count_by (is_due_with office.records monitor duration is_null) walked
          → e ≡ count_by (is_beside office.records monitor duration) walked
          → (s ≤ d) × (as_counts d v n (d - s) e ≡ counts_with office monitor year month (due_hours office monitor duration (days_of_month year month)))
      month_walked d s v n e d_is s_is v_is n_is e_is =
          let items : walked ≡ month_items = λ i. observations_in monitor (24 * start_is i) (24 * count_is i) office.observations in
          let all : d ≡ length month_due =
          d_is
          ∙ (λ i. length (due_hours (office_with office.records) monitor duration (range_with_len (start_is i) (count_is i))))
          ∙ ap (λ (l : List ℕ). length l) (due-records (office_with office.records) office monitor duration (range_with_len first days) refl)
          in
          let stand = s_is ∙ ap (count_by (is_due_with office.records monitor duration stands)) items in
          let few : s ≤ d = omega (arith, stand, all, few_stand) in
          (few, month_is d s v n e all stand (v_is ∙ ap (count_by (is_due_with office.records monitor duration is_valued)) items) (n_is ∙ ap (count_by (is_due_with office.records monitor duration is_null)) items) (e_is ∙ ap (count_by (is_beside office.records monitor duration)) items))
