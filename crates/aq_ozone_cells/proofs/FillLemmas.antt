-- Days that are filled one after another.
use Rattle.std.proofs.Common.{◌≡◌, ℕ, ◌+◌, ◌-◌, ◌*◌, ◌/◌, ◌%◌, ◌<◌, ◌≤◌, Bool, true, false, cond, ◌&&◌, List, [], ◌∷◌, get_or, take, drop, map, refl, ap, sym, subst, ◌∙◌, arith, inl, inr, ◌⊎◌}
use Rattle.std.specs.Prelude.{◌≢◌, ◌||◌, ◌==◌, Option, Some, None, nat_le, nat_lt, IsTrue}
use Rattle.std.specs.List.{list_any, range_with_len}
use Rattle.std.proofs.lemmas.Bool.{false≢true, and_parts}
use Rattle.std.proofs.lemmas.Bool.Decides.{nat_tests}
use Rattle.aq_base.specs.Site.{Site}
use Rattle.aq_base.specs.declared.day.TheConstants.{LAST_DAY, LAST_HOUR}
use Rattle.aq_base.specs.declared.observation.ObsKey.{ObsKey}
use Rattle.aq_base.specs.declared.observation.Observation.{Observation}
use Rattle.aq_base.specs.declared.office.OfficeRecord.{OfficeRecord}
use Rattle.aq_base.specs.declared.office.OfficeRecord.TheVariants.{Approved}
use Rattle.aq_base.specs.declared.monitor.Pollutant.TheVariants.{Ozone}
use Rattle.aq_rules.specs.Office.Approval.{approves}
use Rattle.aq_rules.specs.Office.Monitors.{is_same_pollutant, is_same_site}
use Rattle.aq_rules.specs.Office.Office.{Office}
use Rattle.aq_rules.specs.Office.Sameness.{same_site}
use Rattle.aq_rules.specs.Ozone.EightHour.{row_of, window}
use Rattle.aq_rules.specs.Ozone.SiteHour.{Cell, site_hour}
use Rattle.aq_series.specs.DayStates.{hour_at as office_hour, site_hours}
use Rattle.aq_series.specs.OfficeView.{office_of}
use Rattle.aq_ozone.specs.DayHours.{cells_in}
use Rattle.aq_ozone.proofs.DayLemmas.{at_range, part_of, window_is}
use Rattle.aq_ozone_cells.specs.FilledDays.{average_among, day_average, IsDayOf, IsEmptyDay, IsSameDay}
use Rattle.aq_ozone_cells.specs.Filling.{hours_from, is_within, lies_at, AreFilling, IsFilling, IsWeekOf, StayFilled}
use Rattle.aq_ozone_cells.specs.KeptDays.{average_at, averages_of, held_at, hour_at, is_kept_start, no_average}
use Rattle.aq_ozone_cells.specs.OzoneCells.{day_from, is_among, Cells}
use Rattle.aq_ozone_cells.specs.declared.filling.Week.{Week}
use Rattle.aq_ozone_cells.proofs.LevelLemmas.{day-is}
use Rattle.aq_ozone_cells.proofs.SiteNumbers.{itself, never}

-- ---- a day that is kept as before

module _ (before after : Cells) (site : Site) (day : ℕ) (same : IsSameDay before after site day) where
  pub day-stays : (office : Office) → IsDayOf office before site day → IsDayOf office after site day
  day-stays office of = record {
    hours = λ hour lies. same.hours hour lies ∙ of.hours hour lies;
    averages = λ start lies kept. same.averages start lies ∙ of.averages start lies kept;
    held = same.held ∙ of.held;
  }

  pub empty-stays : IsEmptyDay before site day → IsEmptyDay after site day
  empty-stays of = record {
    hours = λ hour lies. same.hours hour lies ∙ of.hours hour lies;
    averages = λ start lies. same.averages start lies ∙ of.averages start lies;
    held = same.held ∙ of.held;
  }

  pub same-then : (later : Cells) → IsSameDay after later site day → IsSameDay before later site day
  same-then later then = record {
    hours = λ hour lies. then.hours hour lies ∙ same.hours hour lies;
    averages = λ start lies. then.averages start lies ∙ same.averages start lies;
    held = then.held ∙ same.held;
  }

pub same-itself : (cells : Cells) (site : Site) (day : ℕ) → IsSameDay cells cells site day
same-itself cells site day = record { hours = λ hour lies. refl; averages = λ start lies. refl; held = refl }

-- ---- a day that is filled

-- the hours of eight days, from one of the first seven on
pub span-part : (office : Office) (site : Site) (first i from : ℕ) (span : List (Option Cell)) → i < 7 → from ≡ 24 * i → span ≡ site_hours office site first
    → take (from + 31 - from) (drop from span) ≡ hours_from office site (first + i)
unfolding site_hours hours_from
span-part office site first i from span within at is =
    let many : from + 31 - from ≡ 31 = omega arith in
    let few : from + 31 ≤ 192 = omega (arith, at, within) in
    let start : 24 * first + from ≡ 24 * (first + i) = omega (arith, at) in
    ap (λ n. take n (drop from span)) many
    ∙ ap (λ (l : List (Option Cell)). take 31 (drop from l)) is
    ∙ part_of (office_hour office site) (24 * first) from 31 192 few
    ∙ ap (λ n. map (office_hour office site) (range_with_len n 31)) start

module _ (records : List OfficeRecord) (cells filled settled : Cells) (site : Site) (day : ℕ) (hours : List (Option Cell))
    (filled_hours : (other : Site) (number : ℕ) → hour_at filled other number ≡ cond (is_same_site site other && (day == number / 24)) (get_or hours (number % 24) None) (hour_at cells other number))
    (filled_averages : (other : Site) (start : ℕ) → average_at filled other start ≡ cond (is_same_site site other && (day == start / 24)) (day_average hours start) (average_at cells other start))
    (filled_days : (other : Site) (number : ℕ) → held_at filled other number ≡ held_at cells other number)
    (settled_days : (other : Site) (number : ℕ) → held_at settled other number ≡ cond (is_same_site site other && (day == number)) (day_from records filled site day) (held_at filled other number))
    (settled_hours : (other : Site) (hour : ℕ) → hour_at settled other hour ≡ hour_at filled other hour)
    (settled_averages : (other : Site) (start : ℕ) → average_at settled other start ≡ average_at filled other start) where
  pub day-left : (other : Site) (number : ℕ) → (is_same_site site other && (day == number)) ≡ false → IsSameDay cells settled other number
  day-left other number off = record {
    hours = λ hour lies.
        settled_hours other hour ∙ filled_hours other hour
        ∙ ap (λ b. cond b (get_or hours (hour % 24) None) (hour_at cells other hour)) (ap (λ n. is_same_site site other && (day == n)) lies ∙ off);
    averages = λ start lies.
        settled_averages other start ∙ filled_averages other start
        ∙ ap (λ b. cond b (day_average hours start) (average_at cells other start)) (ap (λ n. is_same_site site other && (day == n)) lies ∙ off);
    held =
        settled_days other number ∙ ap (λ b. cond b (day_from records filled site day) (held_at filled other number)) off
        ∙ filled_days other number;
  }

  module _ (rows : List (ObsKey × Observation)) (in_profile : day ≤ LAST_DAY) (are : hours ≡ hours_from (office_of records rows) site day) where
    average-filled : (start : ℕ) → start / 24 ≡ day → IsTrue (is_kept_start start) → average_at filled site start ≡ averages_of (window (office_of records rows) site start)
    unfolding hours_from
    average-filled start lies kept =
        let back : 24 * day + start % 24 ≡ start = omega (arith, lies) in
        let few : start % 24 + 8 ≤ 31 = omega arith in
        filled_averages site start
        ∙ ap (λ b. cond b (day_average hours start) (average_at cells site start)) (itself site (start / 24) day lies)
        ∙ ap (λ b. cond b (average_among hours (start % 24)) no_average) kept
        ∙ ap (λ (l : List (Option Cell)). average_among l (start % 24)) are
        ∙ ap (λ (l : List (Option Cell)). averages_of (row_of (cells_in l))) (part_of (office_hour (office_of records rows) site) (24 * day) (start % 24) 8 31 few)
        ∙ ap averages_of (window_is (office_of records rows) site (24 * day + start % 24) ∙ ap (window (office_of records rows) site) back)

    pub day-filled : IsDayOf (office_of records rows) settled site day
    unfolding hours_from
    day-filled = record {
      hours = λ hour lies.
          let back : 24 * day + hour % 24 ≡ hour = omega (arith, lies) in
          let within : nat_le hour LAST_HOUR ≡ true = grind (arith, nat_tests, back, in_profile) in
          settled_hours site hour ∙ filled_hours site hour
          ∙ ap (λ b. cond b (get_or hours (hour % 24) None) (hour_at cells site hour)) (itself site (hour / 24) day lies)
          ∙ ap (λ (l : List (Option Cell)). get_or l (hour % 24) None) are
          ∙ at_range (office_hour (office_of records rows) site) (24 * day) 31 (hour % 24) None (omega arith)
          ∙ ap (office_hour (office_of records rows) site) back
          ∙ ap (λ b. cond b (site_hour (office_of records rows) site hour) None) within;
      averages = λ start lies kept. settled_averages site start ∙ average-filled start lies kept;
      held =
          settled_days site day
          ∙ ap (λ b. cond b (day_from records filled site day) (held_at filled site day)) (itself site day day refl)
          ∙ day-is (office_of records rows) filled site day
          (λ start low high.
          let lies : start / 24 ≡ day = omega (arith, low, high) in
          let kept : nat_le 7 (start % 24) ≡ true = grind (arith, nat_tests, low, high) in
          average-filled start lies kept);
    }

-- ---- a week

module _ (office : Office) (before after : Cells) (site : Site) (first count : ℕ) where
  -- one more day of the week
  pub week-more : (now : Cells) (day : ℕ) → first + count ≡ day
      → ((number : ℕ) → first ≤ number → number < first + count → IsDayOf office now site number)
      → ((other : Site) (number : ℕ) → (is_same_site site other && (day == number)) ≡ false → IsSameDay now after other number)
      → IsDayOf office after site day
      → (number : ℕ) → first ≤ number → number < first + (count + 1) → IsDayOf office after site number
  week-more now day at so_far others is number low high = by (day == number) refl
    where
      by : (b : Bool) → (day == number) ≡ b → IsDayOf office after site number
      by true same = let e : day ≡ number = grind (arith, nat_tests) in subst (IsDayOf office after site) e is
      by false off =
          let less : number < first + count = grind (arith, nat_tests, at, high) in
          day-stays now after site number (others site number (ap (λ b. is_same_site site site && b) off ∙ never (is_same_site site site))) office (so_far number low less)

  pub others-more : (now : Cells) (day : ℕ) → first + count ≡ day
      → ((other : Site) (number : ℕ) → (is_same_site site other && is_among first count number) ≡ false → IsSameDay before now other number)
      → ((other : Site) (number : ℕ) → (is_same_site site other && (day == number)) ≡ false → IsSameDay now after other number)
      → (other : Site) (number : ℕ) → (is_same_site site other && is_among first (count + 1) number) ≡ false → IsSameDay before after other number
  others-more now day at so_far others other number off =
      same-then before now other number (so_far other number (early (is_same_site site other) off)) after (others other number (this (is_same_site site other) off))
    where
      early : (b : Bool) → (b && is_among first (count + 1) number) ≡ false → (b && is_among first count number) ≡ false
      early true off = grind (arith, nat_tests, off)
      early false off = refl

      this : (b : Bool) → (b && is_among first (count + 1) number) ≡ false → (b && (day == number)) ≡ false
      this true off = grind (arith, nat_tests, at, off)
      this false off = refl

module _ (office : Office) (before after : Cells) (site : Site) (first : ℕ)
    (filled : (day : ℕ) → first ≤ day → day < first + 7 → day ≤ LAST_DAY → IsDayOf office after site day)
    (others : (other : Site) (day : ℕ) → (is_same_site site other && is_among first 7 day) ≡ false → IsSameDay before after other day) where
  -- a day is filled, or it is as before
  pub either : (other : Site) (day : ℕ) → day ≤ LAST_DAY → IsDayOf office after other day ⊎ IsSameDay before after other day
  either other day in_profile = by (is_same_site site other && is_among first 7 day) refl
    where
      by : (b : Bool) → (is_same_site site other && is_among first 7 day) ≡ b → IsDayOf office after other day ⊎ IsSameDay before after other day
      by true is =
          let both = and_parts (is_same_site site other) (is_among first 7 day) is in
          let low : first ≤ day = grind (arith, nat_tests, both.1) in
          let high : day < first + 7 = grind (arith, nat_tests, both.1) in
          inl (subst (λ (s : Site). IsDayOf office after s day) (same_site site other both.0) (filled day low high in_profile))
      by false is = inr (others other day is)

  pub week-stay : StayFilled office before after
  unfolding StayFilled
  week-stay other day in_profile of = elim (either other day in_profile) [
    | inl now ↦ now
    | inr same ↦ day-stays before after other day same office of
  ]

  pub week-each : AreFilling office before → AreFilling office after
  unfolding AreFilling
  week-each each other day in_profile = elim (either other day in_profile) [
    | inl now ↦ inl now
    | inr same ↦ elim (each other day in_profile) [
      | inl of ↦ inl (day-stays before after other day same office of)
      | inr empty ↦ inr (empty-stays before after other day same empty)
    ]
  ]

-- the days that the last week has
pub week-has : (office : Office) (cells : Cells) (week : Option Week) (site : Site) (first last : ℕ) → IsWeekOf office cells week → is_within week site first last ≡ true
    → (day : ℕ) → first ≤ day → day ≤ last → day ≤ LAST_DAY → IsDayOf office cells site day
unfolding IsWeekOf
week-has office cells None site first last of within day low high in_profile = absurd (false≢true within)
week-has office cells (Some week) site first last of within day low high in_profile =
    let front = and_parts (is_same_site week.site site && nat_le week.first first) (nat_lt (last - week.first) 7) within in
    let both = and_parts (is_same_site week.site site) (nat_le week.first first) front.0 in
    let from : week.first ≤ day = grind (arith, nat_tests, both.1, low) in
    let to : day < week.first + 7 = grind (arith, nat_tests, front.1, high) in
    subst (λ (s : Site). IsDayOf office cells s day) (same_site week.site site both.0) (of day from to in_profile)

-- what holds of all days but those of a part of a week holds of all but those of the week
pub others-of : (before after : Cells) (site : Site) (first count : ℕ) → count ≤ 7
    → ((other : Site) (day : ℕ) → (is_same_site site other && is_among first count day) ≡ false → IsSameDay before after other day)
    → (other : Site) (day : ℕ) → (is_same_site site other && is_among first 7 day) ≡ false → IsSameDay before after other day
others-of before after site first count few others other day off = others other day (part (is_same_site site other) off)
  where
    part : (b : Bool) → (b && is_among first 7 day) ≡ false → (b && is_among first count day) ≡ false
    part true off = grind (arith, nat_tests, off, few)
    part false off = refl

pub stay-itself : (office : Office) (cells : Cells) → StayFilled office cells cells
unfolding StayFilled
stay-itself office cells site day in_profile of = of

pub stay-at : (office : Office) (before after : Cells) → StayFilled office before after → (site : Site) (day : ℕ) → day ≤ LAST_DAY → IsDayOf office before site day → IsDayOf office after site day
unfolding StayFilled
stay-at office before after stay = stay

-- ---- the rows that fill days

-- the days that an observation of ozone fills
pub near-filled : (office : Office) (cells : Cells) (site : Site) (day : ℕ) (key : ObsKey) (at : ℕ) → key.hour / 24 ≡ at → IsDayOf office cells key.monitor.site at
    → ((number : ℕ) → number + 1 ≡ at → IsDayOf office cells key.monitor.site number) → lies_at site day key ≡ true → IsDayOf office cells site day
near-filled office cells site day key at is here before lies =
    let parts = and_parts (is_same_pollutant key.monitor.pollutant Ozone && is_same_site key.monitor.site site) ((key.hour / 24 == day) || (key.hour / 24 == day + 1)) lies in
    let both = and_parts (is_same_pollutant key.monitor.pollutant Ozone) (is_same_site key.monitor.site site) parts.0 in
    subst (λ (s : Site). IsDayOf office cells s day) (same_site key.monitor.site site both.1) (by (key.hour / 24 == day) refl parts.1)
  where
    by : (b : Bool) → (key.hour / 24 == day) ≡ b → (b || (key.hour / 24 == day + 1)) ≡ true → IsDayOf office cells key.monitor.site day
    by true same near = let e : at ≡ day = grind (arith, nat_tests, is, same) in subst (IsDayOf office cells key.monitor.site) e here
    by false other near = let e : day + 1 ≡ at = grind (arith, nat_tests, is, near) in before day e

pub none-approved : (site : Site) (day : ℕ) (row : OfficeRecord) → ((s : Site) (d : ℕ) → row ≢ Approved s d) → approves site day row ≡ true → ⊥
none-approved site day (Approved s d) other is = other s d refl
none-approved site day row other is = false≢true is

-- ---- a walk over rows

-- of each day that one of the rows reads, it is filled or one of those that are left reads it
pub record IsWalk {X : Type 0} (office : Office) (start cells : Cells) (week : Option Week) (reads : Site → ℕ → X → Bool) (rows left : List X) : Type 0 where
  pub filling : IsFilling office cells week
  pub stay : StayFilled office start cells
  pub filled : (site : Site) (day : ℕ) → day ≤ LAST_DAY → list_any (reads site day) rows ≡ true → (list_any (reads site day) left ≡ true) ⊎ IsDayOf office cells site day

module _ {X : Type 0} (office : Office) (start : Cells) (reads : Site → ℕ → X → Bool) (rows : List X) where
  pub walk-begun : (week : Option Week) (left : List X) → IsFilling office start week → left ≡ rows → IsWalk office start start week reads rows left
  walk-begun week left filling all = record {
    filling = filling;
    stay = stay-itself office start;
    filled = λ site day within any. inl (ap (list_any (reads site day)) all ∙ any);
  }

  pub walk-more : (before after : Cells) (week now : Option Week) (old rest : List X) (row : X) → old ≡ row ∷ rest → IsWalk office start before week reads rows old
      → IsFilling office after now → StayFilled office before after → ((site : Site) (day : ℕ) → reads site day row ≡ true → IsDayOf office after site day)
      → IsWalk office start after now reads rows rest
  unfolding StayFilled
  walk-more before after week now old rest row is walk filling stay here = record {
    filling = filling;
    stay = λ site day within of. stay site day within (walk.stay site day within of);
    filled = λ site day within any. elim (walk.filled site day within any) [
      | inl left ↦ by site day (reads site day row) refl (sym (ap (list_any (reads site day)) is) ∙ left)
      | inr of ↦ inr (stay site day within of)
    ];
  }
    where
      by : (site : Site) (day : ℕ) (b : Bool) → reads site day row ≡ b → (b || list_any (reads site day) rest) ≡ true → (list_any (reads site day) rest ≡ true) ⊎ IsDayOf office after site day
      by site day true reads_it any = inr (here site day reads_it)
      by site day false reads_it any = inl any

  pub walk-done : (cells : Cells) (week : Option Week) (left : List X) → left ≡ [] → IsWalk office start cells week reads rows left
      → (site : Site) (day : ℕ) → day ≤ LAST_DAY → list_any (reads site day) rows ≡ true → IsDayOf office cells site day
  walk-done cells week left none walk site day within any = elim (walk.filled site day within any) [
    | inl waits ↦ absurd (false≢true (sym (ap (list_any (reads site day)) none) ∙ waits))
    | inr of ↦ of
  ]
