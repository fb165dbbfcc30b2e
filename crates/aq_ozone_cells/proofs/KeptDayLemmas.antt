-- A day of a site that is given another content, among the days that are kept; and the hours of a day and the one after it.
use Rattle.std.proofs.Common.{◌≡◌, ℕ, zero, suc, ◌+◌, ◌*◌, ◌/◌, ◌%◌, ◌-◌, ◌<◌, ◌≤◌, Bool, true, false, cond, ◌&&◌, List, map, get_or, refl, sym, ap, ◌∙◌, arith}
use Rattle.std.specs.Prelude.{Option, Some, None, ◌≢◌, ◌==◌, is_some, nat_le, option_map, unwrap_or, IfSome}
use Rattle.std.specs.List.{range_with_len}
use Rattle.std.specs.BTreeMap.{is_at}
use Rattle.std.specs.Map.{lookup}
use Rattle.std.proofs.lemmas.Bool.Decides.{nat_tests}
use Rattle.std.proofs.lemmas.Bool.{false≢true}
use Rattle.aq_base.specs.Site.{Site}
use Rattle.aq_base.specs.declared.day.TheConstants.{LAST_HOUR}
use Rattle.aq_rules.specs.Office.Monitors.{is_same_site}
use Rattle.aq_rules.specs.Ozone.SiteHour.{Cell}
use Rattle.aq_series.specs.Samples.{AreOzone, IsOzone}
use Rattle.aq_ozone.specs.DayHours.{within_profile}
use Rattle.aq_ozone_cells.specs.declared.kept_days.DayCells.{DayCells}
use Rattle.aq_ozone_cells.specs.declared.kept_days.KeptAverage.{KeptAverage}
use Rattle.aq_ozone_cells.specs.declared.kept_days.KeptHour.{KeptHour}
use Rattle.aq_ozone_cells.specs.declared.site_key.SiteKey.{SiteKey}
use Rattle.aq_ozone_cells.specs.KeptDays.{average_at, average_in, cell_of, day_at, empty_day, held_at, hour_at, hour_in, hour_of_two, is_kept_start, no_average}
use Rattle.aq_ozone_cells.specs.OzoneCells.{hour_in_profile, Cells}
use Rattle.aq_ozone_cells.specs.SiteKeys.{key_cmp, site_key}
use Rattle.aq_ozone_cells.proofs.SiteNumbers.{named, same-key}

-- ---- a day

-- what is found under every key, if one has other cells
abbrev pub Changes : Cells → Cells → DayCells → SiteKey → Type 0
Changes es fs now key = (q : SiteKey) → lookup (is_at (key_cmp q)) fs ≡ cond (is_at (key_cmp key) q) (Some now) (lookup (is_at (key_cmp q)) es)

-- what is kept of every day, if one has other cells
abbrev pub Replaces : Cells → Cells → DayCells → Site → ℕ → Type 0
Replaces es fs now site day =
    (other : Site) (number : ℕ) → day_at fs other number ≡ cond (is_same_site site other && (day == number)) now (day_at es other number)

pub day-put : (site : Site) (day : ℕ) (now : DayCells) (es fs : Cells)
    → Changes es fs now (site_key site day) → Replaces es fs now site day
day-put site day now es fs updates other number =
    ap (λ (o : Option DayCells). unwrap_or o empty_day) (updates (site_key other number))
    ∙ ap (λ b. unwrap_or (cond b (Some now) (lookup (is_at (key_cmp (site_key other number))) es)) empty_day) (same-key site other day number)
    ∙ by (lookup (is_at (key_cmp (site_key other number))) es) (is_same_site site other && (day == number))
  where
    by : (found : Option DayCells) (b : Bool) → unwrap_or (cond b (Some now) found) empty_day ≡ cond b now (unwrap_or found empty_day)
    by found true = refl
    by found false = refl

-- two tests that hold give one day
same-days : (site other : Site) (day number : ℕ) (es : Cells) → (is_same_site site other && (day == number)) ≡ true → day_at es site day ≡ day_at es other number
same-days site other day number es both = let same = named site other day number both in λ i. day_at es (same.0 i) (same.1 i)

-- ---- the parts of a day

-- a part that the other cells have in common with those before is the same everywhere
part-stays : {X : Type 0} (part : DayCells → X) (site : Site) (day : ℕ) (now : DayCells) (es fs : Cells)
    → Replaces es fs now site day → (before : DayCells) → before ≡ day_at es site day → part now ≡ part before
    → (other : Site) (number : ℕ) → part (day_at fs other number) ≡ part (day_at es other number)
part-stays part site day now es fs replaces before was same other number =
    ap part (replaces other number) ∙ by (is_same_site site other && (day == number)) refl
  where
    by : (b : Bool) → (is_same_site site other && (day == number)) ≡ b → part (cond b now (day_at es other number)) ≡ part (day_at es other number)
    by true both = same ∙ ap part (was ∙ same-days site other day number es both)
    by false both = refl

module _ (site : Site) (day : ℕ) (now before : DayCells) (es fs : Cells) (replaces : Replaces es fs now site day) (was : before ≡ day_at es site day) where
  pub hours-stay : now.hours ≡ before.hours → (other : Site) (hour : ℕ) → hour_at fs other hour ≡ hour_at es other hour
  unfolding hour_at
  hours-stay same other hour =
      part-stays (λ (d : DayCells). hour_in d hour) site day now es fs replaces before was
      (ap (λ (hours : List (Option KeptHour)). option_map cell_of (get_or hours (hour % 24) None)) same) other (hour / 24)

  pub averages-stay : now.averages ≡ before.averages → (other : Site) (start : ℕ) → average_at fs other start ≡ average_at es other start
  unfolding average_at
  averages-stay same other start =
      part-stays (λ (d : DayCells). average_in d start) site day now es fs replaces before was
      (ap (λ (averages : List KeptAverage). cond (is_kept_start start) (get_or averages (start % 24 - 7) no_average) no_average) same) other (start / 24)

  pub held-stays : now.held ≡ before.held → (other : Site) (number : ℕ) → held_at fs other number ≡ held_at es other number
  unfolding held_at
  held-stays same = part-stays (λ (d : DayCells). d.held) site day now es fs replaces before was same

-- an hour by its day and its place there
by_place : (h k : ℕ) → ((h / 24 == k / 24) && (h % 24 == k % 24)) ≡ (h == k)
by_place h k = grind (arith, nat_tests)

pub place-put : {X : Type 0} (part : DayCells → ℕ → X) (site : Site) (hour : ℕ) (value : X) (now : DayCells) (es fs : Cells)
    → Replaces es fs now site (hour / 24) → (before : DayCells) → before ≡ day_at es site (hour / 24)
    → ((other : ℕ) → part now other ≡ cond (hour % 24 == other % 24) value (part before other))
    → (other : Site) (number : ℕ) → part (day_at fs other (number / 24)) number
    ≡ cond (is_same_site site other && (hour == number)) value (part (day_at es other (number / 24)) number)
place-put part site hour value now es fs replaces before was new other number =
    ap (λ (d : DayCells). part d number) (replaces other (number / 24))
    ∙ by (is_same_site site other) (hour / 24 == number / 24) refl refl
  where
    place : (hour / 24 == number / 24) ≡ true → (hour % 24 == number % 24) ≡ (hour == number)
    place is = ap (λ b. b && (hour % 24 == number % 24)) (sym is) ∙ by_place hour number

    off : (hour / 24 == number / 24) ≡ false → false ≡ (hour == number)
    off is = ap (λ b. b && (hour % 24 == number % 24)) (sym is) ∙ by_place hour number

    by : (p q : Bool) → is_same_site site other ≡ p → (hour / 24 == number / 24) ≡ q
        → part (cond (p && q) now (day_at es other (number / 24))) number
        ≡ cond (p && (hour == number)) value (part (day_at es other (number / 24)) number)
    by true true same day =
        new number ∙ ap (λ b. cond b value (part before number)) (place day)
        ∙ ap (λ (d : DayCells). cond (hour == number) value (part d number)) (was ∙ same-days site other (hour / 24) (number / 24) es (λ i. same i && day i))
    by true false same day = ap (λ b. cond b value (part (day_at es other (number / 24)) number)) (off day)
    by false q same day = refl

-- an average of a day that is kept
pub average-of-day : (days : Cells) (site : Site) (day start : ℕ) (kept : DayCells) → kept ≡ day_at days site day → start / 24 ≡ day → average_in kept start ≡ average_at days site start
unfolding average_at
average-of-day days site day start kept is lies = ap (λ (d : DayCells). average_in d start) (is ∙ ap (day_at days site) (sym lies))

-- a day of which nothing is kept
pub no-cells : (found : Option DayCells) → is_some found ≡ false → unwrap_or found empty_day ≡ empty_day
no-cells None none = refl
no-cells (Some cells) none = absurd (false≢true (sym none))

-- ---- the hours of a day and the one after it

module _ (cells : Cells) (site : Site) (day : ℕ) (today tomorrow : DayCells) (is : today ≡ day_at cells site day) (next : tomorrow ≡ day_at cells site (day + 1)) where
  pub of-two : (hour : ℕ) → 24 * day ≤ hour → hour < 24 * day + 48 → hour_of_two today tomorrow day hour ≡ hour_in_profile cells site hour
  unfolding hour_at
  of-two hour low high = ap (λ (d : DayCells). cond (nat_le hour LAST_HOUR) (hour_in d hour) None) (by (hour / 24 == day) refl)
    where
      by : (b : Bool) → (hour / 24 == day) ≡ b → cond b today tomorrow ≡ day_at cells site (hour / 24)
      by true same =
          let lies : day ≡ hour / 24 = grind (arith, nat_tests) in
          is ∙ ap (day_at cells site) lies
      by false other =
          let apart : hour / 24 ≢ day = grind (arith, nat_tests) in
          let lies : day + 1 ≡ hour / 24 = omega (arith, low, high, apart) in
          next ∙ ap (day_at cells site) lies

pub hours-ozone : (f : ℕ → Option Cell) → ((hour : ℕ) → IfSome (f hour) (λ (cell : Cell). IsOzone cell.value)) → (a n : ℕ) → AreOzone (map (within_profile f) (range_with_len a n))
hours-ozone f each a zero = tt
hours-ozone f each a (suc n) = (by (nat_le a LAST_HOUR), hours-ozone f each (a + 1) n)
  where
    by : (b : Bool) → IfSome (cond b (f a) None) (λ (cell : Cell). IsOzone cell.value)
    by true = each a
    by false = tt
