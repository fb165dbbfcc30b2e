-- A day that no observation of ozone and no approval reads: nothing of it is in the office. So once the days that one reads are filled, all that is kept is the office's.
use Rattle.std.proofs.Common.{◌≡◌, ℕ, zero, suc, ◌+◌, ◌*◌, ◌/◌, ◌<◌, ◌≤◌, Bool, true, false, cond, ◌&&◌, List, [], ◌∷◌, map, refl, ap, sym, subst, ◌∙◌, arith, inl, inr}
use Rattle.std.specs.Prelude.{◌||◌, ◌==◌, Option, Some, None, is_none, nat_le, find, filter, filter_map, option_map}
use Rattle.std.specs.List.{cons_option, list_all, list_any, range_with_len}
use Rattle.std.proofs.lemmas.Bool.{and_parts, false≢true, or_parts}
use Rattle.std.proofs.lemmas.Bool.Decides.{nat_tests}
use Rattle.aq_base.specs.Calendar.{day_of_hour, hour_number, year_of}
use Rattle.aq_base.specs.Site.{Site}
use Rattle.aq_base.specs.declared.day.TheConstants.{LAST_DAY, LAST_HOUR}
use Rattle.aq_base.specs.declared.monitor.Pollutant.TheVariants.{Ozone}
use Rattle.aq_base.specs.declared.observation.ObsKey.{ObsKey}
use Rattle.aq_base.specs.declared.observation.Observation.{Observation}
use Rattle.aq_rules.specs.Office.Approval.{approves, is_approved}
use Rattle.aq_rules.specs.Office.Designation.{primary_on}
use Rattle.aq_rules.specs.Office.Exclusion.{excluded}
use Rattle.aq_rules.specs.Office.Monitors.{is_eligible, is_same_pollutant, is_same_site}
use Rattle.aq_rules.specs.Office.Office.{Office}
use Rattle.aq_rules.specs.Office.Season.{is_in_season, season_of}
use Rattle.aq_rules.specs.Ozone.EightHour.{WindowRow, eight_hours, row_of, window}
use Rattle.aq_rules.specs.Ozone.OzoneDay.{OzoneDay, day_of_windows, ozone_day, starts_of, windows}
use Rattle.aq_rules.specs.Ozone.SiteHour.{Cell, Sample, chosen, is_of_poc, is_ozone_at, sample_of, site_hour}
use Rattle.aq_series.specs.DayStates.{hour_at}
use Rattle.aq_ozone_cells.specs.FilledDays.{AreKept, IsDayOf, IsEmptyDay}
use Rattle.aq_ozone_cells.specs.Filling.{hours_from, lies_at, observes, AreFilling}
use Rattle.aq_ozone_cells.specs.KeptDays.{averages_of, no_day}
use Rattle.aq_ozone_cells.specs.OzoneCells.{counts, held_day, Cells}
use Rattle.aq_agg.proofs.ItemsOfDays.{no_items}
use Rattle.aq_ozone_cells.proofs.LevelLemmas.{hours-same}
use Rattle.aq_ozone_cells.proofs.SiteNumbers.{never}

-- a list of numbers' values, none of which is there
none-there : (f : ℕ → Option Cell) (a n : ℕ) → list_all is_none (map f (range_with_len a n)) ≡ true → (k : ℕ) → a ≤ k → k < a + n → f k ≡ None
none-there f a zero all k low high = absurd (omega (arith, low, high))
none-there f a (suc n) all k low high =
    let parts = and_parts (is_none (f a)) (list_all is_none (map f (range_with_len (a + 1) n))) all in
    by (a == k) refl parts.0 (none-there f (a + 1) n parts.1 k)
  where
    none-of : (o : Option Cell) → is_none o ≡ true → o ≡ None
    none-of None is = refl
    none-of (Some cell) is = absurd (false≢true is)

    by : (b : Bool) → (a == k) ≡ b → is_none (f a) ≡ true → (a + 1 ≤ k → k < a + 1 + n → f k ≡ None) → f k ≡ None
    by true same none rest = let e : a ≡ k = grind (arith, nat_tests, same) in ap f (sym e) ∙ none-of (f a) none
    by false other none rest = rest (grind (arith, nat_tests, other, low)) (omega (arith, high))

module _ (office : Office) (site : Site) (day : ℕ) where
  -- an observation that does not lie in the day or the next gives no sample of an hour of them
  lies : (hour : ℕ) (key : ObsKey) → ((hour / 24 == day) || (hour / 24 == day + 1)) ≡ true → is_ozone_at site hour key ≡ true → lies_at site day key ≡ true
  lies hour key near is = by (is_same_pollutant key.monitor.pollutant Ozone) (is_same_site key.monitor.site site) is
    where
      by : (p q : Bool) → ((p && q) && (key.hour == hour)) ≡ true → ((p && q) && ((key.hour / 24 == day) || (key.hour / 24 == day + 1))) ≡ true
      by true true at = let e : key.hour ≡ hour = grind (arith, nat_tests, at) in subst (λ h. ((h / 24 == day) || (h / 24 == day + 1)) ≡ true) (sym e) near
      by true false at = absurd (false≢true at)
      by false q at = absurd (false≢true at)

  no-sample : (hour : ℕ) (row : ObsKey × Observation) → ((hour / 24 == day) || (hour / 24 == day + 1)) ≡ true → observes site day row ≡ false → sample_of office site hour row ≡ None
  no-sample hour row near off = by (is_ozone_at site hour row.0) refl
    where
      by : (b : Bool) → is_ozone_at site hour row.0 ≡ b
          → cond (b && is_eligible office.records row.0.monitor) (option_map {U = Sample} (λ value. record { poc = row.0.monitor.poc; cell = record { value = value; excluded = excluded office.records row.0 row.1.quals } }) row.1.value) None ≡ None
      by true is = absurd (false≢true (sym off ∙ lies hour row.0 near is))
      by false is = refl

  no-samples : (hour : ℕ) → ((hour / 24 == day) || (hour / 24 == day + 1)) ≡ true → (rows : List (ObsKey × Observation)) → list_any (observes site day) rows ≡ false → filter_map (sample_of office site hour) rows ≡ []
  no-samples hour near [] none = refl
  no-samples hour near (row ∷ rows) none =
      let parts = or_parts (observes site day row) (list_any (observes site day) rows) none in
      λ i. cons_option (no-sample hour row near parts.0 i) (no-samples hour near rows parts.1 i)

  module _ (none : list_any (observes site day) office.observations ≡ false) where
    no-hour : (hour : ℕ) → ((hour / 24 == day) || (hour / 24 == day + 1)) ≡ true → site_hour office site hour ≡ None
    unfolding site_hour
    no-hour hour near =
        ap (λ (samples : List Sample). chosen (find (is_of_poc (primary_on office.records site Ozone (day_of_hour hour))) samples) samples) (no-samples hour near office.observations none)

  module _ (in_profile : day ≤ LAST_DAY) (absent : (hour : ℕ) → 24 * day ≤ hour → hour < 24 * day + 31 → hour ≤ LAST_HOUR → site_hour office site hour ≡ None) where
    abbrev no_row : WindowRow
    no_row = row_of []

    no-window : (start : ℕ) → start / 24 ≡ day → window office site start ≡ no_row
    unfolding window eight_hours
    no-window start at =
        ap row_of
        (hours-same (site_hour office site) (λ _. None) LAST_HOUR start 8 (λ hour low high within. absent hour (omega (arith, at, low)) (omega (arith, at, high)) within)
        ∙ no_items (filter (λ hour. nat_le hour LAST_HOUR) (range_with_len start 8)))

    no-windows : (a n : ℕ) → ((start : ℕ) → a ≤ start → start < a + n → start / 24 ≡ day) → day_of_windows (map (window office site) (range_with_len a n)) ≡ day_of_windows []
    no-windows a zero each = refl
    no-windows a (suc n) each =
        ap (λ (row : WindowRow). day_of_windows (row ∷ map (window office site) (range_with_len (a + 1) n))) (no-window a (each a (omega arith) (omega arith)))
        ∙ no-windows (a + 1) n (λ start low high. each start (omega (arith, low)) (omega (arith, high)))

    no-day : ozone_day office site day ≡ day_of_windows []
    unfolding ozone_day windows starts_of
    no-day = no-windows (hour_number day 7) 17 (λ start low high. omega (arith, low, high))

    module _ (unapproved : is_approved office.records site day ≡ false) where
      no-held : held_day office site day ≡ no_day
      unfolding held_day
      no-held = λ i. record {
        valid = (no-day i).valid;
        counted = (ap (λ (d : OzoneDay). counts office.records site day d.valid) no-day ∙ ap (λ b. is_in_season (season_of office.records site (year_of day)) day && b) unapproved ∙ never (is_in_season (season_of office.records site (year_of day)) day)) i;
        maximum = (no-day i).maximum;
      }

      -- nothing is kept of a day whose hours have nothing
      pub absent-day : (cells : Cells) → IsEmptyDay cells site day → IsDayOf office cells site day
      absent-day cells empty = record {
        hours = λ hour at. empty.hours hour at ∙ sym (absent hour (omega (arith, at)) (omega (arith, at)) (omega (arith, at, in_profile)));
        averages = λ start at kept. empty.averages start at ∙ sym (ap averages_of (no-window start at));
        held = empty.held ∙ sym no-held;
      }

  -- hours that are a list without a value
  pub absent-hours : (hours : List (Option Cell)) → hours ≡ hours_from office site day → list_all is_none hours ≡ true
      → (hour : ℕ) → 24 * day ≤ hour → hour < 24 * day + 31 → hour ≤ LAST_HOUR → site_hour office site hour ≡ None
  unfolding hours_from
  absent-hours hours are none hour low high within =
      let on : nat_le hour LAST_HOUR ≡ true = grind (arith, nat_tests, within) in
      sym (ap (λ b. cond b (site_hour office site hour) None) on)
      ∙ none-there (hour_at office site) (24 * day) 31 (sym (ap (list_all is_none) are) ∙ none) hour low high

pub unobserved : (office : Office) (site : Site) (day : ℕ) → day ≤ LAST_DAY → list_any (observes site day) office.observations ≡ false → is_approved office.records site day ≡ false
    → (cells : Cells) → IsEmptyDay cells site day → IsDayOf office cells site day
unobserved office site day in_profile none unapproved =
    absent-day office site day in_profile
    (λ hour low high within. no-hour office site day none hour (let near : ((hour / 24 == day) || (hour / 24 == day + 1)) ≡ true = grind (arith, nat_tests, low, high) in near))
    unapproved

pub all-kept : (office : Office) (cells : Cells) → AreFilling office cells
    → ((site : Site) (day : ℕ) → day ≤ LAST_DAY → list_any (observes site day) office.observations ≡ true → IsDayOf office cells site day)
    → ((site : Site) (day : ℕ) → day ≤ LAST_DAY → list_any (approves site day) office.records ≡ true → IsDayOf office cells site day)
    → AreKept office cells
unfolding AreKept AreFilling is_approved
all-kept office cells each observed approved site day in_profile = elim (each site day in_profile) [
  | inl of ↦ of
  | inr empty ↦ by (list_any (observes site day) office.observations) (list_any (approves site day) office.records) refl refl empty
]
  where
    by : (p q : Bool) → list_any (observes site day) office.observations ≡ p → list_any (approves site day) office.records ≡ q → IsEmptyDay cells site day → IsDayOf office cells site day
    by true q is app empty = observed site day in_profile is
    by false true is app empty = approved site day in_profile app
    by false false is app empty = unobserved office site day in_profile is app cells empty
