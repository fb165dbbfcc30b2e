-- The year of the days that are held, by its tallies.
use Rattle.std.proofs.Common.{◌≡◌, ℕ, zero, suc, ◌+◌, ◌<◌, ◌≤◌, Bool, true, false, cond, ◌&&◌, List, [], ◌∷◌, length, map, refl, ap, sym, subst, ◌∙◌, arith}
use Rattle.std.specs.Prelude.{ℤ, pos, ◌||◌, Option, Some, None, count_by, filter_map}
use Rattle.std.specs.List.{cons_option, range_with_len}
use Rattle.std.proofs.lemmas.List.Sums.{sum_by-cons, sum_by-le-sum_by}
use Rattle.aq_base.specs.Calendar.{days_in_year, year_first, year_of}
use Rattle.aq_base.specs.Site.{Site}
use Rattle.aq_base.specs.declared.day.TheConstants.{FIRST_YEAR, LAST_DAY}
use Rattle.aq_base.specs.declared.office.OfficeRecord.{OfficeRecord}
use Rattle.aq_cal.proofs.Within.{year_holds}
use Rattle.aq_rules.specs.Lists.{ranked}
use Rattle.aq_rules.specs.Office.Approval.{is_approved}
use Rattle.aq_rules.specs.Office.Monitors.{is_same_site}
use Rattle.aq_rules.specs.Office.Sameness.{site_itself}
use Rattle.aq_rules.specs.Office.Season.{is_in_season, season_of}
use Rattle.aq_rules.specs.Ozone.OzoneYear.{days_of, fourth_of, ranked_maximum}
use Rattle.aq_ozone_cells.specs.KeptDays.{held_at}
use Rattle.aq_ozone_cells.specs.OzoneCells.{counted_held, counts, day_from, is_day_of, maxima_held, ozone_day_of, year_of_days, AreHeldBy, Cells}
use Rattle.aq_ozone_cells.specs.RankedMaxima.{number_and_fourth}
use Rattle.aq_ozone_cells.specs.YearTallies.{count_of, maximum_of}
use Rattle.aq_ozone_cells.specs.declared.kept_days.HeldDay.{HeldDay}
use Rattle.aq_ozone.proofs.YearLemmas.{length_ranked}
use Rattle.aq_ozone_cells.proofs.SiteNumbers.{among}

module _ (held : ℕ → HeldDay) where
  counted-number : (days : List ℕ) → length (filter_map (λ d. count_of (held d)) days) ≡ count_by (λ d. (held d).counted) days
  counted-number [] = refl
  counted-number (day ∷ days) =
      by (held day).counted ∙ ap (λ (n : ℕ). cond (held day).counted 1 0 + n) (counted-number days) ∙ sym (sum_by-cons (λ (d : ℕ). cond (held d).counted 1 0) day days)
    where
      by : (b : Bool) → length (cons_option (cond b (Some (pos 0)) None) (filter_map (λ d. count_of (held d)) days)) ≡ cond b 1 0 + length (filter_map (λ d. count_of (held d)) days)
      by true = omega arith
      by false = omega arith

  maxima-of : (days : List ℕ) → filter_map ranked_maximum (map (λ d. ozone_day_of (held d)) days) ≡ filter_map (λ d. maximum_of (held d)) days
  maxima-of [] = refl
  maxima-of (day ∷ days) = ap (λ (l : List ℤ). cons_option (maximum_of (held day)) l) (maxima-of days)

pub count-same : (p q : ℕ → Bool) (a n : ℕ) → ((k : ℕ) → a ≤ k → k < a + n → p k ≡ q k) → count_by p (range_with_len a n) ≡ count_by q (range_with_len a n)
count-same p q a zero same = refl
count-same p q a (suc n) same =
    sum_by-cons (λ (k : ℕ). cond (p k) 1 0) a (range_with_len (a + 1) n)
    ∙ (λ i. cond (same a (omega arith) (omega arith) i) 1 0 + count-same p q (a + 1) n (λ k low high. same k (omega (arith, low)) (omega (arith, high))) i)
    ∙ sym (sum_by-cons (λ (k : ℕ). cond (q k) 1 0) a (range_with_len (a + 1) n))

module _ (records : List OfficeRecord) (cells : Cells) (site : Site) (year : ℕ) (low : FIRST_YEAR ≤ year)
    (in_profile : year_first year + days_in_year year ≤ LAST_DAY + 1) (held : AreHeldBy records cells site year) where
  -- whether a day of the year counts, by the season and the approvals
  abbrev counts_here : ℕ → Bool
  counts_here day = is_in_season (season_of records site year) day && ((held_at cells site day).valid || is_approved records site day)

  counted-is : (k : ℕ) → year_first year ≤ k → k < year_first year + days_in_year year → (held_at cells site k).counted ≡ counts_here k
  unfolding AreHeldBy
  counted-is k first last =
      let is : year_of k ≡ year = (year_holds year k low (omega (arith, last, in_profile))).1 (first, last) in
      held k (among (year_first year) (days_in_year year) k first last)
      ∙ ap (λ y. is_in_season (season_of records site y) k && ((held_at cells site k).valid || is_approved records site k)) is

  season_valid-is : length (counted_held cells site year) ≡ count_by counts_here (days_of year)
  unfolding days_of
  season_valid-is =
      counted-number (held_at cells site) (days_of year)
      ∙ count-same (λ d. (held_at cells site d).counted) counts_here (year_first year) (days_in_year year) counted-is

  pub valid-few : length (counted_held cells site year) ≤ count_by (is_in_season (season_of records site year)) (days_of year)
  valid-few =
      subst (λ n. n ≤ count_by (is_in_season (season_of records site year)) (days_of year)) (sym season_valid-is)
      (sum_by-le-sum_by (λ (day : ℕ). cond (counts_here day) 1 0) (λ (day : ℕ). cond (is_in_season (season_of records site year) day) 1 0) (days_of year)
      (λ day. by (is_in_season (season_of records site year) day) ((held_at cells site day).valid || is_approved records site day)))
    where
      by : (a b : Bool) → cond (a && b) 1 0 ≤ cond a 1 0
      by true true = omega arith
      by true false = omega arith
      by false b = omega arith

  pub held-year : (season_days counted number : ℕ) (fourth : Option ℤ)
      → season_days ≡ count_by (is_in_season (season_of records site year)) (days_of year)
      → counted ≡ length (counted_held cells site year)
      → (number, fourth) ≡ number_and_fourth (maxima_held cells site year)
      → record { season_days = season_days; season_valid = counted; ranked = number; fourth = fourth } ≡ year_of_days records cells site year
  unfolding year_of_days
  held-year season_days counted number fourth days valid maxima =
      let values = maxima_held cells site year in
      let are : values ≡ filter_map ranked_maximum (map (λ d. ozone_day_of (held_at cells site d)) (days_of year)) = sym (maxima-of (held_at cells site) (days_of year)) in
      λ i. record {
        season_days = days i;
        season_valid = (valid ∙ season_valid-is) i;
        ranked = (ap (λ (p : ℕ × Option ℤ). p.0) maxima ∙ sym (length_ranked values) ∙ ap (λ (l : List ℤ). length (ranked l)) are) i;
        fourth = (ap (λ (p : ℕ × Option ℤ). p.1) maxima ∙ ap (λ (l : List ℤ). fourth_of (ranked l)) are) i;
      }

-- days that were settled are held by the records by which they were
pub settled-held : (records : List OfficeRecord) (before after : Cells) (site : Site) (year : ℕ)
    → ((other : Site) (number : ℕ) → held_at after other number ≡ cond (is_same_site site other && is_day_of year number) (day_from records before site number) (held_at before other number))
    → AreHeldBy records after site year
unfolding AreHeldBy day_from
settled-held records before after site year settled day of_year =
    let is : held_at after site day ≡ day_from records before site day
    = settled site day ∙ (λ i. cond (site_itself site i && of_year i) (day_from records before site day) (held_at before site day)) in
    subst (λ (d : HeldDay). d.counted ≡ counts records site day d.valid) (sym is) refl
