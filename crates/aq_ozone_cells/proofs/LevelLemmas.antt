-- What is kept is the office's, level by level.
use Rattle.std.proofs.Common.{◌≡◌, ℕ, zero, suc, ◌+◌, ◌<◌, ◌≤◌, Bool, true, false, cond, ◌&&◌, List, ◌∷◌, length, map, refl, ap, sym, subst, arith}
use Rattle.std.specs.Prelude.{ℤ, ◌||◌, Option, IsTrue, nat_le, count_by, filter, filter_map}
use Rattle.std.specs.List.{cons_option, range_with_len}
use Rattle.std.proofs.lemmas.Bool.Decides.{nat_tests}
use Rattle.aq_base.specs.Calendar.{days_in_year, hour_number, year_first}
use Rattle.aq_base.specs.Site.{Site}
use Rattle.aq_base.specs.declared.day.TheConstants.{LAST_HOUR}
use Rattle.aq_base.specs.declared.standard.Standard.TheVariants.{Ozone2015}
use Rattle.aq_rules.specs.Lists.{greatest, ranked}
use Rattle.aq_rules.specs.Office.Approval.{is_approved}
use Rattle.aq_rules.specs.Office.Office.{Office}
use Rattle.aq_rules.specs.Office.Season.{is_in_season, season_of}
use Rattle.aq_rules.specs.Ozone.EightHour.{WindowRow, eight_hours, row_of, window, window_by}
use Rattle.aq_rules.specs.Ozone.OzoneDay.{ozone_day, starts_of, windows, windows_by}
use Rattle.aq_rules.specs.Ozone.OzoneYear.{days_of, fourth_of, ozone_days, ozone_year, ranked_maximum}
use Rattle.aq_rules.specs.Ozone.SiteHour.{Cell, site_hour}
use Rattle.aq_rules.specs.Standards.{is_above, level_of}
use Rattle.aq_ozone.proofs.DayLemmas.{same_in_range}
use Rattle.aq_ozone_cells.specs.KeptDays.{average_at, averages_of, held_at, hour_at}
use Rattle.aq_ozone_cells.specs.OzoneCells.{average_of_hours, counts, day_from, day_of_averages, held_day, is_day_of, ozone_day_of, row_with, year_of_days, AreHeldBy, Cells}
use Rattle.aq_ozone_cells.specs.YearTallies.{maximum_of}
use Rattle.aq_ozone_cells.specs.declared.kept_days.HeldDay.{HeldDay}
use Rattle.aq_ozone_cells.specs.declared.kept_days.KeptAverage.{KeptAverage}
use Rattle.aq_ozone_cells.proofs.HeldYear.{count-same}
use Rattle.aq_ozone_cells.proofs.SiteNumbers.{among}

-- ---- an average and its hours

pub hours-same : (f g : ℕ → Option Cell) (last a n : ℕ) → ((hour : ℕ) → a ≤ hour → hour < a + n → hour ≤ last → f hour ≡ g hour)
    → filter_map f (filter (λ hour. nat_le hour last) (range_with_len a n)) ≡ filter_map g (filter (λ hour. nat_le hour last) (range_with_len a n))
hours-same f g last a zero same = refl
hours-same f g last a (suc n) same =
    by (nat_le a last) refl (hours-same f g last (a + 1) n (λ hour low high within. same hour (omega (arith, low)) (omega (arith, high)) within))
  where
    by : (b : Bool) → nat_le a last ≡ b
        → filter_map f (filter (λ hour. nat_le hour last) (range_with_len (a + 1) n)) ≡ filter_map g (filter (λ hour. nat_le hour last) (range_with_len (a + 1) n))
        → filter_map f (cond b (a ∷ filter (λ hour. nat_le hour last) (range_with_len (a + 1) n)) (filter (λ hour. nat_le hour last) (range_with_len (a + 1) n)))
        ≡ filter_map g (cond b (a ∷ filter (λ hour. nat_le hour last) (range_with_len (a + 1) n)) (filter (λ hour. nat_le hour last) (range_with_len (a + 1) n)))
    by true is rest =
        let within : a ≤ last = grind (arith, nat_tests) in
        let here = same a (omega arith) (omega arith) within in
        λ i. cons_option (here i) (rest i)
    by false is rest = rest

pub average-is : (office : Office) (cells : Cells) (site : Site) (start : ℕ)
    → ((hour : ℕ) → start ≤ hour → hour < start + 8 → hour ≤ LAST_HOUR → hour_at cells site hour ≡ site_hour office site hour)
    → average_of_hours cells site start ≡ averages_of (window office site start)
unfolding average_of_hours window eight_hours
average-is office cells site start same =
    ap (λ (l : List Cell). averages_of (row_of l)) (hours-same (hour_at cells site) (site_hour office site) LAST_HOUR start 8 same)

pub windows-are : (office : Office) (cells : Cells) (site : Site) (day : ℕ)
    → ((hour : ℕ) → hour_number day 7 ≤ hour → hour < hour_number day 7 + 24 → hour ≤ LAST_HOUR → hour_at cells site hour ≡ site_hour office site hour)
    → windows_by (window_by (hour_at cells site)) day ≡ windows office site day
unfolding windows window starts_of eight_hours
windows-are office cells site day same =
    same_in_range (window_by (hour_at cells site)) (window office site) (hour_number day 7) 17
    (λ start low high. ap row_of (hours-same (hour_at cells site) (site_hour office site) LAST_HOUR start 8
    (λ hour from to within. same hour (omega (arith, low, from)) (omega (arith, high, to)) within)))

-- ---- a day and its averages

items-same : {X Y : Type 0} (p : X → Option ℤ) (f : ℕ → X) (q : Y → Option ℤ) (g : ℕ → Y) (a n : ℕ) → ((k : ℕ) → a ≤ k → k < a + n → p (f k) ≡ q (g k))
    → filter_map p (map f (range_with_len a n)) ≡ filter_map q (map g (range_with_len a n))
items-same p f q g a zero same = refl
items-same p f q g a (suc n) same =
    let rest = items-same p f q g (a + 1) n (λ k low high. same k (omega (arith, low)) (omega (arith, high))) in
    λ i. cons_option (same a (omega arith) (omega arith) i) (rest i)

module _ (office : Office) (cells : Cells) (site : Site) where
  pub day-is : (day : ℕ)
      → ((start : ℕ) → hour_number day 7 ≤ start → start < hour_number day 7 + 17 → average_at cells site start ≡ averages_of (window office site start))
      → day_from office.records cells site day ≡ held_day office site day
  unfolding day_from day_of_averages held_day ozone_day windows starts_of
  day-is day same =
      let row : ℕ → WindowRow = λ start. row_with (average_at cells site start) in
      let full = items-same (λ (r : WindowRow). r.full) row (λ (r : WindowRow). r.full) (window office site) (hour_number day 7) 17
      (λ start low high. ap (λ (a : KeptAverage). a.full) (same start low high)) in
      let net = items-same (λ (r : WindowRow). r.net) row (λ (r : WindowRow). r.net) (window office site) (hour_number day 7) 17
      (λ start low high. ap (λ (a : KeptAverage). a.net) (same start low high)) in
      let valid = ap (λ (l : List ℤ). nat_le 13 (length l) || is_above (level_of Ozone2015) (greatest l)) full in
      λ i. record { valid = valid i; counted = counts office.records site day (valid i); maximum = greatest (net i) }

  -- ---- a year and its days

  module _ (year : ℕ) (same : (day : ℕ) → IsTrue (is_day_of year day) → held_at cells site day ≡ held_day office site day) where
    pub are-held : AreHeldBy office.records cells site year
    unfolding AreHeldBy held_day
    are-held day of_year = subst (λ (d : HeldDay). d.counted ≡ counts office.records site day d.valid) (sym (same day of_year)) refl

    day-held : (day : ℕ) → year_first year ≤ day → day < year_first year + days_in_year year → held_at cells site day ≡ held_day office site day
    day-held day first last = same day (among (year_first year) (days_in_year year) day first last)

    pub year-is : year_of_days office.records cells site year ≡ ozone_year office site year
    unfolding year_of_days ozone_year ozone_days days_of held_day
    year-is =
        let days = range_with_len (year_first year) (days_in_year year) in
        let season = season_of office.records site year in
        let counted = count-same (λ day. is_in_season season day && ((held_at cells site day).valid || is_approved office.records site day))
        (λ day. is_in_season season day && ((ozone_day office site day).valid || is_approved office.records site day)) (year_first year) (days_in_year year)
        (λ day first last. ap (λ (d : HeldDay). is_in_season season day && (d.valid || is_approved office.records site day)) (day-held day first last)) in
        let maxima = items-same ranked_maximum (λ day. ozone_day_of (held_at cells site day)) ranked_maximum (ozone_day office site) (year_first year) (days_in_year year)
        (λ day first last. ap maximum_of (day-held day first last)) in
        λ i. record {
          season_days = count_by (is_in_season season) days;
          season_valid = counted i;
          ranked = length (ranked (maxima i));
          fourth = fourth_of (ranked (maxima i));
        }
