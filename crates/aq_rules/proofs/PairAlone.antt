-- A pair of which the joined site has no data, and to which it is joined only after the year, is the site.
use Rattle.std.proofs.Common.{◌≡◌, ℕ, ◌+◌, ◌-◌, ◌<◌, ◌≤◌, Bool, true, false, cond, ◌&&◌, ◌||◌, List, [], ◌∷◌, map, refl, sym, ap, subst, ◌∙◌, arith}
use Rattle.std.proofs.lemmas.Bool.{lt-ltb}
use Rattle.std.proofs.lemmas.List.Sums.{sum_by-cons}
use Rattle.std.specs.List.{filter_map, range_with_len}
use Rattle.std.specs.Option.{option_or}
use Rattle.std.specs.Prelude.{Option, None, nat_lt, count_by}
use Rattle.aq_base.specs.Calendar.{day_of_hour, year_first, days_in_year, days_of_years}
use Rattle.aq_base.specs.declared.day.TheConstants.{FIRST_YEAR}
use Rattle.aq_rules.specs.Office.Office.{Office}
use Rattle.aq_rules.specs.Ozone.SiteHour.{site_hour}
use Rattle.aq_rules.specs.Ozone.EightHour.{row_of, eight_hours, window, window_by}
use Rattle.aq_rules.specs.Ozone.OzoneDay.{day_of_windows, ozone_day, starts_of, windows}
use Rattle.aq_rules.specs.Ozone.OzoneYear.{days_of, is_season_day, counts_as_valid, ozone_days, ozone_year}
use Rattle.aq_rules.specs.Combined.Pair.{Pair, pair_hour, pair_ozone_day, pair_ozone_year, pair_windows_on, is_pair_approved}
use Rattle.aq_rules.proofs.Days.{years_next}
use Rattle.aq_rules.proofs.Ranges.{range-agree}

map-agree : {X Y : Type 0} (f g : X → Y) → ((x : X) → f x ≡ g x) → (xs : List X) → map f xs ≡ map g xs
map-agree f g same [] = refl
map-agree f g same (x ∷ xs) =
    let rest : map f xs ≡ map g xs = map-agree f g same xs in
    let here : f x ≡ g x = same x in
    cc

pub filter_map-agree : {X Y : Type 0} (f g : X → Option Y) → ((x : X) → f x ≡ g x) → (xs : List X) → filter_map f xs ≡ filter_map g xs
filter_map-agree f g same [] = refl
filter_map-agree f g same (x ∷ xs) =
    let rest : filter_map f xs ≡ filter_map g xs = filter_map-agree f g same xs in
    let here : f x ≡ g x = same x in
    cc

count-range : (f g : ℕ → Bool) (a n : ℕ) → ((k : ℕ) → a ≤ k → k < a + n → f k ≡ g k)
    → count_by f (range_with_len a n) ≡ count_by g (range_with_len a n)
count-range f g a n same =
    range-agree (λ (h : ℕ → Bool) ks. count_by h ks) (λ b k rest. cond b 1 0 + rest) (λ h k ks. sum_by-cons (λ x. cond (h x) 1 0) k ks) (λ f g. refl) f g a n same

pub either : {X : Type 0} (b : Bool) (own joined : Option X) → joined ≡ None → cond b own (option_or joined own) ≡ own
either true own joined none = refl
either false own joined none = rw none refl

module _ (office : Office) (pair : Pair) (no_hour : (hour : ℕ) → site_hour office pair.joined hour ≡ None) where
  hour-alone : (hour : ℕ) → pair_hour office pair hour ≡ site_hour office pair.site hour
  unfolding pair_hour
  hour-alone hour = either (nat_lt (day_of_hour hour) pair.from) (site_hour office pair.site hour) (site_hour office pair.joined hour) (no_hour hour)

  window-alone : (start : ℕ) → window_by (pair_hour office pair) start ≡ window office pair.site start
  unfolding window
  window-alone start = ap row_of (filter_map-agree (pair_hour office pair) (site_hour office pair.site) hour-alone (eight_hours start))

  pub windows-alone : (day : ℕ) → pair_windows_on office pair day ≡ windows office pair.site day
  unfolding windows
  windows-alone day = map-agree (window_by (pair_hour office pair)) (window office pair.site) window-alone (starts_of day)

  day-alone : (day : ℕ) → pair_ozone_day office pair day ≡ ozone_day office pair.site day
  unfolding pair_ozone_day ozone_day
  day-alone day = ap day_of_windows (windows-alone day)

  -- a day before the joined site is in force
  counted-alone : (year day : ℕ) → day < pair.from
      → (is_season_day office pair.site year day && ((pair_ozone_day office pair day).valid || is_pair_approved office pair day))
      ≡ (is_season_day office pair.site year day && counts_as_valid office pair.site day)
  counted-alone year day before =
      let same : pair_ozone_day office pair day ≡ ozone_day office pair.site day = day-alone day in
      let own : nat_lt day pair.from ≡ true = lt-ltb day pair.from before in
      rw same rw own refl

  pub year-alone : (year : ℕ) → year_first year + days_in_year year ≤ pair.from → pair_ozone_year office pair year ≡ ozone_year office pair.site year
  unfolding pair_ozone_year ozone_year ozone_days days_of
  year-alone year before =
      let days : map (pair_ozone_day office pair) (days_of year) ≡ map (ozone_day office pair.site) (days_of year) =
      map-agree (pair_ozone_day office pair) (ozone_day office pair.site) day-alone (days_of year)
      in
      let valid = count-range
      (λ day. is_season_day office pair.site year day && ((pair_ozone_day office pair day).valid || is_pair_approved office pair day))
      (λ day. is_season_day office pair.site year day && counts_as_valid office pair.site day)
      (year_first year) (days_in_year year) (λ day low high. counted-alone year day (omega arith))
      in
      rw days rw valid refl

-- ---- the years one after the other

abbrev pub year_end : ℕ → ℕ
year_end year = year_first year + days_in_year year

year-follows : (year : ℕ) → FIRST_YEAR ≤ year → year_end year ≡ year_first (year + 1)
year-follows year late =
    let is : FIRST_YEAR + (year - FIRST_YEAR) ≡ year = omega (arith, late) in
    let following : (year + 1) - FIRST_YEAR ≡ (year - FIRST_YEAR) + 1 = omega (arith, late) in
    let next : days_of_years ((year - FIRST_YEAR) + 1) ≡ days_of_years (year - FIRST_YEAR) + days_in_year (FIRST_YEAR + (year - FIRST_YEAR)) = years_next (year - FIRST_YEAR) in
    let P : ℕ → Type 0 = λ y. days_of_years ((year - FIRST_YEAR) + 1) ≡ days_of_years (year - FIRST_YEAR) + days_in_year y in
    let there : days_of_years ((year - FIRST_YEAR) + 1) ≡ year_end year = subst P is next in
    sym there ∙ sym (ap days_of_years following)

year-ends : (year : ℕ) → FIRST_YEAR ≤ year → year_end year ≤ year_end (year + 1)
year-ends year late = omega (arith, year-follows year late)

-- the ends of three years
pub three-end : (year from : ℕ) → FIRST_YEAR + 2 ≤ year → year_first (year + 1) ≤ from
    → (year_end (year - 2) ≤ from) × (year_end (year - 1) ≤ from) × (year_end year ≤ from)
three-end year from late before =
    let last : year_end year ≤ from = omega (arith, year-follows year (omega (arith, late)), before) in
    let one : (year - 1) + 1 ≡ year = omega (arith, late) in
    let two : (year - 2) + 1 ≡ year - 1 = omega (arith, late) in
    let P : ℕ → Type 0 = λ y. year_end (year - 1) ≤ year_end y in
    let Q : ℕ → Type 0 = λ y. year_end (year - 2) ≤ year_end y in
    let middle : year_end (year - 1) ≤ year_end year = subst P one (year-ends (year - 1) (omega (arith, late))) in
    let first : year_end (year - 2) ≤ year_end (year - 1) = subst Q two (year-ends (year - 2) (omega (arith, late))) in
    (omega (arith, first, middle, last), omega (arith, middle, last), last)
