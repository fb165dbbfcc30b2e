-- A year of ozone that is not in reach: its season, its approved days and its days are as before.
use Rattle.std.proofs.Common.{◌≡◌, ℕ, zero, suc, ◌+◌, ◌-◌, ◌*◌, ◌<◌, ◌≤◌, Bool, true, false, cond, ◌&&◌, ◌||◌, List, [], ◌∷◌, ◌++◌, map, length, refl, sym, ap, ◌∙◌, subst, arith, inl, inr}
use Rattle.std.specs.Prelude.{Option, Some, None, is_some, find, filter_map, slice_get, option_and_then, unwrap_or, count_by, nat_le, ◌==◌}
use Rattle.std.specs.List.{list_any, cons_option}
use Rattle.std.proofs.lemmas.Bool.{and_parts, cases_order, leb-true}
use Rattle.std.proofs.lemmas.List.Sums.{sum_by-cons}
use Rattle.aq_base.specs.Site.{Site}
use Rattle.aq_base.specs.Calendar.{years, year_of, year_first, days_in_year, days_of_years, is_year}
use Rattle.aq_base.specs.declared.day.TheConstants.{FIRST_YEAR, LAST_YEAR, LAST_DAY}
use Rattle.aq_base.specs.declared.monitor.Pollutant.TheVariants.{Ozone}
use Rattle.aq_base.specs.declared.office.OfficeRecord.{OfficeRecord}
use Rattle.aq_base.specs.declared.office.OfficeRecord.TheVariants.{Season as SeasonRecord, Approved}
use Rattle.aq_base.specs.declared.office.OfficeKey.{OfficeKey}
use Rattle.aq_base.specs.declared.office.OfficeKey.TheVariants as keys
use Rattle.aq_rules.specs.Office.Office.{Office, IsOffice, key_numbers, record_rank, site_numbers, is_same}
use Rattle.aq_rules.specs.Office.Monitors.{is_same_site}
use Rattle.aq_rules.specs.Office.Approval.{approves, is_approved}
use Rattle.aq_rules.specs.Office.Season.{season_by, season_of, whole_year, is_in_season, Season}
use Rattle.aq_rules.specs.Ozone.OzoneDay.{ozone_day}
use Rattle.aq_rules.specs.Ozone.OzoneYear.{ozone_days, ozone_year, days_of, ranked_maxima, fourth_of, counts_as_valid}
use Rattle.aq_rules.specs.Kept.Cells.{OzoneYearCell}
use Rattle.aq_rules.specs.Kept.Reach.{ChangedRecord, cells_reading, reads, reach}
use Rattle.aq_rules.proofs.CellsOnce.{member, cell-itself}
use Rattle.aq_rules.proofs.Days.{in_year, years_count, years_next, years_rise}
use Rattle.aq_rules.proofs.Ranges.{range-agree}
use Rattle.aq_rules.proofs.Unreached.{ReadsAt, is_new_in}
use Rattle.aq_rules.proofs.UnreachedRows.{record-unreached, unread}
use Rattle.aq_dirty.proofs.OutOfReachLemmas.Hours.{year-reads}
use Rattle.aq_dirty.proofs.OutOfReachLemmas.Windows.{ozone_day-between, hours-same}

-- ---- what is asked of one key is an answer about the record that stands under it

any-is_found : {X : Type 0} (test at : X → Bool) → ((x : X) → test x ≡ at x) → (rows : List X) → list_any test rows ≡ is_some (find at rows)
any-is_found test at same [] = refl
any-is_found test at same (x ∷ rows) = ap (λ t. t || list_any test rows) (same x) ∙ by (at x) (any-is_found test at same rows)
  where
    by : (t : Bool) → list_any test rows ≡ is_some (find at rows) → (t || list_any test rows) ≡ is_some (cond t (Some x) (find at rows))
    by true rest = refl
    by false rest = rest

first-is_found : {X Y : Type 0} (word : X → Option Y) (at : X → Bool) → ((x : X) → is_some (word x) ≡ at x) → (rows : List X)
    → slice_get (filter_map word rows) 0 ≡ option_and_then word (find at rows)
first-is_found word at same [] = refl
first-is_found {Y = Y} word at same (x ∷ rows) = by (at x) (word x) refl (same x) (first-is_found word at same rows)
  where
    by : (t : Bool) (o : Option Y) → word x ≡ o → is_some o ≡ t → slice_get (filter_map word rows) 0 ≡ option_and_then word (find at rows)
        → slice_get (cons_option o (filter_map word rows)) 0 ≡ option_and_then word (cond t (Some x) (find at rows))
    by true None is some rest = cc
    by true (Some y) is some rest = sym is
    by false None is some rest = rest
    by false (Some y) is some rest = cc

-- a site and a number, as they stand in a key
same-numbers : (s t : Site) (m n : ℕ) → (is_same_site s t && (m == n)) ≡ is_same (site_numbers s ++ m ∷ []) (site_numbers t ++ n ∷ [])
same-numbers s t m n = by (s.state == t.state) (s.county == t.county) (s.number == t.number) (m == n)
  where
    by : (a b c d : Bool) → (((a && b) && c) && d) ≡ (a && (b && (c && (d && true))))
    by false b c d = refl
    by true false c d = refl
    by true true false d = refl
    by true true true false = refl
    by true true true true = refl

abbrev is_under : OfficeKey → OfficeRecord → Bool
is_under key row = is_same (record_rank row) (key_numbers key)

module _ (site : Site) where
  approved-under : (day : ℕ) (row : OfficeRecord) → approves site day row ≡ is_under (keys.Approved site day) row
  approved-under day (Approved s d) = same-numbers s site d day
  approved-under day row = refl

  season-under : (year : ℕ) (row : OfficeRecord) → is_some (season_by site year row) ≡ is_under (keys.Season site year) row
  season-under year (SeasonRecord s y first last) = by (is_same_site s site && (y == year)) (record { first = first; last = last }) ∙ same-numbers s site y year
    where
      by : (t : Bool) (season : Season) → is_some (cond t (Some season) None) ≡ t
      by true season = refl
      by false season = refl
  season-under year row = refl

-- ---- season and approved days

module _ (a b : Office) (site : Site) where
  approved-read : (records : List OfficeRecord) (day : ℕ) (is_new : Bool) → reads records (OzoneYearCell site (year_of day)) (ChangedRecord (keys.Approved site day) is_new) ≡ true
  unfolding reads cells_reading
  approved-read records day is_new = rw (cell-itself (OzoneYearCell site (year_of day))) refl

  pub approved-out_of_reach : (day : ℕ) → member (OzoneYearCell site (year_of day)) (reach a b) ≡ false → is_approved a.records site day ≡ is_approved b.records site day
  unfolding is_approved
  approved-out_of_reach day out =
      let key = keys.Approved site day in
      let cell = OzoneYearCell site (year_of day) in
      any-is_found (approves site day) (is_under key) (approved-under site day) a.records
      ∙ ap is_some (record-unreached a b cell a.records (unread a b cell out).0 key (approved-read a.records day (is_new_in a.records key)))
      ∙ sym (any-is_found (approves site day) (is_under key) (approved-under site day) b.records)

  season-read : (records : List OfficeRecord) (year : ℕ) (is_new : Bool) → reads records (OzoneYearCell site year) (ChangedRecord (keys.Season site year) is_new) ≡ true
  unfolding reads cells_reading
  season-read records year is_new = rw (cell-itself (OzoneYearCell site year)) refl

  pub season-out_of_reach : (year : ℕ) → member (OzoneYearCell site year) (reach a b) ≡ false → season_of a.records site year ≡ season_of b.records site year
  unfolding season_of
  season-out_of_reach year out =
      let key = keys.Season site year in
      let cell = OzoneYearCell site year in
      ap (λ (o : Option Season). unwrap_or o (whole_year year))
      (first-is_found (season_by site year) (is_under key) (season-under site year) a.records
      ∙ ap (option_and_then (season_by site year)) (record-unreached a b cell a.records (unread a b cell out).0 key (season-read a.records year (is_new_in a.records key)))
      ∙ sym (first-is_found (season_by site year) (is_under key) (season-under site year) b.records))

-- ---- the days of a year of the profile

rise-by : (k n m : ℕ) → k + n ≡ m → days_of_years k ≤ days_of_years m
rise-by k zero m e = let same : k ≡ m = omega (arith, e) in subst (λ x. days_of_years k ≤ days_of_years x) same (omega arith)
rise-by k (suc n) m e = omega (arith, years_rise k, rise-by (k + 1) n m (omega (arith, e)))

pub all-years : days_of_years years ≡ LAST_DAY + 1
unfolding days_of_years
all-years = refl

pub year_of-its_day : (year day : ℕ) → is_year year ≡ true → year_first year ≤ day → day < year_first year + days_in_year year → year_of day ≡ year
year_of-its_day year day is low high =
    let inside = and_parts (nat_le FIRST_YEAR year) (nat_le year LAST_YEAR) is in
    let first : FIRST_YEAR ≤ year = leb-true FIRST_YEAR year inside.0 in
    let last : year ≤ LAST_YEAR = leb-true year LAST_YEAR inside.1 in
    let place = year - FIRST_YEAR in
    let back : FIRST_YEAR + place ≡ year = omega (arith, first) in
    let next : days_of_years (place + 1) ≡ days_of_years place + days_in_year year = years_next place ∙ ap (λ y. days_of_years place + days_in_year y) back in
    let before : day < days_of_years (place + 1) = omega (arith, next, high) in
    let small : day ≤ LAST_DAY = omega (arith, before, rise-by (place + 1) (years - (place + 1)) years (omega (arith, first, last)), all-years) in
    let it = in_year day small in
    elim (cases_order place (years_count day)) [
      | inl same ↦ it.year ∙ ap (λ k. FIRST_YEAR + k) (sym same) ∙ back
      | inr (inl more) ↦ absurd (omega (arith, before, it.from, rise-by (place + 1) (years_count day - (place + 1)) (years_count day) (omega (arith, more))))
      | inr (inr less) ↦ absurd (omega (arith, low, it.before, rise-by (years_count day + 1) (place - (years_count day + 1)) place (omega (arith, less))))
    ]

-- ---- the year

module _ (a b : Office) (site : Site) (year : ℕ) (valid : IsOffice a) (after : IsOffice b) (out : member (OzoneYearCell site year) (reach a b) ≡ false) where
  pub day-same : (day : ℕ) → year_of day ≡ year → ozone_day a site day ≡ ozone_day b site day
  day-same day is =
      ozone_day-between a b site day
      (hours-same a b site valid after (OzoneYearCell site year) (24 * day + 7) 24
      (λ records hour low high. subst (λ y. ReadsAt (OzoneYearCell site y) records site Ozone hour) is (year-reads records site day hour low (omega (arith, high)))) out)

  pub valid-same : (day : ℕ) → year_of day ≡ year → counts_as_valid a site day ≡ counts_as_valid b site day
  valid-same day is = λ i. (day-same day is i).valid || approved-out_of_reach a b site day (subst (λ y. member (OzoneYearCell site y) (reach a b) ≡ false) (sym is) out) i

  module _ (inside : is_year year ≡ true) where
    pub days-same : ozone_days a site year ≡ ozone_days b site year
    unfolding ozone_days days_of
    days-same =
        range-agree (λ f ks. map f ks) (λ y k rest. y ∷ rest) (λ f k ks. refl) (λ f g. refl) (ozone_day a site) (ozone_day b site) (year_first year) (days_in_year year)
        (λ day low high. day-same day (year_of-its_day year day inside low high))

    abbrev counts_in : Office → Season → ℕ → Bool
    counts_in office season day = is_in_season season day && counts_as_valid office site day

    counted-same : (season : Season) → count_by (counts_in a season) (days_of year) ≡ count_by (counts_in b season) (days_of year)
    unfolding days_of
    counted-same season =
        range-agree (λ p ks. count_by p ks) (λ t k rest. cond t 1 0 + rest) (λ p k ks. sum_by-cons (λ n. cond (p n) 1 0) k ks) (λ p q. refl)
        (counts_in a season) (counts_in b season) (year_first year) (days_in_year year)
        (λ day low high. ap (λ t. is_in_season season day && t) (valid-same day (year_of-its_day year day inside low high)))

    pub year-same : ozone_year a site year ≡ ozone_year b site year
    unfolding ozone_year
    year-same =
        let season = season-out_of_reach a b site year out in
        let counted = counted-same (season_of a.records site year) ∙ ap (λ (s : Season). count_by (counts_in b s) (days_of year)) season in
        λ i. record {
          season_days = count_by (is_in_season (season i)) (days_of year);
          season_valid = counted i;
          ranked = length (ranked_maxima (days-same i));
          fourth = fourth_of (ranked_maxima (days-same i));
        }
