-- The ozone cells that read hours of a site which follow one another.
use Rattle.std.proofs.Common.{◌≡◌, ℕ, ◌+◌, ◌-◌, ◌≤◌, Bool, true, false, cond, ◌&&◌, ◌||◌, List, [], ◌∷◌, ◌++◌, refl, ap, ◌∙◌, arith, suc}
use Rattle.std.specs.Prelude.{◌==◌, nat_le, map}
use Rattle.std.specs.List.{list_any, range_with_len}
use Rattle.std.proofs.lemmas.List.Folds.{list_any-append}
use Rattle.aq_base.specs.Calendar.{year_of}
use Rattle.aq_base.specs.Site.{Site}
use Rattle.aq_base.specs.declared.day.TheConstants.{LAST_HOUR}
use Rattle.aq_base.specs.declared.monitor.Pollutant.TheVariants.{Ozone}
use Rattle.aq_base.specs.declared.office.OfficeRecord.{OfficeRecord}
use Rattle.aq_rules.specs.Office.Monitors.{is_same_site}
use Rattle.aq_rules.specs.Kept.Cells.{CellName as Cell, HourCell, WindowCell, OzoneDayCell, OzoneYearCell, PmDayCell, StratumCell, QuarterCell, PmYearCell, is_same_cell}
use Rattle.aq_rules.specs.Kept.Reach.{cells_in, days_reading, from_to, ozone_cells_at, windows_reading}
use Rattle.aq_registry.proofs.SiteLemmas.{flipped}
use Rattle.aq_dirty.specs.Reach.{adds_hours, day_reading}
use Rattle.aq_dirty.proofs.Ranges.{any-and, any-climb, any-eight, any-eights, any-false, any-flat_map, any-from_to, any-map}
use Rattle.aq_dirty.proofs.Years.{days-climb, years-climb}

-- ---- the cells that read one hour

module _ (test : Cell → Bool) (site : Site) (hour : ℕ) where
  parts : list_any test (ozone_cells_at site hour)
      ≡ (((test (HourCell site hour) || list_any (λ start. test (WindowCell site start)) (windows_reading hour))
      || list_any (λ day. test (OzoneDayCell site day)) (days_reading hour))
      || list_any (λ day. test (OzoneYearCell site (year_of day))) (days_reading hour))
  parts =
      let windows = map (WindowCell site) (windows_reading hour) in
      let days = map (OzoneDayCell site) (days_reading hour) in
      let years = map (λ day. OzoneYearCell site (year_of day)) (days_reading hour) in
      list_any-append test ((HourCell site hour ∷ windows) ++ days) years
      ∙ ap (λ b. b || list_any test years) (list_any-append test (HourCell site hour ∷ windows) days)
      ∙ (λ i. ((test (HourCell site hour) || any-map test (WindowCell site) (windows_reading hour) i)
      || any-map test (OzoneDayCell site) (days_reading hour) i)
      || any-map test (λ day. OzoneYearCell site (year_of day)) (days_reading hour) i)

pub or_false : (a : Bool) → (a || false) ≡ a
or_false true = refl
or_false false = refl

one_day : (b : Bool) (test : ℕ → Bool) (day : ℕ) → list_any test (cond b (day ∷ []) []) ≡ (b && test day)
one_day true test day = or_false (test day)
one_day false test day = refl

and_assoc : (a b c : Bool) → (a && (b && c)) ≡ (a && b && c)
and_assoc true b c = refl
and_assoc false b c = refl

-- whether a cell reads an hour
reads_hour : Cell → Site → ℕ → Bool
reads_hour (HourCell other hour) site h = (hour == h) && is_same_site other site
reads_hour (WindowCell other start) site h = (nat_le (h - 7) start && nat_le start h) && is_same_site other site
reads_hour (OzoneDayCell other day) site h = (nat_le 7 h && (day == day_reading h)) && is_same_site other site
reads_hour (OzoneYearCell other year) site h = (nat_le 7 h && (year == year_of (day_reading h))) && is_same_site other site
reads_hour cell site h = false

none : {X : Type 0} (xs : List X) → list_any (λ (x : X). false) xs ≡ false
none xs = any-false xs

one_hour : (cell : Cell) (site : Site) (h : ℕ) → list_any (is_same_cell cell) (ozone_cells_at site h) ≡ reads_hour cell site h
unfolding reads_hour
one_hour (HourCell other hour) site h =
    parts (is_same_cell (HourCell other hour)) site h
    ∙ (λ i. (((((hour == h) && is_same_site other site) || none (windows_reading h) i) || none (days_reading h) i) || none (days_reading h) i))
    ∙ or_false _ ∙ or_false _ ∙ or_false _
one_hour (WindowCell other start) site h =
    parts (is_same_cell (WindowCell other start)) site h
    ∙ (λ i. ((any-and (λ x. start == x) (is_same_site other site) (windows_reading h) i || none (days_reading h) i) || none (days_reading h) i))
    ∙ or_false _ ∙ or_false _ ∙ ap (λ b. b && is_same_site other site) (any-eight start h)
one_hour (OzoneDayCell other day) site h =
    parts (is_same_cell (OzoneDayCell other day)) site h
    ∙ (λ i. ((none (windows_reading h) i || one_day (nat_le 7 h) (λ d. (day == d) && is_same_site other site) (day_reading h) i) || none (days_reading h) i))
    ∙ or_false _ ∙ and_assoc (nat_le 7 h) (day == day_reading h) (is_same_site other site)
one_hour (OzoneYearCell other year) site h =
    parts (is_same_cell (OzoneYearCell other year)) site h
    ∙ (λ i. ((none (windows_reading h) i || none (days_reading h) i) || one_day (nat_le 7 h) (λ d. (year == year_of d) && is_same_site other site) (day_reading h) i))
    ∙ and_assoc (nat_le 7 h) (year == year_of (day_reading h)) (is_same_site other site)
one_hour (PmDayCell other pollutant day) site h = parts (is_same_cell (PmDayCell other pollutant day)) site h ∙ (λ i. ((none (windows_reading h) i || none (days_reading h) i) || none (days_reading h) i))
one_hour (StratumCell other first) site h = parts (is_same_cell (StratumCell other first)) site h ∙ (λ i. ((none (windows_reading h) i || none (days_reading h) i) || none (days_reading h) i))
one_hour (QuarterCell other pollutant quarter) site h = parts (is_same_cell (QuarterCell other pollutant quarter)) site h ∙ (λ i. ((none (windows_reading h) i || none (days_reading h) i) || none (days_reading h) i))
one_hour (PmYearCell other year) site h = parts (is_same_cell (PmYearCell other year)) site h ∙ (λ i. ((none (windows_reading h) i || none (days_reading h) i) || none (days_reading h) i))

-- ---- those that read one of several hours

pub turned : (a b same other : Bool) → same ≡ other → ((a && b) && same) ≡ (other && a && b)
turned a b same other e = both a b same ∙ ap (λ s. s && a && b) e
  where
    both : (a b s : Bool) → ((a && b) && s) ≡ (s && a && b)
    both true true true = refl
    both true true false = refl
    both true false true = refl
    both true false false = refl
    both false b true = refl
    both false b false = refl

turned_test : (t a b same other : Bool) → same ≡ other → ((t && (a && b)) && same) ≡ (t && (other && a && b))
turned_test true a b same other e = turned a b same other e
turned_test false a b same other e = refl

in_range : (cell : Cell) (site : Site) (a k : ℕ) → a + k ≤ LAST_HOUR → list_any (λ h. reads_hour cell site h) (range_with_len a (suc k)) ≡ adds_hours site a (a + k) cell
unfolding reads_hour
in_range (HourCell other hour) site a k end =
    any-and (λ h. hour == h) (is_same_site other site) (range_with_len a (suc k))
    ∙ ap (λ b. b && is_same_site other site) (any-from_to hour a k) ∙ turned _ _ _ _ (flipped other site)
in_range (WindowCell other start) site a k end =
    any-and (λ h. nat_le (h - 7) start && nat_le start h) (is_same_site other site) (range_with_len a (suc k))
    ∙ ap (λ b. b && is_same_site other site) (any-eights start a k) ∙ turned _ _ _ _ (flipped other site)
in_range (OzoneDayCell other day) site a k end =
    any-and (λ h. nat_le 7 h && (day == day_reading h)) (is_same_site other site) (range_with_len a (suc k))
    ∙ ap (λ b. b && is_same_site other site) (any-climb day_reading day a k (days-climb a k)) ∙ turned_test _ _ _ _ _ (flipped other site)
in_range (OzoneYearCell other year) site a k end =
    any-and (λ h. nat_le 7 h && (year == year_of (day_reading h))) (is_same_site other site) (range_with_len a (suc k))
    ∙ ap (λ b. b && is_same_site other site) (any-climb (λ h. year_of (day_reading h)) year a k (years-climb a k end)) ∙ turned_test _ _ _ _ _ (flipped other site)
in_range (PmDayCell other pollutant day) site a k end = any-false (range_with_len a (suc k))
in_range (StratumCell other first) site a k end = any-false (range_with_len a (suc k))
in_range (QuarterCell other pollutant quarter) site a k end = any-false (range_with_len a (suc k))
in_range (PmYearCell other year) site a k end = any-false (range_with_len a (suc k))

pub hours-reached : (records : List OfficeRecord) (site : Site) (first last : ℕ) (hours : List ℕ) → hours ≡ from_to first last → first ≤ last → last ≤ LAST_HOUR
    → (cell : Cell) → list_any (is_same_cell cell) (cells_in records site Ozone hours) ≡ adds_hours site first last cell
hours-reached records site first last hours are some end cell =
    let count : last + 1 - first ≡ suc (last - first) = omega arith in
    let whole : first + (last - first) ≡ last = omega arith in
    any-flat_map (is_same_cell cell) (ozone_cells_at site) hours
    ∙ (λ i. list_any (λ h. one_hour cell site h i) hours)
    ∙ ap (list_any (λ h. reads_hour cell site h)) (are ∙ ap (range_with_len first) count)
    ∙ in_range cell site first (last - first) (omega (arith, whole))
    ∙ ap (λ l. adds_hours site first l cell) whole
