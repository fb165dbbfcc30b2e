-- The particle cells that read days, quarters and strata of a site which follow one another.
use Rattle.std.proofs.Common.{◌≡◌, ℕ, ◌+◌, ◌-◌, ◌≤◌, ◌<◌, Bool, true, false, ◌&&◌, ◌||◌, List, [], ◌∷◌, Option, Some, None, refl, ap, ◌∙◌, arith, suc}
use Rattle.std.specs.Prelude.{◌==◌, nat_le, map, flat_map}
use Rattle.std.specs.List.{list_any, range_with_len}
use Rattle.std.specs.Option.{option_map_or, option_to_list}
use Rattle.aq_base.specs.Calendar.{day_of_hour, days_in_quarter, quarter_first, quarter_of, year_of}
use Rattle.aq_base.specs.Site.{Site}
use Rattle.aq_base.specs.declared.day.TheConstants.{LAST_DAY, QUARTERS}
use Rattle.aq_base.specs.declared.monitor.Pollutant.TheVariants.{Ozone, Pm25, Pm10}
use Rattle.aq_base.specs.declared.office.OfficeRecord.{OfficeRecord}
use Rattle.aq_cal.proofs.Within.{quarter_next}
use Rattle.aq_registry.proofs.SiteLemmas.{flipped}
use Rattle.aq_rules.specs.Kept.Cells.{CellName as Cell, HourCell, WindowCell, OzoneDayCell, OzoneYearCell, PmDayCell, StratumCell, QuarterCell, PmYearCell, is_same_cell}
use Rattle.aq_rules.specs.Kept.Reach.{cells_in, from_to, pm10_cells_on, pm25_cells_on, quarter_cells}
use Rattle.aq_rules.specs.Office.Monitors.{is_same_site}
use Rattle.aq_rules.specs.Particles.Strata.{first_days_by, quarter_end, stratum_by}
use Rattle.aq_dirty.specs.ParticleReach.{adds_pm10_days, adds_pm10_quarters, adds_pm25_days, adds_pm25_quarters, holds_one, is_in_stratum}
use Rattle.aq_dirty.proofs.Along.{any-along, any-pieces, any-same, spanned, steps-number}
use Rattle.aq_dirty.proofs.DaySteps.{ends-in_profile, some_days, steps-days, steps-quarters, steps-years}
use Rattle.aq_dirty.proofs.Ranges.{any-and, any-false, any-flat_map, any-map}
use Rattle.aq_dirty.proofs.StratumStarts.{firsts-held}

or_false : (b : Bool) → (b || false) ≡ b
or_false true = refl
or_false false = refl

-- a cell of the kind, and one of another pollutant
of_kind : (b : Bool) → ((b && true) || false) ≡ b
of_kind true = refl
of_kind false = refl

of_other : (b c : Bool) → ((b && false) || c) ≡ c
of_other true c = refl
of_other false c = refl

flipped_and : (x same other : Bool) → same ≡ other → (x && same) ≡ (other && x)
flipped_and x same other e = turn x same ∙ ap (λ s. s && x) e
  where
    turn : (x s : Bool) → (x && s) ≡ (s && x)
    turn true true = refl
    turn true false = refl
    turn false true = refl
    turn false false = refl

-- ---- the cells that read one day

reads_pm25 : Cell → Site → ℕ → Bool
reads_pm25 (PmDayCell other Pm25 n) site d = (n == d) && is_same_site other site
reads_pm25 (QuarterCell other Pm25 n) site d = (n == quarter_of d) && is_same_site other site
reads_pm25 (PmYearCell other n) site d = (n == year_of d) && is_same_site other site
reads_pm25 cell site d = false

one_pm25_day : (cell : Cell) (site : Site) (d : ℕ) → list_any (is_same_cell cell) (pm25_cells_on site d) ≡ reads_pm25 cell site d
unfolding reads_pm25
one_pm25_day (HourCell other n) site d = refl
one_pm25_day (WindowCell other n) site d = refl
one_pm25_day (OzoneDayCell other n) site d = refl
one_pm25_day (OzoneYearCell other n) site d = refl
one_pm25_day (PmDayCell other Ozone n) site d = of_other ((n == d) && is_same_site other site) false
one_pm25_day (PmDayCell other Pm25 n) site d = of_kind ((n == d) && is_same_site other site)
one_pm25_day (PmDayCell other Pm10 n) site d = of_other ((n == d) && is_same_site other site) false
one_pm25_day (StratumCell other n) site d = refl
one_pm25_day (QuarterCell other Ozone n) site d = of_other ((n == quarter_of d) && is_same_site other site) false
one_pm25_day (QuarterCell other Pm25 n) site d = of_kind ((n == quarter_of d) && is_same_site other site)
one_pm25_day (QuarterCell other Pm10 n) site d = of_other ((n == quarter_of d) && is_same_site other site) false
one_pm25_day (PmYearCell other n) site d = or_false ((n == year_of d) && is_same_site other site)

-- strata by their first days, and the one that a day has
reads_strata : Cell → Site → List ℕ → Bool
reads_strata (StratumCell other n) site firsts = list_any (λ f. n == f) firsts && is_same_site other site
reads_strata cell site firsts = false

no_stratum : (test : Cell → Bool) (site : Site) (firsts : List ℕ) → ((n : ℕ) → test (StratumCell site n) ≡ false) → list_any test (map (StratumCell site) firsts) ≡ false
no_stratum test site firsts other = any-map test (StratumCell site) firsts ∙ (λ i. list_any (λ n. other n i) firsts) ∙ any-false firsts

strata_read : (cell : Cell) (site : Site) (firsts : List ℕ) → list_any (is_same_cell cell) (map (StratumCell site) firsts) ≡ reads_strata cell site firsts
unfolding reads_strata
strata_read (HourCell other n) site firsts = no_stratum (is_same_cell (HourCell other n)) site firsts (λ _. refl)
strata_read (WindowCell other n) site firsts = no_stratum (is_same_cell (WindowCell other n)) site firsts (λ _. refl)
strata_read (OzoneDayCell other n) site firsts = no_stratum (is_same_cell (OzoneDayCell other n)) site firsts (λ _. refl)
strata_read (OzoneYearCell other n) site firsts = no_stratum (is_same_cell (OzoneYearCell other n)) site firsts (λ _. refl)
strata_read (PmDayCell other pollutant n) site firsts = no_stratum (is_same_cell (PmDayCell other pollutant n)) site firsts (λ _. refl)
strata_read (StratumCell other n) site firsts =
    any-map (is_same_cell (StratumCell other n)) (StratumCell site) firsts ∙ any-and (λ f. n == f) (is_same_site other site) firsts
strata_read (QuarterCell other pollutant n) site firsts = no_stratum (is_same_cell (QuarterCell other pollutant n)) site firsts (λ _. refl)
strata_read (PmYearCell other n) site firsts = no_stratum (is_same_cell (PmYearCell other n)) site firsts (λ _. refl)

module _ (records : List OfficeRecord) where
  reads_pm10 : Cell → Site → ℕ → Bool
  reads_pm10 (PmDayCell other Pm10 n) site d = (n == d) && is_same_site other site
  reads_pm10 (QuarterCell other Pm10 n) site d = (n == quarter_of d) && is_same_site other site
  reads_pm10 (StratumCell other n) site d = is_in_stratum records site n d && is_same_site other site
  reads_pm10 cell site d = false

  one_first : (n : ℕ) (o : Option ℕ) → list_any (λ f. n == f) (option_to_list o) ≡ option_map_or (λ f. n == f) o false
  one_first n None = refl
  one_first n (Some f) = or_false (n == f)

  one_pm10_day : (cell : Cell) (site : Site) (d : ℕ) → list_any (is_same_cell cell) (pm10_cells_on records site d) ≡ reads_pm10 cell site d
  unfolding reads_pm10 reads_strata
  one_pm10_day (HourCell other n) site d = strata_read (HourCell other n) site (option_to_list (stratum_by records site d))
  one_pm10_day (WindowCell other n) site d = strata_read (WindowCell other n) site (option_to_list (stratum_by records site d))
  one_pm10_day (OzoneDayCell other n) site d = strata_read (OzoneDayCell other n) site (option_to_list (stratum_by records site d))
  one_pm10_day (OzoneYearCell other n) site d = strata_read (OzoneYearCell other n) site (option_to_list (stratum_by records site d))
  one_pm10_day (PmDayCell other Ozone n) site d =
      of_other ((n == d) && is_same_site other site) _ ∙ strata_read (PmDayCell other Ozone n) site (option_to_list (stratum_by records site d))
  one_pm10_day (PmDayCell other Pm25 n) site d =
      of_other ((n == d) && is_same_site other site) _ ∙ strata_read (PmDayCell other Pm25 n) site (option_to_list (stratum_by records site d))
  one_pm10_day (PmDayCell other Pm10 n) site d =
      ap (λ b. ((n == d) && is_same_site other site && true) || b) (strata_read (PmDayCell other Pm10 n) site (option_to_list (stratum_by records site d)))
      ∙ of_kind ((n == d) && is_same_site other site)
  one_pm10_day (StratumCell other n) site d =
      strata_read (StratumCell other n) site (option_to_list (stratum_by records site d))
      ∙ ap (λ b. b && is_same_site other site) (one_first n (stratum_by records site d))
  one_pm10_day (QuarterCell other Ozone n) site d =
      of_other ((n == quarter_of d) && is_same_site other site) _ ∙ strata_read (QuarterCell other Ozone n) site (option_to_list (stratum_by records site d))
  one_pm10_day (QuarterCell other Pm25 n) site d =
      of_other ((n == quarter_of d) && is_same_site other site) _ ∙ strata_read (QuarterCell other Pm25 n) site (option_to_list (stratum_by records site d))
  one_pm10_day (QuarterCell other Pm10 n) site d =
      ap (λ b. ((n == quarter_of d) && is_same_site other site && true) || b) (strata_read (QuarterCell other Pm10 n) site (option_to_list (stratum_by records site d)))
      ∙ of_kind ((n == quarter_of d) && is_same_site other site)
  one_pm10_day (PmYearCell other n) site d = strata_read (PmYearCell other n) site (option_to_list (stratum_by records site d))

-- ---- those that read one of several days

in_pm25_days : (cell : Cell) (site : Site) (a k : ℕ) → a + k ≤ LAST_DAY → list_any (λ d. reads_pm25 cell site d) (range_with_len a (suc k)) ≡ adds_pm25_days site a (a + k) cell
unfolding reads_pm25
in_pm25_days (PmDayCell other Pm25 n) site a k end = spanned (λ d. d) n a k other site (steps-number a k)
in_pm25_days (QuarterCell other Pm25 n) site a k end = spanned quarter_of n a k other site (steps-quarters a k end)
in_pm25_days (PmYearCell other n) site a k end = spanned year_of n a k other site (steps-years a k end)
in_pm25_days (HourCell other n) site a k end = any-false (range_with_len a (suc k))
in_pm25_days (WindowCell other n) site a k end = any-false (range_with_len a (suc k))
in_pm25_days (OzoneDayCell other n) site a k end = any-false (range_with_len a (suc k))
in_pm25_days (OzoneYearCell other n) site a k end = any-false (range_with_len a (suc k))
in_pm25_days (PmDayCell other Ozone n) site a k end = any-false (range_with_len a (suc k))
in_pm25_days (PmDayCell other Pm10 n) site a k end = any-false (range_with_len a (suc k))
in_pm25_days (StratumCell other n) site a k end = any-false (range_with_len a (suc k))
in_pm25_days (QuarterCell other Ozone n) site a k end = any-false (range_with_len a (suc k))
in_pm25_days (QuarterCell other Pm10 n) site a k end = any-false (range_with_len a (suc k))

module _ (records : List OfficeRecord) where
  held_one : (site : Site) (a k n : ℕ) → list_any (is_in_stratum records site n) (range_with_len a (suc k)) ≡ holds_one records site a (a + k) n
  unfolding holds_one
  held_one site a k n = let count : suc k ≡ a + k + 1 - a = omega arith in ap (λ m. list_any (is_in_stratum records site n) (range_with_len a m)) count

  in_pm10_days : (cell : Cell) (site : Site) (a k : ℕ) → a + k ≤ LAST_DAY → list_any (λ d. reads_pm10 records cell site d) (range_with_len a (suc k)) ≡ adds_pm10_days records site a (a + k) cell
  unfolding reads_pm10
  in_pm10_days (PmDayCell other Pm10 n) site a k end = spanned (λ d. d) n a k other site (steps-number a k)
  in_pm10_days (QuarterCell other Pm10 n) site a k end = spanned quarter_of n a k other site (steps-quarters a k end)
  in_pm10_days (StratumCell other n) site a k end =
      any-and (is_in_stratum records site n) (is_same_site other site) (range_with_len a (suc k))
      ∙ ap (λ b. b && is_same_site other site) (held_one site a k n)
      ∙ flipped_and (holds_one records site a (a + k) n) (is_same_site other site) (is_same_site site other) (flipped other site)
  in_pm10_days (HourCell other n) site a k end = any-false (range_with_len a (suc k))
  in_pm10_days (WindowCell other n) site a k end = any-false (range_with_len a (suc k))
  in_pm10_days (OzoneDayCell other n) site a k end = any-false (range_with_len a (suc k))
  in_pm10_days (OzoneYearCell other n) site a k end = any-false (range_with_len a (suc k))
  in_pm10_days (PmDayCell other Ozone n) site a k end = any-false (range_with_len a (suc k))
  in_pm10_days (PmDayCell other Pm25 n) site a k end = any-false (range_with_len a (suc k))
  in_pm10_days (QuarterCell other Ozone n) site a k end = any-false (range_with_len a (suc k))
  in_pm10_days (QuarterCell other Pm25 n) site a k end = any-false (range_with_len a (suc k))
  in_pm10_days (PmYearCell other n) site a k end = any-false (range_with_len a (suc k))

-- ---- those that read one of several hours

module _ (first last : ℕ) (some : first ≤ last) (end : day_of_hour last ≤ LAST_DAY) where
  low : day_of_hour first ≤ day_of_hour last
  low = omega (arith, some)

  whole : day_of_hour first + (day_of_hour last - day_of_hour first) ≡ day_of_hour last
  whole = omega (arith, low)

  -- a test of the days of the hours is one of the days
  of_days : (test : ℕ → Bool) → list_any (λ h. test (day_of_hour h)) (from_to first last) ≡ list_any test (range_with_len (day_of_hour first) (suc (day_of_hour last - day_of_hour first)))
  of_days test =
      let count : last + 1 - first ≡ suc (last - first) = omega (arith, some) in
      let back : first + (last - first) ≡ last = omega (arith, some) in
      ap (λ m. list_any (λ h. test (day_of_hour h)) (range_with_len first m)) count
      ∙ any-along test day_of_hour first (last - first) (steps-days first (last - first))
      ∙ ap (λ m. list_any test (range_with_len (day_of_hour first) (suc (day_of_hour m - day_of_hour first)))) back

  pub pm25-hours : (records : List OfficeRecord) (site : Site) (cell : Cell) → list_any (is_same_cell cell) (cells_in records site Pm25 (from_to first last)) ≡ adds_pm25_days site (day_of_hour first) (day_of_hour last) cell
  pm25-hours records site cell =
      any-flat_map (is_same_cell cell) (λ h. pm25_cells_on site (day_of_hour h)) (from_to first last)
      ∙ of_days (λ d. list_any (is_same_cell cell) (pm25_cells_on site d))
      ∙ (λ i. list_any (λ d. one_pm25_day cell site d i) (range_with_len (day_of_hour first) (suc (day_of_hour last - day_of_hour first))))
      ∙ in_pm25_days cell site (day_of_hour first) (day_of_hour last - day_of_hour first) (omega (arith, whole, end))
      ∙ ap (λ l. adds_pm25_days site (day_of_hour first) l cell) whole

  pub pm10-hours : (records : List OfficeRecord) (site : Site) (cell : Cell) → list_any (is_same_cell cell) (cells_in records site Pm10 (from_to first last)) ≡ adds_pm10_days records site (day_of_hour first) (day_of_hour last) cell
  pm10-hours records site cell =
      any-flat_map (is_same_cell cell) (λ h. pm10_cells_on records site (day_of_hour h)) (from_to first last)
      ∙ of_days (λ d. list_any (is_same_cell cell) (pm10_cells_on records site d))
      ∙ (λ i. list_any (λ d. one_pm10_day records cell site d i) (range_with_len (day_of_hour first) (suc (day_of_hour last - day_of_hour first))))
      ∙ in_pm10_days records cell site (day_of_hour first) (day_of_hour last - day_of_hour first) (omega (arith, whole, end))
      ∙ ap (λ l. adds_pm10_days records site (day_of_hour first) l cell) whole

-- ---- quarters

pub no-quarters : (records : List OfficeRecord) (site : Site) (cell : Cell) (quarters : List ℕ) → list_any (is_same_cell cell) (flat_map (quarter_cells records site Ozone) quarters) ≡ false
no-quarters records site cell quarters = any-flat_map (is_same_cell cell) (quarter_cells records site Ozone) quarters ∙ any-false quarters

module _ (first last : ℕ) (some : first ≤ last) where
  quarters_to : from_to first last ≡ range_with_len first (suc (last - first))
  quarters_to = let count : last + 1 - first ≡ suc (last - first) = omega (arith, some) in ap (range_with_len first) count

  back : first + (last - first) ≡ last
  back = omega (arith, some)

  -- a test of each quarter that its number alone decides
  of_numbers : (n : ℕ) (other site : Site) → list_any (λ q. (n == q) && is_same_site other site) (from_to first last) ≡ (is_same_site site other && nat_le first n && nat_le n last)
  of_numbers n other site =
      ap (list_any (λ q. (n == q) && is_same_site other site)) quarters_to
      ∙ spanned (λ q. q) n first (last - first) other site (steps-number first (last - first))
      ∙ ap (λ m. is_same_site site other && nat_le first n && nat_le n m) back

  pub pm25-quarters : (records : List OfficeRecord) (site : Site) (cell : Cell) → list_any (is_same_cell cell) (flat_map (quarter_cells records site Pm25) (from_to first last)) ≡ adds_pm25_quarters site first last cell
  pm25-quarters records site cell = any-flat_map (is_same_cell cell) (quarter_cells records site Pm25) (from_to first last) ∙ by cell
    where
      by : (cell : Cell) → list_any (λ q. list_any (is_same_cell cell) (QuarterCell site Pm25 q ∷ [])) (from_to first last) ≡ adds_pm25_quarters site first last cell
      by (QuarterCell other Ozone n) = (λ i. list_any (λ q. of_other ((n == q) && is_same_site other site) false i) (from_to first last)) ∙ any-false (from_to first last)
      by (QuarterCell other Pm25 n) = (λ i. list_any (λ q. of_kind ((n == q) && is_same_site other site) i) (from_to first last)) ∙ of_numbers n other site
      by (QuarterCell other Pm10 n) = (λ i. list_any (λ q. of_other ((n == q) && is_same_site other site) false i) (from_to first last)) ∙ any-false (from_to first last)
      by (HourCell other n) = any-false (from_to first last)
      by (WindowCell other n) = any-false (from_to first last)
      by (OzoneDayCell other n) = any-false (from_to first last)
      by (OzoneYearCell other n) = any-false (from_to first last)
      by (PmDayCell other pollutant n) = any-false (from_to first last)
      by (StratumCell other n) = any-false (from_to first last)
      by (PmYearCell other n) = any-false (from_to first last)

  module _ (records : List OfficeRecord) (site : Site) (end : last < QUARTERS) where
    whole_days : (end start : ℕ) → start + 1 ≤ end → end - start ≡ end - 1 + 1 - start
    whole_days end start some = omega (arith, some)

    strata-of_quarters : (n : ℕ) → list_any (λ q. list_any (λ f. n == f) (first_days_by records site q)) (from_to first last) ≡ holds_one records site (quarter_first first) (quarter_end last - 1) n
    unfolding holds_one
    strata-of_quarters n =
        let count = whole_days (quarter_end last) (quarter_first first) (some_days first last some) in
        ap (list_any (λ q. list_any (λ f. n == f) (first_days_by records site q))) quarters_to
        ∙ any-same (λ q. list_any (λ f. n == f) (first_days_by records site q)) (λ q. list_any (is_in_stratum records site n) (range_with_len (quarter_first q) (days_in_quarter q))) first (suc (last - first))
        (λ q low high. firsts-held records site q n (ends-in_profile q (omega (arith, high, some, end))))
        ∙ any-pieces (is_in_stratum records site n) quarter_first days_in_quarter quarter_next first (last - first)
        ∙ ap (λ m. list_any (is_in_stratum records site n) (range_with_len (quarter_first first) (quarter_first m + days_in_quarter m - quarter_first first))) back
        ∙ ap (λ m. list_any (is_in_stratum records site n) (range_with_len (quarter_first first) m)) count

    pub pm10-quarters : (cell : Cell) → list_any (is_same_cell cell) (flat_map (quarter_cells records site Pm10) (from_to first last)) ≡ adds_pm10_quarters records site first last cell
    unfolding reads_strata
    pm10-quarters cell =
        any-flat_map (is_same_cell cell) (quarter_cells records site Pm10) (from_to first last)
        ∙ (λ i. list_any (λ q. is_same_cell cell (QuarterCell site Pm10 q) || strata_read cell site (first_days_by records site q) i) (from_to first last))
        ∙ by cell
      where
        by : (cell : Cell) → list_any (λ q. is_same_cell cell (QuarterCell site Pm10 q) || reads_strata cell site (first_days_by records site q)) (from_to first last) ≡ adds_pm10_quarters records site first last cell
        by (QuarterCell other Ozone n) = (λ i. list_any (λ q. of_other ((n == q) && is_same_site other site) false i) (from_to first last)) ∙ any-false (from_to first last)
        by (QuarterCell other Pm25 n) = (λ i. list_any (λ q. of_other ((n == q) && is_same_site other site) false i) (from_to first last)) ∙ any-false (from_to first last)
        by (QuarterCell other Pm10 n) = (λ i. list_any (λ q. of_kind ((n == q) && is_same_site other site) i) (from_to first last)) ∙ of_numbers n other site
        by (StratumCell other n) =
            any-and (λ q. list_any (λ f. n == f) (first_days_by records site q)) (is_same_site other site) (from_to first last)
            ∙ ap (λ b. b && is_same_site other site) (strata-of_quarters n)
            ∙ flipped_and (holds_one records site (quarter_first first) (quarter_end last - 1) n) (is_same_site other site) (is_same_site site other) (flipped other site)
        by (HourCell other n) = any-false (from_to first last)
        by (WindowCell other n) = any-false (from_to first last)
        by (OzoneDayCell other n) = any-false (from_to first last)
        by (OzoneYearCell other n) = any-false (from_to first last)
        by (PmDayCell other pollutant n) = any-false (from_to first last)
        by (PmYearCell other n) = any-false (from_to first last)
