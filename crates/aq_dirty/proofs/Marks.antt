-- What a change marks by the book's table, as the spans of its reach.
use Rattle.std.proofs.Common.{◌≡◌, ℕ, ◌+◌, ◌-◌, Bool, true, false, cond, not, ◌&&◌, ◌||◌, ◌==◌, List, [], ◌∷◌, Option, Some, None, refl, sym, ap, ◌∙◌, subst, arith}
use Rattle.std.specs.Prelude.{flat_map, is_none, map, nat_le}
use Rattle.std.specs.List.{list_any, range_with_len}
use Rattle.std.specs.Option.{option_to_list}
use Rattle.std.proofs.lemmas.Bool.{false≢true}
use Rattle.std.proofs.lemmas.Bool.Decides.{nat_tests}
use Rattle.std.proofs.lemmas.List.Folds.{list_any-append}
use Rattle.aq_base.specs.Calendar.{day_of_hour, quarter_of, year_of}
use Rattle.aq_base.specs.Site.{Site}
use Rattle.aq_base.specs.declared.day.TheConstants.{LAST_HOUR}
use Rattle.aq_base.specs.declared.monitor.Pollutant.{Pollutant}
use Rattle.aq_base.specs.declared.monitor.Pollutant.TheVariants.{Ozone, Pm25, Pm10}
use Rattle.aq_base.specs.declared.office.OfficeRecord.{OfficeRecord}
use Rattle.aq_base.specs.declared.office.OfficeRecord.TheVariants.{Event}
use Rattle.aq_base.specs.declared.office.OfficeKey.{OfficeKey}
use Rattle.aq_base.specs.declared.office.OfficeKey.TheVariants.{Monitor as MonitorKey, Primary as PrimaryKey, Schedule as ScheduleKey, Season as SeasonKey, Makeup as MakeupKey, Event as EventKey, Concurrence as ConcurrenceKey, Approved as ApprovedKey, Combined as CombinedKey}
use Rattle.aq_rules.specs.Office.Office.{key_of}
use Rattle.aq_rules.specs.Office.Questions.{record_of}
use Rattle.aq_rules.specs.Kept.Cells.{CellName as Cell, HourCell, WindowCell, OzoneDayCell, OzoneYearCell, PmDayCell, StratumCell, QuarterCell, PmYearCell, is_same_cell}
use Rattle.aq_rules.specs.Kept.Reach.{ChangedRecord, cells_at, cells_in, cells_in_span, cells_reading, every_hour, from_to, may_count_at_once, quarter_cells, reads}
use Rattle.aq_rules.specs.Particles.Strata.{first_days_by, stratum_by}
use Rattle.aq_registry.proofs.SiteLemmas.{flipped}
use Rattle.aq_dirty.specs.declared.change.OfficeChange.{OfficeChange}
use Rattle.aq_dirty.specs.declared.change.OfficeChange.TheVariants.{Observation, Record}
use Rattle.aq_dirty.specs.declared.reach.Reach.TheVariants.{Nothing, Hours}
use Rattle.aq_dirty.specs.Reach.{adds, adds_hours, adds_year, is_of_ozone, marks, reach_of, reach_of_either, reach_of_event, reach_of_hours, reach_of_key, reads_row, record_row, IsReach}
use Rattle.aq_dirty.proofs.Ranges.{any-false, any-flat_map, any-map}
use Rattle.aq_dirty.proofs.Reached.{hours-reached}

-- ---- cells of particles are none of ozone

record IsOther (test : Cell → Bool) : Type 0 where
  day : (site : Site) (pollutant : Pollutant) (number : ℕ) → test (PmDayCell site pollutant number) ≡ false
  stratum : (site : Site) (number : ℕ) → test (StratumCell site number) ≡ false
  quarter : (site : Site) (pollutant : Pollutant) (number : ℕ) → test (QuarterCell site pollutant number) ≡ false
  year : (site : Site) (number : ℕ) → test (PmYearCell site number) ≡ false

is_other : (cell : Cell) → is_of_ozone cell ≡ true → IsOther (is_same_cell cell)
is_other (HourCell site hour) is = record { day = λ _ _ _. refl; stratum = λ _ _. refl; quarter = λ _ _ _. refl; year = λ _ _. refl }
is_other (WindowCell site start) is = record { day = λ _ _ _. refl; stratum = λ _ _. refl; quarter = λ _ _ _. refl; year = λ _ _. refl }
is_other (OzoneDayCell site day) is = record { day = λ _ _ _. refl; stratum = λ _ _. refl; quarter = λ _ _ _. refl; year = λ _ _. refl }
is_other (OzoneYearCell site year) is = record { day = λ _ _ _. refl; stratum = λ _ _. refl; quarter = λ _ _ _. refl; year = λ _ _. refl }
is_other (PmDayCell site pollutant day) is = absurd (false≢true is)
is_other (StratumCell site first) is = absurd (false≢true is)
is_other (QuarterCell site pollutant quarter) is = absurd (false≢true is)
is_other (PmYearCell site year) is = absurd (false≢true is)

-- a test that passes in no item passes in no list
none_of : {X : Type 0} (test : X → Bool) → ((x : X) → test x ≡ false) → (xs : List X) → list_any test xs ≡ false
none_of test no_item xs = (λ i. list_any (λ x. no_item x i) xs) ∙ any-false xs

module _ (records : List OfficeRecord) (test : Cell → Bool) (other : IsOther test) where
  strata_none : (site : Site) (days : List ℕ) → list_any test (map (StratumCell site) days) ≡ false
  strata_none site days = any-map test (StratumCell site) days ∙ none_of (λ day. test (StratumCell site day)) (λ day. other.stratum site day) days

  pm25_none : (site : Site) (hour : ℕ) → list_any test (cells_at records site Pm25 hour) ≡ false
  pm25_none site hour =
      λ i. other.day site Pm25 (day_of_hour hour) i || (other.quarter site Pm25 (quarter_of (day_of_hour hour)) i || (other.year site (year_of (day_of_hour hour)) i || false))

  pm10_none : (site : Site) (hour : ℕ) → list_any test (cells_at records site Pm10 hour) ≡ false
  pm10_none site hour =
      λ i. other.day site Pm10 (day_of_hour hour) i || (other.quarter site Pm10 (quarter_of (day_of_hour hour)) i || strata_none site (option_to_list (stratum_by records site (day_of_hour hour))) i)

  particles_none : (site : Site) (pollutant : Pollutant) → ((hour : ℕ) → list_any test (cells_at records site pollutant hour) ≡ false) → (hours : List ℕ) → list_any test (cells_in records site pollutant hours) ≡ false
  particles_none site pollutant no_hour hours = any-flat_map test (cells_at records site pollutant) hours ∙ none_of (λ hour. list_any test (cells_at records site pollutant hour)) no_hour hours

  quarter_none : (site : Site) (pollutant : Pollutant) (quarter : ℕ) → list_any test (quarter_cells records site pollutant quarter) ≡ false
  quarter_none site Ozone quarter = refl
  quarter_none site Pm25 quarter = λ i. other.quarter site Pm25 quarter i || false
  quarter_none site Pm10 quarter = λ i. other.quarter site Pm10 quarter i || strata_none site (first_days_by records site quarter) i

  quarters_none : (site : Site) (pollutant : Pollutant) (quarters : List ℕ) → list_any test (flat_map (quarter_cells records site pollutant) quarters) ≡ false
  quarters_none site pollutant quarters = any-flat_map test (quarter_cells records site pollutant) quarters ∙ none_of (λ quarter. list_any test (quarter_cells records site pollutant quarter)) (quarter_none site pollutant) quarters

-- a cell of ozone alone asks
if_ozone : (b c : Bool) → (b ≡ true → c ≡ false) → (b && c) ≡ false
if_ozone true c h = h refl
if_ozone false c h = refl

-- ---- hours of a site and pollutant

hours_of_ozone : (site : Site) (first last : ℕ) (cell : Cell) → (is_of_ozone cell && adds_hours site first last cell) ≡ adds_hours site first last cell
hours_of_ozone site first last (HourCell other hour) = refl
hours_of_ozone site first last (WindowCell other start) = refl
hours_of_ozone site first last (OzoneDayCell other day) = refl
hours_of_ozone site first last (OzoneYearCell other year) = refl
hours_of_ozone site first last (PmDayCell other pollutant day) = refl
hours_of_ozone site first last (StratumCell other number) = refl
hours_of_ozone site first last (QuarterCell other pollutant quarter) = refl
hours_of_ozone site first last (PmYearCell other year) = refl

and_none : (b : Bool) → (b && false) ≡ false
and_none true = refl
and_none false = refl

module _ (records : List OfficeRecord) (cell : Cell) where
  abbrev is_read_in : List Cell → Bool
  is_read_in cells = is_of_ozone cell && list_any (is_same_cell cell) cells

  hours_read : (pollutant : Pollutant) (site : Site) (first last : ℕ) (hours : List ℕ) → hours ≡ from_to first last → IsReach (reach_of_hours pollutant site first last)
      → is_read_in (cells_in records site pollutant hours) ≡ adds (reach_of_hours pollutant site first last) cell
  hours_read Ozone site first last hours are within = choose (nat_le first last) refl within
    where
      choose : (b : Bool) → nat_le first last ≡ b → IsReach (cond b (Hours site first last) Nothing) → is_read_in (cells_in records site Ozone hours) ≡ adds (cond b (Hours site first last) Nothing) cell
      choose true is inside = ap (λ b. is_of_ozone cell && b) (hours-reached records site first last hours are inside.0 inside.1 cell) ∙ hours_of_ozone site first last cell
      choose false is inside =
          let empty : last + 1 - first ≡ 0 = grind (arith, nat_tests) in
          ap (λ (l : List ℕ). is_read_in (cells_in records site Ozone l)) (are ∙ ap (range_with_len first) empty) ∙ and_none (is_of_ozone cell)
  hours_read Pm25 site first last hours are within =
      if_ozone (is_of_ozone cell) _ (λ is. particles_none records (is_same_cell cell) (is_other cell is) site Pm25 (pm25_none records (is_same_cell cell) (is_other cell is) site) hours)
  hours_read Pm10 site first last hours are within =
      if_ozone (is_of_ozone cell) _ (λ is. particles_none records (is_same_cell cell) (is_other cell is) site Pm10 (pm10_none records (is_same_cell cell) (is_other cell is) site) hours)

  or_last : (a : Bool) → (a || false) ≡ a
  or_last true = refl
  or_last false = refl

  hour_read : (pollutant : Pollutant) (site : Site) (hour : ℕ) → IsReach (reach_of_hours pollutant site hour hour)
      → is_read_in (cells_at records site pollutant hour) ≡ adds (reach_of_hours pollutant site hour hour) cell
  hour_read pollutant site hour within =
      let one : 1 ≡ hour + 1 - hour = omega arith in
      ap (λ b. is_of_ozone cell && b) (sym (list_any-append (is_same_cell cell) (cells_at records site pollutant hour) [] ∙ or_last _))
      ∙ hours_read pollutant site hour hour (hour ∷ []) (ap (range_with_len hour) one) within

  -- ---- records

  all_hours : every_hour ≡ from_to 0 LAST_HOUR
  unfolding every_hour
  all_hours = refl

  monitor_read : (pollutant : Pollutant) (site : Site) (is_new : Bool) → IsReach (cond is_new Nothing (reach_of_hours pollutant site 0 LAST_HOUR))
      → is_read_in (cond (is_new && not (may_count_at_once pollutant)) [] (cells_in records site pollutant every_hour)) ≡ adds (cond is_new Nothing (reach_of_hours pollutant site 0 LAST_HOUR)) cell
  monitor_read pollutant site false within = hours_read pollutant site 0 LAST_HOUR every_hour all_hours within
  monitor_read Ozone site true within = and_none (is_of_ozone cell)
  monitor_read Pm25 site true within = and_none (is_of_ozone cell)
  monitor_read Pm10 site true within =
      if_ozone (is_of_ozone cell) _ (λ is. particles_none records (is_same_cell cell) (is_other cell is) site Pm10 (pm10_none records (is_same_cell cell) (is_other cell is) site) every_hour)

  event_read : (o : Option OfficeRecord) → IsReach (reach_of_event o) → is_read_in (cells_in_span records o) ≡ adds (reach_of_event o) cell
  event_read (Some (Event number site pollutant first last code)) within = hours_read pollutant site first last (from_to first last) refl within
  event_read o within = and_none (is_of_ozone cell)

one_year : (same other : Bool) (y year : ℕ) → same ≡ other → (((y == year) && same) || false) ≡ (other && nat_le year y && nat_le y year)
one_year same true y year e = subst (λ s. (((y == year) && s) || false) ≡ (true && nat_le year y && nat_le y year)) (sym e) (grind (arith, nat_tests))
one_year same false y year e = subst (λ s. (((y == year) && s) || false) ≡ (false && nat_le year y && nat_le y year)) (sym e) (grind (arith, nat_tests))

year_read : (site : Site) (year : ℕ) (cell : Cell) → (is_of_ozone cell && list_any (is_same_cell cell) (OzoneYearCell site year ∷ [])) ≡ adds_year site year cell
year_read site year (HourCell other hour) = refl
year_read site year (WindowCell other start) = refl
year_read site year (OzoneDayCell other day) = refl
year_read site year (OzoneYearCell other number) = one_year _ _ number year (flipped other site)
year_read site year (PmDayCell other pollutant day) = refl
year_read site year (StratumCell other number) = refl
year_read site year (QuarterCell other pollutant quarter) = refl
year_read site year (PmYearCell other number) = refl

module _ (records : List OfficeRecord) where
  key_read : (key : OfficeKey) (is_new : Bool) (cell : Cell) → IsReach (reach_of_key records key is_new) → (is_of_ozone cell && reads records cell (ChangedRecord key is_new)) ≡ adds (reach_of_key records key is_new) cell
  unfolding reads cells_reading
  key_read (MonitorKey id) is_new cell within = monitor_read records cell id.pollutant id.site is_new within
  key_read (PrimaryKey site pollutant from) is_new cell within = hours_read records cell pollutant site _ _ _ refl within
  key_read (ScheduleKey site pollutant from) is_new cell within = if_ozone (is_of_ozone cell) _ (λ is. quarters_none records (is_same_cell cell) (is_other cell is) site pollutant _)
  key_read (SeasonKey site year) is_new cell within = year_read site year cell
  key_read (MakeupKey site missed) is_new cell within = if_ozone (is_of_ozone cell) _ (λ is. λ i. (is_other cell is).quarter site Pm25 (quarter_of missed) i || false)
  key_read (EventKey number) is_new cell within = event_read records cell (record_of records (EventKey number)) within
  key_read (ConcurrenceKey number) is_new cell within = event_read records cell (record_of records (EventKey number)) within
  key_read (ApprovedKey site day) is_new cell within = year_read site (year_of day) cell
  key_read (CombinedKey site pollutant) is_new cell within = and_none (is_of_ozone cell)

  observation_read : (pollutant : Pollutant) (site : Site) (hour : ℕ) (cell : Cell) → IsReach (reach_of_hours pollutant site hour hour)
      → (is_of_ozone cell && list_any (is_same_cell cell) (cells_at records site pollutant hour)) ≡ adds (reach_of_hours pollutant site hour hour) cell
  observation_read pollutant site hour cell within = hour_read records cell pollutant site hour within

  either_read : (old new : Option OfficeRecord) (cell : Cell) → IsReach (reach_of_either records old new) → reads_row records (record_row old new) cell ≡ adds (reach_of_either records old new) cell
  either_read old (Some row) cell within = key_read (key_of row) (is_none old) cell within
  either_read (Some row) None cell within = key_read (key_of row) false cell within
  either_read None None cell within = refl

  pub marks-adds : (change : OfficeChange) (cell : Cell) → IsReach (reach_of records change) → marks records change cell ≡ adds (reach_of records change) cell
  unfolding marks reads cells_reading
  marks-adds (Observation key old new) cell within = observation_read key.monitor.pollutant key.monitor.site key.hour cell within
  marks-adds (Record change) cell within = either_read change.old change.new cell within
