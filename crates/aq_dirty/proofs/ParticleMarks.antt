-- What a change marks by the book's table among the cells of particles, as the spans of its reach.
use Rattle.std.proofs.Common.{◌≡◌, ℕ, ◌+◌, ◌-◌, ◌≤◌, ◌<◌, Bool, true, false, cond, not, ◌&&◌, ◌||◌, List, [], ◌∷◌, Option, Some, None, refl, sym, ap, ◌∙◌, arith}
use Rattle.std.specs.Prelude.{flat_map, is_none, nat_le}
use Rattle.std.specs.List.{list_any, range_with_len}
use Rattle.std.proofs.lemmas.Bool.Decides.{nat_tests}
use Rattle.std.proofs.lemmas.List.Folds.{list_any-append}
use Rattle.aq_base.specs.Calendar.{day_of_hour, quarter_of, year_of}
use Rattle.aq_base.specs.Site.{Site}
use Rattle.aq_base.specs.declared.day.TheConstants.{LAST_DAY, LAST_HOUR, QUARTERS}
use Rattle.aq_base.specs.declared.monitor.Pollutant.{Pollutant}
use Rattle.aq_base.specs.declared.monitor.Pollutant.TheVariants.{Ozone, Pm25, Pm10}
use Rattle.aq_base.specs.declared.office.OfficeRecord.{OfficeRecord}
use Rattle.aq_base.specs.declared.office.OfficeRecord.TheVariants.{Event}
use Rattle.aq_base.specs.declared.office.OfficeKey.{OfficeKey}
use Rattle.aq_base.specs.declared.office.OfficeKey.TheVariants.{Monitor as MonitorKey, Primary as PrimaryKey, Schedule as ScheduleKey, Season as SeasonKey, Makeup as MakeupKey, Event as EventKey, Concurrence as ConcurrenceKey, Approved as ApprovedKey, Combined as CombinedKey}
use Rattle.aq_rules.specs.Office.Office.{key_of}
use Rattle.aq_rules.specs.Office.Questions.{record_of}
use Rattle.aq_rules.specs.Kept.Cells.{CellName as Cell, HourCell, WindowCell, OzoneDayCell, OzoneYearCell, PmDayCell, StratumCell, QuarterCell, PmYearCell, is_same_cell}
use Rattle.aq_rules.specs.Kept.Reach.{ChangedRecord, cells_at, cells_in, cells_in_span, cells_reading, every_hour, from_to, may_count_at_once, quarter_cells, reads}
use Rattle.aq_dirty.specs.declared.change.OfficeChange.{OfficeChange}
use Rattle.aq_dirty.specs.declared.change.OfficeChange.TheVariants.{Observation, Record}
use Rattle.aq_dirty.specs.declared.particle_reach.ParticleReach.TheVariants.{Nothing, Days, Quarters}
use Rattle.aq_dirty.specs.ParticleReach.{adds, is_of_particles, marks_particle, reach_of, reach_of_either, reach_of_event, reach_of_hours, reach_of_key, reach_of_quarters, reads_particle_row, IsReach}
use Rattle.aq_dirty.specs.Reach.{adds_hours, record_row}
use Rattle.aq_dirty.proofs.ParticleRows.{no-quarters, pm10-hours, pm10-quarters, pm25-hours, pm25-quarters}
use Rattle.aq_dirty.proofs.Reached.{hours-reached}

and_none : (b : Bool) → (b && false) ≡ false
and_none true = refl
and_none false = refl

or_last : (a : Bool) → (a || false) ≡ a
or_last true = refl
or_last false = refl

-- no cell of particles reads an hour of ozone
none_of_ozone : (site : Site) (first last : ℕ) (cell : Cell) → (is_of_particles cell && adds_hours site first last cell) ≡ false
none_of_ozone site first last (HourCell other n) = refl
none_of_ozone site first last (WindowCell other n) = refl
none_of_ozone site first last (OzoneDayCell other n) = refl
none_of_ozone site first last (OzoneYearCell other n) = refl
none_of_ozone site first last (PmDayCell other pollutant n) = refl
none_of_ozone site first last (StratumCell other n) = refl
none_of_ozone site first last (QuarterCell other pollutant n) = refl
none_of_ozone site first last (PmYearCell other n) = refl

module _ (records : List OfficeRecord) (cell : Cell) where
  -- what days and quarters add is of particles
  days_of_particles : (pollutant : Pollutant) (site : Site) (first last : ℕ) → (is_of_particles cell && adds records (Days site pollutant first last) cell) ≡ adds records (Days site pollutant first last) cell
  days_of_particles pollutant site first last = by cell pollutant
    where
      by : (cell : Cell) (pollutant : Pollutant) → (is_of_particles cell && adds records (Days site pollutant first last) cell) ≡ adds records (Days site pollutant first last) cell
      by (HourCell other n) Ozone = refl
      by (HourCell other n) Pm25 = refl
      by (HourCell other n) Pm10 = refl
      by (WindowCell other n) Ozone = refl
      by (WindowCell other n) Pm25 = refl
      by (WindowCell other n) Pm10 = refl
      by (OzoneDayCell other n) Ozone = refl
      by (OzoneDayCell other n) Pm25 = refl
      by (OzoneDayCell other n) Pm10 = refl
      by (OzoneYearCell other n) Ozone = refl
      by (OzoneYearCell other n) Pm25 = refl
      by (OzoneYearCell other n) Pm10 = refl
      by (PmDayCell other kind n) pollutant = refl
      by (StratumCell other n) pollutant = refl
      by (QuarterCell other kind n) pollutant = refl
      by (PmYearCell other n) pollutant = refl

  quarters_of_particles : (pollutant : Pollutant) (site : Site) (first last : ℕ) → (is_of_particles cell && adds records (Quarters site pollutant first last) cell) ≡ adds records (Quarters site pollutant first last) cell
  quarters_of_particles pollutant site first last = by cell pollutant
    where
      by : (cell : Cell) (pollutant : Pollutant) → (is_of_particles cell && adds records (Quarters site pollutant first last) cell) ≡ adds records (Quarters site pollutant first last) cell
      by (HourCell other n) Ozone = refl
      by (HourCell other n) Pm25 = refl
      by (HourCell other n) Pm10 = refl
      by (WindowCell other n) Ozone = refl
      by (WindowCell other n) Pm25 = refl
      by (WindowCell other n) Pm10 = refl
      by (OzoneDayCell other n) Ozone = refl
      by (OzoneDayCell other n) Pm25 = refl
      by (OzoneDayCell other n) Pm10 = refl
      by (OzoneYearCell other n) Ozone = refl
      by (OzoneYearCell other n) Pm25 = refl
      by (OzoneYearCell other n) Pm10 = refl
      by (PmDayCell other kind n) pollutant = refl
      by (StratumCell other n) pollutant = refl
      by (QuarterCell other kind n) pollutant = refl
      by (PmYearCell other n) pollutant = refl

  abbrev is_read_in : List Cell → Bool
  is_read_in cells = is_of_particles cell && list_any (is_same_cell cell) cells

  -- ---- hours of a site and pollutant

  some_hours : (pollutant : Pollutant) (site : Site) (first last : ℕ) → first ≤ last → day_of_hour last ≤ LAST_DAY
      → is_read_in (cells_in records site pollutant (from_to first last)) ≡ adds records (Days site pollutant (day_of_hour first) (day_of_hour last)) cell
  some_hours Ozone site first last some end =
      ap (λ b. is_of_particles cell && b) (hours-reached records site first last (from_to first last) refl some (omega (arith, end)) cell) ∙ none_of_ozone site first last cell
  some_hours Pm25 site first last some end =
      ap (λ b. is_of_particles cell && b) (pm25-hours first last some end records site cell) ∙ days_of_particles Pm25 site (day_of_hour first) (day_of_hour last)
  some_hours Pm10 site first last some end =
      ap (λ b. is_of_particles cell && b) (pm10-hours first last some end records site cell) ∙ days_of_particles Pm10 site (day_of_hour first) (day_of_hour last)

  hours_read : (pollutant : Pollutant) (site : Site) (first last : ℕ) (hours : List ℕ) → hours ≡ from_to first last → IsReach (reach_of_hours site pollutant first last)
      → is_read_in (cells_in records site pollutant hours) ≡ adds records (reach_of_hours site pollutant first last) cell
  hours_read pollutant site first last hours are within =
      ap (λ (l : List ℕ). is_read_in (cells_in records site pollutant l)) are ∙ choose (nat_le first last) refl within
    where
      choose : (b : Bool) → nat_le first last ≡ b → IsReach (cond b (Days site pollutant (day_of_hour first) (day_of_hour last)) Nothing)
          → is_read_in (cells_in records site pollutant (from_to first last)) ≡ adds records (cond b (Days site pollutant (day_of_hour first) (day_of_hour last)) Nothing) cell
      choose true is inside = let some : first ≤ last = grind (arith, nat_tests) in some_hours pollutant site first last some inside.1
      choose false is inside =
          let empty : last + 1 - first ≡ 0 = grind (arith, nat_tests) in
          ap (λ n. is_read_in (cells_in records site pollutant (range_with_len first n))) empty ∙ and_none (is_of_particles cell)

  hour_read : (pollutant : Pollutant) (site : Site) (hour : ℕ) → IsReach (reach_of_hours site pollutant hour hour)
      → is_read_in (cells_at records site pollutant hour) ≡ adds records (reach_of_hours site pollutant hour hour) cell
  hour_read pollutant site hour within =
      let one : 1 ≡ hour + 1 - hour = omega arith in
      ap (λ b. is_of_particles cell && b) (sym (list_any-append (is_same_cell cell) (cells_at records site pollutant hour) [] ∙ or_last _))
      ∙ hours_read pollutant site hour hour (hour ∷ []) (ap (range_with_len hour) one) within

  -- ---- quarters of a site and pollutant

  some_quarters : (pollutant : Pollutant) (site : Site) (first last : ℕ) → first ≤ last → last < QUARTERS
      → is_read_in (flat_map (quarter_cells records site pollutant) (from_to first last)) ≡ adds records (Quarters site pollutant first last) cell
  some_quarters Ozone site first last some end = ap (λ b. is_of_particles cell && b) (no-quarters records site cell (from_to first last)) ∙ and_none (is_of_particles cell)
  some_quarters Pm25 site first last some end =
      ap (λ b. is_of_particles cell && b) (pm25-quarters first last some records site cell) ∙ quarters_of_particles Pm25 site first last
  some_quarters Pm10 site first last some end =
      ap (λ b. is_of_particles cell && b) (pm10-quarters first last some records site end cell) ∙ quarters_of_particles Pm10 site first last

  quarters_read : (pollutant : Pollutant) (site : Site) (first last : ℕ) → IsReach (reach_of_quarters site pollutant first last)
      → is_read_in (flat_map (quarter_cells records site pollutant) (from_to first last)) ≡ adds records (reach_of_quarters site pollutant first last) cell
  quarters_read pollutant site first last within = choose (nat_le first last) refl within
    where
      choose : (b : Bool) → nat_le first last ≡ b → IsReach (cond b (Quarters site pollutant first last) Nothing)
          → is_read_in (flat_map (quarter_cells records site pollutant) (from_to first last)) ≡ adds records (cond b (Quarters site pollutant first last) Nothing) cell
      choose true is inside = let some : first ≤ last = grind (arith, nat_tests) in some_quarters pollutant site first last some inside.1
      choose false is inside =
          let empty : last + 1 - first ≡ 0 = grind (arith, nat_tests) in
          ap (λ n. is_read_in (flat_map (quarter_cells records site pollutant) (range_with_len first n))) empty ∙ and_none (is_of_particles cell)

  quarter_read : (site : Site) (quarter : ℕ) → IsReach (reach_of_quarters site Pm25 quarter quarter) → is_read_in (QuarterCell site Pm25 quarter ∷ []) ≡ adds records (reach_of_quarters site Pm25 quarter quarter) cell
  quarter_read site quarter within =
      let one : 1 ≡ quarter + 1 - quarter = omega arith in
      ap (λ n. is_read_in (flat_map (quarter_cells records site Pm25) (range_with_len quarter n))) one ∙ quarters_read Pm25 site quarter quarter within

  -- ---- records

  all_hours : every_hour ≡ from_to 0 LAST_HOUR
  unfolding every_hour
  all_hours = refl

  monitor_read : (pollutant : Pollutant) (site : Site) (b : Bool) → IsReach (cond b Nothing (reach_of_hours site pollutant 0 LAST_HOUR))
      → is_read_in (cond b [] (cells_in records site pollutant every_hour)) ≡ adds records (cond b Nothing (reach_of_hours site pollutant 0 LAST_HOUR)) cell
  monitor_read pollutant site true within = and_none (is_of_particles cell)
  monitor_read pollutant site false within = hours_read pollutant site 0 LAST_HOUR every_hour all_hours within

  event_read : (o : Option OfficeRecord) → IsReach (reach_of_event o) → is_read_in (cells_in_span records o) ≡ adds records (reach_of_event o) cell
  event_read (Some (Event number site pollutant first last code)) within = hours_read pollutant site first last (from_to first last) refl within
  event_read o within = and_none (is_of_particles cell)

  -- no cell of particles reads an ozone year
  no_year : (site : Site) (year : ℕ) → is_read_in (OzoneYearCell site year ∷ []) ≡ false
  no_year site year = by cell
    where
      by : (cell : Cell) → (is_of_particles cell && list_any (is_same_cell cell) (OzoneYearCell site year ∷ [])) ≡ false
      by (HourCell other n) = refl
      by (WindowCell other n) = refl
      by (OzoneDayCell other n) = refl
      by (OzoneYearCell other n) = refl
      by (PmDayCell other pollutant n) = refl
      by (StratumCell other n) = refl
      by (QuarterCell other pollutant n) = refl
      by (PmYearCell other n) = refl

  key_read : (key : OfficeKey) (is_new : Bool) → IsReach (reach_of_key records key is_new) → (is_of_particles cell && reads records cell (ChangedRecord key is_new)) ≡ adds records (reach_of_key records key is_new) cell
  unfolding reads cells_reading
  key_read (MonitorKey id) is_new within = monitor_read id.pollutant id.site (is_new && not (may_count_at_once id.pollutant)) within
  key_read (PrimaryKey site pollutant from) is_new within = hours_read pollutant site _ _ _ refl within
  key_read (ScheduleKey site pollutant from) is_new within = quarters_read pollutant site _ _ within
  key_read (SeasonKey site year) is_new within = no_year site year
  key_read (MakeupKey site missed) is_new within = quarter_read site (quarter_of missed) within
  key_read (EventKey number) is_new within = event_read (record_of records (EventKey number)) within
  key_read (ConcurrenceKey number) is_new within = event_read (record_of records (EventKey number)) within
  key_read (ApprovedKey site day) is_new within = no_year site (year_of day)
  key_read (CombinedKey site pollutant) is_new within = and_none (is_of_particles cell)

  either_read : (old new : Option OfficeRecord) → IsReach (reach_of_either records old new) → reads_particle_row records (record_row old new) cell ≡ adds records (reach_of_either records old new) cell
  either_read old (Some row) within = key_read (key_of row) (is_none old) within
  either_read (Some row) None within = key_read (key_of row) false within
  either_read None None within = refl

  pub marks_particle-adds : (change : OfficeChange) → IsReach (reach_of records change) → marks_particle records change cell ≡ adds records (reach_of records change) cell
  unfolding marks_particle reads cells_reading
  marks_particle-adds (Observation key old new) within = hour_read key.monitor.pollutant key.monitor.site key.hour within
  marks_particle-adds (Record change) within = either_read change.old change.new within
