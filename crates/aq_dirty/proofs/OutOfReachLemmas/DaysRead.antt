-- A cell that reads the observations of a day of PM2.5 or PM10 reads each changed row that the day reads. So if the cell is not in reach, the day is not.
use Rattle.std.proofs.Common.{◌≡◌, ℕ, Bool, true, false, cond, not, ◌&&◌, ◌||◌, List, [], refl, sym, ◌∙◌}
use Rattle.std.specs.Prelude.{Option, Some, ◌==◌}
use Rattle.std.specs.List.{list_any}
use Rattle.std.specs.Option.{option_to_list}
use Rattle.std.proofs.lemmas.Bool.{false≢true, and_parts, eqb-true}
use Rattle.aq_base.specs.Site.{Site}
use Rattle.aq_base.specs.Calendar.{day_of_hour, year_of}
use Rattle.aq_base.specs.declared.monitor.Pollutant.{Pollutant}
use Rattle.aq_base.specs.declared.monitor.Pollutant.TheVariants.{Ozone, Pm25, Pm10}
use Rattle.aq_base.specs.declared.office.OfficeRecord.{OfficeRecord}
use Rattle.aq_base.specs.declared.office.OfficeRecord.TheVariants.{Event}
use Rattle.aq_base.specs.declared.office.OfficeKey.TheVariants as keys
use Rattle.aq_rules.specs.Office.Office.{Office}
use Rattle.aq_rules.specs.Office.Monitors.{is_same_site, is_same_pollutant}
use Rattle.aq_rules.specs.Office.Questions.{record_of}
use Rattle.aq_rules.specs.Office.Sameness.{same_site, same_pollutant}
use Rattle.aq_rules.specs.Particles.Strata.{first_days_by, stratum_by}
use Rattle.aq_rules.specs.Kept.Cells.{CellName, PmDayCell, WindowCell, OzoneDayCell, OzoneYearCell, StratumCell, is_same_cell}
use Rattle.aq_rules.specs.Kept.Reach.{ChangedRow, ChangedObservation, ChangedRecord, changed_rows, cells_reading, reads, reach, cells_at, cells_in, cells_in_span, windows_reading, days_reading, may_count_at_once, quarter_cells, from_to, every_hour}
use Rattle.aq_rules.proofs.CellsOnce.{member}
use Rattle.aq_rules.proofs.Unreached.{ReadsAt}
use Rattle.aq_rules.proofs.UnreachedRows.{reach-is}
use Rattle.aq_dirty.proofs.OutOfReachLemmas.Hours.{either, any-implied, any-in_all, none-made, none-in_all, ozone-parts}

-- ---- the day reads its own observations alone

record IsOwn (site : Site) (pollutant : Pollutant) (day : ℕ) (s : Site) (p : Pollutant) (h : ℕ) : Type 0 where
  of_site : site ≡ s
  of_pollutant : pollutant ≡ p
  on_day : day_of_hour h ≡ day

own-parts : (site : Site) (pollutant : Pollutant) (day : ℕ) (s : Site) (p : Pollutant) (h : ℕ)
    → ((day == day_of_hour h) && is_same_site site s && is_same_pollutant pollutant p) ≡ true → IsOwn site pollutant day s p h
own-parts site pollutant day s p h is =
    let whole = and_parts ((day == day_of_hour h) && is_same_site site s) (is_same_pollutant pollutant p) is in
    let place = and_parts (day == day_of_hour h) (is_same_site site s) whole.0 in
    record { of_site = same_site site s place.1; of_pollutant = same_pollutant pollutant p whole.1; on_day = sym (eqb-true day (day_of_hour h) place.0) }

or-nothing : (b c : Bool) → c ≡ false → (b || c) ≡ true → b ≡ true
or-nothing true c none is = refl
or-nothing false c none is = absurd (false≢true (sym none ∙ is))

module _ (records : List OfficeRecord) (site : Site) (pollutant : Pollutant) (day : ℕ) where
  abbrev own : CellName → Bool
  own = is_same_cell (PmDayCell site pollutant day)

  own-day : (s : Site) (p : Pollutant) (h : ℕ) → ReadsAt (PmDayCell site pollutant day) records s p h → IsOwn site pollutant day s p h
  own-day s Ozone h is =
      let none : list_any own (cells_at records s Ozone h) ≡ false =
      ozone-parts (PmDayCell site pollutant day) s h
      ∙ rw (none-made own (WindowCell s) (λ w. refl) (windows_reading h), none-made own (OzoneDayCell s) (λ d. refl) (days_reading h), none-made own (λ d. OzoneYearCell s (year_of d)) (λ d. refl) (days_reading h)) refl
      in
      absurd (false≢true (sym none ∙ is))
  own-day s Pm25 h is =
      own-parts site pollutant day s Pm25 h (or-nothing ((day == day_of_hour h) && is_same_site site s && is_same_pollutant pollutant Pm25) false refl is)
  own-day s Pm10 h is =
      own-parts site pollutant day s Pm10 h
      (or-nothing ((day == day_of_hour h) && is_same_site site s && is_same_pollutant pollutant Pm10) _ (none-made own (StratumCell s) (λ f. refl) (option_to_list (stratum_by records s (day_of_hour h)))) is)

  -- ---- what it reads, a cell of its day reads

  module _ (other : CellName) (here : (hour : ℕ) → day_of_hour hour ≡ day → ReadsAt other records site pollutant hour) where
    at-onto : (s : Site) (p : Pollutant) (h : ℕ) → ReadsAt (PmDayCell site pollutant day) records s p h → ReadsAt other records s p h
    at-onto s p h is =
        let it = own-day s p h is in
        let one : list_any (is_same_cell other) (cells_at records site pollutant h) ≡ list_any (is_same_cell other) (cells_at records s p h) =
        λ i. list_any (is_same_cell other) (cells_at records (it.of_site i) (it.of_pollutant i) h)
        in
        sym one ∙ here h it.on_day

    in-onto : (s : Site) (p : Pollutant) (hours : List ℕ) → list_any own (cells_in records s p hours) ≡ true → list_any (is_same_cell other) (cells_in records s p hours) ≡ true
    in-onto s p hours is = any-in_all own (is_same_cell other) (cells_at records s p) (at-onto s p) hours is

    span-onto : (event : Option OfficeRecord) → list_any own (cells_in_span records event) ≡ true → list_any (is_same_cell other) (cells_in_span records event) ≡ true
    span-onto (Some (Event number s p first last code)) is = in-onto s p (from_to first last) is
    span-onto event is = absurd (false≢true is)

    no-quarter : (s : Site) (p : Pollutant) (quarter : ℕ) → list_any own (quarter_cells records s p quarter) ≡ false
    no-quarter s Ozone quarter = refl
    no-quarter s Pm25 quarter = refl
    no-quarter s Pm10 quarter = none-made own (StratumCell s) (λ f. refl) (first_days_by records s quarter)

    reads-onto : (row : ChangedRow) → reads records (PmDayCell site pollutant day) row ≡ true → reads records other row ≡ true
    unfolding reads cells_reading
    reads-onto (ChangedObservation key) is = at-onto key.monitor.site key.monitor.pollutant key.hour is
    reads-onto (ChangedRecord (keys.Monitor id) is_new) is = by (is_new && not (may_count_at_once id.pollutant)) is
      where
        by : (b : Bool) → list_any own (cond b [] (cells_in records id.site id.pollutant every_hour)) ≡ true
            → list_any (is_same_cell other) (cond b [] (cells_in records id.site id.pollutant every_hour)) ≡ true
        by true is = absurd (false≢true is)
        by false is = in-onto id.site id.pollutant every_hour is
    reads-onto (ChangedRecord (keys.Primary s p from) is_new) is = in-onto s p _ is
    reads-onto (ChangedRecord (keys.Schedule s p from) is_new) is = absurd (false≢true (sym (none-in_all own (quarter_cells records s p) (no-quarter s p) _) ∙ is))
    reads-onto (ChangedRecord (keys.Event number) is_new) is = span-onto (record_of records (keys.Event number)) is
    reads-onto (ChangedRecord (keys.Concurrence number) is_new) is = span-onto (record_of records (keys.Event number)) is
    reads-onto row is = absurd (false≢true is)

pub day-out : (a b : Office) (other : CellName) (site : Site) (pollutant : Pollutant) (day : ℕ)
    → ((hour : ℕ) → day_of_hour hour ≡ day → ReadsAt other a.records site pollutant hour)
    → ((hour : ℕ) → day_of_hour hour ≡ day → ReadsAt other b.records site pollutant hour)
    → member other (reach a b) ≡ false → member (PmDayCell site pollutant day) (reach a b) ≡ false
day-out a b other site pollutant day here here_too out = by (member (PmDayCell site pollutant day) (reach a b)) refl
  where
    by : (t : Bool) → member (PmDayCell site pollutant day) (reach a b) ≡ t → t ≡ false
    by false is = refl
    by true is =
        absurd (false≢true (sym out ∙ reach-is a b other
        ∙ any-implied _ _
        (λ row. either (reads a.records (PmDayCell site pollutant day) row) (reads b.records (PmDayCell site pollutant day) row) (reads a.records other row) (reads b.records other row)
        (reads-onto a.records site pollutant day other here row) (reads-onto b.records site pollutant day other here_too row))
        (changed_rows a b) (sym (reach-is a b (PmDayCell site pollutant day)) ∙ is)))
