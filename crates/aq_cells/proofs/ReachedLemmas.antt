-- The changes of a load, the cells that they mark, and the office without its loads.
use Rattle.std.proofs.Common.{◌≡◌, ℕ, Bool, true, false, ◌+◌, ◌<◌, cond, ◌&&◌, ◌||◌, List, [], ◌∷◌, ◌++◌, map, length, drop, get_or, refl, ap, sym, ◌∙◌, inr}
use Rattle.std.specs.Prelude.{Option, Some, None, is_none, unwrap_or}
use Rattle.std.specs.List.{cons_option, filter_map, list_any}
use Rattle.std.proofs.lemmas.Bool.{false≢true}
use Rattle.std.proofs.lemmas.List.{append-nil, drop_more}
use Rattle.std.proofs.lemmas.List.Folds.{list_any-append}
use Rattle.aq_base.specs.declared.observation.ObsKey.{ObsKey}
use Rattle.aq_base.specs.declared.observation.Observation.{Observation}
use Rattle.aq_base.specs.declared.office.OfficeRecord.{OfficeRecord}
use Rattle.aq_base.specs.declared.office.OfficeKey.{OfficeKey}
use Rattle.aq_rules.proofs.Found.{find-passes}
use Rattle.aq_rules.proofs.Lookups.{same-is}
use Rattle.aq_rules.proofs.OneKey.{one_office_key}
use Rattle.aq_rules.specs.Kept.Cells.{CellName as Cell, HourCell, WindowCell, OzoneDayCell, OzoneYearCell, PmDayCell, StratumCell, QuarterCell, PmYearCell, is_same_cell}
use Rattle.aq_rules.specs.Kept.Reach.{ChangedRecord, ChangedRow, changed_row, changed_rows, reach, reads}
use Rattle.aq_rules.specs.Office.Load.{OfficeChange, PutRecord, PutObservation, observation_change, record_change, record_changes, observation_changes, keys_of_either, is_same_record, is_same_content}
use Rattle.aq_rules.specs.Office.Office.{Office, is_same, key_numbers, key_of, record_at, record_rank, observation_at, observation_key, observation_numbers}
use Rattle.aq_rules.specs.Office.Questions.{record_of}
use Rattle.aq_dirty.specs.Marked.{holds_cell, nothing, Marked}
use Rattle.aq_dirty.specs.ParticleReach.{is_of_particles, marks_particle, reads_particle_row}
use Rattle.aq_dirty.specs.Particles.{holds_particle, nothing as no_particles, MarkedParticles}
use Rattle.aq_dirty.specs.Reach.{is_of_ozone, marks, reads_row, record_row, row_of}
use Rattle.aq_dirty.specs.declared.change.OfficeChange as dirty
use Rattle.aq_series.specs.OfficeView.{office_of}
use Rattle.aq_staging.specs.Batch.{change_in, changes_in}
use Rattle.aq_staging.specs.Changes.{with_changes}
use Rattle.aq_staging.specs.Staged.{AreChangesOf, StagedLoad, changes_between}
use Rattle.aq_staging.specs.declared.change.OfficeChange as staged
use Rattle.aq_base.specs.Site.{Site}
use Rattle.aq_rules.specs.Office.Approval.{approves}
use Rattle.aq_ozone_cells.proofs.Unobserved.{all-kept}
use Rattle.aq_ozone_cells.specs.FilledDays.{AreKept}
use Rattle.aq_ozone_cells.specs.Filling.{observes, AreFilling}
use Rattle.aq_ozone_cells.specs.KeptDays.{average_at, held_at, hour_at, no_average, no_day}
use Rattle.aq_ozone_cells.specs.OzoneCells.{Cells}
use Rattle.aq_base.specs.declared.monitor.Pollutant.TheVariants.{Ozone, Pm25, Pm10}
use Rattle.aq_particle_cells.specs.Days.KeptDays.{cell_at, sample_at, Days}
use Rattle.aq_particle_cells.specs.Days.Observed.{observes as observed}
use Rattle.aq_particle_cells.specs.Pm10.Pm10Cells.{Pm10Kept}
use Rattle.aq_particle_cells.specs.Pm10.Pm10Levels as pm10_cells
use Rattle.aq_particle_cells.specs.Pm10.Strata.{stratum_at}
use Rattle.aq_particle_cells.proofs.Pm10Lemmas.Pm10Filling as pm10_filling
use Rattle.aq_particle_cells.proofs.Pm25Lemmas.Pm25Filling as pm25_filling
use Rattle.aq_particle_cells.specs.Pm25.Pm25Levels as pm25_cells
use Rattle.aq_cells.specs.Reached.{is_amiss, reads_change, HoldsCells, HoldsParticles, HoldsReach, Marks, MarksParticles}

-- ---- a change as the dirty set reads it

-- the row of a record that is dropped
pub dropped-row : (records : List OfficeRecord) (key : OfficeKey) → is_none (record_of records key) ≡ false → record_row (record_of records key) None ≡ Some (ChangedRecord key false)
dropped-row records key some = by (record_of records key) refl some
  where
    by : (o : Option OfficeRecord) → record_of records key ≡ o → is_none o ≡ false → record_row o None ≡ Some (ChangedRecord key false)
    by None is some = absurd (false≢true (sym some))
    by (Some row) is some =
        ap (λ (k : OfficeKey). Some (ChangedRecord k false))
        (one_office_key (key_of row) key (same-is (record_rank row) (key_numbers key) (find-passes (λ r. is_same (record_rank r) (key_numbers key)) records row is)))

-- ---- no change drops a record that is not there

module _ (a b : Office) where
  none-amiss_record : (key : OfficeKey) (o p : Option OfficeRecord) → record_at a key ≡ o → (rest : List OfficeChange) → list_any (is_amiss a.records) rest ≡ false
      → list_any (is_amiss a.records) (cons_option (record_change key o p) rest) ≡ false
  none-amiss_record key None None is rest none = none
  none-amiss_record key None (Some row) is rest none = none
  none-amiss_record key (Some old) None is rest none = rw (is) none
  none-amiss_record key (Some old) (Some row) is rest none = by (is_same_record old row)
    where
      by : (t : Bool) → list_any (is_amiss a.records) (cons_option (cond t None (Some (PutRecord row))) rest) ≡ false
      by true = none
      by false = none

  none-amiss_records : (keys : List OfficeKey) → list_any (is_amiss a.records) (filter_map (λ key. record_change key (record_at a key) (record_at b key)) keys) ≡ false
  none-amiss_records [] = refl
  none-amiss_records (key ∷ keys) = none-amiss_record key (record_at a key) (record_at b key) refl (filter_map (λ k. record_change k (record_at a k) (record_at b k)) keys) (none-amiss_records keys)

  none-amiss_observation : (key : ObsKey) (o p : Option Observation) (rest : List OfficeChange) → list_any (is_amiss a.records) rest ≡ false
      → list_any (is_amiss a.records) (cons_option (observation_change key o p) rest) ≡ false
  none-amiss_observation key None None rest none = none
  none-amiss_observation key None (Some now) rest none = none
  none-amiss_observation key (Some old) None rest none = none
  none-amiss_observation key (Some old) (Some now) rest none = by (is_same_content old now)
    where
      by : (t : Bool) → list_any (is_amiss a.records) (cons_option (cond t None (Some (PutObservation key now))) rest) ≡ false
      by true = none
      by false = none

  none-amiss_observations : (keys : List ObsKey) → list_any (is_amiss a.records) (filter_map (λ key. observation_change key (observation_at a key) (observation_at b key)) keys) ≡ false
  none-amiss_observations [] = refl
  none-amiss_observations (key ∷ keys) = none-amiss_observation key (observation_at a key) (observation_at b key) (filter_map (λ k. observation_change k (observation_at a k) (observation_at b k)) keys) (none-amiss_observations keys)

  pub none-amiss : (changes : List OfficeChange) → changes ≡ record_changes a b ++ observation_changes a b → list_any (is_amiss a.records) changes ≡ false
  none-amiss changes are =
      ap (list_any (is_amiss a.records)) are ∙ list_any-append (is_amiss a.records) (record_changes a b) (observation_changes a b)
      ∙ (λ i. none-amiss_records (keys_of_either key_numbers (map key_of a.records) (map key_of b.records)) i
      || none-amiss_observations (keys_of_either observation_numbers (map observation_key a.observations) (map observation_key b.observations)) i)

-- ---- what the changes reach

any-map : {X Y : Type 0} (p : Y → Bool) (f : X → Y) (xs : List X) → list_any p (map f xs) ≡ list_any (λ x. p (f x)) xs
any-map p f [] = refl
any-map p f (x ∷ xs) = ap (λ b. p (f x) || b) (any-map p f xs)

module _ (records after : List OfficeRecord) (rows later : List (ObsKey × Observation)) (changes : List OfficeChange)
    (are : changes ≡ record_changes (office_of records rows) (office_of after later) ++ observation_changes (office_of records rows) (office_of after later)) where
  pub reached-by : (cell : Cell) → (list_any (is_same_cell cell) (reach (office_of records rows) (office_of after later))
      ≡ list_any (λ row. reads records cell row || reads after cell row) (changed_rows (office_of records rows) (office_of after later)))
      → list_any (is_same_cell cell) (reach (office_of records rows) (office_of after later)) ≡ list_any (reads_change records after rows cell) changes
  unfolding changed_rows
  reached-by cell law =
      law
      ∙ ap (list_any (λ row. reads records cell row || reads after cell row)) (append-nil (map (changed_row (office_of records rows)) (record_changes (office_of records rows) (office_of after later) ++ observation_changes (office_of records rows) (office_of after later)) ++ []) ∙ append-nil _)
      ∙ any-map (λ row. reads records cell row || reads after cell row) (changed_row (office_of records rows)) (record_changes (office_of records rows) (office_of after later) ++ observation_changes (office_of records rows) (office_of after later))
      ∙ ap (list_any (reads_change records after rows cell)) (sym are)

-- ---- marks

joined : (held kind p q : Bool) → (held || (kind && p) || (kind && q)) ≡ (held || (kind && (p || q)))
joined true kind p q = refl
joined false true p q = refl
joined false false p q = refl

-- what a change marks, by the row that it changes
module _ (before after : List OfficeRecord) (rows : List (ObsKey × Observation)) (change : dirty.OfficeChange) (made : OfficeChange)
    (is : row_of change ≡ Some (changed_row (office_of before rows) made)) where
  pub mark-adds : (old new : Marked) → Marks before after change old new
      → (cell : Cell) → holds_cell new cell ≡ (holds_cell old cell || (is_of_ozone cell && reads_change before after rows cell made))
  unfolding marks
  mark-adds old new marked cell =
      marked cell ∙ ap (λ (row : Option ChangedRow). holds_cell old cell || reads_row before row cell || reads_row after row cell) is
      ∙ joined (holds_cell old cell) (is_of_ozone cell) (reads before cell (changed_row (office_of before rows) made)) (reads after cell (changed_row (office_of before rows) made))

  pub particles-add : (old new : MarkedParticles) → MarksParticles before after change old new
      → (cell : Cell) → holds_particle new cell ≡ (holds_particle old cell || (is_of_particles cell && reads_change before after rows cell made))
  unfolding marks_particle
  particles-add old new marked cell =
      marked cell ∙ ap (λ (row : Option ChangedRow). holds_particle old cell || reads_particle_row before row cell || reads_particle_row after row cell) is
      ∙ joined (holds_particle old cell) (is_of_particles cell) (reads before cell (changed_row (office_of before rows) made)) (reads after cell (changed_row (office_of before rows) made))

-- a cell is held, or one of the changes that are left will mark it: with one more, and with none
module _ (test : OfficeChange → Bool) (kind : Bool) where
  pub marked-more : (made : OfficeChange) (rest left : List OfficeChange) (held now whole : Bool) → now ≡ (held || (kind && test made)) → left ≡ made ∷ rest
      → (held || (kind && list_any test left)) ≡ whole → (now || (kind && list_any test rest)) ≡ whole
  marked-more made rest left held now whole is next so_far =
      ap (λ (h : Bool). h || (kind && list_any test rest)) is ∙ joined held kind (test made) (list_any test rest)
      ∙ ap (λ (l : List OfficeChange). held || (kind && list_any test l)) (sym next) ∙ so_far

  pub marked-all : (left : List OfficeChange) (held whole : Bool) → left ≡ [] → (held || (kind && list_any test left)) ≡ whole → held ≡ whole
  marked-all left held whole none so_far =
      sym (by held kind) ∙ ap (λ (l : List OfficeChange). held || (kind && list_any test l)) (sym none) ∙ so_far
    where
      by : (h k : Bool) → (h || (k && false)) ≡ h
      by true k = refl
      by false true = refl
      by false false = refl

-- nothing is held of fresh sets
no-cell : (cell : Cell) → holds_cell nothing cell ≡ false
no-cell (HourCell site hour) = refl
no-cell (WindowCell site start) = refl
no-cell (OzoneDayCell site day) = refl
no-cell (OzoneYearCell site year) = refl
no-cell (PmDayCell site pollutant day) = refl
no-cell (StratumCell site first) = refl
no-cell (QuarterCell site pollutant quarter) = refl
no-cell (PmYearCell site year) = refl

no-particle : (cell : Cell) → holds_particle no_particles cell ≡ false
no-particle (HourCell site hour) = refl
no-particle (WindowCell site start) = refl
no-particle (OzoneDayCell site day) = refl
no-particle (OzoneYearCell site year) = refl
no-particle (PmDayCell site Ozone day) = refl
no-particle (PmDayCell site Pm25 day) = refl
no-particle (PmDayCell site Pm10 day) = refl
no-particle (StratumCell site first) = refl
no-particle (QuarterCell site Ozone quarter) = refl
no-particle (QuarterCell site Pm25 quarter) = refl
no-particle (QuarterCell site Pm10 quarter) = refl
no-particle (PmYearCell site year) = refl

pub none-marked : (old : Marked) (cell : Cell) (waits : Bool) → old ≡ nothing → (holds_cell old cell || waits) ≡ waits
none-marked old cell waits fresh = ap (λ (m : Marked). holds_cell m cell || waits) fresh ∙ ap (λ (h : Bool). h || waits) (no-cell cell)

pub no-particles : (old : MarkedParticles) (cell : Cell) (waits : Bool) → old ≡ no_particles → (holds_particle old cell || waits) ≡ waits
no-particles old cell waits fresh = ap (λ (m : MarkedParticles). holds_particle m cell || waits) fresh ∙ ap (λ (h : Bool). h || waits) (no-particle cell)

-- a cell of this kind that is not held reads none of the changes
pub unread : (kind test held : Bool) → held ≡ (kind && test) → held ≡ false → kind ≡ true → test ≡ false
unread kind test held exact free is = sym (ap (λ (k : Bool). k && test) is) ∙ sym exact ∙ free

-- each cell is of ozone or of particles
of-one-kind : (cell : Cell) (test : Bool) → ((is_of_ozone cell && test) || (is_of_particles cell && test)) ≡ test
of-one-kind cell test = by cell
  where
    neither : (t : Bool) → (t || false) ≡ t
    neither true = refl
    neither false = refl

    by : (c : Cell) → ((is_of_ozone c && test) || (is_of_particles c && test)) ≡ test
    by (HourCell site hour) = neither test
    by (WindowCell site start) = neither test
    by (OzoneDayCell site day) = neither test
    by (OzoneYearCell site year) = neither test
    by (PmDayCell site pollutant day) = refl
    by (StratumCell site first) = refl
    by (QuarterCell site pollutant quarter) = refl
    by (PmYearCell site year) = refl

pub reach-held : (before after : List OfficeRecord) (changes : List OfficeChange) (ozone : Marked) (particles : MarkedParticles)
    → HoldsCells before after changes ozone → HoldsParticles before after changes particles
    → ((old new : Office) (cell : Cell) → list_any (is_same_cell cell) (reach old new) ≡ list_any (λ row. reads old.records cell row || reads new.records cell row) (changed_rows old new))
    → HoldsReach before after changes ozone particles
reach-held before after changes ozone particles cells days law rows later cell are =
    reached-by before after rows later changes are cell (law (office_of before rows) (office_of after later) cell)
    ∙ sym (of-one-kind cell (list_any (reads_change before after rows cell) changes))
    ∙ (λ i. sym (cells rows cell) i || sym (days rows cell) i)

-- the changes that are left, and those behind the next one
pub rest-is : (changes : List staged.OfficeChange) (i : ℕ) (x : staged.OfficeChange) → i < length changes → x ≡ get_or changes i x
    → changes_in (drop i changes) ≡ change_in x ∷ changes_in (drop (i + 1) changes)
rest-is changes i x within is = ap changes_in (drop_more changes i x within ∙ ap (λ y. y ∷ drop (i + 1) changes) (sym is))

-- the changes of a load, as those between the two offices without their loads
pub changes-are : (records after : List OfficeRecord) (rows later : List (ObsKey × Observation)) (load : StagedLoad) (changes : List OfficeChange)
    → after ≡ unwrap_or load.records records → later ≡ with_changes load.changes rows → AreChangesOf records rows load.records load.changes changes
    → changes ≡ record_changes (office_of records rows) (office_of after later) ++ observation_changes (office_of records rows) (office_of after later)
unfolding changes_between
changes-are records after rows later load changes records_are rows_are of =
    of [] ∙ (λ i. record_changes (office_of records rows) (office_of (sym records_are i) (sym rows_are i)) ++ observation_changes (office_of records rows) (office_of (sym records_are i) (sym rows_are i)))

-- ---- nothing is kept of an office of which nothing stands

pub none-kept : (records : List OfficeRecord) (rows : List (ObsKey × Observation)) → records ≡ [] → rows ≡ [] → (cells : Cells)
    → ((site : Site) (hour : ℕ) → hour_at cells site hour ≡ None) → ((site : Site) (start : ℕ) → average_at cells site start ≡ no_average) → ((site : Site) (day : ℕ) → held_at cells site day ≡ no_day)
    → AreKept (office_of records rows) cells
unfolding AreFilling
none-kept records rows no_records no_rows cells hours averages days =
    all-kept (office_of records rows) cells
    (λ site day within. inr (record { hours = λ hour lies. hours site hour; averages = λ start lies. averages site start; held = days site day }))
    (λ site day within any. absurd (false≢true (sym (ap (list_any (observes site day)) no_rows) ∙ any)))
    (λ site day within any. absurd (false≢true (sym (ap (list_any (approves site day)) no_records) ∙ any)))

pub none-kept-pm25 : (records : List OfficeRecord) (rows : List (ObsKey × Observation)) → rows ≡ [] → (days : Days)
    → ((site : Site) (day : ℕ) → cell_at days site day ≡ None) → ((site : Site) (day : ℕ) → sample_at days site day ≡ None)
    → pm25_cells.AreKept (office_of records rows) days
none-kept-pm25 records rows no_rows days cells samples =
    pm25_filling.all-filled (office_of records rows) days (pm25_filling.none-filling (office_of records rows) days cells samples)
    (λ site day any. absurd (false≢true (sym (ap (list_any (observed Pm25 site day)) no_rows) ∙ any)))

pub none-kept-pm10 : (records : List OfficeRecord) (rows : List (ObsKey × Observation)) → rows ≡ [] → (kept : Pm10Kept)
    → ((site : Site) (day : ℕ) → cell_at kept.days site day ≡ None) → ((site : Site) (day : ℕ) → sample_at kept.days site day ≡ None) → ((site : Site) (first : ℕ) → stratum_at kept.strata site first ≡ None)
    → pm10_cells.AreKept (office_of records rows) kept
none-kept-pm10 records rows no_rows kept cells samples strata =
    let office = office_of records rows in
    let filling = pm10_filling.none-filling office kept cells samples in
    let none : (site : Site) (day : ℕ) → list_any (observed Pm10 site day) rows ≡ false = λ site day. ap (list_any (observed Pm10 site day)) no_rows in
    pm10_filling.all-filled office kept kept (pm10_filling.values-filled office kept filling (λ site day any. absurd (false≢true (sym (none site day) ∙ any))))
    (pm10_filling.counts-filled office kept filling)
    (λ site first within. pm10_filling.stratum-filled office kept site first (λ day any in_it. absurd (false≢true (sym (none site day) ∙ any))) (inr (strata site first)))
    (λ site day. refl) (λ site day. refl)

-- ---- cells of which nothing is kept

-- a cell that is none of particles is the office's in what is kept of these
pub pm25-else : (office : Office) (days : Days) (cell : Cell) → (is_of_particles cell ≡ true → pm25_cells.IsCellOf office days cell) → pm25_cells.IsCellOf office days cell
unfolding pm25_cells.IsCellOf
pm25-else office days (HourCell site hour) is = tt
pm25-else office days (WindowCell site start) is = tt
pm25-else office days (OzoneDayCell site day) is = tt
pm25-else office days (OzoneYearCell site year) is = tt
pm25-else office days (PmDayCell site pollutant day) is = is refl
pm25-else office days (StratumCell site first) is = tt
pm25-else office days (QuarterCell site pollutant quarter) is = is refl
pm25-else office days (PmYearCell site year) is = tt

pub pm10-else : (office : Office) (kept : Pm10Kept) (cell : Cell) → (is_of_particles cell ≡ true → pm10_cells.IsCellOf office kept cell) → pm10_cells.IsCellOf office kept cell
unfolding pm10_cells.IsCellOf
pm10-else office kept (HourCell site hour) is = tt
pm10-else office kept (WindowCell site start) is = tt
pm10-else office kept (OzoneDayCell site day) is = tt
pm10-else office kept (OzoneYearCell site year) is = tt
pm10-else office kept (PmDayCell site pollutant day) is = is refl
pm10-else office kept (StratumCell site first) is = is refl
pm10-else office kept (QuarterCell site pollutant quarter) is = is refl
pm10-else office kept (PmYearCell site year) is = tt
