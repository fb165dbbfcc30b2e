-- The loads of an office add their rows to the cost of a change, and nothing else.
use Rattle.std.proofs.Common.{◌≡◌, ℕ, ◌+◌, ◌*◌, ◌≤◌, Bool, false, cond, List, [], ◌∷◌, ◌++◌, map, length, refl, ap, ◌∙◌, arith}
use Rattle.std.specs.Prelude.{filter, flat_map, is_none, sum_by}
use Rattle.aq_base.specs.declared.observation.ObsKey.{ObsKey}
use Rattle.aq_base.specs.declared.observation.Observation.{Observation}
use Rattle.aq_base.specs.declared.office.OfficeRecord.{OfficeRecord}
use Rattle.aq_rules.specs.Kept.Cells.{CellName, HourCell, WindowCell, OzoneDayCell, OzoneYearCell, PmDayCell, StratumCell, QuarterCell, PmYearCell}
use Rattle.aq_rules.specs.Kept.Reach.{ChangedRow, ChangedLoad, cells_reached, cells_reading, changed_row, changed_rows, cost, cost_of, each_once, is_of_schedule, is_of_season, reads_one, steps_of}
use Rattle.aq_rules.specs.Office.Load.{observation_changes, record_changes}
use Rattle.aq_rules.specs.Office.Office.{Office, StoredLoad, load_at}
use Rattle.aq_series.specs.OfficeView.{office_of}
use Rattle.aq_book.specs.View.{standing}

abbrev of_loads : List StoredLoad → List ChangedRow
of_loads loads = map (λ (load : StoredLoad). ChangedLoad load.number) loads

-- ---- lists with the rows of loads behind them

-- no cell reads them
none-read : (records : List OfficeRecord) (rows : List ChangedRow) (loads : List StoredLoad) → flat_map (cells_reading records) (rows ++ of_loads loads) ≡ flat_map (cells_reading records) rows
unfolding cells_reading
none-read records [] [] = refl
none-read records [] (load ∷ loads) = none-read records [] loads
none-read records (row ∷ rows) loads = ap (λ (cells : List CellName). cells_reading records row ++ cells) (none-read records rows loads)

-- they are no seasons and no schedules
none-pass : (test : ChangedRow → Bool) (rows : List ChangedRow) (loads : List StoredLoad) → ((number : ℕ) → test (ChangedLoad number) ≡ false) → filter test (rows ++ of_loads loads) ≡ filter test rows
none-pass test [] [] fails = refl
none-pass test [] (load ∷ loads) fails = rw (fails load.number) (none-pass test [] loads fails)
none-pass test (row ∷ rows) loads fails = ap (λ (kept : List ChangedRow). cond (test row) (row ∷ kept) kept) (none-pass test rows loads fails)

more : (rows others : List ChangedRow) → length rows ≤ length (rows ++ others)
more [] others = omega arith
more (row ∷ rows) others = let rest = more rows others in omega (arith, rest)

end : {X : Type 0} (xs : List X) → xs ++ [] ≡ xs
end [] = refl
end (x ∷ xs) = ap (λ rest. x ∷ rest) (end xs)

-- ---- what they cost

module _ (old new : Office) (rows : List ChangedRow) (loads : List StoredLoad) where
  steps-same : (cell : CellName) → steps_of old new (rows ++ of_loads loads) cell ≡ steps_of old new rows cell
  steps-same (HourCell site hour) = refl
  steps-same (WindowCell site start) = refl
  steps-same (OzoneDayCell site day) = refl
  steps-same (OzoneYearCell site year) =
      ap (λ (kept : List ChangedRow). cond (reads_one old new (OzoneYearCell site year) kept) 732 0) (none-pass is_of_season rows loads (λ number. refl))
  steps-same (PmDayCell site pollutant day) = refl
  steps-same (StratumCell site first) = refl
  steps-same (QuarterCell site pollutant quarter) =
      ap (λ (kept : List ChangedRow). cond (reads_one old new (QuarterCell site pollutant quarter) kept) 800 0) (none-pass is_of_schedule rows loads (λ number. refl))
  steps-same (PmYearCell site year) = refl

  cells-same : cells_reached old new (rows ++ of_loads loads) ≡ cells_reached old new rows
  cells-same = λ i. each_once (none-read old.records rows loads i ++ none-read new.records rows loads i)

  pub sum-same : sum_by (steps_of old new (rows ++ of_loads loads)) (cells_reached old new (rows ++ of_loads loads)) ≡ sum_by (steps_of old new rows) (cells_reached old new rows)
  sum-same = λ i. sum_by (λ cell. steps-same cell i) (cells-same i)

module _ (records after : List OfficeRecord) (rows later : List (ObsKey × Observation)) where
  module _ (loads now : List StoredLoad) where
    abbrev old : Office
    old = standing records rows loads

    abbrev new : Office
    new = standing after later now

    abbrev changed : List ChangedRow
    changed = map (changed_row old) (record_changes old new ++ observation_changes old new)

    abbrev gone : List ChangedRow
    gone = of_loads (filter (λ (load : StoredLoad). is_none (load_at new load.number)) loads)

    abbrev come : List ChangedRow
    come = of_loads (filter (λ (load : StoredLoad). is_none (load_at old load.number)) now)

    abbrev sum : ℕ
    sum = sum_by (steps_of old new changed) (cells_reached old new changed)

    cost-is : cost old new ≡ 16 * length (changed ++ come ++ gone) + sum
    unfolding cost cost_of changed_rows
    cost-is =
        ap (λ n. 16 * length (changed ++ come ++ gone) + n)
        (sum-same old new (changed ++ come) (filter (λ (load : StoredLoad). is_none (load_at new load.number)) loads)
        ∙ sum-same old new changed (filter (λ (load : StoredLoad). is_none (load_at old load.number)) now))

  -- without their loads two offices differ at no higher cost
  pub bare-costs : (loads now : List StoredLoad) → cost (office_of records rows) (office_of after later) ≤ cost (standing records rows loads) (standing after later now)
  bare-costs loads now =
      let bare = cost-is [] [] in
      let whole = cost-is loads now in
      let none = ap (λ (rest : List ChangedRow). length rest) (end (changed loads now ++ []) ∙ end (changed loads now)) in
      let come-more = more (changed loads now) (come loads now) in
      let gone-more = more (changed loads now ++ come loads now) (gone loads now) in
      omega (arith, bare, whole, none, come-more, gone-more)
