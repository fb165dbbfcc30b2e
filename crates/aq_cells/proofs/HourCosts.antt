-- What a load of ozone hours costs: the cells that read hours which follow one another are those hours, the averages that start up to seven hours before, and their days and years; and no year takes a step, since no season changed.
use Rattle.std.proofs.Common.{◌≡◌, ℕ, ◌+◌, ◌-◌, ◌*◌, ◌/◌, ◌<◌, ◌≤◌, true, false, cond, List, [], ◌∷◌, ◌++◌, map, length, refl, sym, ap, subst, arith}
use Rattle.std.specs.Prelude.{filter, flat_map, nat_le, sum_by}
use Rattle.std.specs.List.{range_with_len}
use Rattle.std.proofs.lemmas.Bool.{le-leb}
use Rattle.std.proofs.lemmas.List.{length-append, length-map}
use Rattle.std.proofs.lemmas.List.FromFn.{length-range_with_len}
use Rattle.std.proofs.lemmas.List.Sums.{sum_by-append}
use Rattle.aq_base.specs.Calendar.{day_of_hour, hour_number, year_of}
use Rattle.aq_base.specs.Site.{Site}
use Rattle.aq_base.specs.declared.monitor.MonitorId.{MonitorId}
use Rattle.aq_base.specs.declared.monitor.Pollutant.TheVariants.{Ozone}
use Rattle.aq_base.specs.declared.observation.ObsKey.{ObsKey}
use Rattle.aq_base.specs.declared.office.OfficeRecord.{OfficeRecord}
use Rattle.aq_rules.proofs.CellsOnce.{weight}
use Rattle.aq_rules.specs.Kept.Cells.{CellName, HourCell, WindowCell, OzoneDayCell, OzoneYearCell}
use Rattle.aq_rules.specs.Kept.Reach.{ChangedLoad, ChangedObservation, ChangedRow, cells_at, cells_reading, changed_rows, cost, cost_of, days_reading, each_once, is_of_season, ozone_cells_at, steps_of, windows_reading}
use Rattle.aq_rules.specs.Office.Office.{Office}
use Rattle.aq_cells.proofs.CellsWithin.{Within, both-within, each-within, joined-within, range-within, sum-made, weighs-within}

-- ---- the cells that read n hours from the hour a on: m averages from the start b on, and those of the days

module _ (site : Site) where
  abbrev year : ℕ → CellName
  year day = OzoneYearCell site (year_of day)

  abbrev hours_and_averages : List ℕ → List ℕ → List CellName
  hours_and_averages hours starts = map (HourCell site) hours ++ map (WindowCell site) starts

  abbrev cells : List ℕ → List ℕ → List ℕ → List CellName
  cells hours starts days = hours_and_averages hours starts ++ map (OzoneDayCell site) days ++ map year days

  -- with further hours and averages
  more : (xs ks starts ws days : List ℕ) → Within (map (HourCell site) xs) (map (HourCell site) ks)
      → Within (map (WindowCell site) starts) (map (WindowCell site) ws) → Within (cells xs starts days) (cells ks ws days)
  more xs ks starts ws days hours averages =
      let lower = joined-within (map (HourCell site) xs) (map (WindowCell site) starts) (map (HourCell site) ks) (map (WindowCell site) ws) hours averages in
      let on = map (OzoneDayCell site) days in
      let to_days = joined-within (hours_and_averages xs starts) on (hours_and_averages ks ws) on lower (λ c has. has) in
      joined-within (hours_and_averages xs starts ++ on) (map year days) (hours_and_averages ks ws ++ on) (map year days) to_days (λ c has. has)

  module _ (a n b m : ℕ) (days : List ℕ) where
    abbrev AreReadBy : Type 0
    AreReadBy = (k : ℕ) → a ≤ k → k < a + n → (b ≤ k - 7) × (k < b + m) × (days_reading k ≡ days)

    abbrev all_cells : List CellName
    all_cells = cells (range_with_len a n) (range_with_len b m) days

    all-within : AreReadBy → Within (flat_map (ozone_cells_at site) (range_with_len a n)) all_cells
    all-within read = each-within (ozone_cells_at site) all_cells a n (λ k low high.
        let is = read k low high in
        subst (λ ds. Within (cells (k ∷ []) (windows_reading k) ds) all_cells) (sym is.2)
        (more (k ∷ []) (range_with_len a n) (windows_reading k) (range_with_len b m) days
        (range-within (HourCell site) k 1 a n low (omega arith))
        (range-within (WindowCell site) (k - 7) (k + 1 - (k - 7)) b m is.0 (omega (arith, is.0, is.1)))))

    all-sum : (f : CellName → ℕ) → ((k : ℕ) → f (HourCell site k) ≡ 40) → ((k : ℕ) → f (WindowCell site k) ≡ 4)
        → ((k : ℕ) → f (OzoneDayCell site k) ≡ 4) → ((k : ℕ) → f (year k) ≡ 0) → sum_by f all_cells ≡ 40 * n + 4 * m + 4 * length days
    all-sum f hour average day none =
        let hours = range_with_len a n in
        let starts = range_with_len b m in
        let on = map (OzoneDayCell site) days in
        let whole = sum_by-append f (hours_and_averages hours starts ++ on) (map year days) in
        let to_days = sum_by-append f (hours_and_averages hours starts) on in
        let lower = sum_by-append f (map (HourCell site) hours) (map (WindowCell site) starts) in
        omega (
          arith,
          whole,
          to_days,
          lower,
          length-range_with_len a n,
          length-range_with_len b m,
          sum-made f (HourCell site) 40 hour hours,
          sum-made f (WindowCell site) 4 average starts,
          sum-made f (OzoneDayCell site) 4 day days,
          sum-made f year 0 none days,
        )

-- ---- what a load costs

module _ (old new : Office) (number : ℕ) where
  of-rows : (rows : List ChangedRow) → changed_rows old new ≡ rows → cost old new ≡ cost_of old new rows
  unfolding cost
  of-rows rows are = ap (cost_of old new) are

  pub no-line : changed_rows old new ≡ ChangedLoad number ∷ [] → cost old new ≡ 16
  unfolding cost_of each_once cells_reading
  no-line are = of-rows (ChangedLoad number ∷ []) are

  module _ (monitor : MonitorId) where
    abbrev observed : ℕ → ChangedRow
    observed hour = ChangedObservation (record { monitor = monitor; hour = hour })

    abbrev rows : List ℕ → List ChangedRow
    rows hours = map observed hours ++ ChangedLoad number ∷ []

    what-reads : monitor.pollutant ≡ Ozone → (records : List OfficeRecord) (hours : List ℕ)
        → flat_map (cells_reading records) (rows hours) ≡ flat_map (ozone_cells_at monitor.site) hours
    unfolding cells_reading
    what-reads of records [] = refl
    what-reads of records (hour ∷ hours) = λ i. cells_at records monitor.site (of i) hour ++ what-reads of records hours i

    no-season : (hours : List ℕ) → filter is_of_season (rows hours) ≡ []
    no-season [] = refl
    no-season (hour ∷ hours) = no-season hours

    hours-cost : (a n b m : ℕ) (days : List ℕ) → monitor.pollutant ≡ Ozone → AreReadBy monitor.site a n b m days
        → cost_of old new (rows (range_with_len a n)) ≤ 56 * n + 16 + 4 * m + 4 * length days
    unfolding cost_of
    hours-cost a n b m days of read =
        let hours = range_with_len a n in
        let steps = steps_of old new (rows hours) in
        let reading : List CellName = flat_map (ozone_cells_at monitor.site) hours in
        let every : List CellName = all_cells monitor.site a n b m days in
        let all = all-within monitor.site a n b m days read in
        let weighs = weighs-within steps (reading ++ reading) every (both-within reading reading every all all) in
        let same : weight steps (flat_map (cells_reading old.records) (rows hours) ++ flat_map (cells_reading new.records) (rows hours)) ≡ weight steps (reading ++ reading) =
        λ i. weight steps (what-reads of old.records hours i ++ what-reads of new.records hours i)
        in
        let sum = all-sum monitor.site a n b m days steps (λ k. refl) (λ k. refl) (λ k. refl) (λ k. rw (no-season hours) refl) in
        omega (arith, weighs, same, sum, length-append (map observed hours) (ChangedLoad number ∷ []), length-map hours observed, length-range_with_len a n)

  pub one-hour : (key : ObsKey) → key.monitor.pollutant ≡ Ozone → changed_rows old new ≡ ChangedObservation key ∷ ChangedLoad number ∷ [] → cost old new ≤ 108
  one-hour key of are =
      let hour = key.hour in
      let costs = hours-cost key.monitor hour 1 (hour - 7) (hour + 1 - (hour - 7)) (days_reading hour) of (λ k low high.
      let same : k ≡ hour = omega arith in
      (omega (arith, same), omega (arith, same), ap (λ h. days_reading h) same))
      in
      let at_most_one : length (days_reading hour) ≤ 1 =
      elim (nat_le 7 hour) as (λ b. length (cond b (day_of_hour (hour - 7) ∷ []) []) ≤ 1) [ true ↦ omega arith | false ↦ omega arith ]
      in
      omega (arith, of-rows (ChangedObservation key ∷ ChangedLoad number ∷ []) are, costs, at_most_one)

  pub one-day : (monitor : MonitorId) (day : ℕ) → monitor.pollutant ≡ Ozone → changed_rows old new ≡ rows monitor (range_with_len (hour_number day 7) 24) → cost old new ≤ 1488
  one-day monitor day of are =
      let costs = hours-cost monitor (hour_number day 7) 24 (hour_number day 0) 31 (day ∷ []) of (λ k low high.
      let at : (k - 7) / 24 ≡ day = omega arith in
      (omega arith, omega arith, rw (le-leb 7 k (omega arith)) (ap (λ d. d ∷ []) at)))
      in
      omega (arith, of-rows (rows monitor (range_with_len (hour_number day 7) 24)) are, costs)
