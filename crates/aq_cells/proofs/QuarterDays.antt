-- A quarter that reads no changed schedule and no changed make-up: the same of its days are scheduled in both offices.
use Rattle.std.proofs.Common.{◌≡◌, ℕ, ◌<◌, ◌≤◌, Bool, true, false, cond, refl, sym, subst, arith}
use Rattle.std.specs.Prelude.{filter}
use Rattle.std.specs.List.{list_any}
use Rattle.std.proofs.lemmas.Bool.{or_left}
use Rattle.aq_base.specs.Calendar.{quarter_of}
use Rattle.aq_base.specs.Site.{Site}
use Rattle.aq_base.specs.declared.day.TheConstants.{LAST_DAY}
use Rattle.aq_base.specs.declared.monitor.Pollutant.{Pollutant}
use Rattle.aq_base.specs.declared.monitor.Pollutant.TheVariants.{Pm25, Pm10}
use Rattle.aq_base.specs.declared.office.OfficeKey.TheVariants as keys
use Rattle.aq_rules.proofs.CellsOnce.{cell-itself}
use Rattle.aq_rules.specs.Kept.Cells.{QuarterCell, is_same_cell}
use Rattle.aq_rules.specs.Kept.Reach.{changed_rows, is_of_schedule, quarter_cells, reads_one}
use Rattle.aq_rules.specs.Office.Office.{IsOffice, Office}
use Rattle.aq_rules.specs.Office.Schedule.{is_scheduled}
use Rattle.aq_cells.specs.Allowed.{allowed, ReadsNoSchedule}
use Rattle.aq_dirty.proofs.OutOfReachLemmas.Schedules.{scheduled-same}
use Rattle.aq_cells.proofs.UnreadRows.{kind-alike}

-- so does any for which fewer steps are allowed
pub few-unread : (old new : Office) (site : Site) (pollutant : Pollutant) (quarter : ℕ) → allowed old new (QuarterCell site pollutant quarter) < 800
    → ReadsNoSchedule old new site pollutant quarter
few-unread old new site pollutant quarter few = by (reads_one old new (QuarterCell site pollutant quarter) (filter is_of_schedule (changed_rows old new))) few
  where
    by : (b : Bool) → cond b 800 0 < 800 → b ≡ false
    by true few = absurd (omega (arith, few))
    by false few = refl

module _ (old new : Office) (valid : IsOffice old) (after : IsOffice new) (site : Site) (quarter : ℕ) where
  by-reading : (pollutant : Pollutant) → list_any (is_same_cell (QuarterCell site pollutant quarter)) (quarter_cells old.records site pollutant quarter) ≡ true → ReadsNoSchedule old new site pollutant quarter
      → (day : ℕ) → day ≤ LAST_DAY → quarter_of day ≡ quarter → is_scheduled old.records site pollutant day ≡ is_scheduled new.records site pollutant day
  by-reading pollutant here unread day within its =
      let cell = QuarterCell site pollutant quarter in
      scheduled-same cell old.records old new valid after site pollutant day within
      (subst (λ q. list_any (is_same_cell cell) (quarter_cells old.records site pollutant q) ≡ true) (sym its) here)
      (λ from is_read. kind-alike old new cell is_of_schedule unread (keys.Schedule site pollutant from) refl is_read)

  pub pm25-scheduled : ReadsNoSchedule old new site Pm25 quarter → (day : ℕ) → day ≤ LAST_DAY → quarter_of day ≡ quarter → is_scheduled old.records site Pm25 day ≡ is_scheduled new.records site Pm25 day
  pm25-scheduled = by-reading Pm25 (or_left _ _ (cell-itself (QuarterCell site Pm25 quarter)))

  pub pm10-scheduled : ReadsNoSchedule old new site Pm10 quarter → (day : ℕ) → day ≤ LAST_DAY → quarter_of day ≡ quarter → is_scheduled old.records site Pm10 day ≡ is_scheduled new.records site Pm10 day
  pm10-scheduled = by-reading Pm10 (or_left _ _ (cell-itself (QuarterCell site Pm10 quarter)))
