-- The cells of an office that a change of its rows does not reach are those of the office after it.
use Rattle.std.proofs.Common.{◌≡◌, ℕ, ◌/◌, ◌≤◌, Bool, true, false, ◌&&◌, refl, ap, sym, ◌∙◌, arith}
use Rattle.std.specs.Prelude.{◌||◌}
use Rattle.aq_base.specs.Calendar.{year_of}
use Rattle.aq_base.specs.Site.{Site}
use Rattle.aq_base.specs.declared.day.TheConstants.{LAST_DAY}
use Rattle.aq_rules.proofs.CellsOnce.{member}
use Rattle.aq_rules.proofs.UnreachedHour.{hour-out_of_reach}
use Rattle.aq_dirty.proofs.OutOfReachLemmas.Windows.{day-out_of_reach, window-out_of_reach}
use Rattle.aq_dirty.proofs.OutOfReachLemmas.Years.{approved-out_of_reach, season-out_of_reach}
use Rattle.aq_rules.specs.Kept.Cells.{CellName as Cell, HourCell, WindowCell, OzoneDayCell, OzoneYearCell}
use Rattle.aq_rules.specs.Kept.Reach.{reach}
use Rattle.aq_rules.specs.Office.Office.{IsOffice, Office}
use Rattle.aq_rules.specs.Office.Season.{is_in_season}
use Rattle.aq_rules.specs.Ozone.OzoneDay.{OzoneDay}
use Rattle.aq_dirty.specs.Reach.{is_of_ozone}
use Rattle.aq_ozone_cells.specs.FilledDays.{AreKept, IsDayOf}
use Rattle.aq_ozone_cells.specs.KeptDays.{averages_of, held_at}
use Rattle.aq_ozone_cells.specs.OzoneCells.{counts, held_day, Cells}
use Rattle.aq_ozone_cells.specs.Settling.{CountsAs, HasMaximumOf, IsAverageOf, IsCellOf, IsHourOf}
use Rattle.aq_ozone_cells.specs.declared.kept_days.HeldDay.{HeldDay}
use Rattle.aq_ozone_cells.proofs.SettledCells.{each-level}

module _ (old new : Office) (valid : IsOffice old) (after : IsOffice new) (cells : Cells) (kept : AreKept old cells) where
  of-day : (site : Site) (day : ℕ) → day ≤ LAST_DAY → IsDayOf old cells site day
  unfolding AreKept
  of-day = kept

  hour-unreached : (site : Site) (hour : ℕ) → member (HourCell site hour) (reach old new) ≡ false → IsHourOf new cells site hour
  hour-unreached site hour out within =
      (of-day site (hour / 24) (omega (arith, within))).hours hour refl ∙ hour-out_of_reach old new site hour within valid after out

  average-unreached : (site : Site) (start : ℕ) → member (WindowCell site start) (reach old new) ≡ false → IsAverageOf new cells site start
  average-unreached site start out within kept_start =
      (of-day site (start / 24) (omega (arith, within))).averages start refl kept_start ∙ ap averages_of (window-out_of_reach old new site start valid after out)

  maximum-unreached : (site : Site) (day : ℕ) → member (OzoneDayCell site day) (reach old new) ≡ false → day ≤ LAST_DAY → HasMaximumOf new cells site day
  unfolding held_day
  maximum-unreached site day out within =
      let held = (of-day site day within).held in
      let same = day-out_of_reach old new site day valid after out in
      record {
        valid = ap (λ (d : HeldDay). d.valid) held ∙ ap (λ (d : OzoneDay). d.valid) same;
        maximum = ap (λ (d : HeldDay). d.maximum) held ∙ ap (λ (d : OzoneDay). d.maximum) same;
      }

  counts-unreached : (site : Site) (day : ℕ) → member (OzoneYearCell site (year_of day)) (reach old new) ≡ false → day ≤ LAST_DAY → CountsAs new cells site day
  unfolding held_day
  counts-unreached site day out within =
      let held = (of-day site day within).held in
      let season = season-out_of_reach old new site (year_of day) out in
      let approved = approved-out_of_reach old new site day out in
      ap (λ (d : HeldDay). d.counted) held
      ∙ ap (λ (b : Bool). counts old.records site day b) (sym (ap (λ (d : HeldDay). d.valid) held))
      ∙ (λ i. is_in_season (season i) day && ((held_at cells site day).valid || approved i))

  pub unreached : (cell : Cell) → (is_of_ozone cell ≡ true → member cell (reach old new) ≡ false) → IsCellOf new cells cell
  unreached =
      each-level (λ cell. is_of_ozone cell ≡ true → member cell (reach old new) ≡ false) new cells
      (λ site hour out. hour-unreached site hour (out refl))
      (λ site start out. average-unreached site start (out refl))
      (λ site day out. maximum-unreached site day (out refl))
      (λ site year out day within its. counts-unreached site day (ap (λ y. member (OzoneYearCell site y) (reach old new)) its ∙ out refl) within)
