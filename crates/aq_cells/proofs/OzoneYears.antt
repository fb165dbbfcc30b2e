-- An ozone year that reads no changed season and no changed approval: its days count in the new office as they are kept.
use Rattle.std.proofs.Common.{◌≡◌, ℕ, ◌<◌, Bool, true, false, cond, ◌&&◌, refl, ap, sym, subst, ◌∙◌, arith}
use Rattle.std.specs.Prelude.{◌||◌, Option, filter, is_some, option_and_then, unwrap_or}
use Rattle.aq_base.specs.Calendar.{year_of}
use Rattle.aq_base.specs.Site.{Site}
use Rattle.aq_base.specs.declared.office.OfficeKey.TheVariants as keys
use Rattle.aq_base.specs.declared.office.OfficeRecord.{OfficeRecord}
use Rattle.aq_rules.proofs.CellsOnce.{cell-itself}
use Rattle.aq_rules.proofs.Unreached.{is_new_in}
use Rattle.aq_rules.specs.Kept.Cells.{OzoneYearCell}
use Rattle.aq_rules.specs.Kept.Reach.{ChangedRecord, cells_reading, changed_rows, is_of_season, reads, reads_one}
use Rattle.aq_rules.specs.Office.Approval.{is_approved}
use Rattle.aq_rules.specs.Office.Office.{Office}
use Rattle.aq_rules.specs.Office.Season.{is_in_season, season_of, whole_year}
use Rattle.aq_registry.proofs.QuestionLemmas.{approval_found, season_found}
use Rattle.aq_registry.specs.Registry.{season_in}
use Rattle.aq_ozone_cells.specs.Bound.{AreEnough}
use Rattle.aq_ozone_cells.specs.FilledDays.{AreKept}
use Rattle.aq_ozone_cells.specs.KeptDays.{held_at}
use Rattle.aq_ozone_cells.specs.OzoneCells.{counts, held_day, Cells}
use Rattle.aq_ozone_cells.specs.Settling.{IsCellOf}
use Rattle.aq_ozone_cells.specs.declared.kept_days.HeldDay.{HeldDay}
use Rattle.aq_cells.specs.Allowed.{allowed}
use Rattle.aq_cells.proofs.UnreadRows.{kind-alike}

module _ (old new : Office) (site : Site) where
  module _ (year : ℕ) (unread : reads_one old new (OzoneYearCell site year) (filter is_of_season (changed_rows old new)) ≡ false) where
    season-read : (is_new : Bool) → reads old.records (OzoneYearCell site year) (ChangedRecord (keys.Season site year) is_new) ≡ true
    unfolding reads cells_reading
    season-read is_new = rw (cell-itself (OzoneYearCell site year)) refl

    season-same : season_of old.records site year ≡ season_of new.records site year
    season-same =
        let key = keys.Season site year in
        season_found old.records site year
        ∙ ap (λ (o : Option OfficeRecord). unwrap_or (option_and_then season_in o) (whole_year year))
        (kind-alike old new (OzoneYearCell site year) is_of_season unread key refl (season-read (is_new_in old.records key)))
        ∙ sym (season_found new.records site year)

    approved-read : (day : ℕ) (is_new : Bool) → year_of day ≡ year → reads old.records (OzoneYearCell site year) (ChangedRecord (keys.Approved site day) is_new) ≡ true
    unfolding reads cells_reading
    approved-read day is_new its = rw (its, cell-itself (OzoneYearCell site year)) refl

    approved-same : (day : ℕ) → year_of day ≡ year → is_approved old.records site day ≡ is_approved new.records site day
    approved-same day its =
        let key = keys.Approved site day in
        approval_found old.records site day
        ∙ ap (λ (o : Option OfficeRecord). is_some o)
        (kind-alike old new (OzoneYearCell site year) is_of_season unread key refl (approved-read day (is_new_in old.records key) its))
        ∙ sym (approval_found new.records site day)

    pub year-counts : (cells : Cells) → AreKept old cells → IsCellOf new cells (OzoneYearCell site year)
    unfolding AreKept IsCellOf held_day
    year-counts cells kept day within its =
        let held = (kept site day within).held in
        let season = subst (λ y. season_of old.records site y ≡ season_of new.records site y) (sym its) season-same in
        let approved = approved-same day its in
        ap (λ (d : HeldDay). d.counted) held
        ∙ ap (λ (b : Bool). counts old.records site day b) (sym (ap (λ (d : HeldDay). d.valid) held))
        ∙ (λ i. is_in_season (season i) day && ((held_at cells site day).valid || approved i))

  -- so a year of fewer steps is the new office's
  pub year-enough : (cells : Cells) (year : ℕ) → AreKept old cells → allowed old new (OzoneYearCell site year) < 732 → IsCellOf new cells (OzoneYearCell site year)
  year-enough cells year kept few = by (reads_one old new (OzoneYearCell site year) (filter is_of_season (changed_rows old new))) refl few
    where
      by : (b : Bool) → reads_one old new (OzoneYearCell site year) (filter is_of_season (changed_rows old new)) ≡ b → cond b 732 0 < 732 → IsCellOf new cells (OzoneYearCell site year)
      by true is few = absurd (omega (arith, few))
      by false is few = year-counts year is cells kept

pub are-enough : (old new : Office) (cells : Cells) → AreKept old cells → AreEnough new cells (allowed old new)
are-enough old new cells kept = record {
  hours = λ site hour. omega arith;
  averages = λ site start. omega arith;
  days = λ site day. omega arith;
  years = λ site year few. year-enough old new site cells year kept few;
}
