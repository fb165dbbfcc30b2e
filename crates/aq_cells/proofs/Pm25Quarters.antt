-- A quarter of PM2.5 that reads no changed schedule and no changed make-up: its days count in the new office as they are kept.
use Rattle.std.proofs.Common.{◌≡◌, ℕ, ◌+◌, ◌-◌, ◌<◌, ◌≤◌, Bool, true, not, cond, ◌&&◌, ◌||◌, refl, ap, sym, ◌∙◌, arith}
use Rattle.std.specs.Prelude.{◌==◌, Option, Some, None, option_and_then}
use Rattle.std.specs.Option.{option_or}
use Rattle.aq_base.specs.Calendar.{is_year, quarter_of, quarter_year}
use Rattle.aq_base.specs.Site.{Site}
use Rattle.aq_base.specs.declared.day.TheConstants.{LAST_DAY}
use Rattle.aq_base.specs.declared.monitor.Pollutant.TheVariants.{Pm25}
use Rattle.aq_base.specs.declared.office.OfficeKey.TheVariants as keys
use Rattle.aq_cal.proofs.Within.{quarter_holds}
use Rattle.aq_rules.proofs.CellsOnce.{cell-itself}
use Rattle.aq_rules.proofs.Unreached.{is_new_in}
use Rattle.aq_rules.specs.Kept.Cells.{QuarterCell}
use Rattle.aq_rules.specs.Kept.Reach.{ChangedRecord, cells_reading, is_of_schedule, reads}
use Rattle.aq_rules.specs.Office.Office.{IsOffice, Office}
use Rattle.aq_rules.specs.Office.Questions.{makeup_of, record_of}
use Rattle.aq_rules.specs.Office.Schedule.{is_scheduled}
use Rattle.aq_rules.specs.Ozone.SiteHour.{Cell}
use Rattle.aq_dirty.proofs.OutOfReachLemmas.DaysOfQuarters.{in-quarter, quarter_of-is_year}
use Rattle.aq_registry.proofs.QuestionLemmas.{makeup_found}
use Rattle.aq_registry.specs.Registry.{makeup_in}
use Rattle.aq_particles.specs.Pm25.QuarterDays.{is_makeup_day}
use Rattle.aq_particle_cells.specs.Days.KeptDays.{cell_at, Days}
use Rattle.aq_particle_cells.specs.Pm25.Pm25Cells.{sample_from, IsCountedBy}
use Rattle.aq_particle_cells.specs.Pm25.Pm25Levels.{AreKept, IsCellOf}
use Rattle.aq_cells.specs.Allowed.{allowed, ReadsNoSchedule}
use Rattle.aq_cells.proofs.QuarterDays.{few-unread, pm25-scheduled}
use Rattle.aq_cells.proofs.UnreadRows.{kind-alike}
use Rattle.aq_particle_cells.proofs.Pm25Lemmas.Pm25Office.{any-same, made-in}

-- ---- the samples of its days

module _ (old new : Office) (days : Days) (site : Site) (quarter : ℕ) (valid : IsOffice old) (after : IsOffice new) (unread : ReadsNoSchedule old new site Pm25 quarter) where
  scheduled : (day : ℕ) → day ≤ LAST_DAY → quarter_of day ≡ quarter → is_scheduled old.records site Pm25 day ≡ is_scheduled new.records site Pm25 day
  scheduled = pm25-scheduled old new valid after site quarter unread

  makeup-read : (missed : ℕ) (is_new : Bool) → quarter_of missed ≡ quarter → reads old.records (QuarterCell site Pm25 quarter) (ChangedRecord (keys.Makeup site missed) is_new) ≡ true
  unfolding reads cells_reading
  makeup-read missed is_new its = rw (its, cell-itself (QuarterCell site Pm25 quarter)) refl

  makeup-same : (missed : ℕ) → quarter_of missed ≡ quarter → makeup_of old.records site missed ≡ makeup_of new.records site missed
  makeup-same missed its =
      let key = keys.Makeup site missed in
      let stands : record_of old.records key ≡ record_of new.records key
      = kind-alike old new (QuarterCell site Pm25 quarter) is_of_schedule unread key refl (makeup-read missed (is_new_in old.records key) its) in
      makeup_found old.records site missed ∙ ap (option_and_then makeup_in) stands ∙ sym (makeup_found new.records site missed)

  makeup_day-same : (missed makeup : ℕ) → missed ≤ LAST_DAY → quarter_of missed ≡ quarter → makeup_of old.records site missed ≡ Some makeup
      → is_makeup_day (is_scheduled old.records site Pm25) missed makeup ≡ is_makeup_day (is_scheduled new.records site Pm25) missed makeup
  makeup_day-same missed makeup within its found =
      let made = made-in old site missed makeup valid found in
      let own = scheduled makeup made.0 (made.1 ∙ its) in
      let low = (quarter_holds quarter missed within).0 its in
      let high = (quarter_holds quarter makeup made.0).0 (made.1 ∙ its) in
      let inside = ap (λ q. is_year (quarter_year q)) (sym its) ∙ quarter_of-is_year missed within in
      let between = any-same (is_scheduled old.records site Pm25) (is_scheduled new.records site Pm25) (missed + 1) (makeup - missed)
      (λ day from to.
      let of = in-quarter quarter day inside (omega (arith, low.0, from)) (omega (arith, high.1, from, to)) in
      scheduled day of.in_profile of.is_of) in
      λ i. not (own i) && ((makeup == missed + 7) || not (between i))

  -- the sample of the day that makes up for a missed one, if the test on the two days holds
  abbrev made : (ℕ → Bool) → ℕ → Option ℕ → Option Cell
  made schedules day = option_and_then (λ makeup. cond (is_makeup_day schedules day makeup) (cell_at days site makeup) None)

  made-same : (day : ℕ) → day ≤ LAST_DAY → quarter_of day ≡ quarter → (found : Option ℕ) → makeup_of old.records site day ≡ found
      → made (is_scheduled old.records site Pm25) day found ≡ made (is_scheduled new.records site Pm25) day found
  made-same day within its None is = refl
  made-same day within its (Some makeup) is = ap (λ b. cond b (cell_at days site makeup) None) (makeup_day-same day makeup within its is)

  sample-same : (day : ℕ) → day ≤ LAST_DAY → quarter_of day ≡ quarter → sample_from old.records days site day ≡ sample_from new.records days site day
  unfolding sample_from
  sample-same day within its =
      (λ i. cond (scheduled day within its i) (option_or (cell_at days site day) (made (is_scheduled old.records site Pm25) day (makeup_of old.records site day))) None)
      ∙ ap (λ (o : Option Cell). cond (is_scheduled new.records site Pm25 day) (option_or (cell_at days site day) o) None)
      (made-same day within its (makeup_of old.records site day) refl ∙ ap (made (is_scheduled new.records site Pm25) day) (makeup-same day its))

  pub quarter-counts : AreKept old days → IsCellOf new days (QuarterCell site Pm25 quarter)
  unfolding AreKept IsCellOf IsCountedBy
  quarter-counts kept day within its = (kept site day).counts within ∙ sample-same day within its

pub quarter-enough : (old new : Office) (days : Days) (site : Site) (quarter : ℕ) → IsOffice old → IsOffice new → AreKept old days
    → allowed old new (QuarterCell site Pm25 quarter) < 800 → IsCellOf new days (QuarterCell site Pm25 quarter)
quarter-enough old new days site quarter valid after kept few = quarter-counts old new days site quarter valid after (few-unread old new site Pm25 quarter few) kept
