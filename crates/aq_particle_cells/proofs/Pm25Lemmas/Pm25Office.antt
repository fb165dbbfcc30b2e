-- PM2.5 cells that are an office's: the years that they give, and those that a change does not reach.
use Rattle.std.proofs.Common.{◌≡◌, ℕ, zero, suc, ◌+◌, ◌-◌, ◌<◌, ◌≤◌, Bool, true, false, not, cond, ◌&&◌, ◌||◌, map, refl, ap, sym, ◌∙◌, arith}
use Rattle.std.specs.Prelude.{◌==◌, nat_le, Option, Some, None, option_and_then}
use Rattle.std.specs.List.{list_any, range_with_len}
use Rattle.std.specs.Option.{option_or}
use Rattle.std.proofs.lemmas.Bool.{and_parts, eqb-true, leb-true}
use Rattle.std.proofs.lemmas.Bool.Decides.{nat_tests}
use Rattle.aq_base.specs.Calendar.{is_year, quarter_of, quarter_year}
use Rattle.aq_base.specs.Site.{Site}
use Rattle.aq_base.specs.declared.day.TheConstants.{LAST_DAY}
use Rattle.aq_base.specs.declared.monitor.Pollutant.TheVariants.{Ozone, Pm25, Pm10}
use Rattle.aq_base.specs.declared.office.OfficeKey.TheVariants as keys
use Rattle.aq_cal.proofs.Within.{quarter_holds}
use Rattle.aq_rules.proofs.CellsOnce.{member, cell-itself}
use Rattle.aq_rules.proofs.Unreached.{is_new_in}
use Rattle.aq_rules.proofs.UnreachedRows.{record-unreached, unread}
use Rattle.aq_rules.specs.Kept.Cells.{CellName, HourCell, WindowCell, OzoneDayCell, OzoneYearCell, PmDayCell, StratumCell, QuarterCell, PmYearCell}
use Rattle.aq_rules.specs.Kept.Reach.{ChangedRecord, cells_reading, reach, reads}
use Rattle.aq_rules.specs.Kept.Summaries.{pm25_summary, summary_of_year}
use Rattle.aq_rules.specs.Lines.OfficeForms.{is_makeup}
use Rattle.aq_rules.specs.Office.Office.{IsOffice, Office, is_day, is_site}
use Rattle.aq_rules.specs.Office.Questions.{makeup_of, record_of}
use Rattle.aq_rules.specs.Office.Schedule.{is_scheduled}
use Rattle.aq_rules.specs.Ozone.SiteHour.{Cell}
use Rattle.aq_rules.specs.Particles.ParticleDay.{site_day}
use Rattle.aq_rules.specs.Particles.QuarterCounts.{credits, pm25_year, quarter_counts, quarter_values, quarters_of}
use Rattle.aq_dirty.proofs.OutOfReachLemmas.DaysOfQuarters.{in-quarter, quarter_of-is_year}
use Rattle.aq_dirty.proofs.OutOfReachLemmas.PmDays.{pm_day-out_of_reach}
use Rattle.aq_dirty.proofs.OutOfReachLemmas.PmQuarters.{schedule-same}
use Rattle.aq_registry.proofs.QuestionLemmas.{makeup_found}
use Rattle.aq_registry.specs.Registry.{makeup_in, office_with}
use Rattle.aq_particles.proofs.Pm25Lemmas.Makeups.{makeup-record}
use Rattle.aq_particles.specs.Pm25.QuarterDays.{is_makeup_day}
use Rattle.aq_particle_cells.specs.Days.KeptDays.{cell_at, Days}
use Rattle.aq_particle_cells.specs.Pm25.Pm25Cells.{quarter_from, quarter_of_days, sample_from, year_of_days, AreCountedBy, IsCountedBy}
use Rattle.aq_particle_cells.specs.Pm25.Pm25Levels.{AreKept, HasValueOf, IsCellOf}
use Rattle.aq_particle_cells.proofs.DaysLemmas.Unobserved.{past-profile}

-- ---- years

pub are-counted : (office : Office) (days : Days) (site : Site) (year : ℕ) → AreKept office days → AreCountedBy office.records days site year
unfolding AreKept AreCountedBy
are-counted office days site year kept day within its = (kept site day).counts within

pub year-is : (office : Office) (days : Days) (site : Site) (year : ℕ) → AreKept office days → year_of_days office.records days site year ≡ pm25_summary office site year
unfolding AreKept year_of_days quarter_of_days pm25_summary pm25_year credits quarter_counts quarter_values
year-is office days site year kept = λ i. summary_of_year (map (quarter_from office.records site (λ day. (kept site day).value i)) (quarters_of year))

-- ---- the records of a valid office without its observations

pub without-rows : (office : Office) → IsOffice office → IsOffice (office_with office.records)
without-rows office valid = record {
  keys_rise = record { records = valid.keys_rise.records; observations = refl; loads = refl };
  records_fit = valid.records_fit;
  records_alone = valid.records_alone;
  few_sites = valid.few_sites;
  observations_fit = refl;
  few_observations = omega arith;
  loads_fit = refl;
  few_loads = omega arith;
}

-- ---- a make-up lies in the quarter of its missed day

pub made-in : (office : Office) (site : Site) (missed makeup : ℕ) → IsOffice office → makeup_of office.records site missed ≡ Some makeup
    → (makeup ≤ LAST_DAY) × (quarter_of makeup ≡ quarter_of missed)
made-in office site missed makeup valid is =
    let stands = makeup-record office.records site (quarter_of missed) missed makeup (without-rows office valid) is in
    let days = and_parts (is_site site && is_day missed) (is_day makeup && is_makeup missed makeup) stands in
    let day = and_parts (is_day makeup) (is_makeup missed makeup) days.1 in
    let after = and_parts _ (nat_le makeup (missed + 7)) day.1 in
    let there = and_parts _ (quarter_of makeup == quarter_of missed) after.0 in
    (leb-true makeup LAST_DAY day.0, eqb-true (quarter_of makeup) (quarter_of missed) there.1)

pub any-same : (p q : ℕ → Bool) (a n : ℕ) → ((k : ℕ) → a ≤ k → k < a + n → p k ≡ q k) → list_any p (range_with_len a n) ≡ list_any q (range_with_len a n)
any-same p q a zero same = refl
any-same p q a (suc n) same =
    λ i. same a (omega arith) (omega arith) i || any-same p q (a + 1) n (λ k low high. same k (omega (arith, low)) (omega (arith, high))) i

-- ---- what is not reached

module _ (old new : Office) (valid : IsOffice old) (after : IsOffice new) (days : Days) (kept : AreKept old days) where
  value-unreached : (site : Site) (day : ℕ) → member (PmDayCell site Pm25 day) (reach old new) ≡ false → HasValueOf new days site day
  unfolding AreKept
  value-unreached site day out = (kept site day).value ∙ by (nat_le day LAST_DAY) refl
    where
      by : (b : Bool) → nat_le day LAST_DAY ≡ b → site_day old site Pm25 day ≡ site_day new site Pm25 day
      by true inside = let within : day ≤ LAST_DAY = grind (arith, nat_tests, inside) in pm_day-out_of_reach old new site day within valid after Pm25 out
      by false outside =
          let past : LAST_DAY < day = grind (arith, nat_tests, outside) in
          past-profile old site Pm25 day valid past ∙ sym (past-profile new site Pm25 day after past)

  module _ (site : Site) (quarter : ℕ) (out : member (QuarterCell site Pm25 quarter) (reach old new) ≡ false) where
    abbrev cell : CellName
    cell = QuarterCell site Pm25 quarter

    scheduled-same : (day : ℕ) → day ≤ LAST_DAY → quarter_of day ≡ quarter → is_scheduled old.records site Pm25 day ≡ is_scheduled new.records site Pm25 day
    scheduled-same day within its = schedule-same old new site quarter valid after Pm25 out day (record { is_of = its; in_profile = within })

    read : (missed : ℕ) (is_new : Bool) → quarter_of missed ≡ quarter → reads old.records cell (ChangedRecord (keys.Makeup site missed) is_new) ≡ true
    unfolding reads cells_reading
    read missed is_new its = rw (its, cell-itself cell) refl

    makeup-same : (missed : ℕ) → quarter_of missed ≡ quarter → makeup_of old.records site missed ≡ makeup_of new.records site missed
    makeup-same missed its =
        let key = keys.Makeup site missed in
        let stands : record_of old.records key ≡ record_of new.records key
        = record-unreached old new cell old.records (unread old new cell out).0 key (read missed (is_new_in old.records key) its) in
        makeup_found old.records site missed ∙ ap (option_and_then makeup_in) stands ∙ sym (makeup_found new.records site missed)

    makeup_day-same : (missed makeup : ℕ) → missed ≤ LAST_DAY → quarter_of missed ≡ quarter → makeup_of old.records site missed ≡ Some makeup
        → is_makeup_day (is_scheduled old.records site Pm25) missed makeup ≡ is_makeup_day (is_scheduled new.records site Pm25) missed makeup
    makeup_day-same missed makeup within its found =
        let made = made-in old site missed makeup valid found in
        let own = scheduled-same makeup made.0 (made.1 ∙ its) in
        let low = (quarter_holds quarter missed within).0 its in
        let high = (quarter_holds quarter makeup made.0).0 (made.1 ∙ its) in
        let inside = ap (λ q. is_year (quarter_year q)) (sym its) ∙ quarter_of-is_year missed within in
        let between = any-same (is_scheduled old.records site Pm25) (is_scheduled new.records site Pm25) (missed + 1) (makeup - missed)
        (λ day from to.
        let of = in-quarter quarter day inside (omega (arith, low.0, from)) (omega (arith, high.1, from, to)) in
        scheduled-same day of.in_profile of.is_of) in
        λ i. not (own i) && ((makeup == missed + 7) || not (between i))

    sample-same : (day : ℕ) → day ≤ LAST_DAY → quarter_of day ≡ quarter → sample_from old.records days site day ≡ sample_from new.records days site day
    unfolding sample_from
    sample-same day within its =
        (λ i. cond (scheduled-same day within its i) (option_or (cell_at days site day) (option_and_then (λ makeup. cond (is_makeup_day (is_scheduled old.records site Pm25) day makeup) (cell_at days site makeup) None) (makeup_of old.records site day))) None)
        ∙ ap (λ (o : Option Cell). cond (is_scheduled new.records site Pm25 day) (option_or (cell_at days site day) o) None)
        (by (makeup_of old.records site day) refl ∙ ap (option_and_then (λ makeup. cond (is_makeup_day (is_scheduled new.records site Pm25) day makeup) (cell_at days site makeup) None)) (makeup-same day its))
      where
        by : (found : Option ℕ) → makeup_of old.records site day ≡ found
            → option_and_then (λ makeup. cond (is_makeup_day (is_scheduled old.records site Pm25) day makeup) (cell_at days site makeup) None) (makeup_of old.records site day)
            ≡ option_and_then (λ makeup. cond (is_makeup_day (is_scheduled new.records site Pm25) day makeup) (cell_at days site makeup) None) (makeup_of old.records site day)
        by None is =
            ap (option_and_then (λ makeup. cond (is_makeup_day (is_scheduled old.records site Pm25) day makeup) (cell_at days site makeup) None)) is
            ∙ sym (ap (option_and_then (λ makeup. cond (is_makeup_day (is_scheduled new.records site Pm25) day makeup) (cell_at days site makeup) None)) is)
        by (Some m) is =
            ap (option_and_then (λ makeup. cond (is_makeup_day (is_scheduled old.records site Pm25) day makeup) (cell_at days site makeup) None)) is
            ∙ ap (λ b. cond b (cell_at days site m) None) (makeup_day-same day m within its is)
            ∙ sym (ap (option_and_then (λ makeup. cond (is_makeup_day (is_scheduled new.records site Pm25) day makeup) (cell_at days site makeup) None)) is)

    counts-unreached : IsCountedBy new.records days site quarter
    unfolding AreKept IsCountedBy
    counts-unreached day within its = (kept site day).counts within ∙ sample-same day within its

  pub unreached : (cell : CellName) → member cell (reach old new) ≡ false → IsCellOf new days cell
  unfolding IsCellOf
  unreached (HourCell site hour) out = tt
  unreached (WindowCell site start) out = tt
  unreached (OzoneDayCell site day) out = tt
  unreached (OzoneYearCell site year) out = tt
  unreached (PmDayCell site Pm25 day) out = value-unreached site day out
  unreached (PmDayCell site Pm10 day) out = tt
  unreached (PmDayCell site Ozone day) out = tt
  unreached (StratumCell site first) out = tt
  unreached (QuarterCell site Pm25 quarter) out = counts-unreached site quarter out
  unreached (QuarterCell site Pm10 quarter) out = tt
  unreached (QuarterCell site Ozone quarter) out = tt
  unreached (PmYearCell site year) out = tt
