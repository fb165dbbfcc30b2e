-- The steps of the monitors of a site for a day are no more than their look-ups in the book of rules.
use Rattle.std.proofs.Common.{◌≡◌, ℕ, ◌+◌, ◌*◌, ◌≤◌, Bool, true, false, cond, ◌&&◌, Some, None, Option, List, [], ◌∷◌, refl, ap, sym, ◌∙◌, arith}
use Rattle.std.specs.Prelude.{nat_lt, sum_by}
use Rattle.std.specs.List.{cons_option, filter_map}
use Rattle.std.specs.Option.{option_map_or}
use Rattle.std.proofs.lemmas.List.Sums.{sum_by-cons}
use Rattle.std.proofs.lemmas.Option.{none-some}
use Rattle.aq_base.specs.Site.{Site}
use Rattle.aq_base.specs.declared.monitor.Duration.{Duration}
use Rattle.aq_base.specs.declared.monitor.Duration.TheVariants.{Hour, Day}
use Rattle.aq_base.specs.declared.monitor.MonitorId.{MonitorId}
use Rattle.aq_base.specs.declared.monitor.Pollutant.{Pollutant}
use Rattle.aq_base.specs.declared.office.OfficeRecord.{OfficeRecord}
use Rattle.aq_base.specs.declared.office.OfficeRecord.TheVariants.{Monitor}
use Rattle.aq_rules.proofs.Lookups.{none-behind, rises-rest, same-is, same-itself}
use Rattle.aq_rules.specs.Kept.Reach.{look_ups, samples_a_day}
use Rattle.aq_rules.specs.Lines.Spellings.{◌>>=◌}
use Rattle.aq_rules.specs.Office.Monitors.{is_same_pollutant, is_same_site}
use Rattle.aq_rules.specs.Office.Office.{IsOffice, is_same, monitor_duration, record_rank, rises, row_at}
use Rattle.aq_rules.specs.Office.Questions.{poc_above}
use Rattle.aq_registry.specs.Registry.{office_with}
use Rattle.aq_series.specs.DayCells.{monitor_at, monitor_steps, site_steps, steps_by}
use Rattle.aq_series.proofs.SitePocs.{rank-is}

-- a row stands in rising rows under its own rank
abbrev Stands : List OfficeRecord → OfficeRecord → Type 0
Stands rows row = row_at record_rank (record_rank row) rows ≡ Some row

stands-first : (row : OfficeRecord) (rows : List OfficeRecord) → Stands (row ∷ rows) row
stands-first row rows = ap (λ b. cond b (Some row) (row_at record_rank (record_rank row) rows)) (same-itself (record_rank row))

stands-after : (first row : OfficeRecord) (rows : List OfficeRecord) → rises record_rank (first ∷ rows) ≡ true → Stands rows row → Stands (first ∷ rows) row
stands-after first row rows rise at = by (is_same (record_rank first) (record_rank row)) refl
  where
    by : (b : Bool) → is_same (record_rank first) (record_rank row) ≡ b → cond b (Some first) (row_at record_rank (record_rank row) rows) ≡ Some row
    by true is =
        absurd (none-some row (sym (none-behind record_rank first rows rise) ∙ ap (λ (k : List ℕ). row_at record_rank k rows) (same-is (record_rank first) (record_rank row) is) ∙ at))
    by false is = at

module _ (all : List OfficeRecord) (site : Site) (pollutant : Pollutant) where
  abbrev steps_at : ℕ → ℕ
  steps_at poc = monitor_steps all (monitor_at site pollutant poc)

  -- a monitor has as many samples a day in both
  as-many : (duration : Duration) → steps_by duration ≤ 3 * samples_a_day duration
  as-many Hour = omega arith
  as-many Day = omega arith

  its-steps : (id : MonitorId) (duration : Duration) (eligible : Bool) → Stands all (Monitor id duration eligible)
      → is_same_site id.site site ≡ true → is_same_pollutant id.pollutant pollutant ≡ true → steps_at id.poc ≡ steps_by duration
  its-steps id duration eligible stands here this =
      ap (λ (k : List ℕ). option_map_or steps_by (row_at record_rank k all >>= monitor_duration) 0) (sym (rank-is site pollutant id id.poc here this refl))
      ∙ ap (λ (o : Option OfficeRecord). option_map_or steps_by (o >>= monitor_duration) 0) stands

  -- what one record adds
  first-steps : (row : OfficeRecord) (pocs : List ℕ) → Stands all row
      → sum_by steps_at (cons_option (poc_above site pollutant 0 row) pocs) ≤ look_ups site pollutant row + sum_by steps_at pocs
  first-steps (Monitor id duration eligible) pocs stands =
      by (is_same_site id.site site) (is_same_pollutant id.pollutant pollutant) (nat_lt 0 id.poc) (its-steps id duration eligible stands)
    where
      by : (a b c : Bool) → (a ≡ true → b ≡ true → steps_at id.poc ≡ steps_by duration)
          → sum_by steps_at (cons_option (cond ((a && b) && c) (Some id.poc) None) pocs) ≤ cond (a && b) (3 * samples_a_day duration) 0 + sum_by steps_at pocs
      by true true true its = omega (arith, its refl refl, as-many duration, sum_by-cons steps_at id.poc pocs)
      by true true false its = omega arith
      by true false c its = omega arith
      by false b c its = omega arith
  first-steps row pocs stands = omega arith

  steps-within : (rows : List OfficeRecord) → rises record_rank rows ≡ true → ((row : OfficeRecord) → Stands rows row → Stands all row)
      → sum_by steps_at (filter_map (poc_above site pollutant 0) rows) ≤ sum_by (look_ups site pollutant) rows
  steps-within [] rise lift = omega arith
  steps-within (row ∷ rows) rise lift =
      let first = first-steps row (filter_map (poc_above site pollutant 0) rows) (lift row (stands-first row rows)) in
      let rest = steps-within rows (rises-rest record_rank row rows rise) (λ other at. lift other (stands-after row other rows rise at)) in
      omega (arith, first, rest, sum_by-cons (look_ups site pollutant) row rows)

  pub steps-looked_up : IsOffice (office_with all) → site_steps all site pollutant ≤ sum_by (look_ups site pollutant) all
  steps-looked_up valid = steps-within all valid.keys_rise.records (λ row at. at)
