-- The monitors of a site and pollutant are those of its POCs, each with its registration.
use Rattle.std.proofs.Common.{◌≡◌, ℕ, Bool, true, false, cond, ◌&&◌, ◌==◌, Option, Some, None, List, [], refl, ap, sym, ◌∙◌}
use Rattle.std.specs.Prelude.{filter_map, option_map}
use Rattle.std.specs.List.{cons_option, list_any}
use Rattle.std.specs.Option.{option_and_then}
use Rattle.std.proofs.lemmas.Bool.{false≢true}
use Rattle.aq_base.specs.Site.{Site}
use Rattle.aq_base.specs.declared.monitor.Pollutant.{Pollutant}
use Rattle.aq_base.specs.declared.observation.ObsKey.{ObsKey}
use Rattle.aq_base.specs.declared.observation.Observation.{Observation}
use Rattle.aq_base.specs.declared.office.OfficeRecord.{OfficeRecord}
use Rattle.aq_base.specs.declared.office.OfficeRecord.TheVariants.{Monitor}
use Rattle.aq_rules.specs.Lines.Spellings.{◌>>=◌}
use Rattle.aq_rules.specs.Listed.Monitors.{RegisteredMonitor, monitor_by, monitors_of}
use Rattle.aq_rules.specs.Office.Monitors.{is_same_site, is_same_pollutant, is_same_monitor}
use Rattle.aq_rules.specs.Office.Office.{IsOffice, is_same, monitor_duration, record_rank, row_at}
use Rattle.aq_rules.specs.Office.Questions.{Registered, next_poc, registration_of}
use Rattle.aq_rules.specs.Office.Sameness.{same_monitor, site_itself, pollutant_itself}
use Rattle.aq_registry.specs.Registry.{office_with, registration_in}
use Rattle.aq_registry.proofs.QuestionLemmas.{registration_found}
use Rattle.aq_series.proofs.Rising.{found, found-ranked, found-under, rising-ranked, rising-under, row_at-is, same_list}
use Rattle.aq_series.proofs.SitePocs.{before_poc, lasting_there, pocs-end, pocs-next, pocs-rise, rank-is, rank_at, same_rank}
use Rattle.aq_series.specs.DayCells.{monitor_at, pocs_after}
use Rattle.aq_series.specs.OfficeView.{office_of}
use Rattle.aq_listed.specs.Registrations.{registered_as, registered_monitor}

module _ (records : List OfficeRecord) (site : Site) (pollutant : Pollutant) where
  abbrev pub monitor_of_poc : ℕ → Option RegisteredMonitor
  monitor_of_poc poc = registered_monitor records (monitor_at site pollutant poc)

  -- those above a POC
  abbrev pub monitors_above : ℕ → List RegisteredMonitor
  monitors_above after = filter_map monitor_of_poc (pocs_after records site pollutant after)

  abbrev poc_of : RegisteredMonitor → ℕ
  poc_of monitor = monitor.id.poc

  -- the next one, and the end of them
  pub monitors_next : (after poc : ℕ) → IsOffice (office_with records) → next_poc records site pollutant after ≡ Some poc → monitors_above after ≡ cons_option (monitor_of_poc poc) (monitors_above poc)
  monitors_next after poc valid next = ap (filter_map monitor_of_poc) (pocs-next site pollutant records after poc valid.keys_rise.records next)

  pub monitors_end : (after : ℕ) → next_poc records site pollutant after ≡ None → monitors_above after ≡ []
  monitors_end after last = ap (filter_map monitor_of_poc) (pocs-end site pollutant records after last)

  -- ---- one record

  gives : (a b : Bool) (monitor m : RegisteredMonitor) → cond (a && b) (Some monitor) None ≡ Some m → (a ≡ true) × (b ≡ true) × (monitor ≡ m)
  gives true true monitor m h = (refl, refl, cc)
  gives true false monitor m h = cc
  gives false b monitor m h = cc

  ranked : (r : OfficeRecord) (m : RegisteredMonitor) → monitor_by site pollutant r ≡ Some m → record_rank r ≡ rank_at site pollutant m.id.poc
  ranked (Monitor id duration eligible) m h =
      let parts = gives (is_same_site id.site site) (is_same_pollutant id.pollutant pollutant) (record { id = id; duration = duration; eligible = eligible }) m h in
      rank-is site pollutant id m.id.poc parts.0 parts.1 (ap poc_of parts.2)
  ranked r m h = cc

  same_poc : (m n : ℕ) → is_same (rank_at site pollutant m) (rank_at site pollutant n) ≡ (m == n)
  same_poc m n =
      same_rank (monitor_at site pollutant m) (monitor_at site pollutant n)
      ∙ (λ i. (site_itself site i && pollutant_itself pollutant i) && (m == n))

  numbered : (poc : ℕ) (m : RegisteredMonitor) → monitor_of_poc poc ≡ Some m → m.id.poc ≡ poc
  numbered poc m h = by_registration (registration_of records (monitor_at site pollutant poc)) h
    where
      by_registration : (o : Option Registered) → option_map (registered_as (monitor_at site pollutant poc)) o ≡ Some m → m.id.poc ≡ poc
      by_registration None h = cc
      by_registration (Some registered) h =
          let one : registered_as (monitor_at site pollutant poc) registered ≡ m = cc in
          ap poc_of (sym one)

  -- ---- what the record of a POC gives

  nothing_either : (b : Bool) (o : Option RegisteredMonitor) → o ≡ None → o ≡ cond b o None
  nothing_either true o none = refl
  nothing_either false o none = none

  module _ (valid : IsOffice (office_with records)) where
    given : (poc : ℕ) (o : Option OfficeRecord) → row_at record_rank (rank_at site pollutant poc) records ≡ o
        → option_and_then (monitor_by site pollutant) o
        ≡ cond (list_any (λ p. p == poc) (pocs_after records site pollutant 0)) (option_map (registered_as (monitor_at site pollutant poc)) (option_and_then registration_in o)) None
    given poc None none = nothing_either (list_any (λ p. p == poc) (pocs_after records site pollutant 0)) None refl
    given poc (Some (Monitor id duration eligible)) there =
        let same : is_same_monitor id (monitor_at site pollutant poc) ≡ true =
        sym (same_rank id (monitor_at site pollutant poc)) ∙ row_at-is record_rank (rank_at site pollutant poc) records (Monitor id duration eligible) there
        in
        let one = same_monitor id (monitor_at site pollutant poc) same in
        let listed = lasting_there site pollutant poc duration records valid (ap (λ o. o >>= monitor_duration) there) in
        ap (λ k. monitor_by site pollutant (Monitor k duration eligible)) one
        ∙ (λ i. cond (site_itself site i && pollutant_itself pollutant i) (Some (record { id = monitor_at site pollutant poc; duration = duration; eligible = eligible })) None)
        ∙ ap (λ b. cond b (Some (record { id = monitor_at site pollutant poc; duration = duration; eligible = eligible })) None) (sym listed)
    given poc (Some r) there = absurd (false≢true (row_at-is record_rank (rank_at site pollutant poc) records r there))

    found_alike : (poc : ℕ) → found poc_of poc (filter_map (monitor_by site pollutant) records) ≡ found poc_of poc (monitors_above 0)
    found_alike poc =
        found-ranked record_rank (rank_at site pollutant) poc_of (monitor_by site pollutant) ranked same_poc poc records valid.keys_rise.records
        ∙ given poc (row_at record_rank (rank_at site pollutant poc) records) refl
        ∙ ap (λ o. cond (list_any (λ p. p == poc) (pocs_after records site pollutant 0)) (option_map (registered_as (monitor_at site pollutant poc)) o) None)
        (sym (registration_found records (monitor_at site pollutant poc)))
        ∙ sym (found-under poc_of monitor_of_poc numbered poc (pocs_after records site pollutant 0))

    pub all_monitors : (rows : List (ObsKey × Observation)) → monitors_above 0 ≡ monitors_of (office_of records rows) site pollutant
    unfolding monitors_of
    all_monitors rows =
        sym (same_list poc_of (filter_map (monitor_by site pollutant) records) (monitors_above 0)
        (rising-ranked record_rank (rank_at site pollutant) poc_of (monitor_by site pollutant) ranked (before_poc site pollutant) records valid.keys_rise.records)
        (rising-under poc_of monitor_of_poc numbered (pocs_after records site pollutant 0) (pocs-rise site pollutant records 0 valid.keys_rise.records))
        found_alike)
