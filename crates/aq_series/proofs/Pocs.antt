-- Whether a monitor's values count, and the registered ozone POCs of a site.
use Rattle.std.proofs.Common.{◌≡◌, ℕ, ◌≤◌, Bool, true, false, cond, ◌&&◌, ◌||◌, ◌==◌, Option, Some, None, List, [], ◌∷◌, length, refl, ap, sym, subst, ◌∙◌}
use Rattle.std.specs.Prelude.{slice_get, option_map}
use Rattle.std.specs.List.{AllByRecursion, filter_map, cons_option, list_any}
use Rattle.std.specs.Option.{option_map_or}
use Rattle.aq_base.specs.Site.{Site}
use Rattle.aq_base.specs.declared.monitor.Duration.{Duration}
use Rattle.aq_base.specs.declared.monitor.Pollutant.TheVariants.{Ozone}
use Rattle.aq_base.specs.declared.monitor.MonitorId.{MonitorId}
use Rattle.aq_base.specs.declared.office.OfficeRecord.{OfficeRecord}
use Rattle.aq_base.specs.declared.office.OfficeRecord.TheVariants.{Monitor}
use Rattle.aq_base.specs.declared.office.OfficeKey.TheVariants.{Monitor as MonitorKey}
use Rattle.aq_rules.specs.Office.Monitors.{is_same_monitor, makes_eligible, is_eligible}
use Rattle.aq_rules.specs.Office.Office.{IsOffice, comes_before, key_numbers, record_rank, rises}
use Rattle.aq_rules.specs.Office.Questions.{registration_by, registration_of, next_poc}
use Rattle.aq_rules.specs.Office.Sameness.{same_monitor}
use Rattle.aq_rules.proofs.Lookups.{rises-rest}
use Rattle.aq_rules.proofs.RisingRows.{all_later}
use Rattle.aq_rules.proofs.Spans.{before-itself}
use Rattle.aq_registry.specs.Registry.{office_with, pair_of}
use Rattle.aq_series.specs.Samples.{pocs_above}
use Rattle.aq_series.proofs.SitePocs as pollutants
use Rattle.aq_series.proofs.Rising.{Rising}

abbrev ozone_monitor : Site → ℕ → MonitorId
ozone_monitor site poc = record { site = site; pollutant = Ozone; poc = poc }

or_false : (a b : Bool) → b ≡ false → (a || b) ≡ a
or_false true b h = refl
or_false false b h = h

-- ---- whose values count

-- no other record has the monitor
none_eligible : (m : MonitorId) (records : List OfficeRecord) → AllByRecursion (λ r. comes_before (key_numbers (MonitorKey m)) (record_rank r) ≡ true) records → list_any (makes_eligible m) records ≡ false
none_eligible m [] all = refl
none_eligible m (Monitor id duration eligible ∷ records) all = by_test (none_eligible m records all.1) (is_same_monitor id m) refl
  where
    by_test : list_any (makes_eligible m) records ≡ false → (b : Bool) → is_same_monitor id m ≡ b → ((b && eligible) || list_any (makes_eligible m) records) ≡ false
    by_test rest true same =
        absurd (before-itself (key_numbers (MonitorKey m)) (ap (λ k. comes_before (key_numbers (MonitorKey m)) (key_numbers (MonitorKey k))) (sym (same_monitor id m same)) ∙ all.0))
    by_test rest false other = rest
none_eligible m (r ∷ records) all = none_eligible m records all.1

eligible-rises : (m : MonitorId) (records : List OfficeRecord) → rises record_rank records ≡ true
    → list_any (makes_eligible m) records ≡ option_map_or (λ (p : Duration × Bool). p.1) (option_map pair_of (slice_get (filter_map (registration_by m) records) 0)) false
eligible-rises m [] rising = refl
eligible-rises m (Monitor id duration eligible ∷ records) rising =
    by_test (eligible-rises m records (rises-rest record_rank (Monitor id duration eligible) records rising)) (is_same_monitor id m) refl
  where
    by_test : list_any (makes_eligible m) records ≡ option_map_or (λ (p : Duration × Bool). p.1) (option_map pair_of (slice_get (filter_map (registration_by m) records) 0)) false
        → (b : Bool) → is_same_monitor id m ≡ b
        → ((b && eligible) || list_any (makes_eligible m) records)
        ≡ option_map_or (λ (p : Duration × Bool). p.1) (option_map pair_of (slice_get (cons_option (cond b (Some (record { duration = duration; eligible = eligible })) None) (filter_map (registration_by m) records)) 0)) false
    by_test rest true same =
        or_false eligible (list_any (makes_eligible m) records)
        (none_eligible m records
        (subst (λ k. AllByRecursion (λ r. comes_before (key_numbers (MonitorKey k)) (record_rank r) ≡ true) records) (same_monitor id m same)
        (all_later record_rank (Monitor id duration eligible) records rising)))
    by_test rest false other = rest
eligible-rises m (r ∷ records) rising = eligible-rises m records (rises-rest record_rank r records rising)

pub eligible_is : (records : List OfficeRecord) (m : MonitorId) → IsOffice (office_with records)
    → is_eligible records m ≡ option_map_or (λ (p : Duration × Bool). p.1) (option_map pair_of (registration_of records m)) false
unfolding is_eligible registration_of
eligible_is records m valid = eligible-rises m records valid.keys_rise.records

-- ---- the POCs, as those of any pollutant

pub pocs-rise : (site : Site) (records : List OfficeRecord) (after : ℕ) → rises record_rank records ≡ true → Rising (λ k. k) (pocs_above records site after)
pocs-rise site = pollutants.pocs-rise site Ozone

pub pocs-next : (site : Site) (records : List OfficeRecord) (after poc : ℕ) → rises record_rank records ≡ true → next_poc records site Ozone after ≡ Some poc → pocs_above records site after ≡ poc ∷ pocs_above records site poc
pocs-next site = pollutants.pocs-next site Ozone

-- one fewer after each
pub pocs-fewer : (site : Site) (records : List OfficeRecord) (after poc : ℕ) (next : Option ℕ) → IsOffice (office_with records) → next ≡ next_poc records site Ozone after → next ≡ Some poc
    → length (pocs_above records site after) ≡ length (poc ∷ pocs_above records site poc)
pocs-fewer site records after poc next valid is some = ap length (pocs-next site records after poc valid.keys_rise.records (sym is ∙ some))

pub pocs-end : (site : Site) (records : List OfficeRecord) (after : ℕ) → next_poc records site Ozone after ≡ None → pocs_above records site after ≡ []
pocs-end site = pollutants.pocs-end site Ozone

pub eligible_there : (site : Site) (p : ℕ) (records : List OfficeRecord) → IsOffice (office_with records) → is_eligible records (ozone_monitor site p) ≡ true → list_any (λ q. q == p) (pocs_above records site 0) ≡ true
eligible_there site = pollutants.eligible_there site Ozone

pub pocs-few : (site : Site) (records : List OfficeRecord) → IsOffice (office_with records) → length (pocs_above records site 0) ≤ 8
pocs-few site = pollutants.pocs-few site Ozone
