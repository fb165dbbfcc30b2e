-- The registered monitors of a site and pollutant, one by one in the order of their POCs.
use Rattle.std.proofs.Common.{◌≡◌, ℕ, ◌+◌, Bool, true, false, cond, ◌&&◌, Some, None, List, [], ◌∷◌, ◌++◌, length, refl, ap, sym, ◌∙◌, arith}
use Rattle.std.specs.Prelude.{flat_map, nat_lt, slice_get}
use Rattle.std.specs.List.{AllByRecursion, cons_option, filter_map, list_all}
use Rattle.std.specs.Option.{option_map_or}
use Rattle.std.proofs.lemmas.Bool.{and_parts, false≢true}
use Rattle.std.proofs.lemmas.List.{append-nil, append_assoc}
use Rattle.std.proofs.lemmas.List.Concat.{flat_map-cons}
use Rattle.aq_base.specs.Site.{Site}
use Rattle.aq_base.specs.declared.monitor.Duration.{Duration}
use Rattle.aq_base.specs.declared.monitor.MonitorId.{MonitorId}
use Rattle.aq_base.specs.declared.monitor.Pollutant.{Pollutant}
use Rattle.aq_base.specs.declared.office.OfficeRecord.{OfficeRecord}
use Rattle.aq_base.specs.declared.office.OfficeRecord.TheVariants.{Monitor}
use Rattle.aq_base.specs.declared.office.OfficeKey.TheVariants.{Monitor as MonitorKey}
use Rattle.aq_rules.specs.Listed.Completeness.{ListedMonth, listed_months, months_of}
use Rattle.aq_rules.specs.Listed.Monitors.{monitor_by, monitors_of}
use Rattle.aq_rules.specs.Office.Monitors.{is_same_monitor, is_same_pollutant, is_same_site}
use Rattle.aq_rules.specs.Office.Office.{IsOffice, Office, comes_before, fits_records, key_numbers, record_rank, rises}
use Rattle.aq_rules.specs.Office.Questions.{Registered, next_poc, registration_by, registration_of}
use Rattle.aq_rules.specs.Office.Sameness.{number_itself, pollutant_itself, same_monitor, same_pollutant, same_site, site_itself}
use Rattle.aq_rules.proofs.Lookups.{rises-rest}
use Rattle.aq_rules.proofs.RisingRows.{all_later}
use Rattle.aq_rules.proofs.Spans.{before-itself}
use Rattle.aq_registry.specs.Registry.{office_with}
use Rattle.aq_series.specs.DayCells.{monitor_at, pocs_after}
use Rattle.aq_series.proofs.SitePocs.{pocs-end, pocs-next, some_poc}
use Rattle.aq_listed.specs.MonitorMonths.{months_at, registered_as}

abbrev as_registered : Duration → Bool → Registered
as_registered duration eligible = record { duration = duration; eligible = eligible }

-- ---- each registered monitor is found

abbrev Found : List OfficeRecord → OfficeRecord → Type 0
Found all (Monitor id duration eligible) = registration_of all id ≡ Some (as_registered duration eligible)
Found all r = Unit {0}

-- a record in front of it is another's
not-first : (first : OfficeRecord) (id : MonitorId) (duration : Duration) (eligible : Bool) → comes_before (record_rank first) (record_rank (Monitor id duration eligible)) ≡ true → registration_by id first ≡ None
not-first (Monitor other d e) id duration eligible before = by_test (is_same_monitor other id) refl
  where
    by_test : (b : Bool) → is_same_monitor other id ≡ b → cond b (Some (as_registered d e)) None ≡ None
    by_test false is = refl
    by_test true is =
        absurd (before-itself (key_numbers (MonitorKey id)) (ap (λ k. comes_before (key_numbers (MonitorKey k)) (key_numbers (MonitorKey id))) (sym (same_monitor other id is)) ∙ before))
not-first r id duration eligible before = refl

behind-another : (first x : OfficeRecord) (rows : List OfficeRecord) → comes_before (record_rank first) (record_rank x) ≡ true → Found rows x → Found (first ∷ rows) x
unfolding registration_of
behind-another first (Monitor id duration eligible) rows before found =
    ap (λ o. slice_get (cons_option o (filter_map (registration_by id) rows)) 0) (not-first first id duration eligible before) ∙ found
behind-another first x rows before found = tt

all-behind : (first : OfficeRecord) (rows some : List OfficeRecord) → AllByRecursion (λ x. comes_before (record_rank first) (record_rank x) ≡ true) some → AllByRecursion (Found rows) some → AllByRecursion (Found (first ∷ rows)) some
all-behind first rows [] before found = tt
all-behind first rows (x ∷ some) before found = (behind-another first x rows before.0 found.0, all-behind first rows some before.1 found.1)

itself : (id : MonitorId) → is_same_monitor id id ≡ true
itself id = λ i. (site_itself id.site i && pollutant_itself id.pollutant i) && number_itself id.poc i

found-first : (r : OfficeRecord) (rows : List OfficeRecord) → Found (r ∷ rows) r
unfolding registration_of
found-first (Monitor id duration eligible) rows =
    ap (λ b. slice_get (cons_option (cond b (Some (as_registered duration eligible)) None) (filter_map (registration_by id) rows)) 0) (itself id)
found-first r rows = tt

all-found : (rows : List OfficeRecord) → rises record_rank rows ≡ true → AllByRecursion (Found rows) rows
all-found [] rising = tt
all-found (r ∷ rows) rising =
    (found-first r rows, all-behind r rows rows (all_later record_rank r rows rising) (all-found rows (rises-rest record_rank r rows rising)))

-- ---- by POC

module _ (office : Office) (site : Site) (pollutant : Pollutant) (year : ℕ) where
  abbrev at : ℕ → List ListedMonth
  at poc = months_at office year (monitor_at site pollutant poc)

  -- the months of the monitors that are left
  abbrev pub months_left : ℕ → List ListedMonth
  months_left after = flat_map at (pocs_after office.records site pollutant after)

  by-poc : (rows : List OfficeRecord) → list_all (fits_records (office_with office.records)) rows ≡ true → AllByRecursion (Found office.records) rows
      → flat_map (months_of office year) (filter_map (monitor_by site pollutant) rows) ≡ flat_map at (pocs_after rows site pollutant 0)
  by-poc [] fits found = refl
  by-poc (Monitor id duration eligible ∷ rows) fits found =
      by_tests (by-poc rows parts.1 found.1) (is_same_site id.site site) refl (is_same_pollutant id.pollutant pollutant) refl (nat_lt 0 id.poc) (some_poc id duration eligible (office_with office.records) parts.0)
    where
      parts : (fits_records (office_with office.records) (Monitor id duration eligible) ≡ true) × (list_all (fits_records (office_with office.records)) rows ≡ true)
      parts = and_parts _ _ fits

      same : is_same_site id.site site ≡ true → is_same_pollutant id.pollutant pollutant ≡ true → months_of office year (registered_as id duration eligible) ≡ at id.poc
      same here this =
          let place = same_site id.site site here in
          let kind = same_pollutant id.pollutant pollutant this in
          let one : id ≡ monitor_at site pollutant id.poc = λ i. record { site = place i; pollutant = kind i; poc = id.poc } in
          sym (ap (λ o. option_map_or (λ (r : Registered). months_of office year (registered_as id r.duration r.eligible)) o []) found.0)
          ∙ ap (months_at office year) one

      by_tests : flat_map (months_of office year) (filter_map (monitor_by site pollutant) rows) ≡ flat_map at (pocs_after rows site pollutant 0)
          → (a : Bool) → is_same_site id.site site ≡ a → (b : Bool) → is_same_pollutant id.pollutant pollutant ≡ b → (c : Bool) → c ≡ true
          → flat_map (months_of office year) (cons_option (cond (a && b) (Some (registered_as id duration eligible)) None) (filter_map (monitor_by site pollutant) rows))
          ≡ flat_map at (cons_option (cond ((a && b) && c) (Some id.poc) None) (pocs_after rows site pollutant 0))
      by_tests rest true here true this true some =
          flat_map-cons (months_of office year) (registered_as id duration eligible) (filter_map (monitor_by site pollutant) rows)
          ∙ (λ i. same here this i ++ rest i)
          ∙ sym (flat_map-cons at id.poc (pocs_after rows site pollutant 0))
      by_tests rest true here true this false some = absurd (false≢true some)
      by_tests rest true here false this c some = rest
      by_tests rest false here b this c some = rest
  by-poc (r ∷ rows) fits found = by-poc rows (and_parts _ _ fits).1 found.1

  pub months_all : IsOffice (office_with office.records) → months_left 0 ≡ listed_months office site pollutant year
  unfolding listed_months monitors_of
  months_all valid = sym (by-poc office.records valid.records_fit (all-found office.records valid.keys_rise.records))

  pub months_next : (after poc : ℕ) → IsOffice (office_with office.records) → next_poc office.records site pollutant after ≡ Some poc → months_left after ≡ at poc ++ months_left poc
  months_next after poc valid is =
      ap (flat_map at) (pocs-next site pollutant office.records after poc valid.keys_rise.records is) ∙ flat_map-cons at poc (pocs_after office.records site pollutant poc)

  pub months_end : (after : ℕ) → next_poc office.records site pollutant after ≡ None → months_left after ≡ []
  months_end after is = ap (flat_map at) (pocs-end site pollutant office.records after is)

  pub fewer_left : (after poc : ℕ) → IsOffice (office_with office.records) → next_poc office.records site pollutant after ≡ Some poc
      → length (pocs_after office.records site pollutant after) ≡ length (pocs_after office.records site pollutant poc) + 1
  fewer_left after poc valid is =
      let e = ap (λ (l : List ℕ). length l) (pocs-next site pollutant office.records after poc valid.keys_rise.records is) in
      omega (arith, e)

  pub months_step : (after poc : ℕ) (rows more : List ListedMonth) → IsOffice (office_with office.records) → next_poc office.records site pollutant after ≡ Some poc
      → more ≡ rows ++ months_at office year (monitor_at site pollutant poc) → rows ++ months_left after ≡ listed_months office site pollutant year
      → more ++ months_left poc ≡ listed_months office site pollutant year
  months_step after poc rows more valid is added before =
      ap (λ (l : List ListedMonth). l ++ months_left poc) added
      ∙ append_assoc rows (at poc) (months_left poc)
      ∙ ap (λ (l : List ListedMonth). rows ++ l) (sym (months_next after poc valid is))
      ∙ before

  pub months_done : (after : ℕ) (rows : List ListedMonth) → next_poc office.records site pollutant after ≡ None → rows ++ months_left after ≡ listed_months office site pollutant year
      → rows ≡ listed_months office site pollutant year
  months_done after rows is before =
      sym (append-nil rows) ∙ ap (λ (l : List ListedMonth). rows ++ l) (sym (months_end after is)) ∙ before
