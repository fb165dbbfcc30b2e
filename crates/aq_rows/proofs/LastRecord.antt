-- A record after the others, in the order of keys: if it breaks no rule of the office, and if it does.
use Rattle.std.proofs.Common.{◌≡◌, ℕ, ◌+◌, ◌≤◌, Bool, true, false, cond, not, ◌&&◌, ◌||◌, List, [], ◌∷◌, ◌++◌, length, refl, sym, ap, ◌∙◌, arith, append-nil, subst}
use Rattle.std.specs.Prelude.{Some, None, is_some, find, count_by, nat_le, nat_lt, ◌==◌}
use Rattle.std.specs.List.{list_all, list_any}
use Rattle.std.proofs.lemmas.Bool.{and_from, and_parts, eqb-true, eq-eqb, leb-true}
use Rattle.std.proofs.lemmas.Bool.Decides.{nat_tests}
use Rattle.std.proofs.lemmas.List.Folds.{list_any-append}
use Rattle.std.proofs.Math.Bool.{or-false}
use Rattle.aq_base.specs.Site.{Site}
use Rattle.aq_base.specs.declared.monitor.Pollutant.{Pollutant}
use Rattle.aq_base.specs.declared.monitor.Pollutant.TheVariants.{Ozone, Pm25}
use Rattle.aq_base.specs.declared.office.OfficeRecord.{OfficeRecord}
use Rattle.aq_base.specs.declared.office.OfficeRecord.TheVariants.{Monitor, Primary, Schedule, Season, Makeup, Event, Concurrence, Approved, Combined}
use Rattle.aq_base.specs.declared.office.OfficeKey.TheVariants.{Monitor as MonitorKey, Event as EventKey}
use Rattle.aq_base.specs.declared.office.OfficeLine.TheVariants.{Put, Change}
use Rattle.aq_base.specs.declared.rule.Rule.{Rule}
use Rattle.aq_base.specs.declared.rule.Rule.TheVariants.{UnknownMonitor, AlreadyThere, SitesFull, MonitorsFull, MakeupsFull, UnknownEvent, EventsFull, ListFull, PairTaken}
use Rattle.aq_rules.specs.Limits.{MOST_SITES}
use Rattle.aq_rules.specs.Lines.Canonical.{record_line, is_line_value}
use Rattle.aq_rules.specs.Lines.Reading.{OfOffice}
use Rattle.aq_rules.specs.Lines.Spellings.{◌>>=◌}
use Rattle.aq_rules.specs.Office.Office.{Office, IsOffice, key_of, key_numbers, record_rank, is_same, rises, site_numbers, with_site, sites_of, monitor_duration, registers, event_stands, group_of, group_size, most_in_group, makes_up_on, makeups_on, combines_either, combinations_of, has_its_monitor, has_its_event, is_record, fits_records, is_alone}
use Rattle.aq_rules.specs.Office.Refusal.{broken, breaks_office, key_stands, is_taken, is_combined}
use Rattle.aq_rules.specs.Office.Load.{changed, with_record}
use Rattle.aq_rules.proofs.RowsPlaced.{is_same-refl, find_passed, count_joined}
use Rattle.aq_rules.proofs.SitesCounted.{lists, sites_joined, length-with_site}
use Rattle.aq_rules.proofs.ValidAfter.{changed-valid}
use Rattle.aq_rules.proofs.ValidRecords.{combines_itself}
use Rattle.aq_rules.proofs.Fronts.{records-front}
use Rattle.aq_rows.proofs.RisingEnds.{with_row-last, absent}

abbrev office_of : List OfficeRecord → Office
office_of records = record { records = records; observations = []; loads = [] }

passed : {X : Type 0} (p : X → Bool) (x : X) (xs : List X) → p x ≡ false → find p xs ≡ None → find p (x ∷ xs) ≡ None
passed p x xs first rest = ap (λ b. cond b (Some x) (find p xs)) first ∙ rest

-- the last of these passes
last-passes : {X : Type 0} (p : X → Bool) (xs : List X) (x : X) → list_all p (xs ++ x ∷ []) ≡ true → p x ≡ true
last-passes p [] x h = (and_parts (p x) true h).0
last-passes p (y ∷ xs) x h = last-passes p xs x (and_parts (p y) (list_all p (xs ++ x ∷ [])) h).1

module _ (records : List OfficeRecord) where
  any-before : (p : OfficeRecord → Bool) (x : OfficeRecord) → p x ≡ false → list_any p (records ++ x ∷ []) ≡ list_any p records
  any-before p x h =
      list_any-append p records (x ∷ []) ∙ ap (λ b. list_any p records || (b || false)) h ∙ or-false (list_any p records)

  found-before : (p : OfficeRecord → Bool) (x : OfficeRecord) → p x ≡ false → find p (records ++ x ∷ []) ≡ find p records
  found-before p x h = find_passed p records [] x h ∙ ap (find p) (append-nil records)

  count-last : (p : OfficeRecord → Bool) (x : OfficeRecord) → p x ≡ true → count_by p (records ++ x ∷ []) ≡ count_by p records + 1
  count-last p x h =
      count_joined p records [] x ∙ ap (λ l. count_by p l + cond {A = ℕ} (p x) 1 0) (append-nil records) ∙ ap (λ b. count_by p records + cond {A = ℕ} b 1 0) h

  monitor-before : (x : OfficeRecord) → has_its_monitor (office_of (records ++ x ∷ [])) x ≡ has_its_monitor (office_of records) x
  monitor-before (Monitor id duration eligible) = refl
  monitor-before (Primary site pollutant from poc) =
      let x : OfficeRecord = Primary site pollutant from poc in
      let many = any-before (registers site pollutant) x refl in
      let one = found-before (λ r. is_same (record_rank r) (key_numbers (MonitorKey (record { site = site; pollutant = pollutant; poc = poc })))) x refl in
      λ i. cond (poc == 0) (many i) (is_some (one i >>= monitor_duration))
  monitor-before (Schedule site pollutant from interval anchor) = any-before (registers site pollutant) (Schedule site pollutant from interval anchor) refl
  monitor-before (Season site year first last) = any-before (registers site Ozone) (Season site year first last) refl
  monitor-before (Makeup site missed makeup) = any-before (registers site Pm25) (Makeup site missed makeup) refl
  monitor-before (Event number site pollutant first last code) = any-before (registers site pollutant) (Event number site pollutant first last code) refl
  monitor-before (Concurrence number agreed) = refl
  monitor-before (Approved site day) = any-before (registers site Ozone) (Approved site day) refl
  monitor-before (Combined site pollutant from joined) =
      let x : OfficeRecord = Combined site pollutant from joined in
      let first = any-before (registers site pollutant) x refl in
      let second = any-before (registers joined pollutant) x refl in
      λ i. first i && second i

-- what a record meets after the others of a valid office
record Last (records : List OfficeRecord) (x : OfficeRecord) : Type 0 where
  new : key_stands (office_of records) (key_of x) ≡ false
  monitor : has_its_monitor (office_of records) x ≡ true
  event : has_its_event (office_of (records ++ x ∷ [])) x ≡ true
  room : nat_le (most_in_group x) (group_size (office_of records) x) ≡ false
  day : is_alone (office_of (records ++ x ∷ [])) x ≡ true
  sites : length (sites_of (records ++ x ∷ [])) ≤ MOST_SITES

below : (size one most : ℕ) → one ≡ size + 1 → one ≤ most → nat_le most size ≡ false
below size one most e h = grind (arith, nat_tests)

last-of : (records : List OfficeRecord) (x : OfficeRecord) → IsOffice (office_of (records ++ x ∷ [])) → Last records x
last-of records x is =
    let n = office_of (records ++ x ∷ []) in
    let fits = last-passes (fits_records n) records x is.records_fit in
    let few = and_parts (is_record x && has_its_monitor n x && has_its_event n x) (nat_le (group_size n x) (most_in_group x)) fits in
    let event = and_parts (is_record x && has_its_monitor n x) (has_its_event n x) few.0 in
    let monitor = and_parts (is_record x) (has_its_monitor n x) event.0 in
    record {
      new = ap (λ o. is_some o) (absent record_rank x records is.keys_rise.records);
      monitor = sym (monitor-before records x) ∙ monitor.1;
      event = event.1;
      room = below (group_size (office_of records) x) (group_size n x) (most_in_group x)
          (count-last records (λ other. is_same (group_of other) (group_of x)) x (is_same-refl (group_of x) (group_of x) refl))
          (leb-true (group_size n x) (most_in_group x) few.1);
      day = last-passes (is_alone n) records x is.records_alone;
      sites = is.few_sites;
    }

-- the rules that a new record meets, none of which is broken
lacks-none : (b : Bool) → b ≡ true → not b ≡ false
lacks-none true h = refl
lacks-none false h = sym h

there-none : (a b : Bool) → a ≡ false → b ≡ false → (a || b) ≡ false
there-none true b e f = e
there-none false b e f = f

none-taken : (records : List OfficeRecord) (x : OfficeRecord) → is_alone (office_of (records ++ x ∷ [])) x ≡ true → is_taken (office_of records) x ≡ false
none-taken records (Makeup site missed makeup) h =
    let x : OfficeRecord = Makeup site missed makeup in
    let one = eqb-true (makeups_on (office_of (records ++ x ∷ [])) site makeup) 1 h in
    let count = count-last records (makes_up_on site makeup) x (and_from _ _ (is_same-refl (site_numbers site) (site_numbers site) refl) (eq-eqb makeup makeup refl)) in
    none (makeups_on (office_of records) site makeup) (makeups_on (office_of (records ++ x ∷ [])) site makeup) count one
  where
    none : (size all : ℕ) → all ≡ size + 1 → all ≡ 1 → nat_lt 0 size ≡ false
    none size all e f = grind (arith, nat_tests)
none-taken records (Monitor id duration eligible) h = refl
none-taken records (Primary site pollutant from poc) h = refl
none-taken records (Schedule site pollutant from interval anchor) h = refl
none-taken records (Season site year first last) h = refl
none-taken records (Event number site pollutant first last code) h = refl
none-taken records (Concurrence number agreed) h = refl
none-taken records (Approved site day) h = refl
none-taken records (Combined site pollutant from joined) h = refl

none-combined : (records : List OfficeRecord) (site joined : Site) (pollutant : Pollutant) (from : ℕ)
    → is_alone (office_of (records ++ Combined site pollutant from joined ∷ [])) (Combined site pollutant from joined) ≡ true
    → is_combined (office_of records) (Combined site pollutant from joined) ≡ false
none-combined records site joined pollutant from h =
    let x : OfficeRecord = Combined site pollutant from joined in
    let one = eqb-true (combinations_of (office_of (records ++ x ∷ [])) site joined pollutant) 1 h in
    let count = count-last records (combines_either site joined pollutant) x (combines_itself site joined pollutant from) in
    none (combinations_of (office_of records) site joined pollutant) (combinations_of (office_of (records ++ x ∷ [])) site joined pollutant) count one
  where
    none : (size all : ℕ) → all ≡ size + 1 → all ≡ 1 → nat_lt 0 size ≡ false
    none size all e f = grind (arith, nat_tests)

site-room : (records : List OfficeRecord) (site : Site) (all : ℕ) → all ≡ cond {A = ℕ} (lists site (sites_of records)) 0 1 + length (sites_of records) → all ≤ MOST_SITES
    → (not (lists site (sites_of records)) && nat_le MOST_SITES (length (sites_of records))) ≡ false
site-room records site all e few = choose (lists site (sites_of records)) e
  where
    over : (size : ℕ) → all ≡ 1 + size → nat_le MOST_SITES size ≡ false
    over size e = grind (arith, nat_tests)

    choose : (b : Bool) → all ≡ cond {A = ℕ} b 0 1 + length (sites_of records) → (not b && nat_le MOST_SITES (length (sites_of records))) ≡ false
    choose true e = refl
    choose false e = over (length (sites_of records)) e

unbroken : (records : List OfficeRecord) (x : OfficeRecord) → Last records x → broken (office_of records) (OfOffice (record_line x)) ≡ None
unbroken records (Monitor id duration eligible) last =
    let x : OfficeRecord = Monitor id duration eligible in
    let p : Rule → Bool = λ rule. breaks_office rule (office_of records) (OfOffice (Put x)) in
    let sites : length (sites_of (records ++ x ∷ [])) ≡ cond {A = ℕ} (lists id.site (sites_of records)) 0 1 + length (sites_of records) =
    (sites_joined records [] x).len ∙ ap (λ l. length (with_site id.site (sites_of l))) (append-nil records) ∙ length-with_site id.site (sites_of records) in
    passed p AlreadyThere (SitesFull ∷ MonitorsFull ∷ []) (there-none (key_stands (office_of records) (key_of x)) false last.new refl)
    (passed p SitesFull (MonitorsFull ∷ []) (site-room records id.site (length (sites_of (records ++ x ∷ []))) sites last.sites)
    (passed p MonitorsFull [] last.room refl))
unbroken records (Primary site pollutant from poc) last =
    let x : OfficeRecord = Primary site pollutant from poc in
    let p : Rule → Bool = λ rule. breaks_office rule (office_of records) (OfOffice (Put x)) in
    passed p UnknownMonitor (AlreadyThere ∷ ListFull ∷ []) (lacks-none (has_its_monitor (office_of records) x) last.monitor)
    (passed p AlreadyThere (ListFull ∷ []) (there-none (key_stands (office_of records) (key_of x)) false last.new refl)
    (passed p ListFull [] last.room refl))
unbroken records (Schedule site pollutant from interval anchor) last =
    let x : OfficeRecord = Schedule site pollutant from interval anchor in
    let p : Rule → Bool = λ rule. breaks_office rule (office_of records) (OfOffice (Put x)) in
    passed p UnknownMonitor (AlreadyThere ∷ ListFull ∷ []) (lacks-none (has_its_monitor (office_of records) x) last.monitor)
    (passed p AlreadyThere (ListFull ∷ []) (there-none (key_stands (office_of records) (key_of x)) false last.new refl)
    (passed p ListFull [] last.room refl))
unbroken records (Season site year first end) last =
    let x : OfficeRecord = Season site year first end in
    let p : Rule → Bool = λ rule. breaks_office rule (office_of records) (OfOffice (Put x)) in
    passed p UnknownMonitor (AlreadyThere ∷ []) (lacks-none (has_its_monitor (office_of records) x) last.monitor)
    (passed p AlreadyThere [] (there-none (key_stands (office_of records) (key_of x)) false last.new refl) refl)
unbroken records (Makeup site missed makeup) last =
    let x : OfficeRecord = Makeup site missed makeup in
    let p : Rule → Bool = λ rule. breaks_office rule (office_of records) (OfOffice (Put x)) in
    passed p UnknownMonitor (AlreadyThere ∷ MakeupsFull ∷ []) (lacks-none (has_its_monitor (office_of records) x) last.monitor)
    (passed p AlreadyThere (MakeupsFull ∷ []) (there-none (key_stands (office_of records) (key_of x)) (is_taken (office_of records) x) last.new (none-taken records x last.day))
    (passed p MakeupsFull [] last.room refl))
unbroken records (Event number site pollutant first end code) last =
    let x : OfficeRecord = Event number site pollutant first end code in
    let p : Rule → Bool = λ rule. breaks_office rule (office_of records) (OfOffice (Put x)) in
    passed p UnknownMonitor (AlreadyThere ∷ EventsFull ∷ []) (lacks-none (has_its_monitor (office_of records) x) last.monitor)
    (passed p AlreadyThere (EventsFull ∷ []) (there-none (key_stands (office_of records) (key_of x)) false last.new refl)
    (passed p EventsFull [] last.room refl))
unbroken records (Concurrence number agreed) last =
    let x : OfficeRecord = Concurrence number agreed in
    let p : Rule → Bool = λ rule. breaks_office rule (office_of records) (OfOffice (Change x)) in
    let stands : event_stands (office_of (records ++ x ∷ [])) number ≡ event_stands (office_of records) number =
    ap (λ o. is_some o) (found-before records (λ r. is_same (record_rank r) (key_numbers (EventKey number))) x refl) in
    passed p UnknownEvent [] (lacks-none (event_stands (office_of records) number) (sym stands ∙ last.event)) refl
unbroken records (Approved site day) last =
    let x : OfficeRecord = Approved site day in
    let p : Rule → Bool = λ rule. breaks_office rule (office_of records) (OfOffice (Put x)) in
    passed p UnknownMonitor (AlreadyThere ∷ []) (lacks-none (has_its_monitor (office_of records) x) last.monitor)
    (passed p AlreadyThere [] (there-none (key_stands (office_of records) (key_of x)) false last.new refl) refl)
unbroken records (Combined site pollutant from joined) last =
    let x : OfficeRecord = Combined site pollutant from joined in
    let p : Rule → Bool = λ rule. breaks_office rule (office_of records) (OfOffice (Put x)) in
    passed p UnknownMonitor (AlreadyThere ∷ PairTaken ∷ []) (lacks-none (has_its_monitor (office_of records) x) last.monitor)
    (passed p AlreadyThere (PairTaken ∷ []) (there-none (key_stands (office_of records) (key_of x)) false last.new refl)
    (passed p PairTaken [] (none-combined records site joined pollutant from last.day) refl))

-- ---- what the office says

line-changed : (office : Office) (x : OfficeRecord) → changed office (OfOffice (record_line x)) ≡ with_record x office
line-changed office (Monitor id duration eligible) = refl
line-changed office (Primary site pollutant from poc) = refl
line-changed office (Schedule site pollutant from interval anchor) = refl
line-changed office (Season site year first last) = refl
line-changed office (Makeup site missed makeup) = refl
line-changed office (Event number site pollutant first last code) = refl
line-changed office (Concurrence number agreed) = refl
line-changed office (Approved site day) = refl
line-changed office (Combined site pollutant from joined) = refl

-- a record that is applied after the others is the last one
pub record-last : (records : List OfficeRecord) (x : OfficeRecord) → rises record_rank (records ++ x ∷ []) ≡ true
    → (changed (office_of records) (OfOffice (record_line x))).records ≡ records ++ x ∷ []
record-last records x rising = ap (λ (o : Office). o.records) (line-changed (office_of records) x) ∙ with_row-last record_rank x records rising

-- it leaves the office valid
pub record-taken : (records : List OfficeRecord) (x : OfficeRecord) → IsOffice (office_of records) → is_line_value (OfOffice (record_line x)) ≡ true
    → broken (office_of records) (OfOffice (record_line x)) ≡ None → rises record_rank (records ++ x ∷ []) ≡ true → IsOffice (office_of (records ++ x ∷ []))
record-taken records x is spelled none rising =
    subst IsOffice (line-changed (office_of records) x ∙ ap office_of (with_row-last record_rank x records rising))
    (changed-valid (office_of records) (OfOffice (record_line x)) is spelled none)

-- and with one that is refused there is no valid office, whatever else stands
pub record-refused : (office : Office) (x : OfficeRecord) (rule : Rule) → broken (office_of office.records) (OfOffice (record_line x)) ≡ Some rule
    → IsOffice (record { records = office.records ++ x ∷ []; observations = office.observations; loads = office.loads }) → ⊥
record-refused office x rule refused is =
    let alone : IsOffice (office_of (office.records ++ x ∷ [])) =
    records-front (record { records = office.records ++ x ∷ []; observations = office.observations; loads = office.loads }) (office.records ++ x ∷ []) [] (sym (append-nil (office.records ++ x ∷ []))) is in
    let none : None ≡ Some rule = sym (unbroken office.records x (last-of office.records x alone)) ∙ refused in
    cc
