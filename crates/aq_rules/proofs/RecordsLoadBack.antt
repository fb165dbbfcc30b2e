-- The records of a valid office, printed as lines, load back.
use Rattle.std.proofs.Common.{◌≡◌, ℕ, ◌+◌, ◌<◌, ◌≤◌, Bool, true, false, not, cond, ◌&&◌, List, [], ◌∷◌, ◌++◌, length, map, Some, None, is_some, refl, sym, ap, ◌∙◌, arith, subst, append_assoc}
use Rattle.std.specs.Prelude.{count_by, flat_map, nat_le, nat_lt, ◌==◌, codes}
use Rattle.std.specs.List.{list_any}
use Rattle.std.proofs.lemmas.Bool.{and_from, and_parts, eqb-true, eq-eqb, leb-true}
use Rattle.std.proofs.lemmas.Bool.Decides.{nat_tests}
use Rattle.std.proofs.lemmas.List.{append-nil}
use Rattle.aq_base.specs.declared.monitor.Duration.{Duration}
use Rattle.aq_base.specs.declared.monitor.MonitorId.{MonitorId}
use Rattle.aq_base.specs.declared.monitor.Pollutant.TheVariants.{Ozone, Pm25}
use Rattle.aq_base.specs.declared.office.OfficeRecord.{OfficeRecord}
use Rattle.aq_base.specs.declared.office.OfficeRecord.TheVariants.{Monitor, Primary, Schedule, Season, Makeup, Event, Concurrence, Approved, Combined}
use Rattle.aq_rules.specs.Limits.{MOST_SITES}
use Rattle.aq_rules.specs.Lines.Spellings.{◌>>=◌}
use Rattle.aq_rules.specs.Lines.Canonical.{canonical_office, content_texts, deletion_texts, is_office_line, joined, key_tag, office_texts, office_texts_of, record_line}
use Rattle.aq_rules.specs.Lines.Lines.{is_skipped}
use Rattle.aq_rules.specs.Lines.Reading.{OfOffice, line_value}
use Rattle.aq_rules.specs.Listed.LoadsBack.{LoadsTo, records_text}
use Rattle.aq_rules.specs.Office.Load.{changed, with_record}
use Rattle.aq_rules.specs.Office.Office.{Office, IsOffice, is_same, key_of, record_rank, rises, row_at, registers, has_its_monitor, has_its_event, monitor_duration, group_of, group_size, most_in_group, is_record, fits_records, is_alone, makeups_on, makes_up_on, combines_either, combinations_of, series_numbers, site_numbers, sites_of, with_site}
use Rattle.aq_rules.specs.Office.Refusal.{broken, is_taken, is_combined, key_stands}
use Rattle.aq_rules.proofs.Elements.{Every}
use Rattle.aq_rules.proofs.Fronts.{records-front, monitor-front, event-front, kind}
use Rattle.aq_rules.proofs.Joined.{join-cons}
use Rattle.aq_rules.proofs.LastRows.{with_last, last-new}
use Rattle.aq_rules.proofs.Lookups.{same-itself}
use Rattle.aq_rules.proofs.RoundTrip.{round-office}
use Rattle.aq_rules.proofs.RowsPlaced.{all_at, count_joined}
use Rattle.aq_rules.proofs.SitesCounted.{lists, length-with_site, sites_joined}
use Rattle.aq_rules.proofs.ValidRecords.{combines_itself}
use Rattle.aq_rules.proofs.WholeLines.{IsLine, ended, Accepts, refused-none, loaded, read-plain, line-accepted, line-done}

-- ---- an office's records with one more, as those of a valid one

-- a record that is last among the records of a valid office, above these
pub record IsNext (now : Office) (r : OfficeRecord) : Type 0 where
  rising : rises record_rank (now.records ++ r ∷ []) ≡ true
  spelled : is_record r ≡ true
  monitor : has_its_monitor now r ≡ true
  event : has_its_event now r ≡ true
  room : group_size now r < most_in_group r
  free : is_taken now r ≡ false
  uncombined : is_combined now r ≡ false
  sites : length (sites_of (now.records ++ r ∷ [])) ≤ MOST_SITES

one_more : (p : OfficeRecord → Bool) (rows : List OfficeRecord) (r : OfficeRecord) → p r ≡ true → count_by p (rows ++ r ∷ []) ≡ count_by p rows + 1
one_more p rows r h =
    count_joined p rows [] r
    ∙ ap (λ n. n + cond {A = ℕ} (p r) 1 0) (ap (count_by p) (append-nil rows))
    ∙ ap (λ b. count_by p rows + cond {A = ℕ} b 1 0) h

-- what a record rests on is looked for in the records alone
same-monitor : (a b : Office) (r : OfficeRecord) → a.records ≡ b.records → has_its_monitor a r ≡ has_its_monitor b r
same-monitor a b (Monitor id duration eligible) e = refl
same-monitor a b (Primary site pollutant from poc) e =
    λ i. cond (poc == 0) (list_any (registers site pollutant) (e i)) (is_some (row_at record_rank (1 ∷ (series_numbers site pollutant ++ poc ∷ [])) (e i) >>= monitor_duration))
same-monitor a b (Schedule site pollutant from interval anchor) e = ap (list_any (registers site pollutant)) e
same-monitor a b (Season site year first last) e = ap (list_any (registers site Ozone)) e
same-monitor a b (Makeup site missed makeup) e = ap (list_any (registers site Pm25)) e
same-monitor a b (Event number site pollutant first last code) e = ap (list_any (registers site pollutant)) e
same-monitor a b (Concurrence number agreed) e = refl
same-monitor a b (Approved site day) e = ap (list_any (registers site Ozone)) e
same-monitor a b (Combined site pollutant from joined) e =
    λ i. list_any (registers site pollutant) (e i) && list_any (registers joined pollutant) (e i)

same-event : (a b : Office) (r : OfficeRecord) → a.records ≡ b.records → has_its_event a r ≡ has_its_event b r
same-event a b (Monitor id duration eligible) e = refl
same-event a b (Primary site pollutant from poc) e = refl
same-event a b (Schedule site pollutant from interval anchor) e = refl
same-event a b (Season site year first last) e = refl
same-event a b (Makeup site missed makeup) e = refl
same-event a b (Event number site pollutant first last code) e = refl
same-event a b (Concurrence number agreed) e = ap (λ rows. is_some (row_at record_rank (6 ∷ number ∷ []) rows)) e
same-event a b (Approved site day) e = refl
same-event a b (Combined site pollutant from joined) e = refl

alone-free : (now : Office) (r : OfficeRecord) → is_alone (record { records = now.records ++ r ∷ []; observations = []; loads = [] }) r ≡ true → is_taken now r ≡ false
alone-free now (Makeup site missed makeup) own =
    let itself = and_from (is_same (site_numbers site) (site_numbers site)) (makeup == makeup) (same-itself (site_numbers site)) (eq-eqb makeup makeup refl) in
    let more = one_more (makes_up_on site makeup) now.records (Makeup site missed makeup) itself in
    let one = eqb-true (count_by (makes_up_on site makeup) (now.records ++ Makeup site missed makeup ∷ [])) 1 own in
    none_under (makeups_on now site makeup) (omega (arith, more, one))
  where
    none_under : (n : ℕ) → n ≡ 0 → nat_lt 0 n ≡ false
    none_under n h = rw h refl
alone-free now (Monitor a b c) own = refl
alone-free now (Primary a b c d) own = refl
alone-free now (Schedule a b c d e) own = refl
alone-free now (Season a b c d) own = refl
alone-free now (Event a b c d e f) own = refl
alone-free now (Concurrence a b) own = refl
alone-free now (Approved a b) own = refl
alone-free now (Combined a b c d) own = refl

alone-uncombined : (now : Office) (r : OfficeRecord) → is_alone (record { records = now.records ++ r ∷ []; observations = []; loads = [] }) r ≡ true → is_combined now r ≡ false
alone-uncombined now (Combined site pollutant from joined) own =
    let more = one_more (combines_either site joined pollutant) now.records (Combined site pollutant from joined) (combines_itself site joined pollutant from) in
    let one = eqb-true (count_by (combines_either site joined pollutant) (now.records ++ Combined site pollutant from joined ∷ [])) 1 own in
    none_under (combinations_of now site joined pollutant) (omega (arith, more, one))
  where
    none_under : (n : ℕ) → n ≡ 0 → nat_lt 0 n ≡ false
    none_under n h = rw h refl
alone-uncombined now (Monitor a b c) own = refl
alone-uncombined now (Primary a b c d) own = refl
alone-uncombined now (Schedule a b c d e) own = refl
alone-uncombined now (Season a b c d) own = refl
alone-uncombined now (Makeup a b c) own = refl
alone-uncombined now (Event a b c d e f) own = refl
alone-uncombined now (Concurrence a b) own = refl
alone-uncombined now (Approved a b) own = refl

next-is : (office now : Office) (r : OfficeRecord) (rest : List OfficeRecord) → IsOffice office → office.records ≡ now.records ++ r ∷ rest → IsNext now r
next-is office now r rest valid is =
    let split : office.records ≡ (now.records ++ r ∷ []) ++ rest = is ∙ sym (append_assoc now.records (r ∷ []) rest) in
    let whole = records-front office (now.records ++ r ∷ []) rest split valid in
    let all : Office = record { records = now.records ++ r ∷ []; observations = []; loads = [] } in
    let fits = all_at (fits_records all) now.records [] r whole.records_fit in
    let own = all_at (is_alone all) now.records [] r whole.records_alone in
    let c = and_parts _ (nat_le (group_size all r) (most_in_group r)) fits in
    let b = and_parts _ (has_its_event all r) c.0 in
    let a = and_parts (is_record r) (has_its_monitor all r) b.0 in
    let few = leb-true (group_size all r) (most_in_group r) c.1 in
    let more = one_more (λ other. is_same (group_of other) (group_of r)) now.records r (same-itself (group_of r)) in
    let low : Every (λ s. kind r ≤ kind s) (r ∷ []) = (omega arith, tt) in
    record {
      rising = whole.keys_rise.records;
      spelled = a.0;
      monitor = same-monitor now (record { records = now.records; observations = []; loads = [] }) r refl ∙ monitor-front all now.records (r ∷ []) refl r low a.1;
      event = same-event now (record { records = now.records; observations = []; loads = [] }) r refl ∙ event-front all now.records (r ∷ []) refl r low b.1;
      room = omega (arith, few, more);
      free = alone-free now r own;
      uncombined = alone-uncombined now r own;
      sites = whole.few_sites;
    }

-- ---- such a record is accepted

not_there : (now : Office) (r : OfficeRecord) → IsNext now r → key_stands now (key_of r) ≡ false
not_there now r next = ap is_some (last-new record_rank r now.records next.rising)

has_room : (n most : ℕ) → n < most → nat_le most n ≡ false
has_room n most h = grind (arith, nat_tests)

site_room : (rows : List OfficeRecord) (id : MonitorId) (duration : Duration) (eligible : Bool) → length (sites_of (rows ++ Monitor id duration eligible ∷ [])) ≤ MOST_SITES
    → (not (lists id.site (sites_of rows)) && nat_le MOST_SITES (length (sites_of rows))) ≡ false
site_room rows id duration eligible few = choose (lists id.site (sites_of rows)) refl
  where
    choose : (b : Bool) → lists id.site (sites_of rows) ≡ b → (not b && nat_le MOST_SITES (length (sites_of rows))) ≡ false
    choose true e = refl
    choose false e =
        let same = (sites_joined rows [] (Monitor id duration eligible)).len in
        let back : length (with_site id.site (sites_of (rows ++ []))) ≡ length (with_site id.site (sites_of rows)) =
        ap (λ (l : List OfficeRecord). length (with_site id.site (sites_of l))) (append-nil rows)
        in
        let more : length (with_site id.site (sites_of rows)) ≡ 1 + length (sites_of rows) =
        length-with_site id.site (sites_of rows) ∙ ap (λ b. cond {A = ℕ} b 0 1 + length (sites_of rows)) e
        in
        has_room (length (sites_of rows)) MOST_SITES (omega (arith, same, back, more, few))

pub accepted : (now : Office) (r : OfficeRecord) → IsNext now r → broken now (OfOffice (record_line r)) ≡ None
accepted now (Monitor id duration eligible) next =
    rw (not_there now (Monitor id duration eligible) next, site_room now.records id duration eligible next.sites, has_room _ _ next.room) refl
accepted now (Primary site pollutant from poc) next =
    let r : OfficeRecord = Primary site pollutant from poc in
    rw (next.monitor, not_there now r next, has_room (group_size now r) (most_in_group r) next.room) refl
accepted now (Schedule site pollutant from interval anchor) next =
    let r : OfficeRecord = Schedule site pollutant from interval anchor in
    rw (next.monitor, not_there now r next, has_room (group_size now r) (most_in_group r) next.room) refl
accepted now (Season site year first last) next =
    let r : OfficeRecord = Season site year first last in
    rw (next.monitor, not_there now r next) refl
accepted now (Makeup site missed makeup) next =
    let r : OfficeRecord = Makeup site missed makeup in
    rw (next.monitor, not_there now r next, next.free, has_room (group_size now r) (most_in_group r) next.room) refl
accepted now (Event number site pollutant first last code) next =
    let r : OfficeRecord = Event number site pollutant first last code in
    rw (next.monitor, not_there now r next, has_room (group_size now r) (most_in_group r) next.room) refl
accepted now (Concurrence number agreed) next = rw next.event refl
accepted now (Approved site day) next =
    let r : OfficeRecord = Approved site day in
    rw (next.monitor, not_there now r next) refl
accepted now (Combined site pollutant from joined) next =
    let r : OfficeRecord = Combined site pollutant from joined in
    rw (next.monitor, not_there now r next, next.uncombined) refl

-- ---- its line

line_spelled : (r : OfficeRecord) → is_record r ≡ true → is_office_line (record_line r) ≡ true
line_spelled (Monitor a b c) h = h
line_spelled (Primary a b c d) h = h
line_spelled (Schedule a b c d e) h = h
line_spelled (Season a b c d) h = h
line_spelled (Makeup a b c) h = h
line_spelled (Event a b c d e f) h = h
line_spelled (Concurrence a b) h = h
line_spelled (Approved a b) h = h
line_spelled (Combined a b c d) h = h

-- it begins with a letter
letter : (r : OfficeRecord) (rest : List ℕ) → is_skipped (key_tag (key_of r) ++ rest) ≡ false
letter (Monitor a b c) rest = refl
letter (Primary a b c d) rest = refl
letter (Schedule a b c d e) rest = refl
letter (Season a b c d) rest = refl
letter (Makeup a b c) rest = refl
letter (Event a b c d e f) rest = refl
letter (Concurrence a b) rest = refl
letter (Approved a b) rest = refl
letter (Combined a b c d) rest = refl

starts : (action : List ℕ) (r : OfficeRecord) → is_skipped (joined (office_texts_of action r)) ≡ false
starts action r =
    ap is_skipped (join-cons 124 (key_tag (key_of r)) (action ∷ (deletion_texts (key_of r) ++ content_texts r)))
    ∙ letter r (flat_map (λ (w : List ℕ). 124 ∷ w) (action ∷ (deletion_texts (key_of r) ++ content_texts r)))

begins : (r : OfficeRecord) → is_skipped (canonical_office (record_line r)) ≡ false
unfolding office_texts
begins (Monitor a b c) = starts (codes "I") (Monitor a b c)
begins (Primary a b c d) = starts (codes "I") (Primary a b c d)
begins (Schedule a b c d e) = starts (codes "I") (Schedule a b c d e)
begins (Season a b c d) = starts (codes "I") (Season a b c d)
begins (Makeup a b c) = starts (codes "I") (Makeup a b c)
begins (Event a b c d e f) = starts (codes "I") (Event a b c d e f)
begins (Concurrence a b) = starts (codes "U") (Concurrence a b)
begins (Approved a b) = starts (codes "I") (Approved a b)
begins (Combined a b c d) = starts (codes "I") (Combined a b c d)

record_value : (r : OfficeRecord) → is_record r ≡ true → line_value (canonical_office (record_line r)) ≡ Some (OfOffice (record_line r))
record_value r h = round-office (record_line r) (line_spelled r h)

record_is_line : (r : OfficeRecord) → is_record r ≡ true → IsLine (canonical_office (record_line r))
record_is_line r h = record {
  plain = read-plain (canonical_office (record_line r)) (OfOffice (record_line r)) (record_value r h);
  read = begins r;
}

put-record : (now : Office) (r : OfficeRecord) → changed now (OfOffice (record_line r)) ≡ with_record r now
put-record now (Monitor a b c) = refl
put-record now (Primary a b c d) = refl
put-record now (Schedule a b c d e) = refl
put-record now (Season a b c d) = refl
put-record now (Makeup a b c) = refl
put-record now (Event a b c d e f) = refl
put-record now (Concurrence a b) = refl
put-record now (Approved a b) = refl
put-record now (Combined a b c d) = refl

-- ---- a piece

abbrev with_records : Office → List OfficeRecord → Office
with_records now rows = record now { records = rows }

abbrev lines_of : List OfficeRecord → List (List ℕ)
lines_of rows = map (λ r. canonical_office (record_line r)) rows

texts_joined : (rows : List OfficeRecord) → records_text rows ≡ flat_map ended (lines_of rows)
texts_joined [] = refl
texts_joined (r ∷ rows) = ap (λ (l : List ℕ). ended (canonical_office (record_line r)) ++ l) (texts_joined rows)

are_lines : (office now : Office) (piece rest : List OfficeRecord) → IsOffice office → office.records ≡ now.records ++ (piece ++ rest) → Every IsLine (lines_of piece)
are_lines office now [] rest valid is = tt
are_lines office now (r ∷ piece) rest valid is =
    let next = next-is office now r (piece ++ rest) valid is in
    let split : office.records ≡ (now.records ++ r ∷ []) ++ (piece ++ rest) = is ∙ sym (append_assoc now.records (r ∷ []) (piece ++ rest)) in
    (record_is_line r next.spelled, are_lines office (with_records now (now.records ++ r ∷ [])) piece rest valid split)

piece-accepted : (office now : Office) (piece rest : List OfficeRecord) → IsOffice office → office.records ≡ now.records ++ (piece ++ rest)
    → Accepts now (lines_of piece) (with_records now (now.records ++ piece))
piece-accepted office now [] rest valid is = ap (with_records now) (sym (append-nil now.records))
piece-accepted office now (r ∷ piece) rest valid is =
    let next = next-is office now r (piece ++ rest) valid is in
    let value = record_value r next.spelled in
    let unbroken = accepted now r next in
    let split : office.records ≡ (now.records ++ r ∷ []) ++ (piece ++ rest) = is ∙ sym (append_assoc now.records (r ∷ []) (piece ++ rest)) in
    let then_ : Office = with_records now (now.records ++ r ∷ []) in
    let step = line-done now (canonical_office (record_line r)) (OfOffice (record_line r)) value unbroken ∙ put-record now r ∙ ap (with_records now) (with_last record_rank r now.records next.rising) in
    let others = piece-accepted office then_ piece rest valid split in (
      line-accepted now (canonical_office (record_line r)) (OfOffice (record_line r)) value unbroken,
      subst (λ before. Accepts before (lines_of piece) (with_records now (now.records ++ r ∷ piece))) (sym step)
          (subst (λ rows. Accepts then_ (lines_of piece) (with_records now rows)) (append_assoc now.records (r ∷ []) piece) others),
    )

pub records-back : (office now : Office) (piece rest : List OfficeRecord) → IsOffice office → office.records ≡ now.records ++ (piece ++ rest)
    → LoadsTo now (records_text piece) (record now { records = now.records ++ piece })
records-back office now piece rest valid is =
    let lines = are_lines office now piece rest valid is in
    let accepts = piece-accepted office now piece rest valid is in
    subst (λ body. LoadsTo now body (record now { records = now.records ++ piece })) (sym (texts_joined piece))
    (record { accepted = refused-none now _ (lines_of piece) lines accepts; makes = loaded now _ (lines_of piece) lines accepts })
