-- How many sites and events there are once a record is put or dropped.
use Rattle.std.proofs.Common.{◌≡◌, ℕ, ◌+◌, ◌≤◌, ◌⊎◌, Bool, true, false, cond, not, ◌&&◌, ◌==◌, List, [], ◌∷◌, length, Option, Some, None, is_some, refl, sym, subst, ap, ◌∙◌, arith, inl, inr}
use Rattle.std.specs.Prelude.{filter, count_by, nat_le, option_map}
use Rattle.std.specs.List.{list_all}
use Rattle.std.proofs.lemmas.Bool.{false≢true, and_parts, eqb-true, leb-true}
use Rattle.aq_base.specs.Site.{Site}
use Rattle.aq_base.specs.declared.office.OfficeRecord.{OfficeRecord}
use Rattle.aq_base.specs.declared.office.OfficeRecord.TheVariants.{Monitor, Event}
use Rattle.aq_base.specs.declared.office.OfficeKey.{OfficeKey}
use Rattle.aq_base.specs.declared.office.OfficeKey.TheVariants.{Monitor as MonitorKey, Event as EventKey, Concurrence as ConcurrenceKey}
use Rattle.aq_base.specs.declared.office.OfficeLine.{OfficeLine}
use Rattle.aq_base.specs.declared.office.OfficeLine.TheVariants.{Put, Change, Drop}
use Rattle.aq_rules.specs.Limits.{MOST_EVENTS}
use Rattle.aq_rules.specs.Lines.Canonical.{is_office_line}
use Rattle.aq_rules.specs.Lines.Reading.{OfOffice}
use Rattle.aq_rules.specs.Office.Load.{changed, without_key}
use Rattle.aq_rules.specs.Office.Refusal.{is_new_site}
use Rattle.aq_rules.specs.Office.Office.{IsOffice, is_same, comes_before, rises, row_at, with_row, without_row, record_rank, key_numbers, key_of, group_of, with_site, sites_of, fits_records, is_record, has_its_monitor, has_its_event, group_size, most_in_group}
use Rattle.aq_rules.specs.Office.RowOrder.{without_row-rises}
use Rattle.aq_rules.specs.Office.Questions.{record_of}
use Rattle.aq_rules.proofs.Lookups.{same-is, same-itself, same-flip, found-with, found-without, none-before, none-behind, rises-rest}
use Rattle.aq_rules.proofs.RowsPlaced.{count-cons}
use Rattle.aq_rules.proofs.SitesCounted.{SameSites, SameSites-is, SameSites-trans, SameSites-sites_with, SameSites-sites_turned, lists, sites_with, sites_of-cons, sites_twice, length-with_site, sites-filter}
use Rattle.aq_registry.specs.declared.changes.Changes.{Changes}
use Rattle.aq_registry.specs.Changes.{changes_of, drop_changes, dropped_with, dropping, putting}
use Rattle.aq_registry.specs.Registry.{office_with, events_in, adds_event, drops_event}

-- ---- counts

abbrev pub one_where : Bool → ℕ
one_where b = cond b 1 0

module _ (p : OfficeRecord → Bool) where
  count-with_row : ((x y : OfficeRecord) → is_same (record_rank x) (record_rank y) ≡ true → p x ≡ p y) → (r : OfficeRecord) (rows : List OfficeRecord) → rises record_rank rows ≡ true
      → count_by p (with_row record_rank r rows) ≡ cond (is_some (row_at record_rank (record_rank r) rows)) 0 (one_where (p r)) + count_by p rows
  count-with_row alike r [] rise = count-cons p r []
  count-with_row alike r (first ∷ rows) rise =
      choose (comes_before (record_rank r) (record_rank first)) (is_same (record_rank r) (record_rank first)) refl refl (count-with_row alike r rows (rises-rest record_rank first rows rise))
    where
      choose : (a b : Bool) → comes_before (record_rank r) (record_rank first) ≡ a → is_same (record_rank r) (record_rank first) ≡ b
          → count_by p (with_row record_rank r rows) ≡ cond (is_some (row_at record_rank (record_rank r) rows)) 0 (one_where (p r)) + count_by p rows
          → count_by p (cond a (r ∷ first ∷ rows) (cond b (r ∷ rows) (first ∷ with_row record_rank r rows)))
          ≡ cond (is_some (row_at record_rank (record_rank r) (first ∷ rows))) 0 (one_where (p r)) + count_by p (first ∷ rows)
      choose true b before same rest =
          count-cons p r (first ∷ rows)
          ∙ ap (λ (o : Option OfficeRecord). cond (is_some o) 0 (one_where (p r)) + count_by p (first ∷ rows)) (sym (none-before record_rank (record_rank r) first rows before rise))
      choose false true before same rest =
          let equal : one_where (p r) ≡ one_where (p first) = ap one_where (alike r first same) in
          let kept : count_by p (r ∷ rows) ≡ 0 + count_by p (first ∷ rows) = omega (arith, count-cons p r rows, count-cons p first rows) in
          kept
          ∙ ap (λ b. cond (is_some (cond b (Some first) (row_at record_rank (record_rank r) rows))) 0 (one_where (p r)) + count_by p (first ∷ rows)) (sym (same-flip (record_rank first) (record_rank r) ∙ same))
      choose false false before other rest =
          let more : count_by p (first ∷ with_row record_rank r rows) ≡ cond (is_some (row_at record_rank (record_rank r) rows)) 0 (one_where (p r)) + count_by p (first ∷ rows) =
          omega (arith, rest, count-cons p first (with_row record_rank r rows), count-cons p first rows) in
          more
          ∙ ap (λ b. cond (is_some (cond b (Some first) (row_at record_rank (record_rank r) rows))) 0 (one_where (p r)) + count_by p (first ∷ rows)) (sym (same-flip (record_rank first) (record_rank r) ∙ other))

  count-without_row : (key : List ℕ) (is : Bool) → ((x : OfficeRecord) → is_same (record_rank x) key ≡ true → p x ≡ is) → (rows : List OfficeRecord) → rises record_rank rows ≡ true
      → count_by p (without_row record_rank key rows) + cond (is_some (row_at record_rank key rows)) (one_where is) 0 ≡ count_by p rows
  count-without_row key is alike [] rise = refl
  count-without_row key is alike (first ∷ rows) rise =
      choose (is_same (record_rank first) key) refl (count-without_row key is alike rows (rises-rest record_rank first rows rise))
    where
      choose : (b : Bool) → is_same (record_rank first) key ≡ b
          → count_by p (without_row record_rank key rows) + cond (is_some (row_at record_rank key rows)) (one_where is) 0 ≡ count_by p rows
          → count_by p (cond (not b) (first ∷ without_row record_rank key rows) (without_row record_rank key rows)) + cond (is_some (cond b (Some first) (row_at record_rank key rows))) (one_where is) 0
          ≡ count_by p (first ∷ rows)
      choose true same rest =
          let none : cond (is_some (row_at record_rank key rows)) (one_where is) 0 ≡ 0 = ap (λ (o : Option OfficeRecord). cond (is_some o) (one_where is) 0) (ap (λ k. row_at record_rank k rows) (sym (same-is (record_rank first) key same)) ∙ none-behind record_rank first rows rise) in
          let here : one_where (p first) ≡ one_where is = ap one_where (alike first same) in
          omega (arith, rest, none, count-cons p first rows)
      choose false other rest = omega (arith, rest, count-cons p first (without_row record_rank key rows), count-cons p first rows)

-- ---- events

is_event : OfficeRecord → Bool
is_event r = is_same (group_of r) (6 ∷ [])

events-alike : (x y : OfficeRecord) → is_same (record_rank x) (record_rank y) ≡ true → is_event x ≡ is_event y
unfolding is_event
events-alike (Event a s p f l c) (Event b t q g m d) h = refl
events-alike (Event a s p f l c) y h = absurd (false≢true h)
events-alike x (Event b t q g m d) h = absurd (false≢true h)
events-alike x y h = refl

pub events_put : (r : OfficeRecord) (rows : List OfficeRecord) → rises record_rank rows ≡ true → events_in (with_row record_rank r rows) ≡ one_where (adds_event rows r) + events_in rows
unfolding is_event
events_put r rows rise = count-with_row is_event events-alike r rows rise ∙ ap (λ n. n + events_in rows) (new r)
  where
    new : (r : OfficeRecord) → cond (is_some (row_at record_rank (record_rank r) rows)) 0 (one_where (is_same (group_of r) (6 ∷ []))) ≡ one_where (adds_event rows r)
    new (Event number site pollutant first last code) = unless (is_some (row_at record_rank (key_numbers (EventKey number)) rows))
      where
        unless : (b : Bool) → cond {A = ℕ} b 0 1 ≡ one_where (not b)
        unless true = refl
        unless false = refl
    new r = none (is_some (row_at record_rank (record_rank r) rows))
      where
        none : (b : Bool) → cond {A = ℕ} b 0 0 ≡ 0
        none true = refl
        none false = refl

abbrev is_event_key : OfficeKey → Bool
is_event_key (EventKey number) = true
is_event_key key = false

key-alike : (key : OfficeKey) (x : OfficeRecord) → is_same (record_rank x) (key_numbers key) ≡ true → is_event x ≡ is_event_key key
unfolding is_event
key-alike (EventKey number) (Event a s p f l c) h = refl
key-alike (EventKey number) x h = absurd (false≢true h)
key-alike key (Event a s p f l c) h = absurd (false≢true h)
key-alike key x h = refl

events-without_row : (key : OfficeKey) (rows : List OfficeRecord) → rises record_rank rows ≡ true
    → events_in (without_row record_rank (key_numbers key) rows) + cond (is_some (row_at record_rank (key_numbers key) rows)) (one_where (is_event_key key)) 0 ≡ events_in rows
unfolding is_event
events-without_row key rows rise = count-without_row is_event (key_numbers key) (is_event_key key) (key-alike key) rows rise

-- no event has the key of a concurrence
events-kept : (number : ℕ) (rows : List OfficeRecord) → rises record_rank rows ≡ true → events_in (without_row record_rank (key_numbers (ConcurrenceKey number)) rows) ≡ events_in rows
events-kept number rows rise =
    let none : cond {A = ℕ} (is_some (row_at record_rank (key_numbers (ConcurrenceKey number)) rows)) 0 0 ≡ 0 = none_of (is_some (row_at record_rank (key_numbers (ConcurrenceKey number)) rows)) in
    omega (arith, none, events-without_row (ConcurrenceKey number) rows rise)
  where
    none_of : (b : Bool) → cond {A = ℕ} b 0 0 ≡ 0
    none_of true = refl
    none_of false = refl

pub events_dropped : (key : OfficeKey) (rows : List OfficeRecord) → rises record_rank rows ≡ true → events_in (without_key key (office_with rows)).records + one_where (drops_event rows key) ≡ events_in rows
events_dropped (EventKey number) rows rise =
    ap (λ n. n + one_where (drops_event rows (EventKey number))) (events-kept number (without_row record_rank (key_numbers (EventKey number)) rows) (without_row-rises record_rank (key_numbers (EventKey number)) rows rise))
    ∙ events-without_row (EventKey number) rows rise
events_dropped key rows rise = none (is_some (row_at record_rank (key_numbers key) rows)) (events-without_row key rows rise)
  where
    none : (b : Bool) → events_in (without_row record_rank (key_numbers key) rows) + cond {A = ℕ} b (one_where (is_event_key key)) 0 ≡ events_in rows
        → events_in (without_row record_rank (key_numbers key) rows) + 0 ≡ events_in rows
    none true h = h
    none false h = h

-- the records as contracts see them
pub IsOffice-seen : (inside rows : List OfficeRecord) → IsOffice (office_with inside) → inside ≡ rows → IsOffice (office_with rows)
IsOffice-seen inside rows valid seen = subst (λ (rs : List OfficeRecord). IsOffice (office_with rs)) seen valid

-- the number beside the records, once one is put or dropped
pub counted-put : (r : OfficeRecord) (inside rows : List OfficeRecord) (count : ℕ) → IsOffice (office_with inside) → inside ≡ rows → count ≡ events_in inside → (new : Bool) → new ≡ adds_event rows r
    → events_in (with_row record_rank r rows) ≡ one_where new + count
counted-put r inside rows count valid seen counted new is =
    events_put r rows (IsOffice-seen inside rows valid seen).keys_rise.records
    ∙ (λ i. one_where (sym is i) + sym (counted ∙ ap events_in seen) i)

pub counted-dropped : (key : OfficeKey) (inside rows : List OfficeRecord) (count : ℕ) → IsOffice (office_with inside) → inside ≡ rows → count ≡ events_in inside → (stood : Bool) → stood ≡ drops_event rows key
    → events_in (without_key key (office_with rows)).records + one_where stood ≡ count
counted-dropped key inside rows count valid seen counted stood is =
    ap (λ b. events_in (without_key key (office_with rows)).records + one_where b) is
    ∙ events_dropped key rows (IsOffice-seen inside rows valid seen).keys_rise.records
    ∙ sym (counted ∙ ap events_in seen)

-- as many events stand as may, at most
few_of : (all rows : List OfficeRecord) → list_all (fits_records (office_with all)) rows ≡ true → (events_in rows ≡ 0) ⊎ (events_in all ≤ MOST_EVENTS)
unfolding is_event
few_of all [] h = inl refl
few_of all (Event number site pollutant first last code ∷ rows) h =
    let r = Event number site pollutant first last code in
    let fits = and_parts (fits_records (office_with all) r) (list_all (fits_records (office_with all)) rows) h in
    let room = and_parts (is_record r && has_its_monitor (office_with all) r && has_its_event (office_with all) r) (nat_le (group_size (office_with all) r) (most_in_group r)) fits.0 in
    inr (leb-true (events_in all) MOST_EVENTS room.1)
few_of all (r ∷ rows) h =
    let counted : events_in (r ∷ rows) ≡ 0 + events_in rows = count-cons (λ r. is_same (group_of r) (6 ∷ [])) r rows in
    elim (few_of all rows (and_parts (fits_records (office_with all) r) (list_all (fits_records (office_with all)) rows) h).1) [
      | inl none ↦ inl (omega arith)
      | inr few ↦ inr few
    ]

pub events_few : (rows : List OfficeRecord) → IsOffice (office_with rows) → events_in rows ≤ MOST_EVENTS
events_few rows office =
    let fit = office.records_fit in
    elim (few_of rows rows fit) [ inl none ↦ omega arith | inr few ↦ few ]

-- ---- sites

site_of_both : (a b : Site) (rest : Bool) → ((a.state == b.state) && ((a.county == b.county) && ((a.number == b.number) && rest))) ≡ true → a ≡ b
site_of_both a b rest h =
    let first = and_parts (a.state == b.state) ((a.county == b.county) && ((a.number == b.number) && rest)) h in
    let second = and_parts (a.county == b.county) ((a.number == b.number) && rest) first.1 in
    let third = and_parts (a.number == b.number) rest second.1 in
    let state = eqb-true a.state b.state first.0 in
    let county = eqb-true a.county b.county second.0 in
    let number = eqb-true a.number b.number third.0 in
    λ i. record { state = state i; county = county i; number = number i }

-- records of one key have one site
sites-alike : (x y : OfficeRecord) → is_same (record_rank x) (record_rank y) ≡ true → (xs : List Site) → sites_with x xs ≡ sites_with y xs
sites-alike (Monitor a d e) (Monitor b f g) h xs = ap (λ (s : Site). with_site s xs) (site_of_both a.site b.site _ h)
sites-alike (Monitor a d e) y h xs = absurd (false≢true h)
sites-alike x (Monitor b f g) h xs = absurd (false≢true h)
sites-alike x y h xs = refl

sites-with_row : (r : OfficeRecord) (rows : List OfficeRecord) → SameSites (sites_of (with_row record_rank r rows)) (sites_with r (sites_of rows))
sites-with_row r [] = SameSites-is _ _ (sites_of-cons r [])
sites-with_row r (first ∷ rows) = choose (comes_before (record_rank r) (record_rank first)) (is_same (record_rank r) (record_rank first)) refl (sites-with_row r rows)
  where
    choose : (a b : Bool) → is_same (record_rank r) (record_rank first) ≡ b → SameSites (sites_of (with_row record_rank r rows)) (sites_with r (sites_of rows))
        → SameSites (sites_of (cond a (r ∷ first ∷ rows) (cond b (r ∷ rows) (first ∷ with_row record_rank r rows)))) (sites_with r (sites_of (first ∷ rows)))
    choose true b same rest = SameSites-is _ _ (sites_of-cons r (first ∷ rows))
    choose false true same rest =
        SameSites-is _ _
        (sites_of-cons r rows ∙ sym (sites_twice r (sites_of rows)) ∙ ap (sites_with r) (sites-alike r first same (sites_of rows) ∙ sym (sites_of-cons first rows)))
    choose false false other rest =
        SameSites-trans _ _ _ (SameSites-is _ _ (sites_of-cons first (with_row record_rank r rows)))
        (SameSites-trans _ _ _ (SameSites-sites_with first _ _ rest)
        (SameSites-trans _ _ _ (SameSites-sites_turned first r (sites_of rows))
        (SameSites-is _ _ (ap (sites_with r) (sym (sites_of-cons first rows))))))

pub sites_put : (r : OfficeRecord) (rows : List OfficeRecord) → length (sites_of (with_row record_rank r rows)) ≡ one_where (is_new_site (office_with rows) (OfOffice (Put r))) + length (sites_of rows)
sites_put r rows = let same = sites-with_row r rows in same.len ∙ new r
  where
    new : (r : OfficeRecord) → length (sites_with r (sites_of rows)) ≡ one_where (is_new_site (office_with rows) (OfOffice (Put r))) + length (sites_of rows)
    new (Monitor id duration eligible) = length-with_site id.site (sites_of rows) ∙ ap (λ n. n + length (sites_of rows)) (unless (lists id.site (sites_of rows)))
      where
        unless : (b : Bool) → cond {A = ℕ} b 0 1 ≡ one_where (not b)
        unless true = refl
        unless false = refl
    new r = omega arith

-- the keys that a line can drop are no monitors'
sites-without_row : (key : OfficeKey) (rows : List OfficeRecord) → is_office_line (Drop key) ≡ true → sites_of (without_row record_rank (key_numbers key) rows) ≡ sites_of rows
sites-without_row (MonitorKey id) rows h = absurd (false≢true h)
sites-without_row key rows h = sites-filter (λ row. not (is_same (record_rank row) (key_numbers key))) rows (λ id duration eligible. refl)

pub sites_dropped : (key : OfficeKey) (rows : List OfficeRecord) → is_office_line (Drop key) ≡ true → sites_of (without_key key (office_with rows)).records ≡ sites_of rows
sites_dropped (EventKey number) rows h =
    sites-filter (λ row. not (is_same (record_rank row) (key_numbers (ConcurrenceKey number)))) (without_row record_rank (key_numbers (EventKey number)) rows) (λ id duration eligible. refl)
    ∙ sites-without_row (EventKey number) rows h
sites_dropped key rows h = sites-without_row key rows h

-- ---- what is found after a line

-- nothing is found under a key that was dropped
found_without : (key : List ℕ) (rows : List OfficeRecord) → row_at record_rank key (without_row record_rank key rows) ≡ None
found_without key rows =
    found-without record_rank key key rows ∙ ap (λ b. cond b None (row_at record_rank key rows)) (same-itself key)

module _ (key : List ℕ) where
  -- none is found among fewer
  found_among : (keep : OfficeRecord → Bool) (rows : List OfficeRecord) → row_at record_rank key rows ≡ None → row_at record_rank key (filter keep rows) ≡ None
  found_among keep [] none = refl
  found_among keep (r ∷ rows) none = choose (is_same (record_rank r) key) (keep r) refl none (found_among keep rows)
    where
      choose : (a b : Bool) → is_same (record_rank r) key ≡ a → cond a (Some r) (row_at record_rank key rows) ≡ None
          → (row_at record_rank key rows ≡ None → row_at record_rank key (filter keep rows) ≡ None)
          → row_at record_rank key (cond b (r ∷ filter keep rows) (filter keep rows)) ≡ None
      choose true b same found fewer = cc
      choose false true other rest fewer = ap (λ c. cond c (Some r) (row_at record_rank key (filter keep rows))) other ∙ fewer rest
      choose false false other rest fewer = fewer rest

pub found_dropped : (key : OfficeKey) (rows : List OfficeRecord) → row_at record_rank (key_numbers key) (without_key key (office_with rows)).records ≡ None
found_dropped (EventKey number) rows =
    found_among (key_numbers (EventKey number)) (λ row. not (is_same (record_rank row) (key_numbers (ConcurrenceKey number)))) (without_row record_rank (key_numbers (EventKey number)) rows)
    (found_without (key_numbers (EventKey number)) rows)
found_dropped key rows = found_without (key_numbers key) rows

-- an office of records alone stays one
pub only_records : (key : OfficeKey) (rows : List OfficeRecord) → without_key key (office_with rows) ≡ office_with (without_key key (office_with rows)).records
only_records (EventKey number) rows = refl
only_records key rows = refl

-- ---- what a line changed

-- a line in its form leaves what it leaves
pub valid-changed : (rows : List OfficeRecord) (line form : OfficeLine) → IsOffice (changed (office_with rows) (OfOffice line)) → line ≡ form → IsOffice (changed (office_with rows) (OfOffice form))
valid-changed rows line form valid is = subst (λ (l : OfficeLine). IsOffice (changed (office_with rows) (OfOffice l))) is valid

pub changes-seen : (rows new after : List OfficeRecord) (line form : OfficeLine) (made given : Changes) → made ≡ given → given ≡ changes_of rows after form → new ≡ after → line ≡ form → made ≡ changes_of rows new line
changes-seen rows new after line form made given is by now of = is ∙ by ∙ (λ i. changes_of rows (sym now i) (sym of i))

pub put_changes : (r : OfficeRecord) (rows : List OfficeRecord) → putting rows r ≡ changes_of rows (with_row record_rank r rows) (Put r)
put_changes r rows = ap (changes_with rows r) (sym (found-with record_rank (record_rank r) r rows ∙ ap (λ b. cond b (Some r) (row_at record_rank (record_rank r) rows)) (same-itself (record_rank r))))
  where
    changes_with : List OfficeRecord → OfficeRecord → Option OfficeRecord → Changes
    changes_with rows r now = record { first = record { old = record_of rows (key_of r); new = now }; second = None }

pub change_changes : (r : OfficeRecord) (rows : List OfficeRecord) → putting rows r ≡ changes_of rows (with_row record_rank r rows) (Change r)
change_changes r rows = put_changes r rows

pub dropped_changes : (key : OfficeKey) (rows : List OfficeRecord) → drop_changes rows key ≡ changes_of rows (without_key key (office_with rows)).records (Drop key)
dropped_changes key rows = ap (changes_with rows key) (sym (found_dropped key rows))
  where
    changes_with : List OfficeRecord → OfficeKey → Option OfficeRecord → Changes
    changes_with rows key now = record { first = record { old = record_of rows key; new = now }; second = option_map dropping (dropped_with rows key) }
