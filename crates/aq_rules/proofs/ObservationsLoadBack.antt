-- Standing observations of a valid office, printed as lines, load back over an office with its records.
use Rattle.std.proofs.Common.{◌≡◌, ℕ, ◌+◌, ◌*◌, ◌/◌, ◌%◌, ◌<◌, ◌≤◌, Bool, true, false, cond, ◌&&◌, List, [], ◌∷◌, ◌++◌, length, map, Some, None, Option, option_map, is_some, is_none, refl, sym, ap, ◌∙◌, arith, subst}
use Rattle.std.specs.Prelude.{All, filter, find, flat_map, nat_le, codes, unwrap_or}
use Rattle.std.specs.List.{AllByRecursion, list_all}
use Rattle.std.proofs.lemmas.Bool.{and_from, and_parts, eqb-true}
use Rattle.std.proofs.lemmas.Bool.Decides.{nat_tests}
use Rattle.aq_base.specs.Site.{Site}
use Rattle.aq_base.specs.declared.monitor.Duration.{Duration}
use Rattle.aq_base.specs.declared.monitor.Duration.TheVariants.{Hour, Day}
use Rattle.aq_base.specs.declared.monitor.MonitorId.{MonitorId}
use Rattle.aq_base.specs.declared.monitor.Pollutant.{Pollutant}
use Rattle.aq_base.specs.declared.observation.ObsKey.{ObsKey}
use Rattle.aq_base.specs.declared.observation.Observation.{Observation}
use Rattle.aq_base.specs.declared.office.OfficeRecord.{OfficeRecord}
use Rattle.aq_base.specs.declared.office.OfficeRecord.TheVariants.{Monitor}
use Rattle.aq_base.specs.declared.office.OfficeKey.TheVariants.{Monitor as MonitorKey}
use Rattle.aq_base.specs.declared.day.TheConstants.{LAST_HOUR}
use Rattle.aq_base.specs.declared.rule.Rule.{Rule}
use Rattle.aq_base.specs.declared.rule.Rule.TheVariants.{UnknownMonitor, WrongDuration, AlreadyThere, ObservationsFull}
use Rattle.aq_rules.specs.Limits.{MOST_OBSERVATIONS}
use Rattle.aq_rules.specs.Lines.Canonical.{canonical_rd, is_rd_value, joined, rd_texts}
use Rattle.aq_rules.specs.Lines.Lines.{is_skipped}
use Rattle.aq_rules.specs.Lines.RdForm.{Put}
use Rattle.aq_rules.specs.Lines.Reading.{OfRd, line_value}
use Rattle.aq_rules.specs.Lines.Spellings.{◌>>=◌, has_duration}
use Rattle.aq_rules.specs.Listed.LoadsBack.{LoadsTo, observations_text, said, with_rows}
use Rattle.std.proofs.lemmas.List.Elements.{All-head, All-tail}
use Rattle.aq_rules.specs.Listed.Places.{is_in_year, is_of_series, standing_of}
use Rattle.aq_rules.specs.Listed.ObservationLines.{insertion_of, with_method}
use Rattle.aq_rules.specs.Office.Load.{changed}
use Rattle.aq_rules.specs.Office.Office.{Office, IsOffice, comes_before, content_of, duration_at, fits_monitors, is_content, is_kept_hour, is_method, is_poc, is_site, key_numbers, monitor_duration, observation_at, observation_rank, record_at, record_rank, rises, rises_from, row_at, with_row}
use Rattle.aq_rules.specs.Office.Refusal.{breaks_office, broken, is_other_duration, kept_at, kept_key}
use Rattle.aq_rules.proofs.Elements.{Every}
use Rattle.aq_rules.proofs.Joined.{join-cons}
use Rattle.aq_rules.proofs.Lookups.{before-other, found-with, same-is}
use Rattle.aq_rules.proofs.OfficeBack.{IfFound, found-fits, monitor-named}
use Rattle.aq_rules.specs.Office.RowOrder.{filter-rises}
use Rattle.aq_rules.proofs.Fronts.{rises-front}
use Rattle.aq_rules.proofs.RowsPlaced.{filter_all}
use Rattle.aq_rules.proofs.RisingRows.{all_later, length-with_row-new}
use Rattle.aq_rules.proofs.Samples.{round-rd}
use Rattle.aq_rules.proofs.ValidAfter.{monitor_is}
use Rattle.aq_rules.proofs.WholeLines.{IsLine, ended, Accepts, refused-none, loaded, read-plain, line-accepted, line-done}

-- ---- a standing observation as a sample

-- by the duration of its monitor
pub record IsSample (office : Office) (row : ObsKey × Observation) : Type 0 where
  pub duration : Duration
  pub is : duration_at office row.0.monitor ≡ Some duration
  pub hour : nat_le row.0.hour LAST_HOUR ≡ true
  pub kept : is_kept_hour (Some duration) row.0.hour ≡ true
  pub named : (is_site row.0.monitor.site && is_poc row.0.monitor.poc) ≡ true
  pub taken : has_duration row.0.monitor.pollutant duration ≡ true
  pub content : is_content row.0.monitor.pollutant row.1 ≡ true

-- a registered monitor has a duration of its pollutant
duration-taken : (id : MonitorId) (o : Option OfficeRecord) (duration : Duration) → IfFound (key_numbers (MonitorKey id)) o → (o >>= monitor_duration) ≡ Some duration
    → has_duration id.pollutant duration ≡ true
duration-taken id None duration found is = cc
duration-taken id (Some (Monitor other period eligible)) duration found is =
    let same : other ≡ id = monitor_is other id (same-is (key_numbers (MonitorKey other)) (key_numbers (MonitorKey id)) found.1) in
    let period_is : period ≡ duration = cc in
    let parts = and_parts (is_site other.site && is_poc other.poc) (has_duration other.pollutant period) found.0 in
    subst (λ (d : Duration). has_duration id.pollutant d ≡ true) period_is (subst (λ (m : MonitorId). has_duration m.pollutant period ≡ true) same parts.1)
duration-taken id (Some r) duration found is = cc

pub sample-is : (office : Office) (row : ObsKey × Observation) → IsOffice office → fits_monitors office row ≡ true → IsSample office row
sample-is office row valid fits =
    let id = row.0.monitor in
    let b = and_parts _ (is_content id.pollutant row.1) fits in
    let a = and_parts (nat_le row.0.hour LAST_HOUR) (is_kept_hour (duration_at office id) row.0.hour) b.0 in
    let found = found-fits office (key_numbers (MonitorKey id)) office.records valid.records_fit in
    by_duration (duration_at office id) refl a.0 a.1 (monitor-named id (record_at office (MonitorKey id)) row.0.hour found a.1)
    (λ duration is. duration-taken id (record_at office (MonitorKey id)) duration found is) b.1
  where
    by_duration : (o : Option Duration) → duration_at office row.0.monitor ≡ o → nat_le row.0.hour LAST_HOUR ≡ true → is_kept_hour o row.0.hour ≡ true
        → (is_site row.0.monitor.site && is_poc row.0.monitor.poc) ≡ true
        → ((duration : Duration) → duration_at office row.0.monitor ≡ Some duration → has_duration row.0.monitor.pollutant duration ≡ true)
        → is_content row.0.monitor.pollutant row.1 ≡ true → IsSample office row
    by_duration None e hour kept named taken content = cc
    by_duration (Some duration) e hour kept named taken content =
        record { duration = duration; is = e; hour = hour; kept = kept; named = named; taken = taken duration e; content = content }

-- ---- its line

method_said : (method : Option ℕ) → is_method method ≡ true → is_method (Some (unwrap_or method 0)) ≡ true
method_said None h = refl
method_said (Some method) h = h

spelled : (office : Office) (row : ObsKey × Observation) → IsSample office row → is_rd_value (insertion_of office row) ≡ true
spelled office row s =
    let id = row.0.monitor in
    let content = and_parts _ (is_method row.1.method) s.content in
    let taken = ap (λ (o : Option Duration). has_duration id.pollutant (unwrap_or o Hour)) s.is ∙ s.taken in
    and_from _ (is_content id.pollutant (with_method row.1))
    (and_from _ (nat_le row.0.hour LAST_HOUR) (and_from _ true (and_from (is_site id.site && is_poc id.poc) _ s.named taken) refl) s.hour)
    (and_from _ (is_method (Some (unwrap_or row.1.method 0))) content.0 (method_said row.1.method content.1))

pub begins_joined : (texts words : List (List ℕ)) → texts ≡ codes "RD" ∷ words → is_skipped (joined texts) ≡ false
begins_joined texts words is = ap (λ (t : List (List ℕ)). is_skipped (joined t)) is ∙ ap is_skipped (join-cons 124 (codes "RD") words)

begins : (update : Bool) (id : MonitorId) (duration : Duration) (hour : ℕ) (content : Observation) → is_skipped (canonical_rd (Put update id duration hour content)) ≡ false
unfolding rd_texts
begins update id duration hour content = begins_joined (rd_texts (Put update id duration hour content)) _ refl

row_value : (office : Office) (row : ObsKey × Observation) → IsSample office row → line_value (canonical_rd (insertion_of office row)) ≡ Some (OfRd (insertion_of office row))
row_value office row s = round-rd (insertion_of office row) (spelled office row s)

row_is_line : (office : Office) (row : ObsKey × Observation) → IsSample office row → IsLine (canonical_rd (insertion_of office row))
row_is_line office row s = record {
  plain = read-plain (canonical_rd (insertion_of office row)) (OfRd (insertion_of office row)) (row_value office row s);
  read = begins false row.0.monitor (unwrap_or (duration_at office row.0.monitor) Hour) row.0.hour (with_method row.1);
}

-- ---- it is accepted where its key is free

kept-same : (duration : Duration) (hour : ℕ) → is_kept_hour (Some duration) hour ≡ true → kept_at (Some duration) hour ≡ hour
kept-same Hour hour h = refl
kept-same Day hour h = whole hour (eqb-true (hour % 24) 0 h)
  where
    whole : (hour : ℕ) → hour % 24 ≡ 0 → 24 * (hour / 24) + 0 ≡ hour
    whole hour h = omega arith

pub no_other : (duration : Duration) → is_other_duration (Some duration) duration ≡ false
no_other Hour = refl
no_other Day = refl

pub has_room : (n most : ℕ) → n < most → nat_le most n ≡ false
has_room n most h = grind (arith, nat_tests)

none_of : (p : Rule → Bool) (a b c d : Rule) → p a ≡ false → p b ≡ false → p c ≡ false → p d ≡ false → find p (a ∷ b ∷ c ∷ d ∷ []) ≡ None
none_of p a b c d w x y z = rw (w, x, y, z) refl

module _ (office now : Office) (same : now.records ≡ office.records) where
  pub there : (row : ObsKey × Observation) (s : IsSample office row) → duration_at now row.0.monitor ≡ Some s.duration
  there row s = ap (λ (rows : List OfficeRecord). row_at record_rank (key_numbers (MonitorKey row.0.monitor)) rows >>= monitor_duration) same ∙ s.is

  pub key-same : (row : ObsKey × Observation) → IsSample office row → kept_key now row.0.monitor row.0.hour ≡ row.0
  key-same row s =
      let hour : kept_at (duration_at now row.0.monitor) row.0.hour ≡ row.0.hour =
      ap (λ (o : Option Duration). kept_at o row.0.hour) (there row s) ∙ kept-same s.duration row.0.hour s.kept
      in
      λ i. record { monitor = row.0.monitor; hour = hour i }

  row-accepted : (row : ObsKey × Observation) → IsSample office row → observation_at now row.0 ≡ None → length now.observations < MOST_OBSERVATIONS
      → broken now (OfRd (insertion_of office row)) ≡ None
  row-accepted row s free room =
      none_of (λ rule. breaks_office rule now (OfRd (insertion_of office row))) UnknownMonitor WrongDuration AlreadyThere ObservationsFull
      (ap is_none (there row s))
      ((λ i. is_other_duration (there row s i) (unwrap_or (s.is i) Hour)) ∙ no_other s.duration)
      (ap (λ (key : ObsKey). is_some (observation_at now key)) (key-same row s) ∙ ap is_some free)
      (has_room (length now.observations) MOST_OBSERVATIONS room)

  row-done : (row : ObsKey × Observation) → IsSample office row
      → changed now (OfRd (insertion_of office row)) ≡ record now { observations = with_row observation_rank (said row) now.observations }
  row-done row s = ap (λ (key : ObsKey). record now { observations = with_row observation_rank (key, with_method row.1) now.observations }) (key-same row s)

-- ---- a piece

abbrev Free : Office → (ObsKey × Observation) → Type 0
Free now row = observation_at now row.0 ≡ None

pub to-every : {X : Type 0} (P : X → Type 0) (xs : List X) → AllByRecursion P xs → Every P xs
to-every P [] all = tt
to-every P (x ∷ xs) all = (all.0, to-every P xs all.1)

pub not-mapped : {A B : Type 0} (f : A → B) (o : Option A) → option_map f o ≡ None → o ≡ None
not-mapped f None h = refl
not-mapped f (Some x) h = cc

-- a row put at another key leaves a key free
still-free : (now : Office) (row : ObsKey × Observation) (piece : List (ObsKey × Observation)) → Every (λ q. comes_before (observation_rank row) (observation_rank q) ≡ true) piece
    → Every (Free now) piece → Every (Free (record now { observations = with_row observation_rank (said row) now.observations })) piece
still-free now row [] later free = tt
still-free now row (q ∷ piece) later free =
    let other = before-other (observation_rank row) (observation_rank q) later.0 in
    let found = found-with observation_rank (observation_rank q) (said row) now.observations in
    let as_before : row_at observation_rank (observation_rank q) (with_row observation_rank (said row) now.observations) ≡ row_at observation_rank (observation_rank q) now.observations =
    found ∙ ap (λ b. cond b (Some (said row)) (row_at observation_rank (observation_rank q) now.observations)) other
    in
    (ap (option_map content_of) as_before ∙ free.0, still-free now row piece later.1 free.1)

pub rest-of : (row : ObsKey × Observation) (piece : List (ObsKey × Observation)) → rises_from observation_rank row piece ≡ true → rises observation_rank piece ≡ true
rest-of row [] h = refl
rest-of row (q ∷ piece) h = (and_parts (comes_before (observation_rank row) (observation_rank q)) (rises_from observation_rank q piece) h).1

abbrev lines_of : Office → List (ObsKey × Observation) → List (List ℕ)
lines_of office rows = map (λ row. canonical_rd (insertion_of office row)) rows

texts_joined : (office : Office) (rows : List (ObsKey × Observation)) → observations_text office rows ≡ flat_map ended (lines_of office rows)
texts_joined office [] = refl
texts_joined office (row ∷ rows) = ap (λ (l : List ℕ). ended (canonical_rd (insertion_of office row)) ++ l) (texts_joined office rows)

are_lines : (office : Office) (piece : List (ObsKey × Observation)) → IsOffice office → list_all (fits_monitors office) piece ≡ true → Every IsLine (lines_of office piece)
are_lines office [] valid fits = tt
are_lines office (row ∷ piece) valid fits =
    let parts = and_parts (fits_monitors office row) (list_all (fits_monitors office) piece) fits in
    (row_is_line office row (sample-is office row valid parts.0), are_lines office piece valid parts.1)

piece-accepted : (office now : Office) (piece : List (ObsKey × Observation)) → IsOffice office → now.records ≡ office.records
    → list_all (fits_monitors office) piece ≡ true → rises observation_rank piece ≡ true → Every (Free now) piece → length now.observations + length piece ≤ MOST_OBSERVATIONS
    → Accepts now (lines_of office piece) (record now { observations = with_rows piece now.observations })
piece-accepted office now [] valid same fits rising free few = refl
piece-accepted office now (row ∷ piece) valid same fits rising free few =
    let parts = and_parts (fits_monitors office row) (list_all (fits_monitors office) piece) fits in
    let s = sample-is office row valid parts.0 in
    let value = row_value office row s in
    let unbroken = row-accepted office now same row s free.0 (omega (arith, few)) in
    let then_ : Office = record now { observations = with_row observation_rank (said row) now.observations } in
    let step = line-done now (canonical_rd (insertion_of office row)) (OfRd (insertion_of office row)) value unbroken ∙ row-done office now same row s in
    let later = to-every _ piece (all_later observation_rank row piece rising) in
    let longer = length-with_row-new observation_rank (said row) now.observations (not-mapped content_of _ free.0) in
    let others =
    piece-accepted office then_ piece valid same parts.1 (rest-of row piece rising) (still-free now row piece later free.1) (omega (arith, few, longer))
    in (
      line-accepted now (canonical_rd (insertion_of office row)) (OfRd (insertion_of office row)) value unbroken,
      subst (λ before. Accepts before (lines_of office piece) (record now { observations = with_rows (row ∷ piece) now.observations })) (sym step) others,
    )

pub observations-back : (office now : Office) (piece : List (ObsKey × Observation)) → IsOffice office → now.records ≡ office.records
    → list_all (fits_monitors office) piece ≡ true → rises observation_rank piece ≡ true → Every (Free now) piece → length now.observations + length piece ≤ MOST_OBSERVATIONS
    → LoadsTo now (observations_text office piece) (record now { observations = with_rows piece now.observations })
observations-back office now piece valid same fits rising free few =
    let lines = are_lines office piece valid fits in
    let accepts = piece-accepted office now piece valid same fits rising free few in
    subst (λ body. LoadsTo now body (record now { observations = with_rows piece now.observations })) (sym (texts_joined office piece))
    (record { accepted = refused-none now _ (lines_of office piece) lines accepts; makes = loaded now _ (lines_of office piece) lines accepts })

-- ---- a piece of the lines of a site, pollutant and year

every-of : {X : Type 0} (P : X → Type 0) (xs : List X) → All P xs → Every P xs
every-of P [] all = tt
every-of P (x ∷ xs) all = (All-head P x xs all, every-of P xs (All-tail P x xs all))

pub all-middle : {X : Type 0} (p : X → Bool) (front piece rest : List X) → list_all p (front ++ (piece ++ rest)) ≡ true → list_all p piece ≡ true
all-middle p [] [] rest h = refl
all-middle p [] (x ∷ piece) rest h =
    let parts = and_parts (p x) (list_all p (piece ++ rest)) h in
    and_from (p x) (list_all p piece) parts.0 (all-middle p [] piece rest parts.1)
all-middle p (x ∷ front) piece rest h = all-middle p front piece rest (and_parts (p x) (list_all p (front ++ (piece ++ rest))) h).1

rises-back : (front rows : List (ObsKey × Observation)) → rises observation_rank (front ++ rows) ≡ true → rises observation_rank rows ≡ true
rises-back [] rows h = h
rises-back (row ∷ front) rows h = rises-back front rows (rest-of row (front ++ rows) h)

pub lines-back : (office now : Office) (site : Site) (pollutant : Pollutant) (year : ℕ) (front piece rest : List (ObsKey × Observation)) → IsOffice office → now.records ≡ office.records
    → filter (is_in_year year) (standing_of office site pollutant) ≡ front ++ (piece ++ rest)
    → All (λ row. observation_at now row.0 ≡ None) piece → length now.observations + length piece ≤ MOST_OBSERVATIONS
    → LoadsTo now (observations_text office piece) (record now { observations = with_rows piece now.observations })
unfolding standing_of
lines-back office now site pollutant year front piece rest valid same is free few =
    let series = is_of_series site pollutant in
    let fits =
    filter_all (fits_monitors office) (is_in_year year) (filter series office.observations)
    (filter_all (fits_monitors office) series office.observations valid.observations_fit)
    in
    let rising =
    filter-rises observation_rank (is_in_year year) (filter series office.observations)
    (filter-rises observation_rank series office.observations valid.keys_rise.observations)
    in
    let piece_fits = all-middle (fits_monitors office) front piece rest (sym (ap (list_all (fits_monitors office)) is) ∙ fits) in
    let back = rises-back front (piece ++ rest) (sym (ap (rises observation_rank) is) ∙ rising) in
    observations-back office now piece valid same piece_fits (rises-front observation_rank piece rest back) (every-of (Free now) piece free) few
