-- Deletions, updates and insertions of observations, printed as lines, are accepted one after the other.
use Rattle.std.proofs.Common.{◌≡◌, ℕ, ◌+◌, ◌<◌, ◌≤◌, Bool, true, false, not, cond, ◌&&◌, List, [], ◌∷◌, ◌++◌, length, map, Some, None, Option, option_map, is_some, is_none, refl, sym, ap, ◌∙◌, arith, subst}
use Rattle.std.specs.Prelude.{find, flat_map, fold, nat_le, unwrap_or}
use Rattle.std.specs.List.{list_all}
use Rattle.std.proofs.lemmas.Bool.{and_from, and_parts}
use Rattle.aq_base.specs.declared.day.TheConstants.{LAST_HOUR}
use Rattle.aq_base.specs.declared.monitor.Duration.{Duration}
use Rattle.aq_base.specs.declared.monitor.Duration.TheVariants.{Hour}
use Rattle.aq_base.specs.declared.observation.ObsKey.{ObsKey}
use Rattle.aq_base.specs.declared.observation.Observation.{Observation}
use Rattle.aq_base.specs.declared.rule.Rule.{Rule}
use Rattle.aq_base.specs.declared.rule.Rule.TheVariants.{UnknownMonitor, WrongDuration, AlreadyThere, NotThere, ObservationsFull}
use Rattle.aq_rules.specs.Extracts.BroughtUpToDate.{after_changes, changes_text}
use Rattle.aq_rules.specs.Extracts.Changes.{deletion_of, put_of}
use Rattle.aq_rules.specs.Limits.{MOST_OBSERVATIONS}
use Rattle.aq_rules.specs.Lines.Canonical.{canonical_rd, is_rd_value, rd_texts}
use Rattle.aq_rules.specs.Lines.RdForm.{RdValue, Put, Delete}
use Rattle.aq_rules.specs.Lines.Lines.{is_skipped}
use Rattle.aq_rules.specs.Lines.Reading.{OfRd}
use Rattle.aq_rules.specs.Lines.Spellings.{has_duration}
use Rattle.aq_rules.specs.Listed.LoadsBack.{LoadsTo}
use Rattle.aq_rules.specs.Office.Load.{after, changed, refusal}
use Rattle.aq_rules.specs.Office.Office.{Office, IsOffice, comes_before, content_of, duration_at, fits_monitors, is_content, is_poc, is_site, observation_at, observation_rank, rises, row_at, with_row, without_row}
use Rattle.aq_rules.specs.Office.Refusal.{breaks_office, broken, is_other_duration}
use Rattle.aq_rules.proofs.Elements.{Every}
use Rattle.aq_rules.proofs.Lookups.{before-other, found-with, found-without}
use Rattle.aq_rules.proofs.ObservationsLoadBack.{IsSample, begins_joined, has_room, key-same, no_other, rest-of, sample-is, there, to-every}
use Rattle.aq_rules.proofs.RisingRows.{all_later, length-with_row-new}
use Rattle.aq_rules.proofs.Samples.{round-rd}
use Rattle.aq_rules.proofs.WholeLines.{IsLine, ended, Accepts, read-plain, line-accepted, line-done, loaded, refused-none}

none_of_two : (p : Rule → Bool) (a b : Rule) → p a ≡ false → p b ≡ false → find p (a ∷ b ∷ []) ≡ None
none_of_two p a b x y = rw (x, y) refl

none_of_three : (p : Rule → Bool) (a b c : Rule) → p a ≡ false → p b ≡ false → p c ≡ false → find p (a ∷ b ∷ c ∷ []) ≡ None
none_of_three p a b c x y z = rw (x, y, z) refl

none_of_four : (p : Rule → Bool) (a b c d : Rule) → p a ≡ false → p b ≡ false → p c ≡ false → p d ≡ false → find p (a ∷ b ∷ c ∷ d ∷ []) ≡ None
none_of_four p a b c d w x y z = rw (w, x, y, z) refl

-- ---- lines of values

value_begins : (value : RdValue) → is_skipped (canonical_rd value) ≡ false
unfolding rd_texts
value_begins (Put update id duration hour content) = begins_joined (rd_texts (Put update id duration hour content)) _ refl
value_begins (Delete id hour) = begins_joined (rd_texts (Delete id hour)) _ refl

pub value_is_line : (value : RdValue) → is_rd_value value ≡ true → IsLine (canonical_rd value)
value_is_line value h = record { plain = read-plain (canonical_rd value) (OfRd value) (round-rd value h); read = value_begins value }

abbrev pub lines_of : List RdValue → List (List ℕ)
lines_of values = map canonical_rd values

are_lines : (values : List RdValue) → list_all is_rd_value values ≡ true → Every IsLine (lines_of values)
are_lines [] h = tt
are_lines (value ∷ values) h =
    let parts = and_parts (is_rd_value value) (list_all is_rd_value values) h in
    (value_is_line value parts.0, are_lines values parts.1)

texts_joined : (values : List RdValue) → changes_text values ≡ flat_map ended (lines_of values)
texts_joined [] = refl
texts_joined (value ∷ values) = ap (λ (l : List ℕ). ended (canonical_rd value) ++ l) (texts_joined values)

pub accepts-append : (first second : List (List ℕ)) (b c a : Office) → Accepts a first b → Accepts b second c → Accepts a (first ++ second) c
accepts-append [] second b c a h k = subst (λ before. Accepts before second c) (sym h) k
accepts-append (text ∷ first) second b c a h k = (h.0, accepts-append first second b c (after a text) h.1 k)

-- ---- lines that are accepted, cut in two

accepted-done : (now : Office) (value : RdValue) → is_rd_value value ≡ true → refusal now (canonical_rd value) ≡ None → after now (canonical_rd value) ≡ changed now (OfRd value)
accepted-done now value spelled unrefused = rw (unrefused, round-rd value spelled) refl

pub front-done : (before last : Office) (front rest : List RdValue) → list_all is_rd_value front ≡ true → Accepts before (lines_of (front ++ rest)) last
    → Accepts (after_changes before front) (lines_of rest) last
front-done before last [] rest spelled h = h
front-done before last (value ∷ front) rest spelled h =
    let parts = and_parts (is_rd_value value) (list_all is_rd_value front) spelled in
    front-done (changed before (OfRd value)) last front rest parts.1
    (subst (λ now. Accepts now (lines_of (front ++ rest)) last) (accepted-done before value parts.0 h.0) h.1)

pub piece-accepted : (before last : Office) (piece rest : List RdValue) → list_all is_rd_value piece ≡ true → Accepts before (lines_of (piece ++ rest)) last
    → Accepts before (lines_of piece) (after_changes before piece)
piece-accepted before last [] rest spelled h = refl
piece-accepted before last (value ∷ piece) rest spelled h =
    let parts = and_parts (is_rd_value value) (list_all is_rd_value piece) spelled in
    let done = accepted-done before value parts.0 h.0 in
    let others = subst (λ now. Accepts now (lines_of (piece ++ rest)) last) done h.1 in (
      h.0,
      subst (λ now. Accepts now (lines_of piece) (after_changes (changed before (OfRd value)) piece)) (sym done)
          (piece-accepted (changed before (OfRd value)) last piece rest parts.1 others),
    )

-- what is accepted line by line is a load
pub changes-load : (before last : Office) (values : List RdValue) → list_all is_rd_value values ≡ true → Accepts before (lines_of values) last
    → LoadsTo before (changes_text values) last
changes-load before last values spelled accepts =
    let lines = are_lines values spelled in
    subst (λ body. LoadsTo before body last) (sym (texts_joined values))
    (record { accepted = refused-none before last (lines_of values) lines accepts; makes = loaded before last (lines_of values) lines accepts })

-- a value that is read and breaks no rule
accepts-value : (now next : Office) (value : RdValue) (texts : List (List ℕ)) (last : Office) → is_rd_value value ≡ true → broken now (OfRd value) ≡ None → changed now (OfRd value) ≡ next
    → Accepts next texts last → Accepts now (canonical_rd value ∷ texts) last
accepts-value now next value texts last spelled unbroken makes others =
    let read = round-rd value spelled in (
      line-accepted now (canonical_rd value) (OfRd value) read unbroken,
      subst (λ before. Accepts before texts last) (sym (line-done now (canonical_rd value) (OfRd value) read unbroken ∙ makes)) others,
    )

-- ---- each value, over an office with the same records

abbrev pub with_observations : Office → List (ObsKey × Observation) → Office
with_observations now rows = record now { observations = rows }

-- ---- rows that are dropped from a list, or put into it

abbrev pub dropped : List (ObsKey × Observation) → List (ObsKey × Observation) → List (ObsKey × Observation)
dropped standing rows = fold (λ now row. without_row observation_rank (observation_rank row) now) standing rows

abbrev pub put : List (ObsKey × Observation) → List (ObsKey × Observation) → List (ObsKey × Observation)
put standing rows = fold (λ now row. with_row observation_rank row now) standing rows

abbrev pub Stands : List (ObsKey × Observation) → (ObsKey × Observation) → Type 0
Stands rows row = is_some (row_at observation_rank (observation_rank row) rows) ≡ true

abbrev pub Free : List (ObsKey × Observation) → (ObsKey × Observation) → Type 0
Free rows row = row_at observation_rank (observation_rank row) rows ≡ None

pub is_some-map : {A B : Type 0} (f : A → B) (o : Option A) → is_some (option_map f o) ≡ is_some o
is_some-map f None = refl
is_some-map f (Some x) = refl

still-stands : (row : ObsKey × Observation) (standing piece : List (ObsKey × Observation)) → Every (λ q. comes_before (observation_rank row) (observation_rank q) ≡ true) piece
    → Every (Stands standing) piece → Every (Stands (without_row observation_rank (observation_rank row) standing)) piece
still-stands row standing [] later h = tt
still-stands row standing (q ∷ piece) later h =
    let other = before-other (observation_rank row) (observation_rank q) later.0 in
    let found = found-without observation_rank (observation_rank q) (observation_rank row) standing in (
      ap is_some (found ∙ ap (λ b. cond b None (row_at observation_rank (observation_rank q) standing)) other) ∙ h.0,
      still-stands row standing piece later.1 h.1,
    )

put-leaves : (row q : ObsKey × Observation) (standing : List (ObsKey × Observation)) → comes_before (observation_rank row) (observation_rank q) ≡ true
    → row_at observation_rank (observation_rank q) (with_row observation_rank row standing) ≡ row_at observation_rank (observation_rank q) standing
put-leaves row q standing earlier =
    found-with observation_rank (observation_rank q) row standing
    ∙ ap (λ b. cond b (Some row) (row_at observation_rank (observation_rank q) standing)) (before-other (observation_rank row) (observation_rank q) earlier)

stands-on : (row : ObsKey × Observation) (standing piece : List (ObsKey × Observation)) → Every (λ q. comes_before (observation_rank row) (observation_rank q) ≡ true) piece
    → Every (Stands standing) piece → Every (Stands (with_row observation_rank row standing)) piece
stands-on row standing [] later h = tt
stands-on row standing (q ∷ piece) later h = (ap is_some (put-leaves row q standing later.0) ∙ h.0, stands-on row standing piece later.1 h.1)

pub free-on : (row : ObsKey × Observation) (standing piece : List (ObsKey × Observation)) → Every (λ q. comes_before (observation_rank row) (observation_rank q) ≡ true) piece
    → Every (Free standing) piece → Every (Free (with_row observation_rank row standing)) piece
free-on row standing [] later h = tt
free-on row standing (q ∷ piece) later h = (put-leaves row q standing later.0 ∙ h.0, free-on row standing piece later.1 h.1)

module _ (office : Office) (valid : IsOffice office) where
  pub deletion_spelled : (row : ObsKey × Observation) → fits_monitors office row ≡ true → is_rd_value (deletion_of row) ≡ true
  deletion_spelled row fits =
      let s = sample-is office row valid fits in
      and_from (is_site row.0.monitor.site && is_poc row.0.monitor.poc) (nat_le row.0.hour LAST_HOUR) s.named s.hour

  pub put_spelled : (update : Bool) (row : ObsKey × Observation) → fits_monitors office row ≡ true → is_some row.1.method ≡ true → is_rd_value (put_of update office row) ≡ true
  put_spelled update row fits method =
      let s = sample-is office row valid fits in
      let id = row.0.monitor in
      let taken = ap (λ (o : Option Duration). has_duration id.pollutant (unwrap_or o Hour)) s.is ∙ s.taken in
      and_from _ (is_content id.pollutant row.1)
      (and_from _ (nat_le row.0.hour LAST_HOUR)
      (and_from _ (is_some row.1.method) (and_from (is_site id.site && is_poc id.poc) (has_duration id.pollutant (unwrap_or (duration_at office id) Hour)) s.named taken) method) s.hour)
      s.content

  module _ (now : Office) (same : now.records ≡ office.records) (row : ObsKey × Observation) (fits : fits_monitors office row ≡ true) where
    abbrev s : IsSample office row
    s = sample-is office row valid fits

    drop-accepted : is_some (observation_at now row.0) ≡ true → broken now (OfRd (deletion_of row)) ≡ None
    drop-accepted stands =
        none_of_two (λ rule. breaks_office rule now (OfRd (deletion_of row))) UnknownMonitor NotThere
        (ap is_none (there office now same row s))
        (ap (λ (key : ObsKey). not (is_some (observation_at now key))) (key-same office now same row s) ∙ ap not stands)

    drop-done : changed now (OfRd (deletion_of row)) ≡ with_observations now (without_row observation_rank (observation_rank row) now.observations)
    drop-done = ap (λ (key : ObsKey). with_observations now (without_row observation_rank (observation_rank (key, row.1)) now.observations)) (key-same office now same row s)

    same_duration : is_other_duration (duration_at now row.0.monitor) (unwrap_or (duration_at office row.0.monitor) Hour) ≡ false
    same_duration = (λ i. is_other_duration (there office now same row s i) (unwrap_or (s.is i) Hour)) ∙ no_other s.duration

    update-accepted : is_some (observation_at now row.0) ≡ true → broken now (OfRd (put_of true office row)) ≡ None
    update-accepted stands =
        none_of_three (λ rule. breaks_office rule now (OfRd (put_of true office row))) UnknownMonitor WrongDuration NotThere
        (ap is_none (there office now same row s)) same_duration
        (ap (λ (key : ObsKey). not (is_some (observation_at now key))) (key-same office now same row s) ∙ ap not stands)

    insert-accepted : observation_at now row.0 ≡ None → length now.observations < MOST_OBSERVATIONS → broken now (OfRd (put_of false office row)) ≡ None
    insert-accepted free room =
        none_of_four (λ rule. breaks_office rule now (OfRd (put_of false office row))) UnknownMonitor WrongDuration AlreadyThere ObservationsFull
        (ap is_none (there office now same row s)) same_duration
        (ap (λ (key : ObsKey). is_some (observation_at now key)) (key-same office now same row s) ∙ ap is_some free)
        (has_room (length now.observations) MOST_OBSERVATIONS room)

    put-done : (update : Bool) → changed now (OfRd (put_of update office row)) ≡ with_observations now (with_row observation_rank row now.observations)
    put-done update = ap (λ (key : ObsKey). with_observations now (with_row observation_rank (key, row.1) now.observations)) (key-same office now same row s)

  -- ---- lists of them

  pub drops-accepted : (now : Office) (piece : List (ObsKey × Observation)) → now.records ≡ office.records → list_all (fits_monitors office) piece ≡ true → rises observation_rank piece ≡ true
      → Every (Stands now.observations) piece → Accepts now (lines_of (map deletion_of piece)) (with_observations now (dropped now.observations piece))
  drops-accepted now [] same fits rising stands = refl
  drops-accepted now (row ∷ piece) same fits rising stands =
      let parts = and_parts (fits_monitors office row) (list_all (fits_monitors office) piece) fits in
      let later = to-every _ piece (all_later observation_rank row piece rising) in
      let next : Office = with_observations now (without_row observation_rank (observation_rank row) now.observations) in
      accepts-value now next (deletion_of row) (lines_of (map deletion_of piece)) (with_observations now (dropped now.observations (row ∷ piece)))
      (deletion_spelled row parts.0)
      (drop-accepted now same row parts.0 (is_some-map content_of (row_at observation_rank (observation_rank row) now.observations) ∙ stands.0))
      (drop-done now same row parts.0)
      (drops-accepted next piece same parts.1 (rest-of row piece rising) (still-stands row now.observations piece later stands.1))

  pub updates-accepted : (now : Office) (piece : List (ObsKey × Observation)) → now.records ≡ office.records → list_all (fits_monitors office) piece ≡ true
      → list_all (λ (row : ObsKey × Observation). is_some row.1.method) piece ≡ true → rises observation_rank piece ≡ true
      → Every (Stands now.observations) piece → Accepts now (lines_of (map (put_of true office) piece)) (with_observations now (put now.observations piece))
  updates-accepted now [] same fits methods rising stands = refl
  updates-accepted now (row ∷ piece) same fits methods rising stands =
      let parts = and_parts (fits_monitors office row) (list_all (fits_monitors office) piece) fits in
      let method = and_parts (is_some row.1.method) (list_all (λ (r : ObsKey × Observation). is_some r.1.method) piece) methods in
      let later = to-every _ piece (all_later observation_rank row piece rising) in
      let next : Office = with_observations now (with_row observation_rank row now.observations) in
      accepts-value now next (put_of true office row) (lines_of (map (put_of true office) piece)) (with_observations now (put now.observations (row ∷ piece)))
      (put_spelled true row parts.0 method.0)
      (update-accepted now same row parts.0 (is_some-map content_of (row_at observation_rank (observation_rank row) now.observations) ∙ stands.0))
      (put-done now same row parts.0 true)
      (updates-accepted next piece same parts.1 method.1 (rest-of row piece rising) (stands-on row now.observations piece later stands.1))

  pub inserts-accepted : (now : Office) (piece : List (ObsKey × Observation)) → now.records ≡ office.records → list_all (fits_monitors office) piece ≡ true
      → list_all (λ (row : ObsKey × Observation). is_some row.1.method) piece ≡ true → rises observation_rank piece ≡ true
      → Every (Free now.observations) piece → length now.observations + length piece ≤ MOST_OBSERVATIONS
      → Accepts now (lines_of (map (put_of false office) piece)) (with_observations now (put now.observations piece))
  inserts-accepted now [] same fits methods rising free few = refl
  inserts-accepted now (row ∷ piece) same fits methods rising free few =
      let parts = and_parts (fits_monitors office row) (list_all (fits_monitors office) piece) fits in
      let method = and_parts (is_some row.1.method) (list_all (λ (r : ObsKey × Observation). is_some r.1.method) piece) methods in
      let later = to-every _ piece (all_later observation_rank row piece rising) in
      let longer = length-with_row-new observation_rank row now.observations free.0 in
      let next : Office = with_observations now (with_row observation_rank row now.observations) in
      accepts-value now next (put_of false office row) (lines_of (map (put_of false office) piece)) (with_observations now (put now.observations (row ∷ piece)))
      (put_spelled false row parts.0 method.0)
      (insert-accepted now same row parts.0 (ap (option_map content_of) free.0) (omega (arith, few)))
      (put-done now same row parts.0 false)
      (inserts-accepted next piece same parts.1 method.1 (rest-of row piece rising) (free-on row now.observations piece later free.1) (omega (arith, few, longer)))
