-- The events of a site and pollutant: one after another by their numbers, and that they stand.
use Rattle.std.proofs.Common.{◌≡◌, ℕ, Bool, true, false, cond, ◌&&◌, ◌||◌, ◌==◌, Option, Some, None, is_some, List, [], ◌∷◌, refl, ap, sym, subst, ◌∙◌, arith}
use Rattle.std.specs.Prelude.{IfSome, filter, filter_map, nat_lt, nat_le, slice_get}
use Rattle.std.specs.List.{AllByRecursion, cons_option, list_all}
use Rattle.std.specs.Ordering.{is_le, nat_cmp}
use Rattle.std.proofs.lemmas.Bool.{false≢true, and_parts}
use Rattle.std.proofs.lemmas.Bool.Decides.{nat_tests}
use Rattle.aq_base.specs.Site.{Site}
use Rattle.aq_base.specs.declared.monitor.Pollutant.{Pollutant}
use Rattle.aq_base.specs.declared.office.OfficeRecord.{OfficeRecord}
use Rattle.aq_base.specs.declared.office.OfficeRecord.TheVariants.{Event}
use Rattle.aq_rules.specs.Lines.Spellings.{is_event_number}
use Rattle.aq_rules.specs.Office.Monitors.{is_same_site, is_same_pollutant}
use Rattle.aq_rules.specs.Office.Office.{IsOffice, Office, comes_before, event_stands, fits_records, is_content_of, is_key, is_record, is_same, key_of, most_in_group, group_size, has_its_event, has_its_monitor, parameter_number, record_rank, rises, rises_from, row_at, series_numbers}
use Rattle.aq_rules.specs.Office.Questions.{first_given}
use Rattle.aq_rules.specs.WhatIf.Assumed.{event_at, events_at}
use Rattle.aq_rules.proofs.Lookups.{same-itself}
use Rattle.aq_registry.specs.Events.{event_above, events_above}
use Rattle.aq_registry.specs.Places.{lies_between, of_event, of_kind}
use Rattle.aq_registry.specs.Registry.{office_with}
use Rattle.aq_registry.specs.declared.place.Place.{Place}
use Rattle.aq_registry.proofs.QuestionLemmas.{four_tests, same-parameters}

-- what holds of each value that an answer may have
pub if-some : {X : Type 0} (o : Option X) (P : X → Type 0) → ((x : X) → o ≡ Some x → P x) → IfSome o P
if-some None P holds = tt
if-some (Some x) P holds = holds x refl

-- ---- a site and pollutant as numbers

pub event_series : (a b : Site) (p q : Pollutant) → is_same (series_numbers a p) (series_numbers b q) ≡ (is_same_site a b && is_same_pollutant p q)
event_series a b p q =
    sym (four_tests (a.state == b.state) (a.county == b.county) (a.number == b.number) (parameter_number p == parameter_number q))
    ∙ ap (λ (t : Bool). is_same_site a b && t) (sym (same-parameters p q))

-- ---- numbers that rise

abbrev number_rank : ℕ → List ℕ
number_rank number = number ∷ []

-- all of them are above a number
abbrev Above : ℕ → List ℕ → Type 0
Above low numbers = AllByRecursion (λ n. nat_lt low n ≡ true) numbers

less_of : (m n : ℕ) → comes_before (m ∷ []) (n ∷ []) ≡ true → nat_lt m n ≡ true
less_of m n before = by (nat_lt m n) (m == n) before
  where
    by : (less same : Bool) → (less || (same && false)) ≡ true → less ≡ true
    by true same h = refl
    by false true h = h
    by false false h = h

above-from : (low first : ℕ) (numbers : List ℕ) → nat_lt low first ≡ true → rises_from number_rank first numbers ≡ true → Above low numbers
above-from low first [] less rising = tt
above-from low first (next ∷ numbers) less rising =
    let parts = and_parts (comes_before (first ∷ []) (next ∷ [])) (rises_from number_rank next numbers) rising in
    let more : nat_lt first next ≡ true = less_of first next parts.0 in
    let behind : nat_lt low next ≡ true = grind (arith, nat_tests, less, more) in
    (behind, above-from low next numbers behind parts.1)

above-first : (first : ℕ) (numbers : List ℕ) → rises_from number_rank first numbers ≡ true → Above first numbers
above-first first [] rising = tt
above-first first (next ∷ numbers) rising =
    let parts = and_parts (comes_before (first ∷ []) (next ∷ [])) (rises_from number_rank next numbers) rising in
    let more : nat_lt first next ≡ true = less_of first next parts.0 in
    (more, above-from first next numbers more parts.1)

rises-behind : (first : ℕ) (numbers : List ℕ) → rises_from number_rank first numbers ≡ true → rises number_rank numbers ≡ true
rises-behind first [] rising = refl
rises-behind first (next ∷ numbers) rising = (and_parts (comes_before (first ∷ []) (next ∷ [])) (rises_from number_rank next numbers) rising).1

kept-all : (low : ℕ) (numbers : List ℕ) → Above low numbers → filter (nat_lt low) numbers ≡ numbers
kept-all low [] above = refl
kept-all low (n ∷ numbers) above =
    ap (λ b. cond b (n ∷ filter (nat_lt low) numbers) (filter (nat_lt low) numbers)) above.0 ∙ ap (λ (l : List ℕ). n ∷ l) (kept-all low numbers above.1)

lower : (low high : ℕ) (numbers : List ℕ) → nat_lt low high ≡ true → Above high numbers → Above low numbers
lower low high [] less above = tt
lower low high (n ∷ numbers) less above =
    let more : nat_lt high n ≡ true = above.0 in
    let there : nat_lt low n ≡ true = grind (arith, nat_tests, less, more) in
    (there, lower low high numbers less above.1)

first-passes : (p : ℕ → Bool) (numbers : List ℕ) (n : ℕ) → slice_get (filter p numbers) 0 ≡ Some n → p n ≡ true
first-passes p [] n is = cc
first-passes p (m ∷ numbers) n is = by (p m) refl (first-passes p numbers n) is
  where
    by : (b : Bool) → p m ≡ b → (slice_get (filter p numbers) 0 ≡ Some n → p n ≡ true) → slice_get (cond b (m ∷ filter p numbers) (filter p numbers)) 0 ≡ Some n → p n ≡ true
    by true test rest at = let same : m ≡ n = cc in subst (λ k. p k ≡ true) same test
    by false test rest at = rest at

-- the first above a number, and then those above it
next-above : (after n : ℕ) (numbers : List ℕ) → rises number_rank numbers ≡ true → slice_get (filter (nat_lt after) numbers) 0 ≡ Some n
    → filter (nat_lt after) numbers ≡ n ∷ filter (nat_lt n) numbers
next-above after n [] rising is = cc
next-above after n (m ∷ numbers) rising is = by (next-above after n numbers (rises-behind m numbers rising)) (nat_lt after m) refl is
  where
    behind : Above m numbers
    behind = above-first m numbers rising

    by : (slice_get (filter (nat_lt after) numbers) 0 ≡ Some n → filter (nat_lt after) numbers ≡ n ∷ filter (nat_lt n) numbers)
        → (b : Bool) → nat_lt after m ≡ b → slice_get (cond b (m ∷ filter (nat_lt after) numbers) (filter (nat_lt after) numbers)) 0 ≡ Some n
        → cond b (m ∷ filter (nat_lt after) numbers) (filter (nat_lt after) numbers) ≡ n ∷ cond (nat_lt n m) (m ∷ filter (nat_lt n) numbers) (filter (nat_lt n) numbers)
    by rest true less at =
        let same : m ≡ n = cc in
        let not_itself : nat_lt m m ≡ false = grind (arith, nat_tests) in
        let own : cond (nat_lt m m) (m ∷ filter (nat_lt m) numbers) (filter (nat_lt m) numbers) ≡ numbers =
        ap (λ b. cond b (m ∷ filter (nat_lt m) numbers) (filter (nat_lt m) numbers)) not_itself ∙ kept-all m numbers behind in
        subst (λ k. m ∷ filter (nat_lt after) numbers ≡ k ∷ cond (nat_lt k m) (m ∷ filter (nat_lt k) numbers) (filter (nat_lt k) numbers)) same
        (ap (λ (l : List ℕ). m ∷ l) (kept-all after numbers (lower after m numbers less behind) ∙ sym own))
    by rest false less at =
        let there : nat_lt after n ≡ true = first-passes (nat_lt after) numbers n at in
        let off : nat_lt n m ≡ false = grind (arith, nat_tests, less, there) in
        rest at
        ∙ ap (λ (l : List ℕ). n ∷ l) (sym (ap (λ b. cond b (m ∷ filter (nat_lt n) numbers) (filter (nat_lt n) numbers)) off))

module _ (site : Site) (pollutant : Pollutant) where
  pub next-event : (records : List OfficeRecord) (after n : ℕ) → rises number_rank (events_at (office_with records) site pollutant) ≡ true
      → slice_get (events_above records site pollutant after) 0 ≡ Some n → events_above records site pollutant after ≡ n ∷ events_above records site pollutant n
  next-event records after n rising is = next-above after n (events_at (office_with records) site pollutant) rising is

  -- ---- those of a part of the map

  not_before : (after n : ℕ) → nat_lt after n ≡ true → is_le (nat_cmp after n) ≡ true
  not_before after n less = grind (arith, nat_tests, less)

  of-one : (after n : ℕ) (series inside : Bool) (answers : List ℕ) (numbers : List ℕ) → (nat_lt after n ≡ true → inside ≡ true) → answers ≡ filter (nat_lt after) numbers
      → cond inside (cons_option (cond (series && nat_lt after n) (Some n) None) answers) answers ≡ filter (nat_lt after) (cons_option (cond series (Some n) None) numbers)
  of-one after n false true answers numbers there same = same
  of-one after n false false answers numbers there same = same
  of-one after n true inside answers numbers there same = by (nat_lt after n) refl inside refl
    where
      by : (b : Bool) → nat_lt after n ≡ b → (c : Bool) → inside ≡ c → cond c (cons_option (cond b (Some n) None) answers) answers ≡ filter (nat_lt after) (n ∷ numbers)
      by true less true is = ap (λ (l : List ℕ). n ∷ l) same ∙ sym (ap (λ b. cond b (n ∷ filter (nat_lt after) numbers) (filter (nat_lt after) numbers)) less)
      by true less false is = absurd (false≢true (sym is ∙ there less))
      by false less true is = same ∙ sym (ap (λ b. cond b (n ∷ filter (nat_lt after) numbers) (filter (nat_lt after) numbers)) less)
      by false less false is = same ∙ sym (ap (λ b. cond b (n ∷ filter (nat_lt after) numbers) (filter (nat_lt after) numbers)) less)

  abbrev answers_in : ℕ → List OfficeRecord → List ℕ
  answers_in after rows = filter_map (event_above site pollutant after) (filter (lies_between (of_event 6 after) (of_kind 7)) rows)

  of-other : (after : ℕ) (r : OfficeRecord) (rows : List OfficeRecord) (inside : Bool) → event_above site pollutant after r ≡ None
      → filter_map (event_above site pollutant after) (cond inside (r ∷ filter (lies_between (of_event 6 after) (of_kind 7)) rows) (filter (lies_between (of_event 6 after) (of_kind 7)) rows)) ≡ answers_in after rows
  of-other after r rows true none = ap (λ (o : Option ℕ). cons_option o (answers_in after rows)) none
  of-other after r rows false none = refl

  past : (after : ℕ) (r : OfficeRecord) (rows : List OfficeRecord) → event_above site pollutant after r ≡ None → answers_in after (r ∷ rows) ≡ answers_in after rows
  past after r rows none = of-other after r rows (lies_between (of_event 6 after) (of_kind 7) r) none

  taken-out : (after : ℕ) (r : OfficeRecord) (rows : List OfficeRecord) (inside : Bool)
      → filter_map (event_above site pollutant after) (cond inside (r ∷ filter (lies_between (of_event 6 after) (of_kind 7)) rows) (filter (lies_between (of_event 6 after) (of_kind 7)) rows))
      ≡ cond inside (cons_option (event_above site pollutant after r) (answers_in after rows)) (answers_in after rows)
  taken-out after r rows true = refl
  taken-out after r rows false = refl

  part-numbers : (after : ℕ) (rows : List OfficeRecord) → answers_in after rows ≡ filter (nat_lt after) (filter_map (event_at site pollutant) rows)
  part-numbers after [] = refl
  part-numbers after (Event n other other_pollutant first last code ∷ rows) =
      taken-out after (Event n other other_pollutant first last code) rows (lies_between (of_event 6 after) (of_kind 7) (Event n other other_pollutant first last code))
      ∙ of-one after n (is_same_site other site && is_same_pollutant other_pollutant pollutant) (lies_between (of_event 6 after) (of_kind 7) (Event n other other_pollutant first last code))
      (answers_in after rows) (filter_map (event_at site pollutant) rows) (λ less. ap (λ b. b && true) (not_before after n less)) (part-numbers after rows)
  part-numbers after (r ∷ rows) = past after r rows refl ∙ part-numbers after rows

  pub event-found : (records : List OfficeRecord) (after : ℕ) (start end : Place) (part : List OfficeRecord) → start ≡ of_event 6 after → end ≡ of_kind 7
      → part ≡ filter (lies_between start end) records → first_given (event_above site pollutant after) part ≡ slice_get (events_above records site pollutant after) 0
  event-found records after start end part begins ends is =
      ap (λ (l : List ℕ). slice_get l 0)
      (ap (filter_map (event_above site pollutant after)) (is ∙ (λ i. filter (lies_between (begins i) (ends i)) records)) ∙ part-numbers after records)

  -- ---- an event that is found stands

  stands-by : (after n m : ℕ) (r : OfficeRecord) (rows : List OfficeRecord) → record_rank r ≡ 6 ∷ m ∷ []
      → (slice_get (filter (nat_lt after) (filter_map (event_at site pollutant) rows)) 0 ≡ Some n → is_some (row_at record_rank (6 ∷ n ∷ []) rows) ≡ true)
      → (series above : Bool) → slice_get (cond series (cond above (m ∷ filter (nat_lt after) (filter_map (event_at site pollutant) rows)) (filter (nat_lt after) (filter_map (event_at site pollutant) rows))) (filter (nat_lt after) (filter_map (event_at site pollutant) rows))) 0 ≡ Some n
      → is_some (cond (is_same (record_rank r) (6 ∷ n ∷ [])) (Some r) (row_at record_rank (6 ∷ n ∷ []) rows)) ≡ true
  stands-by after n m r rows rank rest true true at =
      let same : m ≡ n = cc in
      ap (λ (l : List ℕ). is_some (cond (is_same l (6 ∷ n ∷ [])) (Some r) (row_at record_rank (6 ∷ n ∷ []) rows))) (rank ∙ ap (λ k. 6 ∷ k ∷ []) same)
      ∙ ap (λ b. is_some (cond b (Some r) (row_at record_rank (6 ∷ n ∷ []) rows))) (same-itself (6 ∷ n ∷ []))
  stands-by after n m r rows rank rest true false at = either (is_same (record_rank r) (6 ∷ n ∷ [])) (rest at)
    where
      either : (b : Bool) → is_some (row_at record_rank (6 ∷ n ∷ []) rows) ≡ true → is_some (cond b (Some r) (row_at record_rank (6 ∷ n ∷ []) rows)) ≡ true
      either true h = refl
      either false h = h
  stands-by after n m r rows rank rest false above at = either (is_same (record_rank r) (6 ∷ n ∷ [])) (rest at)
    where
      either : (b : Bool) → is_some (row_at record_rank (6 ∷ n ∷ []) rows) ≡ true → is_some (cond b (Some r) (row_at record_rank (6 ∷ n ∷ []) rows)) ≡ true
      either true h = refl
      either false h = h

  in-turn : (after m : ℕ) (series : Bool) (numbers : List ℕ) → filter (nat_lt after) (cons_option (cond series (Some m) None) numbers)
      ≡ cond series (cond (nat_lt after m) (m ∷ filter (nat_lt after) numbers) (filter (nat_lt after) numbers)) (filter (nat_lt after) numbers)
  in-turn after m true numbers = refl
  in-turn after m false numbers = refl

  passed : (n : ℕ) (r : OfficeRecord) (rows : List OfficeRecord) → is_some (row_at record_rank (6 ∷ n ∷ []) rows) ≡ true → is_some (row_at record_rank (6 ∷ n ∷ []) (r ∷ rows)) ≡ true
  passed n r rows h = by (is_same (record_rank r) (6 ∷ n ∷ []))
    where
      by : (b : Bool) → is_some (cond b (Some r) (row_at record_rank (6 ∷ n ∷ []) rows)) ≡ true
      by true = refl
      by false = h

  pub found-stands : (records : List OfficeRecord) (after n : ℕ) → slice_get (filter (nat_lt after) (filter_map (event_at site pollutant) records)) 0 ≡ Some n → is_some (row_at record_rank (6 ∷ n ∷ []) records) ≡ true
  found-stands [] after n at = cc
  found-stands (Event m other other_pollutant first last code ∷ rows) after n at =
      stands-by after n m (Event m other other_pollutant first last code) rows refl (found-stands rows after n) (is_same_site other site && is_same_pollutant other_pollutant pollutant) (nat_lt after m)
      (ap (λ (l : List ℕ). slice_get l 0) (sym (in-turn after m (is_same_site other site && is_same_pollutant other_pollutant pollutant) (filter_map (event_at site pollutant) rows))) ∙ at)
  found-stands (r ∷ rows) after n at = passed n r rows (found-stands rows after n at)

  -- ---- no event has the number 0

  numbered : (office : Office) (n : ℕ) (other : Site) (other_pollutant : Pollutant) (first last : ℕ) (code : _) → fits_records office (Event n other other_pollutant first last code) ≡ true → is_event_number n ≡ true
  numbered office n other other_pollutant first last code fits =
      let r = Event n other other_pollutant first last code in
      let a = and_parts (is_record r && has_its_monitor office r && has_its_event office r) (nat_le (group_size office r) (most_in_group r)) fits in
      let b = and_parts (is_record r && has_its_monitor office r) (has_its_event office r) a.0 in
      let d = and_parts (is_record r) (has_its_monitor office r) b.0 in
      (and_parts (is_key (key_of r)) (is_content_of r) d.0).0

  none-is_0 : (office : Office) (rows : List OfficeRecord) → list_all (fits_records office) rows ≡ true → filter (nat_lt 0) (filter_map (event_at site pollutant) rows) ≡ filter_map (event_at site pollutant) rows
  none-is_0 office [] fit = refl
  none-is_0 office (Event n other other_pollutant first last code ∷ rows) fit =
      let parts = and_parts (fits_records office (Event n other other_pollutant first last code)) (list_all (fits_records office) rows) fit in
      let number : is_event_number n ≡ true = numbered office n other other_pollutant first last code parts.0 in
      by (is_same_site other site && is_same_pollutant other_pollutant pollutant) (above n number) (none-is_0 office rows parts.1)
    where
      above : (k : ℕ) → is_event_number k ≡ true → nat_lt 0 k ≡ true
      above k is = let parts = and_parts (nat_le 1 k) _ is in let some : nat_le 1 k ≡ true = parts.0 in grind (arith, nat_tests, some)

      by : (series : Bool) → nat_lt 0 n ≡ true → filter (nat_lt 0) (filter_map (event_at site pollutant) rows) ≡ filter_map (event_at site pollutant) rows
          → filter (nat_lt 0) (cons_option (cond series (Some n) None) (filter_map (event_at site pollutant) rows)) ≡ cons_option (cond series (Some n) None) (filter_map (event_at site pollutant) rows)
      by true some rest = ap (λ b. cond b (n ∷ filter (nat_lt 0) (filter_map (event_at site pollutant) rows)) (filter (nat_lt 0) (filter_map (event_at site pollutant) rows))) some ∙ ap (λ (l : List ℕ). n ∷ l) rest
      by false some rest = rest
  none-is_0 office (r ∷ rows) fit = none-is_0 office rows (and_parts (fits_records office r) (list_all (fits_records office) rows) fit).1

  pub all-above_0 : (records : List OfficeRecord) → IsOffice (office_with records) → events_above records site pollutant 0 ≡ events_at (office_with records) site pollutant
  all-above_0 records valid = none-is_0 (office_with records) records valid.records_fit

-- a standing event has the number of one
found-numbered : (office : Office) (number : ℕ) (rows : List OfficeRecord) → list_all (fits_records office) rows ≡ true → is_some (row_at record_rank (6 ∷ number ∷ []) rows) ≡ true → is_event_number number ≡ true
found-numbered office number [] fit some = absurd (false≢true some)
found-numbered office number (r ∷ rows) fit some =
    let parts = and_parts (fits_records office r) (list_all (fits_records office) rows) fit in
    by (is_same (record_rank r) (6 ∷ number ∷ [])) refl some parts.0 (found-numbered office number rows parts.1)
  where
    of-rank : (row : OfficeRecord) → is_same (record_rank row) (6 ∷ number ∷ []) ≡ true → fits_records office row ≡ true → is_event_number number ≡ true
    of-rank (Event n other other_pollutant first last code) same fits =
        let equal : n ≡ number = let digits = and_parts (n == number) true same in grind (arith, nat_tests, digits.0) in
        subst (λ k. is_event_number k ≡ true) equal (numbered other other_pollutant office n other other_pollutant first last code fits)
    of-rank row same fits = absurd (false≢true same)

    by : (b : Bool) → is_same (record_rank r) (6 ∷ number ∷ []) ≡ b → is_some (cond b (Some r) (row_at record_rank (6 ∷ number ∷ []) rows)) ≡ true → fits_records office r ≡ true
        → (is_some (row_at record_rank (6 ∷ number ∷ []) rows) ≡ true → is_event_number number ≡ true) → is_event_number number ≡ true
    by true same some fits rest = of-rank r same fits
    by false same some fits rest = rest some

pub stands-numbered : (records : List OfficeRecord) (number : ℕ) → IsOffice (office_with records) → event_stands (office_with records) number ≡ true → is_event_number number ≡ true
stands-numbered records number valid stands = found-numbered (office_with records) number records valid.records_fit stands
