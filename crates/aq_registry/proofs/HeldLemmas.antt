-- The index of the agreed events stays true of the records when one is put or dropped.
use Rattle.std.proofs.Common.{◌≡◌, ℕ, Bool, true, false, ◌&&◌, ◌||◌, ◌==◌, List, [], ◌∷◌, cond, Option, Some, None, refl, ap, sym, subst, ◌∙◌, arith}
use Rattle.std.specs.Prelude.{not, filter, is_some, nat_lt}
use Rattle.std.specs.List.{AllByRecursion, list_any}
use Rattle.std.specs.Option.{option_and_then}
use Rattle.std.proofs.lemmas.Bool.{false≢true, and_parts, eqb-true}
use Rattle.std.proofs.lemmas.Bool.Decides.{nat_tests}
use Rattle.aq_base.specs.declared.office.OfficeRecord.{OfficeRecord}
use Rattle.aq_base.specs.declared.office.OfficeRecord.TheVariants.{Event, Concurrence}
use Rattle.aq_base.specs.declared.office.OfficeKey.{OfficeKey}
use Rattle.aq_base.specs.declared.office.OfficeKey.TheVariants.{Event as EventKey, Concurrence as ConcurrenceKey}
use Rattle.aq_rules.specs.Office.Exclusion.{agrees_to, asks_exclusion}
use Rattle.aq_rules.specs.Office.Load.{without_key}
use Rattle.aq_rules.specs.Office.Office.{key_of, key_numbers, record_rank, comes_before, is_same, rises, rises_from, with_row, without_row}
use Rattle.aq_rules.specs.Office.Questions.{record_of}
use Rattle.aq_rules.specs.Office.RowOrder.{before-trans}
use Rattle.aq_registry.specs.declared.agreed.Span.{Span}
use Rattle.aq_registry.specs.Agreed.{start_of, span_by, is_agreed, agreed_span, span_at, passes, any_agreed, AreAgreedOf, number_of, renewed, is_agreed_in, is_noted, spans_put, spans_dropped}
use Rattle.aq_registry.specs.Registry.{office_with}
use Rattle.aq_registry.proofs.ExclusionLemmas.{any-filter}
use Rattle.aq_registry.proofs.AgreedLemmas.{all_follow, but, any-renewed}
use Rattle.aq_registry.proofs.RowCounts.{found_dropped}

-- ---- records that speak of the same event

abbrev same_number : Option ℕ → Option ℕ → Bool
same_number (Some m) (Some n) = m == n
same_number None None = true
same_number a b = false

number_itself : (n : ℕ) → (n == n) ≡ true
number_itself n = grind (arith, nat_tests)

same_number-itself : (a : Option ℕ) → same_number a a ≡ true
same_number-itself None = refl
same_number-itself (Some n) = number_itself n

same_number-flip : (a b : Option ℕ) → same_number a b ≡ true → same_number b a ≡ true
same_number-flip None None h = refl
same_number-flip None (Some n) h = absurd (false≢true h)
same_number-flip (Some m) None h = absurd (false≢true h)
same_number-flip (Some m) (Some n) h = subst (λ k. (k == m) ≡ true) (eqb-true m n h) (number_itself m)

last_test : (a : Bool) → (a && true) ≡ true → a ≡ true
last_test true h = refl
last_test false h = h

same-key : (k l : OfficeKey) → is_same (key_numbers k) (key_numbers l) ≡ true → same_number (number_of k) (number_of l) ≡ true
same-key (EventKey m) (EventKey n) h = last_test (m == n) h
same-key (ConcurrenceKey m) (ConcurrenceKey n) h = last_test (m == n) h
same-key (EventKey m) l h = absurd (false≢true h)
same-key (ConcurrenceKey m) l h = absurd (false≢true h)
same-key k (EventKey n) h = absurd (false≢true h)
same-key k (ConcurrenceKey n) h = absurd (false≢true h)
same-key k l h = refl

-- whether a record speaks of the same event as the key
abbrev touches : OfficeKey → OfficeRecord → Bool
touches key r = same_number (number_of (key_of r)) (number_of key)

-- rows that differ in such records alone
abbrev AreSameBut : OfficeKey → List OfficeRecord → List OfficeRecord → Type 0
AreSameBut key before after = (test : OfficeRecord → Bool) → ((r : OfficeRecord) → touches key r ≡ true → test r ≡ false) → list_any test after ≡ list_any test before

put-same : (row : OfficeRecord) (rows : List OfficeRecord) → AreSameBut (key_of row) rows (with_row record_rank row rows)
put-same row [] test none = ap (λ b. b || false) (none row (same_number-itself (number_of (key_of row))))
put-same row (first ∷ rows) test none = choose (comes_before (record_rank row) (record_rank first)) (is_same (record_rank row) (record_rank first)) refl (put-same row rows test none)
  where
    own : test row ≡ false
    own = none row (same_number-itself (number_of (key_of row)))

    choose : (a b : Bool) → is_same (record_rank row) (record_rank first) ≡ b → list_any test (with_row record_rank row rows) ≡ list_any test rows
        → list_any test (cond a (row ∷ first ∷ rows) (cond b (row ∷ rows) (first ∷ with_row record_rank row rows))) ≡ (test first || list_any test rows)
    choose true b same rest = ap (λ b. b || (test first || list_any test rows)) own
    choose false true same rest =
        ap (λ b. b || list_any test rows) (own ∙ sym (none first (same_number-flip (number_of (key_of row)) (number_of (key_of first)) (same-key (key_of row) (key_of first) same))))
    choose false false other rest = ap (λ b. test first || b) rest

turned : (a : Bool) → not a ≡ false → a ≡ true
turned true h = refl
turned false h = absurd (false≢true (sym h))

without-same : (key : OfficeKey) (rows : List OfficeRecord) → AreSameBut key rows (without_row record_rank (key_numbers key) rows)
without-same key rows test none =
    sym (any-filter test (λ row. not (is_same (record_rank row) (key_numbers key)))
    (λ r out. none r (same-key (key_of r) key (turned (is_same (record_rank r) (key_numbers key)) out))) rows)

dropped-same : (key : OfficeKey) (rows : List OfficeRecord) → AreSameBut key rows ((without_key key (office_with rows)).records)
dropped-same (EventKey number) rows test none =
    without-same (ConcurrenceKey number) (without_row record_rank (key_numbers (EventKey number)) rows) test none
    ∙ without-same (EventKey number) rows test none
dropped-same key rows test none = without-same key rows test none

-- ---- the events of other numbers

none_pass : (test : Span → Bool) (b : Bool) (span : Span) → test span ≡ false → passes test (cond b (Some span) None) ≡ false
none_pass test true span h = h
none_pass test false span h = refl

any-same : {X : Type 0} (p q : X → Bool) → ((x : X) → p x ≡ q x) → (xs : List X) → list_any p xs ≡ list_any q xs
any-same p q same [] = refl
any-same p q same (x ∷ xs) = ap (λ b. b || list_any p xs) (same x) ∙ ap (λ b. q x || b) (any-same p q same xs)

not_both : (a b : Bool) → (a ≡ true → b ≡ true) → b ≡ false → a ≡ false
not_both true b to h = sym (to refl) ∙ h
not_both false b to h = refl

pick : (test : Span → Bool) (span : Span) (asks a b c : Bool) → (c ≡ true → test span ≡ false) → (c ≡ false → a ≡ b) → passes test (cond (asks && a) (Some span) None) ≡ passes test (cond (asks && b) (Some span) None)
pick test span asks a b true none other = none_pass test (asks && a) span (none refl) ∙ sym (none_pass test (asks && b) span (none refl))
pick test span asks a b false none other = ap (λ d. passes test (cond (asks && d) (Some span) None)) (other refl)

module _ (key : OfficeKey) (before after : List OfficeRecord) (same : AreSameBut key before after) where
  agreed-same : (number : ℕ) → same_number (Some number) (number_of key) ≡ false → is_agreed after number ≡ is_agreed before number
  agreed-same number other = same (agrees_to number) each
    where
      each : (r : OfficeRecord) → touches key r ≡ true → agrees_to number r ≡ false
      each (Concurrence m agreed) h =
          ap (λ b. b && agreed) (not_both (m == number) (same_number (Some number) (number_of key)) (λ is. subst (λ n. same_number (Some n) (number_of key) ≡ true) (eqb-true m number is) h) other)
      each r h = refl

  kept : (test : Span → Bool) → ((span : Span) → same_number (Some span.number) (number_of key) ≡ true → test span ≡ false) → any_agreed test after ≡ any_agreed test before
  kept test none =
      any-same (λ r. passes test (agreed_span after r)) (λ r. passes test (agreed_span before r)) each after
      ∙ same (λ r. passes test (agreed_span before r)) own
    where
      each : (r : OfficeRecord) → passes test (agreed_span after r) ≡ passes test (agreed_span before r)
      each (Event number site pollutant first last code) =
          pick test _ (asks_exclusion code) (is_agreed after number) (is_agreed before number) (same_number (Some number) (number_of key)) (none _) (agreed-same number)
      each r = refl

      own : (r : OfficeRecord) → touches key r ≡ true → passes test (agreed_span before r) ≡ false
      own (Event number site pollutant first last code) h = none_pass test (asks_exclusion code && is_agreed before number) _ (none _ h)
      own r h = refl

-- ---- the event of one number

unless_it : (test : Span → Bool) (number : ℕ) (b : Bool) (span : Span) → (span.number == number) ≡ false → passes (but number test) (cond b (Some span) None) ≡ passes test (cond b (Some span) None)
unless_it test number true span other = ap (λ c. not c && test span) other
unless_it test number false span other = refl

gone : (test : Span → Bool) (number : ℕ) (b : Bool) (span : Span) → (span.number == number) ≡ true → passes (but number test) (cond b (Some span) None) ≡ false
gone test number b span is = none_pass (but number test) b span (ap (λ c. not c && test span) is)

-- each row after one has a later rank
all_behind : (row : OfficeRecord) (rows : List OfficeRecord) → rises_from record_rank row rows ≡ true → AllByRecursion (λ other. comes_before (record_rank row) (record_rank other) ≡ true) rows
all_behind row [] h = tt
all_behind row (next ∷ rows) h =
    let parts = and_parts (comes_before (record_rank row) (record_rank next)) (rises_from record_rank next rows) h in (
      parts.0,
      all_follow (λ other. comes_before (record_rank next) (record_rank other) ≡ true) (λ other. comes_before (record_rank row) (record_rank other) ≡ true)
          (λ other behind. before-trans (record_rank row) (record_rank next) (record_rank other) parts.0 behind) rows (all_behind next rows parts.1),
    )

rises_rest : (row : OfficeRecord) (rows : List OfficeRecord) → rises_from record_rank row rows ≡ true → rises record_rank rows ≡ true
rises_rest row [] h = refl
rises_rest row (next ∷ rows) h = (and_parts (comes_before (record_rank row) (record_rank next)) (rises_from record_rank next rows) h).1

later : (m n : ℕ) → (nat_lt n m || ((n == m) && false)) ≡ true → (m == n) ≡ false
later m n h = grind (arith, nat_tests)

or_swap : (a b c : Bool) → (a || (b || c)) ≡ (b || (a || c))
or_swap true true c = refl
or_swap true false c = refl
or_swap false b c = refl

module _ (agrees : ℕ → Bool) (test : Span → Bool) (number : ℕ) where
  abbrev any_of : List OfficeRecord → Bool
  any_of rows = list_any (λ r. passes test (span_by agrees r)) rows

  abbrev any_other : List OfficeRecord → Bool
  any_other rows = list_any (λ r. passes (but number test) (span_by agrees r)) rows

  others-behind : (rows : List OfficeRecord) → AllByRecursion (λ other. comes_before (key_numbers (EventKey number)) (record_rank other) ≡ true) rows → any_of rows ≡ any_other rows
  others-behind [] all = refl
  others-behind (Event m site pollutant first last code ∷ rows) all =
      ap (λ b. b || any_of rows) (sym (unless_it test number (asks_exclusion code && agrees m) _ (later m number all.0)))
      ∙ ap (λ b. passes (but number test) (span_by agrees (Event m site pollutant first last code)) || b) (others-behind rows all.1)
  others-behind (r ∷ rows) all = others-behind rows all.1

  one-apart : (rows : List OfficeRecord) → rises record_rank rows ≡ true → any_of rows ≡ (passes test (option_and_then (span_by agrees) (record_of rows (EventKey number))) || any_other rows)
  one-apart [] rise = refl
  one-apart (Event m site pollutant first last code ∷ rows) rise =
      choose (m == number) refl (one-apart rows (rises_rest (Event m site pollutant first last code) rows rise))
    where
      event : OfficeRecord
      event = Event m site pollutant first last code

      choose : (b : Bool) → (m == number) ≡ b → any_of rows ≡ (passes test (option_and_then (span_by agrees) (record_of rows (EventKey number))) || any_other rows)
          → (passes test (span_by agrees (Event m site pollutant first last code)) || any_of rows)
          ≡ (passes test (option_and_then (span_by agrees) (cond (b && true) (Some (Event m site pollutant first last code)) (record_of rows (EventKey number)))) || (passes (but number test) (span_by agrees (Event m site pollutant first last code)) || any_other rows))
      choose true is rest =
          ap (λ b. passes test (span_by agrees (Event m site pollutant first last code)) || b)
          (others-behind rows (subst (λ n. AllByRecursion (λ other. comes_before (key_numbers (EventKey n)) (record_rank other) ≡ true) rows) (eqb-true m number is) (all_behind (Event m site pollutant first last code) rows rise))
          ∙ ap (λ b. b || any_other rows) (sym (gone test number (asks_exclusion code && agrees m) _ is)))
      choose false other rest =
          ap (λ b. passes test (span_by agrees (Event m site pollutant first last code)) || b) rest
          ∙ or_swap (passes test (span_by agrees (Event m site pollutant first last code))) (passes test (option_and_then (span_by agrees) (record_of rows (EventKey number)))) (any_other rows)
          ∙ ap (λ b. passes test (option_and_then (span_by agrees) (record_of rows (EventKey number))) || (b || any_other rows)) (sym (unless_it test number (asks_exclusion code && agrees m) _ other))
          ∙ refl
  one-apart (r ∷ rows) rise = one-apart rows (rises_rest r rows rise)

-- ---- a record that is put or dropped

no_other : (number : ℕ) (test : Span → Bool) (span : Span) → (span.number == number) ≡ true → but number test span ≡ false
no_other number test span h = ap (λ c. not c && test span) h

one_renewed : (key : OfficeKey) (number : ℕ) (before after : List OfficeRecord) (spans : List Span) → AreSameBut key before after → rises record_rank after ≡ true
    → number_of key ≡ Some number → AreAgreedOf before spans → AreAgreedOf after (renewed number (span_at after number) spans)
one_renewed key number before after spans same rise is held test =
    any-renewed test number (span_at after number) spans
    ∙ ap (λ b. passes test (span_at after number) || b)
    (held (but number test) ∙ sym (kept key before after same (but number test) (λ span h. no_other number test span (ap (same_number (Some span.number)) (sym is) ∙ h))))
    ∙ sym (one-apart (is_agreed after) test number after rise)

none_renewed : (key : OfficeKey) (before after : List OfficeRecord) (spans : List Span) → AreSameBut key before after
    → number_of key ≡ None → AreAgreedOf before spans → AreAgreedOf after spans
none_renewed key before after spans same is held test =
    held test ∙ sym (kept key before after same test (λ span h. absurd (false≢true (ap (same_number (Some span.number)) (sym is) ∙ h))))

pub held-put : (row : OfficeRecord) (rows after : List OfficeRecord) (spans : List Span) → after ≡ with_row record_rank row rows → rises record_rank after ≡ true → AreAgreedOf rows spans → AreAgreedOf after (spans_put after (number_of (key_of row)) spans)
held-put row rows after spans is rise held = by (number_of (key_of row)) refl
  where
    same : AreSameBut (key_of row) rows after
    same = subst (λ l. AreSameBut (key_of row) rows l) (sym is) (put-same row rows)

    by : (o : Option ℕ) → number_of (key_of row) ≡ o → AreAgreedOf after (spans_put after o spans)
    by None none = none_renewed (key_of row) rows after spans same none held
    by (Some number) some = one_renewed (key_of row) number rows after spans same rise some held

and_false : (a : Bool) → (a && false) ≡ false
and_false true = refl
and_false false = refl

-- where no concurrence agrees, the event of the number is not agreed
unagreed : (agrees : ℕ → Bool) (number : ℕ) (rows : List OfficeRecord) → agrees number ≡ false → option_and_then (span_by agrees) (record_of rows (EventKey number)) ≡ None
unagreed agrees number [] h = refl
unagreed agrees number (Event m site pollutant first last code ∷ rows) h = choose (m == number) refl (unagreed agrees number rows h)
  where
    choose : (b : Bool) → (m == number) ≡ b → option_and_then (span_by agrees) (record_of rows (EventKey number)) ≡ None
        → option_and_then (span_by agrees) (cond (b && true) (Some (Event m site pollutant first last code)) (record_of rows (EventKey number))) ≡ None
    choose true is rest =
        ap (λ b. cond b (Some (record { number = m; start = start_of site pollutant code first; last = last })) None)
        (ap (λ b. asks_exclusion code && b) (ap agrees (eqb-true m number is) ∙ h) ∙ and_false (asks_exclusion code))
    choose false other rest = rest
unagreed agrees number (r ∷ rows) h = unagreed agrees number rows h

none-kept : (test keep : OfficeRecord → Bool) → ((r : OfficeRecord) → keep r ≡ true → test r ≡ false) → (rows : List OfficeRecord) → list_any test (filter keep rows) ≡ false
none-kept test keep none [] = refl
none-kept test keep none (r ∷ rows) = choose (keep r) refl (none-kept test keep none rows)
  where
    choose : (b : Bool) → keep r ≡ b → list_any test (filter keep rows) ≡ false → list_any test (cond b (r ∷ filter keep rows) (filter keep rows)) ≡ false
    choose true h rest = ap (λ b. b || list_any test (filter keep rows)) (none r h) ∙ rest
    choose false h rest = rest

apart : (b agreed : Bool) → not (b && true) ≡ true → (b && agreed) ≡ false
apart true agreed h = absurd (false≢true h)
apart false agreed h = refl

no_concurrence : (number : ℕ) (rows : List OfficeRecord) → is_agreed (without_row record_rank (key_numbers (ConcurrenceKey number)) rows) number ≡ false
no_concurrence number rows = none-kept (agrees_to number) (λ row. not (is_same (record_rank row) (key_numbers (ConcurrenceKey number)))) each rows
  where
    each : (r : OfficeRecord) → not (is_same (record_rank r) (key_numbers (ConcurrenceKey number))) ≡ true → agrees_to number r ≡ false
    each (Concurrence m agreed) h = apart (m == number) agreed h
    each r h = refl

pub held-dropped : (key : OfficeKey) (rows : List OfficeRecord) (spans : List Span) → rises record_rank (without_key key (office_with rows)).records ≡ true → AreAgreedOf rows spans → AreAgreedOf (without_key key (office_with rows)).records (spans_dropped (number_of key) spans)
held-dropped (EventKey number) rows spans rise held =
    let after = (without_key (EventKey number) (office_with rows)).records in
    subst (λ o. AreAgreedOf after (renewed number o spans)) (ap (option_and_then (agreed_span after)) (found_dropped (EventKey number) rows))
    (one_renewed (EventKey number) number rows after spans (dropped-same (EventKey number) rows) rise refl held)
held-dropped (ConcurrenceKey number) rows spans rise held =
    let after = (without_key (ConcurrenceKey number) (office_with rows)).records in
    subst (λ o. AreAgreedOf after (renewed number o spans)) (unagreed (is_agreed after) number after (no_concurrence number rows))
    (one_renewed (ConcurrenceKey number) number rows after spans (dropped-same (ConcurrenceKey number) rows) rise refl held)
held-dropped key rows spans rise held = none_renewed key rows (without_key key (office_with rows)).records spans (dropped-same key rows) refl held

-- ---- an event that is not agreed is not noted

none_some : (test : Span → Bool) (o : Option Span) → is_some o ≡ false → passes test o ≡ false
none_some test None h = refl
none_some test (Some span) h = absurd (false≢true (sym h))

neither : (a : Bool) → (not a && a) ≡ false
neither true = refl
neither false = refl

but_none : (number : ℕ) (o : Option Span) → passes (but number (λ (span : Span). span.number == number)) o ≡ false
but_none number None = refl
but_none number (Some span) = neither (span.number == number)

any-none : {X : Type 0} (p : X → Bool) → ((x : X) → p x ≡ false) → (xs : List X) → list_any p xs ≡ false
any-none p none [] = refl
any-none p none (x ∷ xs) = ap (λ b. b || list_any p xs) (none x) ∙ any-none p none xs

pub unnoted : (rows : List OfficeRecord) (spans : List Span) → rises record_rank rows ≡ true → AreAgreedOf rows spans → (o : Option ℕ) → is_agreed_in rows o ≡ false → is_noted o spans ≡ false
unnoted rows spans rise held None none = refl
unnoted rows spans rise held (Some number) none =
    held (λ (span : Span). span.number == number)
    ∙ one-apart (is_agreed rows) (λ (span : Span). span.number == number) number rows rise
    ∙ ap (λ b. b || any_other (is_agreed rows) (λ (span : Span). span.number == number) number rows) (none_some (λ (span : Span). span.number == number) (span_at rows number) none)
    ∙ any-none (λ r. passes (but number (λ (span : Span). span.number == number)) (span_by (is_agreed rows) r)) (λ r. but_none number (span_by (is_agreed rows) r)) rows
