-- The fields of an export of a valid office have no comma, no quote and no end of a line.
use Rattle.std.proofs.Common.{◌≡◌, ℕ, suc, ◌/◌, ◌^◌, ◌<◌, ◌≤◌, Bool, true, false, cond, ◌&&◌, ◌||◌, List, [], ◌∷◌, ◌++◌, map, refl, arith}
use Rattle.std.specs.Prelude.{ℤ, pos, negsuc, int_lt, unsigned_abs, Option, Some, None, nat_le, ◌==◌, decimal, filter}
use Rattle.std.specs.Char.{digit_value}
use Rattle.std.specs.List.{list_all}
use Rattle.std.specs.Str.Parse.{AllDigits}
use Rattle.std.proofs.lemmas.Bool.{and_from, and_parts}
use Rattle.std.proofs.lemmas.Bool.Decides.{nat_tests}
use Rattle.std.proofs.lemmas.Fmt.{decimal_is_IsNumeral}
use Rattle.aq_base.specs.Calendar.{day_of_hour, hour_of_day}
use Rattle.aq_base.specs.Decimal.{fixed, last_digits}
use Rattle.aq_base.specs.Site.{Site}
use Rattle.aq_base.specs.declared.shown.Shown.{Shown}
use Rattle.aq_base.specs.declared.code.Code.{Code}
use Rattle.aq_base.specs.declared.day.TheConstants.{LAST_HOUR}
use Rattle.aq_base.specs.declared.monitor.Pollutant.{Pollutant}
use Rattle.aq_base.specs.declared.monitor.Pollutant.TheVariants.{Ozone, Pm25, Pm10}
use Rattle.aq_base.specs.declared.observation.ObsKey.{ObsKey}
use Rattle.aq_base.specs.declared.observation.Observation.{Observation}
use Rattle.aq_base.specs.declared.office.OfficeKey.TheVariants.{Monitor as MonitorKey}
use Rattle.aq_rules.specs.Lines.Spellings.{is_code_byte}
use Rattle.aq_rules.specs.Lines.Canonical.{parameter_text, value_text, code_text}
use Rattle.aq_rules.specs.Office.Exclusion.{excluded}
use Rattle.aq_rules.specs.Office.Office.{Office, IsOffice, key_numbers, record_at, duration_at, is_site, is_poc, is_qualifier, is_measured, is_method, is_content, is_kept_hour, fits_monitors}
use Rattle.aq_rules.specs.Shown.Sheet.{site_text, day_text, truth_text}
use Rattle.aq_rules.specs.Shown.WellFormed.{is_word_byte, is_word}
use Rattle.aq_rules.specs.Shown.Export.{is_unquoted_byte, needs_no_quotes, null_text, codes_text, shown_fields, is_of_year, shown_of}
use Rattle.aq_rules.proofs.OfficeBack.{found-fits, monitor-named}
use Rattle.aq_rules.proofs.RoundTrip.{poc_short}
use Rattle.aq_rules.proofs.SheetCells.{digits-bytes, site-word, day-word, truth-word}
use Rattle.aq_rules.proofs.Values.{range_pos, range_neg}

-- ---- texts

plain-append : (xs ys : List ℕ) → needs_no_quotes xs ≡ true → needs_no_quotes ys ≡ true → needs_no_quotes (xs ++ ys) ≡ true
plain-append [] ys p q = q
plain-append (x ∷ xs) ys p q =
    let parts = and_parts (is_unquoted_byte x) (needs_no_quotes xs) p in and_from (is_unquoted_byte x) (needs_no_quotes (xs ++ ys)) parts.0 (plain-append xs ys parts.1 q)

word_byte : (b : ℕ) → is_word_byte b ≡ true → is_unquoted_byte b ≡ true
word_byte b h = grind (arith, nat_tests)

code_byte : (b : ℕ) → is_code_byte b ≡ true → is_unquoted_byte b ≡ true
code_byte b h = grind (arith, nat_tests)

digit_byte : (c : ℕ) → digit_value c < 10 → is_unquoted_byte c ≡ true
digit_byte c h = grind (arith, nat_tests)

plain-words : (text : List ℕ) → list_all is_word_byte text ≡ true → needs_no_quotes text ≡ true
plain-words [] h = refl
plain-words (b ∷ text) h =
    let parts = and_parts (is_word_byte b) (list_all is_word_byte text) h in and_from (is_unquoted_byte b) (needs_no_quotes text) (word_byte b parts.0) (plain-words text parts.1)

plain-word : (text : List ℕ) → is_word text ≡ true → needs_no_quotes text ≡ true
plain-word text h = plain-words text (and_parts _ (list_all is_word_byte text) h).1

plain-numeral : (ds : List ℕ) → AllDigits 10 ds → needs_no_quotes ds ≡ true
plain-numeral [] h = refl
plain-numeral (c ∷ ds) h = and_from (is_unquoted_byte c) (needs_no_quotes ds) (digit_byte c h.0) (plain-numeral ds h.1)

plain-decimal : (n : ℕ) → n < 2 ^ 64 → needs_no_quotes (decimal n) ≡ true
plain-decimal n h = plain-numeral (decimal n) (decimal_is_IsNumeral n h).0.1

plain-digits : (count n : ℕ) → needs_no_quotes (last_digits count n) ≡ true
plain-digits count n = plain-words (last_digits count n) (digits-bytes count n)

plain-parameter : (p : Pollutant) → needs_no_quotes (parameter_text p) ≡ true
plain-parameter Ozone = refl
plain-parameter Pm25 = refl
plain-parameter Pm10 = refl

-- ---- values

plain-fixed : (v : ℤ) (places : ℕ) → unsigned_abs v / 10 ^ places < 2 ^ 64 → needs_no_quotes (fixed v places) ≡ true
plain-fixed v places small =
    plain-append (cond (int_lt v (pos 0)) (45 ∷ []) [] ++ decimal (unsigned_abs v / 10 ^ places)) (cond (places == 0) [] (46 ∷ last_digits places (unsigned_abs v)))
    (plain-append (cond (int_lt v (pos 0)) (45 ∷ []) []) (decimal (unsigned_abs v / 10 ^ places)) (sign (int_lt v (pos 0))) (plain-decimal (unsigned_abs v / 10 ^ places) small))
    (point (places == 0))
  where
    sign : (b : Bool) → needs_no_quotes (cond b (45 ∷ []) []) ≡ true
    sign true = refl
    sign false = refl

    point : (b : Bool) → needs_no_quotes (cond b [] (46 ∷ last_digits places (unsigned_abs v))) ≡ true
    point true = refl
    point false = plain-digits places (unsigned_abs v)

plain-number : (p : Pollutant) (v : ℤ) → unsigned_abs v ≤ 99999 → needs_no_quotes (value_text p (Some v)) ≡ true
plain-number Ozone v few = plain-fixed v 3 (omega (arith, few))
plain-number Pm25 v few = plain-fixed v 1 (omega (arith, few))
plain-number Pm10 v few = plain-fixed v 1 (omega (arith, few))

plain-value : (p : Pollutant) (value : Option ℤ) (null : Option Code) → is_measured p value null ≡ true → needs_no_quotes (value_text p value) ≡ true
plain-value p None null h = refl
plain-value p (Some v) (Some code) h = cc
plain-value p (Some (pos k)) None h = plain-number p (pos k) (range_pos p k h)
plain-value p (Some (negsuc k)) None h = let few : suc k ≤ 999 = range_neg p k h in plain-number p (negsuc k) (omega (arith, few))

-- ---- codes

plain-code : (code : Code) → is_code_byte code.first ≡ true → ((code.second == 0) || is_code_byte code.second) ≡ true → needs_no_quotes (code_text code) ≡ true
plain-code code first second = by_tests (code.second == 0) (is_code_byte code.second) refl second
  where
    by_tests : (b c : Bool) → is_code_byte code.second ≡ c → (b || c) ≡ true → needs_no_quotes (cond b (code.first ∷ []) (code.first ∷ code.second ∷ [])) ≡ true
    by_tests true c is h = and_from (is_unquoted_byte code.first) true (code_byte code.first first) refl
    by_tests false true is h =
        and_from (is_unquoted_byte code.first) (is_unquoted_byte code.second && true) (code_byte code.first first) (and_from (is_unquoted_byte code.second) true (code_byte code.second is) refl)
    by_tests false false is h = cc

either : (b c : Bool) → c ≡ true → (b || c) ≡ true
either true c h = refl
either false c h = h

plain-null : (p : Pollutant) (value : Option ℤ) (null : Option Code) → is_measured p value null ≡ true → needs_no_quotes (null_text null) ≡ true
plain-null p value None h = refl
plain-null p (Some v) (Some code) h = cc
plain-null p None (Some code) h =
    let parts = and_parts (is_code_byte code.first) (is_code_byte code.second) h in
    plain-code code parts.0 (either (code.second == 0) (is_code_byte code.second) parts.1)

plain-qualifier : (code : Code) → is_qualifier code ≡ true → needs_no_quotes (code_text code) ≡ true
plain-qualifier code h = let parts = and_parts (is_code_byte code.first) ((code.second == 0) || is_code_byte code.second) h in plain-code code parts.0 parts.1

plain-codes : (qualifiers : List Code) → list_all is_qualifier qualifiers ≡ true → needs_no_quotes (codes_text qualifiers) ≡ true
plain-codes [] h = refl
plain-codes (code ∷ []) h = plain-qualifier code (and_parts (is_qualifier code) true h).0
plain-codes (code ∷ next ∷ more) h =
    let parts = and_parts (is_qualifier code) (list_all is_qualifier (next ∷ more)) h in
    plain-append (code_text code) (32 ∷ codes_text (next ∷ more)) (plain-qualifier code parts.0) (plain-codes (next ∷ more) parts.1)

-- ---- rows

abbrev IsPlainRow : Shown → Type 0
IsPlainRow row = list_all needs_no_quotes (shown_fields row) ≡ true

also : (text : List ℕ) (texts : List (List ℕ)) → needs_no_quotes text ≡ true → list_all needs_no_quotes texts ≡ true → list_all needs_no_quotes (text ∷ texts) ≡ true
also text texts p q = and_from (needs_no_quotes text) (list_all needs_no_quotes texts) p q

module _ (office : Office) (valid : IsOffice office) where
  abbrev shown : ObsKey × Observation → Shown
  shown entry = record { key = entry.0; content = entry.1; excluded = excluded office.records entry.0 entry.1.quals }

  plain-row : (entry : ObsKey × Observation) → fits_monitors office entry ≡ true → IsPlainRow (shown entry)
  plain-row entry fits =
      let id = entry.0.monitor in
      let b = and_parts _ (is_content id.pollutant entry.1) fits in
      let a = and_parts (nat_le entry.0.hour LAST_HOUR) (is_kept_hour (duration_at office id) entry.0.hour) b.0 in
      let named = monitor-named id (record_at office (MonitorKey id)) entry.0.hour (found-fits office (key_numbers (MonitorKey id)) office.records valid.records_fit) a.1 in
      let poc = (and_parts (is_site id.site) (is_poc id.poc) named).1 in
      let m = and_parts _ (is_method entry.1.method) b.1 in
      let z = and_parts _ _ m.0 in
      let y = and_parts _ _ z.0 in
      let x = and_parts (is_measured id.pollutant entry.1.value entry.1.null) (list_all is_qualifier entry.1.quals) y.0 in
      let truth = truth_text (shown entry).excluded ∷ [] in
      let quals = codes_text entry.1.quals ∷ truth in
      let null = null_text entry.1.null ∷ quals in
      let value = value_text id.pollutant entry.1.value ∷ null in
      let hour = last_digits 2 (hour_of_day entry.0.hour) ∷ value in
      let day = day_text (day_of_hour entry.0.hour) ∷ hour in
      let number = decimal id.poc ∷ day in
      let parameter = parameter_text id.pollutant ∷ number in
      also (site_text id.site) parameter (plain-word (site_text id.site) (site-word id.site))
      (also (parameter_text id.pollutant) number (plain-parameter id.pollutant)
      (also (decimal id.poc) day (plain-decimal id.poc (poc_short id.poc poc))
      (also (day_text (day_of_hour entry.0.hour)) hour (plain-word (day_text (day_of_hour entry.0.hour)) (day-word (day_of_hour entry.0.hour)))
      (also (last_digits 2 (hour_of_day entry.0.hour)) value (plain-digits 2 (hour_of_day entry.0.hour))
      (also (value_text id.pollutant entry.1.value) null (plain-value id.pollutant entry.1.value entry.1.null x.0)
      (also (null_text entry.1.null) quals (plain-null id.pollutant entry.1.value entry.1.null x.0)
      (also (codes_text entry.1.quals) truth (plain-codes entry.1.quals x.1)
      (also (truth_text (shown entry).excluded) [] (plain-word (truth_text (shown entry).excluded) (truth-word (shown entry).excluded)) refl))))))))

  abbrev all_plain : List Shown → Bool
  all_plain rows = list_all (λ (row : Shown). list_all needs_no_quotes (shown_fields row)) rows

  plain-rows : (p : ObsKey × Observation → Bool) (entries : List (ObsKey × Observation)) → list_all (fits_monitors office) entries ≡ true → all_plain (map shown (filter p entries)) ≡ true
  plain-rows p [] fit = refl
  plain-rows p (entry ∷ entries) fit =
      let parts = and_parts (fits_monitors office entry) (list_all (fits_monitors office) entries) fit in
      by_test (p entry) (plain-row entry parts.0) (plain-rows p entries parts.1)
    where
      by_test : (b : Bool) → IsPlainRow (shown entry) → all_plain (map shown (filter p entries)) ≡ true → all_plain (map shown (cond b (entry ∷ filter p entries) (filter p entries))) ≡ true
      by_test true row rest = and_from (list_all needs_no_quotes (shown_fields (shown entry))) (all_plain (map shown (filter p entries))) row rest
      by_test false row rest = rest

pub exported-plain : (office : Office) (site : Site) (pollutant : Pollutant) (year : ℕ) → IsOffice office
    → list_all (λ (row : Shown). list_all needs_no_quotes (shown_fields row)) (shown_of office site pollutant year) ≡ true
unfolding shown_of
exported-plain office site pollutant year valid = plain-rows office valid (is_of_year site pollutant year) office.observations valid.observations_fit
