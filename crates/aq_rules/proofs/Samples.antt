-- The canonical line of a sample is read as that sample.
use Rattle.std.proofs.Common.{◌≡◌, ℕ, suc, zero, ◌<◌, ◌≤◌, Bool, true, false, not, ◌&&◌, ◌||◌, List, [], ◌∷◌, ◌++◌, length, take, drop, Some, None, Option, refl, sym, ap, ◌∙◌, arith, inl, inr, subst}
use Rattle.std.specs.Prelude.{nat_lt, nat_le, ◌==◌, codes, decimal, if◌then◌else◌, ℤ, map, is_some}
use Rattle.std.specs.List.{list_all, list_any}
use Rattle.std.proofs.lemmas.Bool.{false≢true, and_from, and_parts, cases_Bool, not-true, or_parts}
use Rattle.std.proofs.lemmas.Bool.Decides.{nat_tests}
use Rattle.aq_base.specs.Calendar.{day_of_hour}
use Rattle.aq_base.specs.Decimal.{last_digits}
use Rattle.aq_base.specs.Quals.{with_code, has_code, all_distinct, is_same_code}
use Rattle.aq_base.specs.declared.code.Code.{Code}
use Rattle.aq_base.specs.declared.day.TheConstants.{LAST_HOUR}
use Rattle.aq_base.specs.declared.monitor.Pollutant.{Pollutant}
use Rattle.aq_base.specs.declared.monitor.Pollutant.TheVariants.{Ozone, Pm25, Pm10}
use Rattle.aq_base.specs.declared.monitor.Duration.{Duration}
use Rattle.aq_base.specs.declared.monitor.MonitorId.{MonitorId}
use Rattle.aq_base.specs.declared.observation.Observation.{Observation}
use Rattle.aq_rules.specs.Lines.Fields.{is_empty}
use Rattle.aq_rules.specs.Lines.Spellings.{Rd, is_code_byte, has_duration, unit_in, null_in, qualifiers_onto, qualifiers_in}
use Rattle.aq_rules.specs.Lines.RdForm.{RdValue, Put, Delete, start_in, content_in, put_in, delete_in}
use Rattle.aq_rules.specs.Lines.Reading.{OfRd, line_value, has_wrong_count}
use Rattle.aq_rules.specs.Lines.Canonical.{parameter_text, duration_text, unit_text, value_places, value_text, date_text, time_text, code_text, texts_behind, method_text, rd_texts, canonical_rd, is_rd_value, joined}
use Rattle.aq_rules.specs.Office.Office.{is_site, is_poc, is_qualifier, is_null_code, is_measured, is_method, is_content}
use Rattle.aq_rules.proofs.Digits.{digits_three}
use Rattle.aq_rules.proofs.KeyOrder.{less_or}
use Rattle.aq_rules.proofs.JoinedFields.{is_clean, is_clean_byte}
use Rattle.aq_rules.proofs.Spelled.{bind-is, duration_is, hour_is}
use Rattle.aq_rules.proofs.Values.{ValueText, value_text_is}
use Rattle.aq_rules.proofs.RoundTrip.{from_texts, also, one, site_with, clean-site, clean-parameter, clean-decimal, clean-duration, clean-digits, clean-date, clean-time, poc_short, monitor_read, at_most_hour}

-- ---- qualifiers

second_cases : (a b c : Bool) → (a && (b || c)) ≡ true → b ≡ false → (a && c) ≡ true
second_cases a true c h e = absurd (false≢true (sym e))
second_cases a false c h e = h

zero_is : (n : ℕ) → (n == 0) ≡ true → n ≡ 0
zero_is n h = grind (arith, nat_tests)

abbrev short : ℕ → ℕ → Code
short a b = record { first = a; second = b }

onto_step : (before : List Code) (c : Code) (texts : List (List ℕ)) → is_qualifier c ≡ true
    → qualifiers_onto before (code_text c ∷ texts) ≡ qualifiers_onto (with_code before c) texts
onto_step before c texts h =
    let parts = and_parts (is_code_byte c.first) ((c.second == 0) || is_code_byte c.second) h in
    elim (cases_Bool (c.second == 0)) [
      | inl none ↦
          ap (λ b. qualifiers_onto before ((if b then c.first ∷ [] else c.first ∷ c.second ∷ []) ∷ texts)) none
          ∙ bind-is (λ code. qualifiers_onto (with_code before code) texts)
          (ap (λ b. if b then Some (short c.first 0) else None) parts.0 ∙ ap (λ s. Some (short c.first s)) (sym (zero_is c.second none)))
      | inr some_second ↦
          ap (λ b. qualifiers_onto before ((if b then c.first ∷ [] else c.first ∷ c.second ∷ []) ∷ texts)) some_second
          ∙ bind-is (λ code. qualifiers_onto (with_code before code) texts)
          (ap (λ b. if b then Some c else None) (second_cases (is_code_byte c.first) (c.second == 0) (is_code_byte c.second) h some_second))
    ]

same_code_comm : (a b : Code) → is_same_code a b ≡ is_same_code b a
same_code_comm a b = grind (arith, nat_tests)

or_both : (a b : Bool) → a ≡ false → b ≡ false → (a || b) ≡ false
or_both true b p q = absurd (false≢true (sym p))
or_both false b p q = q

none_of : (p : Code → Bool) (before : List Code) (q : Code) (rest : List Code) → list_any p (before ++ q ∷ rest) ≡ false → p q ≡ false
none_of p [] q rest h = (or_parts (p q) (list_any p rest) h).0
none_of p (c ∷ before) q rest h = none_of p before q rest (or_parts (p c) (list_any p (before ++ q ∷ rest)) h).1

absent : (before : List Code) (q : Code) (rest : List Code) → all_distinct (before ++ q ∷ rest) ≡ true → has_code q before ≡ false
absent [] q rest h = refl
absent (c ∷ before) q rest h =
    let parts = and_parts (not (has_code c (before ++ q ∷ rest))) (all_distinct (before ++ q ∷ rest)) h in
    or_both (is_same_code c q) (has_code q before)
    (same_code_comm c q ∙ none_of (λ other. is_same_code other c) before q rest (not-true (has_code c (before ++ q ∷ rest)) parts.0))
    (absent before q rest parts.1)

append_none : (xs : List Code) → xs ≡ xs ++ []
append_none [] = refl
append_none (x ∷ xs) = ap (λ ys. x ∷ ys) (append_none xs)

shift : (before : List Code) (q : Code) (rest : List Code) → (before ++ q ∷ []) ++ rest ≡ before ++ q ∷ rest
shift [] q rest = refl
shift (c ∷ before) q rest = ap (λ ys. c ∷ ys) (shift before q rest)

onto_all : (before qs : List Code) → list_all is_qualifier qs ≡ true → all_distinct (before ++ qs) ≡ true
    → qualifiers_onto before (map code_text qs) ≡ Some (before ++ qs)
onto_all before [] h d = ap Some (append_none before)
onto_all before (q ∷ qs) h d =
    let parts = and_parts (is_qualifier q) (list_all is_qualifier qs) h in
    onto_step before q (map code_text qs) parts.0
    ∙ ap (λ b. qualifiers_onto (if b then before else before ++ q ∷ []) (map code_text qs)) (absent before q qs d)
    ∙ onto_all (before ++ q ∷ []) qs parts.1 (subst (λ l. all_distinct l ≡ true) (sym (shift before q qs)) d)
    ∙ ap Some (shift before q qs)

take_all : (n : ℕ) (xs : List (List ℕ)) → length xs ≤ n → take n xs ≡ xs
take_all zero [] h = refl
take_all zero (x ∷ xs) h = absurd (omega arith)
take_all (suc n) [] h = refl
take_all (suc n) (x ∷ xs) h = ap (λ ys. x ∷ ys) (take_all n xs (omega arith))

drop_all : (n : ℕ) (xs : List (List ℕ)) → length xs ≤ n → drop n xs ≡ []
drop_all zero [] h = refl
drop_all zero (x ∷ xs) h = absurd (omega arith)
drop_all (suc n) [] h = refl
drop_all (suc n) (x ∷ xs) h = drop_all n xs (omega arith)

length_map : (qs : List Code) → length (map code_text qs) ≡ length qs
length_map [] = refl
length_map (q ∷ qs) = let rest = length_map qs in omega arith

pub qualifiers_are : (qs : List Code) → list_all is_qualifier qs ≡ true → all_distinct qs ≡ true → length qs ≤ 10
    → qualifiers_in (take 10 (map code_text qs)) ≡ Some qs
unfolding qualifiers_in
qualifiers_are qs h d few =
    let short : length (map code_text qs) ≤ 10 = omega (arith, length_map qs) in
    ap (qualifiers_onto []) (take_all 10 (map code_text qs) short) ∙ onto_all [] qs h d

-- ---- clean codes

code_byte : (b : ℕ) → is_code_byte b ≡ true → is_clean_byte b ≡ true
code_byte b h = grind (arith, nat_tests)

clean-code : (c : Code) → is_qualifier c ≡ true → is_clean (code_text c) ≡ true
clean-code c h =
    let parts = and_parts (is_code_byte c.first) ((c.second == 0) || is_code_byte c.second) h in
    elim (cases_Bool (c.second == 0)) [
      | inl none ↦
          ap (λ b. is_clean (if b then c.first ∷ [] else c.first ∷ c.second ∷ [])) none
          ∙ and_from (is_clean_byte c.first) true (code_byte c.first parts.0) refl
      | inr some_second ↦
          let second = and_parts (is_code_byte c.first) (is_code_byte c.second) (second_cases (is_code_byte c.first) (c.second == 0) (is_code_byte c.second) h some_second) in
          ap (λ b. is_clean (if b then c.first ∷ [] else c.first ∷ c.second ∷ [])) some_second
          ∙ and_from (is_clean_byte c.first) (is_clean_byte c.second && true) (code_byte c.first parts.0)
          (and_from (is_clean_byte c.second) true (code_byte c.second second.1) refl)
    ]

clean-codes : (qs : List Code) → list_all is_qualifier qs ≡ true → list_all is_clean (map code_text qs) ≡ true
clean-codes [] h = refl
clean-codes (q ∷ qs) h =
    let parts = and_parts (is_qualifier q) (list_all is_qualifier qs) h in
    also (code_text q) (map code_text qs) (clean-code q parts.0) (clean-codes qs parts.1)

-- a null code has two characters
null_second : (c : Code) → is_null_code c ≡ true → (c.second == 0) ≡ false
null_second c h =
    let parts = and_parts (is_code_byte c.first) (is_code_byte c.second) h in
    above (c.second) parts.1
  where
    above : (b : ℕ) → is_code_byte b ≡ true → (b == 0) ≡ false
    above b h = grind (arith, nat_tests)

null_is : (c : Code) → is_null_code c ≡ true → null_in (code_text c) ≡ Some c
null_is c h =
    ap (λ b. null_in (if b then c.first ∷ [] else c.first ∷ c.second ∷ [])) (null_second c h) ∙ ap (λ b. if b then Some c else None) h

or_right : (a b c : Bool) → (a && c) ≡ true → (a && (b || c)) ≡ true
or_right true true c h = refl
or_right true false c h = h
or_right false b c h = h

pub null_qualifies : (c : Code) → is_null_code c ≡ true → is_qualifier c ≡ true
null_qualifies c h = or_right (is_code_byte c.first) (c.second == 0) (is_code_byte c.second) h

unit_is : (p : Pollutant) → unit_in p (unit_text p) ≡ Some (value_places p)
unit_is Ozone = refl
unit_is Pm25 = refl
unit_is Pm10 = refl

clean-unit : (p : Pollutant) → is_clean (unit_text p) ≡ true
clean-unit Ozone = refl
clean-unit Pm25 = refl
clean-unit Pm10 = refl

-- ---- the fields of a sample's line, with the value's field and those after it

abbrev put_texts_by : List ℕ → MonitorId → Duration → List ℕ → ℕ → List (List ℕ) → List (List ℕ)
put_texts_by action id d method hour rest =
    codes "RD" ∷ action ∷ site_with id.site (parameter_text id.pollutant ∷ decimal id.poc ∷ duration_text d ∷ unit_text id.pollutant
    ∷ method ∷ date_text (day_of_hour hour) ∷ time_text hour ∷ rest)

abbrev put_texts : List ℕ → MonitorId → Duration → ℕ → ℕ → List (List ℕ) → List (List ℕ)
put_texts action id d method hour rest = put_texts_by action id d (last_digits 3 method) hour rest

clean-put : (action : List ℕ) (id : MonitorId) (d : Duration) (method hour : ℕ) (rest : List (List ℕ)) → is_clean action ≡ true → is_poc id.poc ≡ true
    → list_all is_clean rest ≡ true → list_all is_clean (put_texts action id d method hour rest) ≡ true
clean-put action id d method hour rest a i h =
    let from_time = also (time_text hour) rest (clean-time hour) h in
    let from_date = also (date_text (day_of_hour hour)) (time_text hour ∷ rest) (clean-date (day_of_hour hour)) from_time in
    let from_method = also (last_digits 3 method) (date_text (day_of_hour hour) ∷ time_text hour ∷ rest) (clean-digits 3 method) from_date in
    let from_unit = also (unit_text id.pollutant) (last_digits 3 method ∷ date_text (day_of_hour hour) ∷ time_text hour ∷ rest) (clean-unit id.pollutant) from_method in
    let from_duration = also (duration_text d) (unit_text id.pollutant ∷ last_digits 3 method ∷ date_text (day_of_hour hour) ∷ time_text hour ∷ rest) (clean-duration d) from_unit in
    let from_poc = also (decimal id.poc) (duration_text d ∷ unit_text id.pollutant ∷ last_digits 3 method ∷ date_text (day_of_hour hour) ∷ time_text hour ∷ rest) (clean-decimal id.poc (poc_short id.poc i)) from_duration in
    let from_parameter = also (parameter_text id.pollutant) (decimal id.poc ∷ duration_text d ∷ unit_text id.pollutant ∷ last_digits 3 method ∷ date_text (day_of_hour hour) ∷ time_text hour ∷ rest) (clean-parameter id.pollutant) from_poc in
    let from_site = clean-site id.site (parameter_text id.pollutant ∷ decimal id.poc ∷ duration_text d ∷ unit_text id.pollutant ∷ last_digits 3 method ∷ date_text (day_of_hour hour) ∷ time_text hour ∷ rest) from_parameter in
    also (codes "RD") (action ∷ site_with id.site (parameter_text id.pollutant ∷ decimal id.poc ∷ duration_text d ∷ unit_text id.pollutant ∷ last_digits 3 method ∷ date_text (day_of_hour hour) ∷ time_text hour ∷ rest)) refl
    (also action (site_with id.site (parameter_text id.pollutant ∷ decimal id.poc ∷ duration_text d ∷ unit_text id.pollutant ∷ last_digits 3 method ∷ date_text (day_of_hour hour) ∷ time_text hour ∷ rest)) a from_site)

record PutParts (id : MonitorId) (d : Duration) (method hour : ℕ) : Type 0 where
  site_ok : is_site id.site ≡ true
  poc_ok : is_poc id.poc ≡ true
  duration_ok : has_duration id.pollutant d ≡ true
  method_ok : method < 1000
  hour_ok : hour ≤ LAST_HOUR

put_read : (update : Bool) (action : List ℕ) (id : MonitorId) (d : Duration) (method hour : ℕ) (rest : List (List ℕ)) (content : Observation) → PutParts id d method hour
    → content_in id.pollutant (value_places id.pollutant) method (put_texts action id d method hour rest) ≡ Some content
    → put_in update (put_texts action id d method hour rest) ≡ Some (Put update id d hour content)
unfolding put_in start_in
put_read update action id d method hour rest content p is =
    bind-is _ (monitor_read (codes "RD") action id.site id.pollutant id.poc (duration_text d ∷ unit_text id.pollutant ∷ last_digits 3 method ∷ date_text (day_of_hour hour) ∷ time_text hour ∷ rest) p.site_ok p.poc_ok)
    ∙ bind-is _ (duration_is id.pollutant d p.duration_ok) ∙ bind-is _ (unit_is id.pollutant) ∙ bind-is _ (digits_three method p.method_ok)
    ∙ bind-is _ (hour_is hour p.hour_ok) ∙ bind-is _ is

second_branch : {A : Type 0} (b : Bool) (x y : A) → b ≡ false → (if b then x else y) ≡ y
second_branch true x y h = absurd (false≢true (sym h))
second_branch false x y h = refl

value_alone : (action : List ℕ) (id : MonitorId) (d : Duration) (method hour : ℕ) (text : List ℕ) (v : ℤ) → ValueText id.pollutant (value_places id.pollutant) text v
    → content_in id.pollutant (value_places id.pollutant) method (put_texts action id d method hour (text ∷ [])) ≡ Some (record { value = Some v; null = None; quals = []; method = Some method })
unfolding content_in qualifiers_in
value_alone action id d method hour text v t = second_branch (is_empty text) _ _ t.not_empty ∙ bind-is _ t.reads

value_and_codes : (action : List ℕ) (id : MonitorId) (d : Duration) (method hour : ℕ) (text : List ℕ) (v : ℤ) (qs : List Code)
    → ValueText id.pollutant (value_places id.pollutant) text v → qualifiers_in (take 10 (map code_text qs)) ≡ Some qs
    → content_in id.pollutant (value_places id.pollutant) method (put_texts action id d method hour (text ∷ [] ∷ [] ∷ [] ∷ map code_text qs)) ≡ Some (record { value = Some v; null = None; quals = qs; method = Some method })
unfolding content_in
value_and_codes action id d method hour text v qs t q = second_branch (is_empty text) _ _ t.not_empty ∙ bind-is _ t.reads ∙ bind-is _ q

null_alone : (action : List ℕ) (id : MonitorId) (d : Duration) (method hour : ℕ) (n : Code) → is_null_code n ≡ true
    → content_in id.pollutant (value_places id.pollutant) method (put_texts action id d method hour ([] ∷ code_text n ∷ [])) ≡ Some (record { value = None; null = Some n; quals = []; method = Some method })
unfolding content_in qualifiers_in
null_alone action id d method hour n h = bind-is _ (null_is n h)

null_and_codes : (action : List ℕ) (id : MonitorId) (d : Duration) (method hour : ℕ) (n : Code) (qs : List Code) → is_null_code n ≡ true
    → qualifiers_in (take 10 (map code_text qs)) ≡ Some qs
    → content_in id.pollutant (value_places id.pollutant) method (put_texts action id d method hour ([] ∷ code_text n ∷ [] ∷ [] ∷ map code_text qs)) ≡ Some (record { value = None; null = Some n; quals = qs; method = Some method })
unfolding content_in
null_and_codes action id d method hour n qs h q = bind-is _ (null_is n h) ∙ bind-is _ q

many : (n : ℕ) → 13 ≤ n → nat_lt n 13 ≡ false
many n h = grind (arith, nat_tests)

-- what is read from the texts of an insertion or update, given its count and content
read_put : (update : Bool) (id : MonitorId) (d : Duration) (method hour : ℕ) (content : Observation) (rest : List (List ℕ)) → PutParts id d method hour
    → content.method ≡ Some method → value_text id.pollutant content.value ∷ texts_behind content.null content.quals ≡ rest
    → list_all is_clean rest ≡ true
    → ((action : List ℕ) → has_wrong_count Rd false (put_texts action id d method hour rest) ≡ false)
    → ((action : List ℕ) → content_in id.pollutant (value_places id.pollutant) method (put_texts action id d method hour rest) ≡ Some content)
    → line_value (canonical_rd (Put update id d hour content)) ≡ Some (OfRd (Put update id d hour content))
unfolding rd_texts
read_put false id d method hour content rest p taken behind clean count reads =
    (λ i. line_value (joined (put_texts_by (codes "I") id d (method_text (taken i)) hour (behind i))))
    ∙ from_texts (codes "RD") (drop 1 (put_texts (codes "I") id d method hour rest)) (clean-put (codes "I") id d method hour rest refl p.poc_ok clean)
    ∙ second_branch (has_wrong_count Rd false (put_texts (codes "I") id d method hour rest)) _ _ (count (codes "I"))
    ∙ bind-is (λ value. Some (OfRd value)) (put_read false (codes "I") id d method hour rest content p (reads (codes "I")))
read_put true id d method hour content rest p taken behind clean count reads =
    (λ i. line_value (joined (put_texts_by (codes "U") id d (method_text (taken i)) hour (behind i))))
    ∙ from_texts (codes "RD") (drop 1 (put_texts (codes "U") id d method hour rest)) (clean-put (codes "U") id d method hour rest refl p.poc_ok clean)
    ∙ second_branch (has_wrong_count Rd false (put_texts (codes "U") id d method hour rest)) _ _ (count (codes "U"))
    ∙ bind-is (λ value. Some (OfRd value)) (put_read true (codes "U") id d method hour rest content p (reads (codes "U")))

long_count : (action : List ℕ) (id : MonitorId) (d : Duration) (method hour : ℕ) (a b c e : List ℕ) (tail : List (List ℕ)) → length tail ≤ 10
    → has_wrong_count Rd false (put_texts action id d method hour (a ∷ b ∷ c ∷ e ∷ tail)) ≡ false
long_count action id d method hour a b c e tail few =
    or_both (nat_lt (length (put_texts action id d method hour (a ∷ b ∷ c ∷ e ∷ tail))) 13) (list_any (λ text. not (is_empty text)) (drop 12 tail))
    (many (length (put_texts action id d method hour (a ∷ b ∷ c ∷ e ∷ tail))) (omega arith))
    (ap (list_any (λ text. not (is_empty text))) (drop_all 12 tail (omega arith)))

few_texts : (qs : List Code) → length qs ≤ 10 → length (map code_text qs) ≤ 10
few_texts qs h = omega (arith, length_map qs)

round_content : (update : Bool) (id : MonitorId) (d : Duration) (method hour : ℕ) (value : Option ℤ) (null : Option Code) (qs : List Code) → PutParts id d method hour
    → is_measured id.pollutant value null ≡ true → list_all is_qualifier qs ≡ true → all_distinct qs ≡ true → length qs ≤ 10
    → line_value (canonical_rd (Put update id d hour (record { value = value; null = null; quals = qs; method = Some method })))
    ≡ Some (OfRd (Put update id d hour (record { value = value; null = null; quals = qs; method = Some method })))
round_content update id d method hour None None qs p m h dist few = absurd (false≢true m)
round_content update id d method hour (Some v) (Some n) qs p m h dist few = absurd (false≢true m)
round_content update id d method hour (Some v) None [] p m h dist few =
    let t = value_text_is id.pollutant v m in
    read_put update id d method hour _ (value_text id.pollutant (Some v) ∷ []) p refl refl (one (value_text id.pollutant (Some v)) t.clean) (λ action. refl)
    (λ action. value_alone action id d method hour (value_text id.pollutant (Some v)) v t)
round_content update id d method hour (Some v) None (q ∷ qs) p m h dist few =
    let t = value_text_is id.pollutant v m in
    read_put update id d method hour _ (value_text id.pollutant (Some v) ∷ [] ∷ [] ∷ [] ∷ map code_text (q ∷ qs)) p refl refl
    (also (value_text id.pollutant (Some v)) ([] ∷ [] ∷ [] ∷ map code_text (q ∷ qs)) t.clean (clean-codes (q ∷ qs) h))
    (λ action. long_count action id d method hour (value_text id.pollutant (Some v)) [] [] [] (map code_text (q ∷ qs)) (few_texts (q ∷ qs) few))
    (λ action. value_and_codes action id d method hour (value_text id.pollutant (Some v)) v (q ∷ qs) t (qualifiers_are (q ∷ qs) h dist few))
round_content update id d method hour None (Some n) [] p m h dist few =
    read_put update id d method hour _ ([] ∷ code_text n ∷ []) p refl refl (one (code_text n) (clean-code n (null_qualifies n m))) (λ action. refl)
    (λ action. null_alone action id d method hour n m)
round_content update id d method hour None (Some n) (q ∷ qs) p m h dist few =
    read_put update id d method hour _ ([] ∷ code_text n ∷ [] ∷ [] ∷ map code_text (q ∷ qs)) p refl refl
    (also (code_text n) ([] ∷ [] ∷ map code_text (q ∷ qs)) (clean-code n (null_qualifies n m)) (clean-codes (q ∷ qs) h))
    (λ action. long_count action id d method hour [] (code_text n) [] [] (map code_text (q ∷ qs)) (few_texts (q ∷ qs) few))
    (λ action. null_and_codes action id d method hour n (q ∷ qs) m (qualifiers_are (q ∷ qs) h dist few))

delete_read : (action : List ℕ) (id : MonitorId) (hour : ℕ) → is_site id.site ≡ true → is_poc id.poc ≡ true → hour ≤ LAST_HOUR
    → delete_in (codes "RD" ∷ action ∷ site_with id.site (parameter_text id.pollutant ∷ decimal id.poc ∷ [] ∷ [] ∷ [] ∷ date_text (day_of_hour hour) ∷ time_text hour ∷ []))
    ≡ Some (Delete id hour)
unfolding delete_in start_in
delete_read action id hour s p h =
    bind-is _ (monitor_read (codes "RD") action id.site id.pollutant id.poc ([] ∷ [] ∷ [] ∷ date_text (day_of_hour hour) ∷ time_text hour ∷ []) s p)
    ∙ bind-is _ (hour_is hour h)

round_delete : (id : MonitorId) (hour : ℕ) → is_site id.site ≡ true → is_poc id.poc ≡ true → hour ≤ LAST_HOUR
    → line_value (canonical_rd (Delete id hour)) ≡ Some (OfRd (Delete id hour))
unfolding rd_texts
round_delete id hour s p h =
    let times : list_all is_clean ([] ∷ [] ∷ [] ∷ date_text (day_of_hour hour) ∷ time_text hour ∷ []) ≡ true =
    also (date_text (day_of_hour hour)) (time_text hour ∷ []) (clean-date (day_of_hour hour)) (one (time_text hour) (clean-time hour))
    in
    from_texts (codes "RD") (codes "D" ∷ site_with id.site (parameter_text id.pollutant ∷ decimal id.poc ∷ [] ∷ [] ∷ [] ∷ date_text (day_of_hour hour) ∷ time_text hour ∷ []))
    (clean-site id.site (parameter_text id.pollutant ∷ decimal id.poc ∷ [] ∷ [] ∷ [] ∷ date_text (day_of_hour hour) ∷ time_text hour ∷ [])
    (also (parameter_text id.pollutant) (decimal id.poc ∷ [] ∷ [] ∷ [] ∷ date_text (day_of_hour hour) ∷ time_text hour ∷ []) (clean-parameter id.pollutant)
    (also (decimal id.poc) ([] ∷ [] ∷ [] ∷ date_text (day_of_hour hour) ∷ time_text hour ∷ []) (clean-decimal id.poc (poc_short id.poc p)) times)))
    ∙ bind-is (λ value. Some (OfRd value)) (delete_read (codes "D") id hour s p h)

at_most_ten : (n : ℕ) → nat_le n 10 ≡ true → n ≤ 10
at_most_ten n h = grind (arith, nat_tests)

pub round-rd : (value : RdValue) → is_rd_value value ≡ true → line_value (canonical_rd value) ≡ Some (OfRd value)
round-rd (Put update id d hour content) h =
    let a = and_parts (is_site id.site && is_poc id.poc && has_duration id.pollutant d && is_some content.method && nat_le hour LAST_HOUR) (is_content id.pollutant content) h in
    let b = and_parts (is_site id.site && is_poc id.poc && has_duration id.pollutant d && is_some content.method) (nat_le hour LAST_HOUR) a.0 in
    let c = and_parts (is_site id.site && is_poc id.poc && has_duration id.pollutant d) (is_some content.method) b.0 in
    let e = and_parts (is_site id.site && is_poc id.poc) (has_duration id.pollutant d) c.0 in
    let f = and_parts (is_site id.site) (is_poc id.poc) e.0 in
    let w = and_parts (is_measured id.pollutant content.value content.null && list_all is_qualifier content.quals && all_distinct content.quals && nat_le (length content.quals) 10) (is_method content.method) a.1 in
    let x = and_parts (is_measured id.pollutant content.value content.null && list_all is_qualifier content.quals && all_distinct content.quals) (nat_le (length content.quals) 10) w.0 in
    let y = and_parts (is_measured id.pollutant content.value content.null && list_all is_qualifier content.quals) (all_distinct content.quals) x.0 in
    let z = and_parts (is_measured id.pollutant content.value content.null) (list_all is_qualifier content.quals) y.0 in
    by_method content.method c.1 w.1
    (λ method low.
    round_content update id d method hour content.value content.null content.quals
    (record {
      site_ok = f.0;
      poc_ok = f.1;
      duration_ok = e.1;
      method_ok = less_or method 999 1000 low (omega arith);
      hour_ok = at_most_hour hour b.1;
    })
    z.0 z.1 y.1 (at_most_ten (length content.quals) x.1))
  where
    with_method : Option ℕ → RdValue
    with_method method = Put update id d hour (record { value = content.value; null = content.null; quals = content.quals; method = method })

    by_method : (method : Option ℕ) → is_some method ≡ true → is_method method ≡ true
        → ((m : ℕ) → nat_le m 999 ≡ true → line_value (canonical_rd (with_method (Some m))) ≡ Some (OfRd (with_method (Some m))))
        → line_value (canonical_rd (with_method method)) ≡ Some (OfRd (with_method method))
    by_method None some is go = absurd (false≢true some)
    by_method (Some m) some is go = go m is
round-rd (Delete id hour) h =
    let a = and_parts (is_site id.site && is_poc id.poc) (nat_le hour LAST_HOUR) h in
    let b = and_parts (is_site id.site) (is_poc id.poc) a.0 in
    round_delete id hour b.0 b.1 (at_most_hour hour a.1)
