-- What a line spells is one of the values whose canonical lines are read back.
use Rattle.std.proofs.Common.{◌≡◌, ℕ, suc, ◌+◌, ◌<◌, ◌≤◌, Bool, true, false, ◌&&◌, List, [], ◌∷◌, ◌++◌, length, take, drop, Some, None, Option, refl, sym, arith, inl, inr, subst, length-append, length-take}
use Rattle.std.specs.Prelude.{nat_le, is_some, IfSome, if◌then◌else◌, ℤ}
use Rattle.std.specs.List.{list_all}
use Rattle.std.proofs.lemmas.Bool.{false≢true, and_from, and_parts, cases_Bool}
use Rattle.aq_base.specs.Calendar.{is_year}
use Rattle.aq_base.specs.Decimal.{is_decimal, cut}
use Rattle.aq_base.specs.Quals.{with_code, has_code, all_distinct}
use Rattle.aq_base.specs.Places.{all_distinct-push}
use Rattle.aq_base.specs.declared.code.Code.{Code}
use Rattle.aq_base.specs.declared.day.TheConstants.{LAST_HOUR}
use Rattle.aq_base.specs.declared.monitor.Pollutant.{Pollutant}
use Rattle.aq_base.specs.declared.monitor.MonitorId.{MonitorId}
use Rattle.aq_base.specs.declared.observation.Observation.{Observation}
use Rattle.aq_base.specs.declared.office.OfficeRecord.{OfficeRecord}
use Rattle.aq_base.specs.declared.office.OfficeRecord.TheVariants.{Season, Makeup, Event, Combined}
use Rattle.aq_base.specs.declared.office.OfficeKey.{OfficeKey}
use Rattle.aq_base.specs.declared.office.OfficeLine.TheVariants.{Put, Change, Drop}
use Rattle.aq_rules.specs.Lines.Fields.{field, fields, is_empty}
use Rattle.aq_rules.specs.Lines.Forms.{State, County, SiteNumber, Parameter, Poc, acts, text_of}
use Rattle.aq_rules.specs.Lines.Spellings.{◌>>=◌, Tag, Rd, Xm, Xp, Xs, Xo, Xu, Xe, Xc, Xa, Xb, Action, Insert, Update, Delete, action_in, site_in, parameter_in, parameter_of, poc_in, primary_in, duration_in, unit_in, method_in, date_in, year_in, interval_in, truth_in, value_in, is_in_range, null_in, qualifier_in, qualifiers_onto, qualifiers_in, event_number_in, event_code_in, has_parameter, has_duration, is_interval, is_event_number, is_event_code, is_code_byte}
use Rattle.aq_rules.specs.Lines.RdForm.{RdValue, monitor_in, start_in, content_in, put_in, delete_in, qualifier_fields}
use Rattle.aq_rules.specs.Lines.OfficeForms.{hour_in, is_season, is_makeup, is_span, is_pair, xm_record, xp_record, xp_key, xs_record, xs_key, xo_record, xo_key, xu_record, xu_key, xe_record, xe_key, xc_record, xa_record, xa_key, xb_record, xb_key}
use Rattle.aq_rules.specs.Lines.Reading.{LineValue, OfRd, OfOffice, line_value, value_for, form_value, action_for, has_wrong_count, is_deletion, is_plain, tag_of}
use Rattle.aq_rules.specs.Lines.Canonical.{is_rd_value, is_office_line, is_line_value}
use Rattle.aq_rules.specs.Office.Office.{is_site, is_poc, is_day, is_qualifier, is_null_code, is_measured, is_method, is_content}
use Rattle.aq_rules.proofs.Samples.{null_qualifies}
use Rattle.aq_rules.proofs.Valid.{valid, valid_if, anything, site_valid, parameter_valid, poc_valid, primary_valid, duration_valid, digits_valid, date_valid, year_valid, hour_valid, interval_valid, number_valid, code_valid, at_most}

-- ---- samples

monitor_parts : (state county number parameter poc : List ℕ)
    → IfSome (site_in state county number >>= λ s. parameter_in parameter >>= λ p. poc_in poc >>= λ c. Some (record { site = s; pollutant = p; poc = c }))
    (λ (id : MonitorId). (is_site id.site && is_poc id.poc) ≡ true)
monitor_parts state county number parameter poc =
    valid (λ s. is_site s ≡ true) (λ (id : MonitorId). (is_site id.site && is_poc id.poc) ≡ true) (site_in state county number) _ (site_valid state county number) λ s h.
    valid (λ p. p ≡ p) (λ (id : MonitorId). (is_site id.site && is_poc id.poc) ≡ true) (parameter_in parameter) _ (anything (parameter_in parameter)) λ p e.
    valid (λ p. is_poc p ≡ true) (λ (id : MonitorId). (is_site id.site && is_poc id.poc) ≡ true) (poc_in poc) _ (poc_valid poc) λ c i.
    and_from (is_site s) (is_poc c) h i

monitor_valid : (tag : Tag) (texts : List (List ℕ)) → IfSome (monitor_in tag texts) (λ id. (is_site id.site && is_poc id.poc) ≡ true)
unfolding monitor_in
monitor_valid tag texts =
    monitor_parts (text_of tag State texts) (text_of tag County texts) (text_of tag SiteNumber texts) (text_of tag Parameter texts) (text_of tag Poc texts)

null_valid : (text : List ℕ) → IfSome (null_in text) (λ c. is_null_code c ≡ true)
null_valid [] = tt
null_valid (a ∷ []) = tt
null_valid (a ∷ b ∷ []) = valid_if (λ (c : Code). is_null_code c ≡ true) (is_code_byte a && is_code_byte b) _ (λ h. h)
null_valid (a ∷ b ∷ c ∷ text) = tt

weaken : {A : Type 0} (P Q : A → Type 0) (part : Option A) → IfSome part P → ((x : A) → P x → Q x) → IfSome part Q
weaken P Q None h go = tt
weaken P Q (Some x) h go = go x h

qualifier_valid : (text : List ℕ) → IfSome (qualifier_in text) (λ c. is_qualifier c ≡ true)
qualifier_valid [] = tt
qualifier_valid (a ∷ []) = valid_if (λ (c : Code). is_qualifier c ≡ true) (is_code_byte a) _ (λ h. and_from (is_code_byte a) true h refl)
qualifier_valid (a ∷ b ∷ text) =
    weaken (λ c. is_null_code c ≡ true) (λ c. is_qualifier c ≡ true) (null_in (a ∷ b ∷ text)) (null_valid (a ∷ b ∷ text)) null_qualifies

record GoodCodes (most : ℕ) (qs : List Code) : Type 0 where
  spelled : list_all is_qualifier qs ≡ true
  distinct : all_distinct qs ≡ true
  few : length qs ≤ most

all_append : (qs : List Code) (c : Code) → list_all is_qualifier qs ≡ true → is_qualifier c ≡ true → list_all is_qualifier (qs ++ c ∷ []) ≡ true
all_append [] c h i = and_from (is_qualifier c) true i refl
all_append (q ∷ qs) c h i =
    let parts = and_parts (is_qualifier q) (list_all is_qualifier qs) h in
    and_from (is_qualifier q) (list_all is_qualifier (qs ++ c ∷ [])) parts.0 (all_append qs c parts.1 i)

with_good : (most : ℕ) (before : List Code) (c : Code) → GoodCodes most before → is_qualifier c ≡ true → GoodCodes (most + 1) (with_code before c)
with_good most before c good h =
    let few = good.few in
    elim (cases_Bool (has_code c before)) [
      | inl there ↦ subst (λ b. GoodCodes (most + 1) (if b then before else before ++ c ∷ [])) (sym there)
          (record { spelled = good.spelled; distinct = good.distinct; few = omega arith })
      | inr absent ↦ subst (λ b. GoodCodes (most + 1) (if b then before else before ++ c ∷ [])) (sym absent)
          (record {
            spelled = all_append before c good.spelled h;
            distinct = all_distinct-push before c good.distinct absent;
            few = omega (arith, length-append before (c ∷ []));
          })
    ]

more_room : (m n : ℕ) (qs : List Code) → m ≤ n → GoodCodes m qs → GoodCodes n qs
more_room m n qs h good =
    let few = good.few in
    record { spelled = good.spelled; distinct = good.distinct; few = omega arith }

onto_valid : (most : ℕ) (before : List Code) (texts : List (List ℕ)) → GoodCodes most before → IfSome (qualifiers_onto before texts) (GoodCodes (most + length texts))
onto_valid most before [] good = more_room most (most + 0) before (omega arith) good
onto_valid most before ([] ∷ texts) good =
    weaken (GoodCodes (most + length texts)) (GoodCodes (most + suc (length texts))) (qualifiers_onto before texts) (onto_valid most before texts good)
    (λ qs h. more_room (most + length texts) (most + suc (length texts)) qs (omega arith) h)
onto_valid most before ((b ∷ bs) ∷ texts) good =
    valid (λ c. is_qualifier c ≡ true) (GoodCodes (most + suc (length texts))) (qualifier_in (b ∷ bs)) _ (qualifier_valid (b ∷ bs)) λ c h.
    weaken (GoodCodes (most + 1 + length texts)) (GoodCodes (most + suc (length texts))) (qualifiers_onto (with_code before c) texts)
    (onto_valid (most + 1) (with_code before c) texts (with_good most before c good h))
    (λ qs g. more_room (most + 1 + length texts) (most + suc (length texts)) qs (omega arith) g)

ten : (texts : List (List ℕ)) → length (take 10 texts) ≤ 10
ten texts = omega (arith, length-take 10 texts)

quals_valid : (texts : List (List ℕ)) → IfSome (qualifiers_in (qualifier_fields texts)) (GoodCodes 10)
unfolding qualifiers_in
quals_valid texts =
    weaken (GoodCodes (0 + length (take 10 (drop 16 texts)))) (GoodCodes 10) (qualifiers_onto [] (qualifier_fields texts))
    (onto_valid 0 [] (qualifier_fields texts) (record { spelled = refl; distinct = refl; few = omega arith }))
    (λ qs g. more_room (0 + length (take 10 (drop 16 texts))) 10 qs (let few = ten (drop 16 texts) in omega arith) g)

either : {A : Type 0} (P : A → Type 0) (b : Bool) (x y : Option A) → IfSome x P → IfSome y P → IfSome (if b then x else y) P
either P true x y h i = h
either P false x y h i = i

value_valid : (p : Pollutant) (places : ℕ) (text : List ℕ) → IfSome (value_in p places text) (λ v. is_in_range p v ≡ true)
unfolding value_in
value_valid p places text =
    valid_if (λ v. is_in_range p v ≡ true) (is_decimal text && is_in_range p (cut text places)) (cut text places)
    (λ h. (and_parts (is_decimal text) (is_in_range p (cut text places)) h).1)

good_content : (p : Pollutant) (value : Option ℤ) (null : Option Code) (qs : List Code) (method : ℕ) → is_measured p value null ≡ true → GoodCodes 10 qs
    → method < 1000 → is_content p (record { value = value; null = null; quals = qs; method = Some method }) ≡ true
good_content p value null qs method m good low =
    let few = good.few in
    and_from (is_measured p value null && list_all is_qualifier qs && all_distinct qs && nat_le (length qs) 10) (is_method (Some method))
    (and_from (is_measured p value null && list_all is_qualifier qs && all_distinct qs) (nat_le (length qs) 10)
    (and_from (is_measured p value null && list_all is_qualifier qs) (all_distinct qs) (and_from (is_measured p value null) (list_all is_qualifier qs) m good.spelled) good.distinct)
    (at_most (length qs) 10 (omega arith)))
    (at_most method 999 low)

-- a content with a method that a line can spell
abbrev IsSpelledContent : Pollutant → Observation → Type 0
IsSpelledContent p c = (is_some c.method && is_content p c) ≡ true

content_valid : (p : Pollutant) (places method : ℕ) (texts : List (List ℕ)) → method < 1000 → IfSome (content_in p places method texts) (IsSpelledContent p)
unfolding content_in
content_valid p places method texts low =
    either (IsSpelledContent p) (is_empty (field 13 texts)) _ _
    (valid (λ c. is_null_code c ≡ true) (IsSpelledContent p) (null_in (field 14 texts)) _ (null_valid (field 14 texts)) λ n h.
    valid (GoodCodes 10) (IsSpelledContent p) (qualifiers_in (qualifier_fields texts)) _ (quals_valid texts) λ qs g. good_content p None (Some n) qs method h g low)
    (either (IsSpelledContent p) (is_empty (field 14 texts)) _ None
    (valid (λ v. is_in_range p v ≡ true) (IsSpelledContent p) (value_in p places (field 13 texts)) _ (value_valid p places (field 13 texts)) λ v h.
    valid (GoodCodes 10) (IsSpelledContent p) (qualifiers_in (qualifier_fields texts)) _ (quals_valid texts) λ qs g. good_content p (Some v) None qs method h g low)
    tt)

put_valid : (update : Bool) (texts : List (List ℕ)) → IfSome (put_in update texts) (λ v. is_rd_value v ≡ true)
unfolding put_in start_in
put_valid update texts =
    valid (λ (id : MonitorId). (is_site id.site && is_poc id.poc) ≡ true) (λ v. is_rd_value v ≡ true) (monitor_in Rd texts) _ (monitor_valid Rd texts) λ id h.
    valid (λ d. has_duration id.pollutant d ≡ true) (λ v. is_rd_value v ≡ true) (duration_in id.pollutant (field 8 texts)) _ (duration_valid id.pollutant (field 8 texts)) λ d i.
    valid (λ n. n ≡ n) (λ v. is_rd_value v ≡ true) (unit_in id.pollutant (field 9 texts)) _ (anything (unit_in id.pollutant (field 9 texts))) λ places e.
    valid (λ n. n < 1000) (λ v. is_rd_value v ≡ true) (method_in (field 10 texts)) _ (digits_valid 3 (field 10 texts)) λ m j.
    valid (λ h. nat_le h LAST_HOUR ≡ true) (λ v. is_rd_value v ≡ true) (hour_in (field 11 texts) (field 12 texts)) _ (hour_valid (field 11 texts) (field 12 texts)) λ hour k.
    valid (IsSpelledContent id.pollutant) (λ v. is_rd_value v ≡ true) (content_in id.pollutant places m texts) _ (content_valid id.pollutant places m texts j) λ c l.
    let spelled = and_parts (is_some c.method) (is_content id.pollutant c) l in
    and_from (is_site id.site && is_poc id.poc && has_duration id.pollutant d && is_some c.method && nat_le hour LAST_HOUR) (is_content id.pollutant c)
    (and_from (is_site id.site && is_poc id.poc && has_duration id.pollutant d && is_some c.method) (nat_le hour LAST_HOUR)
    (and_from (is_site id.site && is_poc id.poc && has_duration id.pollutant d) (is_some c.method)
    (and_from (is_site id.site && is_poc id.poc) (has_duration id.pollutant d) h i) spelled.0) k) spelled.1

delete_valid : (texts : List (List ℕ)) → IfSome (delete_in texts) (λ v. is_rd_value v ≡ true)
unfolding delete_in start_in
delete_valid texts =
    valid (λ (id : MonitorId). (is_site id.site && is_poc id.poc) ≡ true) (λ v. is_rd_value v ≡ true) (monitor_in Rd texts) _ (monitor_valid Rd texts) λ id h.
    valid (λ h. nat_le h LAST_HOUR ≡ true) (λ v. is_rd_value v ≡ true) (hour_in (field 11 texts) (field 12 texts)) _ (hour_valid (field 11 texts) (field 12 texts)) λ hour k.
    and_from (is_site id.site && is_poc id.poc) (nat_le hour LAST_HOUR) h k

-- ---- office lines

xm_record-valid : (texts : List (List ℕ)) → IfSome (xm_record texts) (λ (r : OfficeRecord). is_office_line (Put r) ≡ true)
unfolding xm_record
xm_record-valid texts =
    valid (λ (id : MonitorId). (is_site id.site && is_poc id.poc) ≡ true) (λ (r : OfficeRecord). is_office_line (Put r) ≡ true) (monitor_in Xm texts) _ (monitor_valid Xm texts) λ id h.
    valid (λ d. has_duration id.pollutant d ≡ true) (λ (r : OfficeRecord). is_office_line (Put r) ≡ true) (duration_in id.pollutant (field 8 texts)) _ (duration_valid id.pollutant (field 8 texts)) λ d i.
    valid (λ b. b ≡ b) (λ (r : OfficeRecord). is_office_line (Put r) ≡ true) (truth_in (field 9 texts)) _ (anything (truth_in (field 9 texts))) λ b j.
    and_from (is_site id.site && is_poc id.poc) (has_duration id.pollutant d) h i

xm_record-change : (texts : List (List ℕ)) → IfSome (xm_record texts) (λ (r : OfficeRecord). is_office_line (Change r) ≡ true)
unfolding xm_record
xm_record-change texts =
    valid (λ (id : MonitorId). (is_site id.site && is_poc id.poc) ≡ true) (λ (r : OfficeRecord). is_office_line (Change r) ≡ true) (monitor_in Xm texts) _ (monitor_valid Xm texts) λ id h.
    valid (λ d. has_duration id.pollutant d ≡ true) (λ (r : OfficeRecord). is_office_line (Change r) ≡ true) (duration_in id.pollutant (field 8 texts)) _ (duration_valid id.pollutant (field 8 texts)) λ d i.
    valid (λ b. b ≡ b) (λ (r : OfficeRecord). is_office_line (Change r) ≡ true) (truth_in (field 9 texts)) _ (anything (truth_in (field 9 texts))) λ b j.
    and_from (is_site id.site && is_poc id.poc) (has_duration id.pollutant d) h i

xp_record-valid : (texts : List (List ℕ)) → IfSome (xp_record texts) (λ (r : OfficeRecord). is_office_line (Put r) ≡ true)
unfolding xp_record
xp_record-valid texts =
    valid (λ s. is_site s ≡ true) (λ (r : OfficeRecord). is_office_line (Put r) ≡ true) (site_in (field 3 texts) (field 4 texts) (field 5 texts)) _ (site_valid (field 3 texts) (field 4 texts) (field 5 texts)) λ s h.
    valid (λ p. has_parameter Xp p ≡ true) (λ (r : OfficeRecord). is_office_line (Put r) ≡ true) (parameter_of Xp (field 6 texts)) _ (parameter_valid Xp (field 6 texts)) λ p e.
    valid (λ c. nat_le c 99 ≡ true) (λ (r : OfficeRecord). is_office_line (Put r) ≡ true) (primary_in (field 8 texts)) _ (primary_valid (field 8 texts)) λ c i.
    valid (λ d. is_day d ≡ true) (λ (r : OfficeRecord). is_office_line (Put r) ≡ true) (date_in (field 7 texts)) _ (date_valid (field 7 texts)) λ d j.
    and_from (is_site s && is_day d) (nat_le c 99) (and_from (is_site s) (is_day d) h j) i

xp_key-valid : (texts : List (List ℕ)) → IfSome (xp_key texts) (λ (k : OfficeKey). is_office_line (Drop k) ≡ true)
unfolding xp_key
xp_key-valid texts =
    valid (λ s. is_site s ≡ true) (λ (k : OfficeKey). is_office_line (Drop k) ≡ true) (site_in (field 3 texts) (field 4 texts) (field 5 texts)) _ (site_valid (field 3 texts) (field 4 texts) (field 5 texts)) λ s h.
    valid (λ p. has_parameter Xp p ≡ true) (λ (k : OfficeKey). is_office_line (Drop k) ≡ true) (parameter_of Xp (field 6 texts)) _ (parameter_valid Xp (field 6 texts)) λ p e.
    valid (λ d. is_day d ≡ true) (λ (k : OfficeKey). is_office_line (Drop k) ≡ true) (date_in (field 7 texts)) _ (date_valid (field 7 texts)) λ d j.
    and_from (is_site s) (is_day d) h j

xs_record-valid : (texts : List (List ℕ)) → IfSome (xs_record texts) (λ (r : OfficeRecord). is_office_line (Put r) ≡ true)
unfolding xs_record
xs_record-valid texts =
    valid (λ s. is_site s ≡ true) (λ (r : OfficeRecord). is_office_line (Put r) ≡ true) (site_in (field 3 texts) (field 4 texts) (field 5 texts)) _ (site_valid (field 3 texts) (field 4 texts) (field 5 texts)) λ s h.
    valid (λ p. has_parameter Xs p ≡ true) (λ (r : OfficeRecord). is_office_line (Put r) ≡ true) (parameter_of Xs (field 6 texts)) _ (parameter_valid Xs (field 6 texts)) λ p e.
    valid (λ d. is_day d ≡ true) (λ (r : OfficeRecord). is_office_line (Put r) ≡ true) (date_in (field 7 texts)) _ (date_valid (field 7 texts)) λ d j.
    valid (λ d. is_day d ≡ true) (λ (r : OfficeRecord). is_office_line (Put r) ≡ true) (date_in (field 9 texts)) _ (date_valid (field 9 texts)) λ a k.
    valid (λ n. is_interval n ≡ true) (λ (r : OfficeRecord). is_office_line (Put r) ≡ true) (interval_in (field 8 texts)) _ (interval_valid (field 8 texts)) λ n l.
    and_from (is_site s && has_parameter Xs p && is_day d) (is_interval n && is_day a) (and_from (is_site s && has_parameter Xs p) (is_day d) (and_from (is_site s) (has_parameter Xs p) h e) j) (and_from (is_interval n) (is_day a) l k)

xs_key-valid : (texts : List (List ℕ)) → IfSome (xs_key texts) (λ (k : OfficeKey). is_office_line (Drop k) ≡ true)
unfolding xs_key
xs_key-valid texts =
    valid (λ s. is_site s ≡ true) (λ (k : OfficeKey). is_office_line (Drop k) ≡ true) (site_in (field 3 texts) (field 4 texts) (field 5 texts)) _ (site_valid (field 3 texts) (field 4 texts) (field 5 texts)) λ s h.
    valid (λ p. has_parameter Xs p ≡ true) (λ (k : OfficeKey). is_office_line (Drop k) ≡ true) (parameter_of Xs (field 6 texts)) _ (parameter_valid Xs (field 6 texts)) λ p e.
    valid (λ d. is_day d ≡ true) (λ (k : OfficeKey). is_office_line (Drop k) ≡ true) (date_in (field 7 texts)) _ (date_valid (field 7 texts)) λ d j.
    and_from (is_site s && has_parameter Xs p) (is_day d) (and_from (is_site s) (has_parameter Xs p) h e) j

xo_record-valid : (texts : List (List ℕ)) → IfSome (xo_record texts) (λ (r : OfficeRecord). is_office_line (Put r) ≡ true)
unfolding xo_record
xo_record-valid texts =
    valid (λ s. is_site s ≡ true) (λ (r : OfficeRecord). is_office_line (Put r) ≡ true) (site_in (field 3 texts) (field 4 texts) (field 5 texts)) _ (site_valid (field 3 texts) (field 4 texts) (field 5 texts)) λ s h.
    valid (λ y. is_year y ≡ true) (λ (r : OfficeRecord). is_office_line (Put r) ≡ true) (year_in (field 6 texts)) _ (year_valid (field 6 texts)) λ y i.
    valid (λ d. is_day d ≡ true) (λ (r : OfficeRecord). is_office_line (Put r) ≡ true) (date_in (field 7 texts)) _ (date_valid (field 7 texts)) λ a j.
    valid (λ d. is_day d ≡ true) (λ (r : OfficeRecord). is_office_line (Put r) ≡ true) (date_in (field 8 texts)) _ (date_valid (field 8 texts)) λ b k.
    valid_if (λ (r : OfficeRecord). is_office_line (Put r) ≡ true) (is_season y a b) (Season s y a b)
    (λ l. and_from (is_site s && is_year y) (is_day a && is_day b && is_season y a b) (and_from (is_site s) (is_year y) h i) (and_from (is_day a && is_day b) (is_season y a b) (and_from (is_day a) (is_day b) j k) l))

xo_key-valid : (texts : List (List ℕ)) → IfSome (xo_key texts) (λ (k : OfficeKey). is_office_line (Drop k) ≡ true)
unfolding xo_key
xo_key-valid texts =
    valid (λ s. is_site s ≡ true) (λ (k : OfficeKey). is_office_line (Drop k) ≡ true) (site_in (field 3 texts) (field 4 texts) (field 5 texts)) _ (site_valid (field 3 texts) (field 4 texts) (field 5 texts)) λ s h.
    valid (λ y. is_year y ≡ true) (λ (k : OfficeKey). is_office_line (Drop k) ≡ true) (year_in (field 6 texts)) _ (year_valid (field 6 texts)) λ y i.
    and_from (is_site s) (is_year y) h i

xu_record-valid : (texts : List (List ℕ)) → IfSome (xu_record texts) (λ (r : OfficeRecord). is_office_line (Put r) ≡ true)
unfolding xu_record
xu_record-valid texts =
    valid (λ s. is_site s ≡ true) (λ (r : OfficeRecord). is_office_line (Put r) ≡ true) (site_in (field 3 texts) (field 4 texts) (field 5 texts)) _ (site_valid (field 3 texts) (field 4 texts) (field 5 texts)) λ s h.
    valid (λ p. has_parameter Xu p ≡ true) (λ (r : OfficeRecord). is_office_line (Put r) ≡ true) (parameter_of Xu (field 6 texts)) _ (parameter_valid Xu (field 6 texts)) λ p e.
    valid (λ d. is_day d ≡ true) (λ (r : OfficeRecord). is_office_line (Put r) ≡ true) (date_in (field 7 texts)) _ (date_valid (field 7 texts)) λ a j.
    valid (λ d. is_day d ≡ true) (λ (r : OfficeRecord). is_office_line (Put r) ≡ true) (date_in (field 8 texts)) _ (date_valid (field 8 texts)) λ b k.
    valid_if (λ (r : OfficeRecord). is_office_line (Put r) ≡ true) (is_makeup a b) (Makeup s a b)
    (λ l. and_from (is_site s && is_day a) (is_day b && is_makeup a b) (and_from (is_site s) (is_day a) h j) (and_from (is_day b) (is_makeup a b) k l))

xu_key-valid : (texts : List (List ℕ)) → IfSome (xu_key texts) (λ (k : OfficeKey). is_office_line (Drop k) ≡ true)
unfolding xu_key
xu_key-valid texts =
    valid (λ s. is_site s ≡ true) (λ (k : OfficeKey). is_office_line (Drop k) ≡ true) (site_in (field 3 texts) (field 4 texts) (field 5 texts)) _ (site_valid (field 3 texts) (field 4 texts) (field 5 texts)) λ s h.
    valid (λ p. has_parameter Xu p ≡ true) (λ (k : OfficeKey). is_office_line (Drop k) ≡ true) (parameter_of Xu (field 6 texts)) _ (parameter_valid Xu (field 6 texts)) λ p e.
    valid (λ d. is_day d ≡ true) (λ (k : OfficeKey). is_office_line (Drop k) ≡ true) (date_in (field 7 texts)) _ (date_valid (field 7 texts)) λ a j.
    and_from (is_site s) (is_day a) h j

xe_record-valid : (texts : List (List ℕ)) → IfSome (xe_record texts) (λ (r : OfficeRecord). is_office_line (Put r) ≡ true)
unfolding xe_record
xe_record-valid texts =
    valid (λ s. is_site s ≡ true) (λ (r : OfficeRecord). is_office_line (Put r) ≡ true) (site_in (field 4 texts) (field 5 texts) (field 6 texts)) _ (site_valid (field 4 texts) (field 5 texts) (field 6 texts)) λ s h.
    valid (λ p. has_parameter Xe p ≡ true) (λ (r : OfficeRecord). is_office_line (Put r) ≡ true) (parameter_of Xe (field 7 texts)) _ (parameter_valid Xe (field 7 texts)) λ p e.
    valid (λ h. nat_le h LAST_HOUR ≡ true) (λ (r : OfficeRecord). is_office_line (Put r) ≡ true) (hour_in (field 8 texts) (field 9 texts)) _ (hour_valid (field 8 texts) (field 9 texts)) λ a j.
    valid (λ h. nat_le h LAST_HOUR ≡ true) (λ (r : OfficeRecord). is_office_line (Put r) ≡ true) (hour_in (field 10 texts) (field 11 texts)) _ (hour_valid (field 10 texts) (field 11 texts)) λ b k.
    valid (λ n. is_event_number n ≡ true) (λ (r : OfficeRecord). is_office_line (Put r) ≡ true) (event_number_in (field 3 texts)) _ (number_valid (field 3 texts)) λ n g.
    valid (λ c. is_event_code c ≡ true) (λ (r : OfficeRecord). is_office_line (Put r) ≡ true) (event_code_in (field 12 texts)) _ (code_valid (field 12 texts)) λ c l.
    valid_if (λ (r : OfficeRecord). is_office_line (Put r) ≡ true) (is_span a b) (Event n s p a b c)
    (λ m. and_from (is_event_number n) (is_site s && nat_le b LAST_HOUR && is_span a b && is_event_code c) g (and_from (is_site s && nat_le b LAST_HOUR && is_span a b) (is_event_code c) (and_from (is_site s && nat_le b LAST_HOUR) (is_span a b) (and_from (is_site s) (nat_le b LAST_HOUR) h k) m) l))

xe_key-valid : (texts : List (List ℕ)) → IfSome (xe_key texts) (λ (k : OfficeKey). is_office_line (Drop k) ≡ true)
unfolding xe_key
xe_key-valid texts =
    valid (λ n. is_event_number n ≡ true) (λ (k : OfficeKey). is_office_line (Drop k) ≡ true) (event_number_in (field 3 texts)) _ (number_valid (field 3 texts)) λ n g.
    g

xc_record-valid : (texts : List (List ℕ)) → IfSome (xc_record texts) (λ (r : OfficeRecord). is_office_line (Change r) ≡ true)
unfolding xc_record
xc_record-valid texts =
    valid (λ n. is_event_number n ≡ true) (λ (r : OfficeRecord). is_office_line (Change r) ≡ true) (event_number_in (field 3 texts)) _ (number_valid (field 3 texts)) λ n g.
    valid (λ b. b ≡ b) (λ (r : OfficeRecord). is_office_line (Change r) ≡ true) (truth_in (field 4 texts)) _ (anything (truth_in (field 4 texts))) λ b j.
    and_from (is_event_number n) true g refl

xa_record-valid : (texts : List (List ℕ)) → IfSome (xa_record texts) (λ (r : OfficeRecord). is_office_line (Put r) ≡ true)
unfolding xa_record
xa_record-valid texts =
    valid (λ s. is_site s ≡ true) (λ (r : OfficeRecord). is_office_line (Put r) ≡ true) (site_in (field 3 texts) (field 4 texts) (field 5 texts)) _ (site_valid (field 3 texts) (field 4 texts) (field 5 texts)) λ s h.
    valid (λ d. is_day d ≡ true) (λ (r : OfficeRecord). is_office_line (Put r) ≡ true) (date_in (field 6 texts)) _ (date_valid (field 6 texts)) λ d j.
    and_from (is_site s && is_day d) true (and_from (is_site s) (is_day d) h j) refl

xa_key-valid : (texts : List (List ℕ)) → IfSome (xa_key texts) (λ (k : OfficeKey). is_office_line (Drop k) ≡ true)
unfolding xa_key
xa_key-valid texts =
    valid (λ s. is_site s ≡ true) (λ (k : OfficeKey). is_office_line (Drop k) ≡ true) (site_in (field 3 texts) (field 4 texts) (field 5 texts)) _ (site_valid (field 3 texts) (field 4 texts) (field 5 texts)) λ s h.
    valid (λ d. is_day d ≡ true) (λ (k : OfficeKey). is_office_line (Drop k) ≡ true) (date_in (field 6 texts)) _ (date_valid (field 6 texts)) λ d j.
    and_from (is_site s) (is_day d) h j

xb_record-valid : (texts : List (List ℕ)) → IfSome (xb_record texts) (λ (r : OfficeRecord). is_office_line (Put r) ≡ true)
unfolding xb_record
xb_record-valid texts =
    valid (λ s. is_site s ≡ true) (λ (r : OfficeRecord). is_office_line (Put r) ≡ true) (site_in (field 3 texts) (field 4 texts) (field 5 texts)) _ (site_valid (field 3 texts) (field 4 texts) (field 5 texts)) λ s h.
    valid (λ s. is_site s ≡ true) (λ (r : OfficeRecord). is_office_line (Put r) ≡ true) (site_in (field 8 texts) (field 9 texts) (field 10 texts)) _ (site_valid (field 8 texts) (field 9 texts) (field 10 texts)) λ j k.
    valid (λ p. has_parameter Xb p ≡ true) (λ (r : OfficeRecord). is_office_line (Put r) ≡ true) (parameter_of Xb (field 6 texts)) _ (parameter_valid Xb (field 6 texts)) λ p e.
    valid (λ d. is_day d ≡ true) (λ (r : OfficeRecord). is_office_line (Put r) ≡ true) (date_in (field 7 texts)) _ (date_valid (field 7 texts)) λ d i.
    valid_if (λ (r : OfficeRecord). is_office_line (Put r) ≡ true) (is_pair s j) (Combined s p d j)
    (λ l. and_from (is_site s && has_parameter Xb p) (is_day d && is_site j && is_pair s j) (and_from (is_site s) (has_parameter Xb p) h e) (and_from (is_day d && is_site j) (is_pair s j) (and_from (is_day d) (is_site j) i k) l))

xb_key-valid : (texts : List (List ℕ)) → IfSome (xb_key texts) (λ (k : OfficeKey). is_office_line (Drop k) ≡ true)
unfolding xb_key
xb_key-valid texts =
    valid (λ s. is_site s ≡ true) (λ (k : OfficeKey). is_office_line (Drop k) ≡ true) (site_in (field 3 texts) (field 4 texts) (field 5 texts)) _ (site_valid (field 3 texts) (field 4 texts) (field 5 texts)) λ s h.
    valid (λ p. has_parameter Xb p ≡ true) (λ (k : OfficeKey). is_office_line (Drop k) ≡ true) (parameter_of Xb (field 6 texts)) _ (parameter_valid Xb (field 6 texts)) λ p e.
    and_from (is_site s) (has_parameter Xb p) h e

-- ---- the whole line

handed : {A : Type 0} (Q : LineValue → Type 0) (P : A → Type 0) (part : Option A) (f : A → LineValue) → IfSome part P → ((x : A) → P x → Q (f x))
    → IfSome (part >>= λ x. Some (f x)) Q
handed Q P None f h go = tt
handed Q P (Some x) f h go = go x h

handed_twice : {A B : Type 0} (Q : LineValue → Type 0) (P : A → Type 0) (part : Option A) (g : A → B) (f : B → LineValue) → IfSome part P → ((x : A) → P x → Q (f (g x)))
    → IfSome ((part >>= λ x. Some (g x)) >>= λ y. Some (f y)) Q
handed_twice Q P None g f h go = tt
handed_twice Q P (Some x) g f h go = go x h

Spelled : LineValue → Type 0
Spelled v = is_line_value v ≡ true

put : (part : Option OfficeRecord) → IfSome part (λ r. is_office_line (Put r) ≡ true) → IfSome ((part >>= λ r. Some (Put r)) >>= λ l. Some (OfOffice l)) Spelled
unfolding Spelled
put part h = handed_twice Spelled (λ r. is_office_line (Put r) ≡ true) part (λ r. Put r) (λ l. OfOffice l) h (λ r q. q)

change : (part : Option OfficeRecord) → IfSome part (λ r. is_office_line (Change r) ≡ true) → IfSome ((part >>= λ r. Some (Change r)) >>= λ l. Some (OfOffice l)) Spelled
unfolding Spelled
change part h = handed_twice Spelled (λ r. is_office_line (Change r) ≡ true) part (λ r. Change r) (λ l. OfOffice l) h (λ r q. q)

drops : (part : Option OfficeKey) → IfSome part (λ k. is_office_line (Drop k) ≡ true) → IfSome ((part >>= λ k. Some (Drop k)) >>= λ l. Some (OfOffice l)) Spelled
unfolding Spelled
drops part h = handed_twice Spelled (λ k. is_office_line (Drop k) ≡ true) part (λ k. Drop k) (λ l. OfOffice l) h (λ k q. q)

sample : (part : Option RdValue) → IfSome part (λ v. is_rd_value v ≡ true) → IfSome (part >>= λ v. Some (OfRd v)) Spelled
unfolding Spelled
sample part h = handed Spelled (λ v. is_rd_value v ≡ true) part (λ v. OfRd v) h (λ v q. q)

value_for-valid : (tag : Tag) (action : Action) (texts : List (List ℕ)) → acts tag action ≡ true → IfSome (value_for tag action texts) Spelled
value_for-valid Rd Insert texts may = sample (put_in false texts) (put_valid false texts)
value_for-valid Rd Update texts may = sample (put_in true texts) (put_valid true texts)
value_for-valid Rd Delete texts may = sample (delete_in texts) (delete_valid texts)
value_for-valid Xm Insert texts may = put (xm_record texts) (xm_record-valid texts)
value_for-valid Xm Update texts may = change (xm_record texts) (xm_record-change texts)
value_for-valid Xm Delete texts may = tt
value_for-valid Xp Insert texts may = put (xp_record texts) (xp_record-valid texts)
value_for-valid Xp Update texts may = absurd (false≢true may)
value_for-valid Xp Delete texts may = drops (xp_key texts) (xp_key-valid texts)
value_for-valid Xs Insert texts may = put (xs_record texts) (xs_record-valid texts)
value_for-valid Xs Update texts may = absurd (false≢true may)
value_for-valid Xs Delete texts may = drops (xs_key texts) (xs_key-valid texts)
value_for-valid Xo Insert texts may = put (xo_record texts) (xo_record-valid texts)
value_for-valid Xo Update texts may = absurd (false≢true may)
value_for-valid Xo Delete texts may = drops (xo_key texts) (xo_key-valid texts)
value_for-valid Xu Insert texts may = put (xu_record texts) (xu_record-valid texts)
value_for-valid Xu Update texts may = absurd (false≢true may)
value_for-valid Xu Delete texts may = drops (xu_key texts) (xu_key-valid texts)
value_for-valid Xe Insert texts may = put (xe_record texts) (xe_record-valid texts)
value_for-valid Xe Update texts may = absurd (false≢true may)
value_for-valid Xe Delete texts may = drops (xe_key texts) (xe_key-valid texts)
value_for-valid Xc Insert texts may = absurd (false≢true may)
value_for-valid Xc Update texts may = change (xc_record texts) (xc_record-valid texts)
value_for-valid Xc Delete texts may = tt
value_for-valid Xa Insert texts may = put (xa_record texts) (xa_record-valid texts)
value_for-valid Xa Update texts may = absurd (false≢true may)
value_for-valid Xa Delete texts may = drops (xa_key texts) (xa_key-valid texts)
value_for-valid Xb Insert texts may = put (xb_record texts) (xb_record-valid texts)
value_for-valid Xb Update texts may = absurd (false≢true may)
value_for-valid Xb Delete texts may = drops (xb_key texts) (xb_key-valid texts)

action_valid : (tag : Tag) (text : List ℕ) → IfSome (action_for tag text) (λ a. acts tag a ≡ true)
action_valid tag text =
    valid (λ a. a ≡ a) (λ a. acts tag a ≡ true) (action_in text) _ (anything (action_in text)) λ a e.
    valid_if (λ a. acts tag a ≡ true) (acts tag a) a (λ h. h)

form_valid : (tag : Tag) (texts : List (List ℕ)) → IfSome (form_value tag texts) Spelled
form_valid tag texts =
    either Spelled (has_wrong_count tag (is_deletion texts) texts) None _ tt
    (valid (λ a. acts tag a ≡ true) Spelled (action_for tag (field 2 texts)) _ (action_valid tag (field 2 texts)) λ action may. value_for-valid tag action texts may)

parts_valid : (plain : Bool) (tag : Option Tag) (texts : List (List ℕ)) → IfSome (if plain then (tag >>= λ t. form_value t texts) else None) Spelled
parts_valid plain tag texts =
    either Spelled plain _ None (valid (λ t. t ≡ t) Spelled tag _ (anything tag) λ t e. form_valid t texts) tt

some_valid : (part : Option LineValue) (v : LineValue) → IfSome part Spelled → part ≡ Some v → is_line_value v ≡ true
unfolding Spelled
some_valid None v h e = cc
some_valid (Some w) v h e =
    let same : w ≡ v = cc in
    subst (λ x. is_line_value x ≡ true) same h

pub line_valid : (line : List ℕ) (value : LineValue) → line_value line ≡ Some value → is_line_value value ≡ true
line_valid line value is = some_valid (line_value line) value (parts_valid (is_plain line) (tag_of line) (fields line)) is
