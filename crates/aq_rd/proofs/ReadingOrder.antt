-- Testing field by field in the order of the rules gives the value that a line spells, or the first rule that it breaks.
use Rattle.std.proofs.Common.{◌≡◌, ℕ, Bool, true, false, cond, not, ◌&&◌, List, [], ◌∷◌, Some, None, Option, Ok, Err, Result, refl, sym, ap, ◌∙◌, subst, arith}
use Rattle.std.specs.Prelude.{IfOk, IfSome, IsTrue, bytes_eq, codes, find, int_le, is_none, ℤ, ◌≤ℤ◌, pos, if◌then◌else◌}
use Rattle.std.specs.Option.{ok_or}
use Rattle.std.proofs.lemmas.Bool.{false≢true, and_parts}
use Rattle.std.proofs.lemmas.Int.{ints}
use Rattle.std.proofs.lemmas.Slice.Eq.{bytes_eq-Decides}
use Rattle.aq_base.specs.Decimal.{is_decimal, cut}
use Rattle.aq_base.specs.Calendar.{hour_number}
use Rattle.aq_base.specs.Values.{least_value, greatest_value}
use Rattle.aq_base.specs.declared.code.Code.{Code}
use Rattle.aq_base.specs.declared.monitor.Pollutant.{Pollutant}
use Rattle.aq_base.specs.declared.monitor.Pollutant.TheVariants.{Ozone, Pm25, Pm10}
use Rattle.aq_base.specs.declared.observation.Observation.{Observation}
use Rattle.aq_base.specs.declared.rule.Rule.{Rule}
use Rattle.aq_base.specs.declared.rule.Rule.TheVariants.{BadBytes, BadTag, FieldCount, BadAction, BadSite, ParameterOutOfProfile, BadPoc, BadDuration, BadUnit, BadMethod, BadDate, BadTime, ValueAndNull, NeitherValueNorNull, BadValue, ValueOutOfRange, BadNull, BadQualifier}
use Rattle.aq_rules.specs.Office.Office.{is_content, is_measured}
use Rattle.aq_rules.specs.Lines.Canonical.{is_rd_value, is_line_value}
use Rattle.aq_rules.specs.Lines.Fields.{is_empty, field, fields}
use Rattle.aq_rules.specs.Lines.Spellings as spellings
use Rattle.aq_rules.specs.Lines.Spellings.{Tag, Rd, Xm, Xp, Xs, Xo, Xu, Xe, Xc, Xa, Xb, Insert, Update, Delete, tag_in, action_in, parameter_in, parameter_of, poc_in, site_in, duration_in, unit_in, method_in, date_in, time_in, value_in, is_in_range, null_in, qualifiers_in}
use Rattle.aq_rules.specs.Lines.RdForm.{RdValue, monitor_in, start_in, content_in, put_in, delete_in, qualifier_fields}
use Rattle.aq_rules.specs.Lines.Reading.{LineValue, OfRd, breaks_in, rules_of, reported_value, value_for, action_for, form_value, has_wrong_count, is_deletion, breaks_parts, rules_for, line_value, reading_rule, is_plain, tag_of}
use Rattle.aq_rules.specs.Lines.Forms.{acts}
use Rattle.aq_rules.specs.Lines.FormRules.{rd_put_rule, rd_put-rule, rd_delete_rule, rd_delete-rule}
use Rattle.aq_rd.specs.declared.line.RdLine.{RdLine}
use Rattle.aq_rd.specs.declared.line.RdLine.TheVariants as line
use Rattle.aq_rd.specs.Ranges.{HasLineRange}
use Rattle.aq_rd.specs.Tags.{is_office, has_office_tag}
use Rattle.aq_rd.specs.RdReading.{◌>>=◌, ReadsLine, value_of, line_of, monitor_reading, start_reading, value_reading, valued_reading, null_reading, content_reading, put_reading, delete_reading, form_reading, rd_reading}

-- a reading gives what is spelled, and else the rule that is broken
abbrev pub Reads : {A B : Type 0} → (A → B) → Result A Rule → Option B → Option Rule → Type 0
Reads f (Ok x) value rule = (value ≡ Some (f x)) × (rule ≡ None)
Reads f (Err broken) value rule = (value ≡ None) × (rule ≡ Some broken)

infixl 10 ◌>>-◌
abbrev ◌>>-◌ : {A B : Type 0} → Option A → (A → Option B) → Option B
part >>- next = spellings.◌>>=◌ part next

-- a part that is spelled, or breaks its rule
agree : {A B C : Type 0} (f : C → B) (part : Option A) (go : A → Result C Rule) (next : A → Option B) (is_broken : Bool) (rule : Rule) (rest : Option Rule)
    → is_broken ≡ is_none part → ((x : A) → part ≡ Some x → Reads f (go x) (next x) rest)
    → Reads f (ok_or part rule >>= go) (part >>- next) (cond is_broken (Some rule) rest)
agree f None go next is_broken rule rest same k = (refl, ap (λ b. cond b (Some rule) rest) same)
agree f (Some x) go next is_broken rule rest same k =
    subst (Reads f (go x) (next x)) (sym (ap (λ b. cond b (Some rule) rest) same)) (k x refl)

-- the same of a part inside a part
agree_inside : {A B C D E : Type 0} (f : C → B) (part : Option A) (go : A → Result D Rule) (go_on : D → Result C Rule) (next : A → Option E) (next_on : E → Option B) (is_broken : Bool) (rule : Rule) (rest : Option Rule)
    → is_broken ≡ is_none part → ((x : A) → part ≡ Some x → Reads f (go x >>= go_on) (next x >>- next_on) rest)
    → Reads f ((ok_or part rule >>= go) >>= go_on) ((part >>- next) >>- next_on) (cond is_broken (Some rule) rest)
agree_inside f None go go_on next next_on is_broken rule rest same k = (refl, ap (λ b. cond b (Some rule) rest) same)
agree_inside f (Some x) go go_on next next_on is_broken rule rest same k =
    subst (Reads f (go x >>= go_on) (next x >>- next_on)) (sym (ap (λ b. cond b (Some rule) rest) same)) (k x refl)

parameter-Rd : (part : Option Pollutant) → is_none (part >>- λ x. Some x) ≡ is_none part
parameter-Rd None = refl
parameter-Rd (Some x) = refl

null-empty : (text : List ℕ) → is_empty text ≡ true → is_none (null_in text) ≡ true
null-empty [] e = refl
null-empty (b ∷ bs) e = absurd (false≢true e)

-- a value or a null code, and the qualifiers
content : (no_value no_null : Bool) (null : Option Code) (codes : Option (List Code)) (decimal in_range : Bool) (value : ℤ) (reported : Option ℤ)
    → (no_null ≡ true → is_none null ≡ true) → reported ≡ (if decimal && in_range then Some value else None)
    → (f : Code → List Code → Observation) (g : ℤ → List Code → Observation) (k : Observation → RdLine)
    → Reads value_of
    ((if not no_value
    then (if not no_null then Err ValueAndNull
    else ((if decimal then ok_or (if decimal && in_range then Some value else None) ValueOutOfRange else Err BadValue) >>= λ v. ok_or codes BadQualifier >>= λ cs. Ok (g v cs)))
    else (if not no_null then (ok_or null BadNull >>= λ c. ok_or codes BadQualifier >>= λ cs. Ok (f c cs)) else Err NeitherValueNorNull)) >>= λ o. Ok (k o))
    ((if no_value then (null >>- λ c. codes >>- λ cs. Some (f c cs))
    else (if no_null then ((if decimal && in_range then Some value else None) >>- λ v. codes >>- λ cs. Some (g v cs)) else None)) >>- λ o. Some (value_of (k o)))
    (cond (not no_value && not no_null) (Some ValueAndNull)
    (cond (not (not no_value) && not (not no_null)) (Some NeitherValueNorNull)
    (cond (not no_value && not decimal) (Some BadValue)
    (cond (not no_value && decimal && is_none reported) (Some ValueOutOfRange)
    (cond (not no_null && is_none null) (Some BadNull)
    (cond (is_none codes) (Some BadQualifier) None))))))
content true true None codes d r v w h e f g k = (refl, refl)
content true true (Some c) codes d r v w h e f g k = absurd (false≢true (h refl))
content true false None codes d r v w h e f g k = (refl, refl)
content true false (Some c) None d r v w h e f g k = (refl, refl)
content true false (Some c) (Some cs) d r v w h e f g k = (refl, refl)
content false true null codes false r v w h e f g k = (refl, refl)
content false true null codes true false v w h e f g k =
    (refl, ap (λ o. cond (is_none o) (Some ValueOutOfRange) (cond (is_none codes) (Some BadQualifier) None)) e)
content false true null None true true v w h e f g k =
    (refl, ap (λ o. cond (is_none o) (Some ValueOutOfRange) (Some BadQualifier)) e)
content false true null (Some cs) true true v w h e f g k = (refl, ap (λ o. cond (is_none o) (Some ValueOutOfRange) None) e)
content false false null codes d r v w h e f g k = (refl, refl)

put-fields : (update : Bool) (texts : List (List ℕ)) → Reads value_of (put_reading update texts) (put_in update texts) (rd_put_rule texts)
unfolding put_reading monitor_reading start_reading value_reading valued_reading null_reading content_reading put_in monitor_in start_in content_in parameter_of value_in
put-fields update texts =
    agree_inside value_of (site_in (field 3 texts) (field 4 texts) (field 5 texts)) _ _ _ _ _ BadSite _ refl λ site is_site.
    agree_inside value_of (parameter_in (field 6 texts)) _ _ _ _ _ ParameterOutOfProfile _ (parameter-Rd (parameter_in (field 6 texts))) λ pollutant is_pollutant.
    agree_inside value_of (poc_in (field 7 texts)) _ _ _ _ _ BadPoc _ refl λ poc is_poc.
    agree value_of (duration_in pollutant (field 8 texts)) _ _ _ BadDuration _
    (ap (λ q. is_none ((q >>- λ x. Some x) >>- λ p. duration_in p (field 8 texts))) is_pollutant) λ duration is_duration.
    agree value_of (unit_in pollutant (field 9 texts)) _ _ _ BadUnit _
    (ap (λ q. is_none ((q >>- λ x. Some x) >>- λ p. unit_in p (field 9 texts))) is_pollutant) λ places is_places.
    agree value_of (method_in (field 10 texts)) _ _ _ BadMethod _ refl λ method is_method.
    agree_inside value_of (date_in (field 11 texts)) _ _ _ _ _ BadDate _ refl λ day is_day.
    agree_inside value_of (time_in (field 12 texts)) _ _ _ _ _ BadTime _ refl λ hour is_hour.
    content (is_empty (field 13 texts)) (is_empty (field 14 texts)) (null_in (field 14 texts)) (qualifiers_in (qualifier_fields texts))
    (is_decimal (field 13 texts)) (is_in_range pollutant (cut (field 13 texts) places)) (cut (field 13 texts) places) (reported_value texts)
    (null-empty (field 14 texts))
    (ap (λ q. (q >>- λ x. Some x) >>- λ p. unit_in p (field 9 texts) >>- λ n. value_in p n (field 13 texts)) is_pollutant
    ∙ ap (λ q. q >>- λ n. value_in pollutant n (field 13 texts)) is_places)
    (λ code codes. record { value = None; null = Some code; quals = codes; method = Some method })
    (λ value codes. record { value = Some value; null = None; quals = codes; method = Some method })
    (λ content. line.Put update (record { site = site; pollutant = pollutant; poc = poc }) duration (hour_number day hour) content)

reads-put : (update : Bool) (texts : List (List ℕ))
    → Reads value_of (put_reading update texts) (put_in update texts) (find (λ rule. breaks_in rule Rd false texts) (rules_of Rd false))
reads-put update texts = subst (Reads value_of (put_reading update texts) (put_in update texts)) (sym (rd_put-rule texts)) (put-fields update texts)

delete-fields : (texts : List (List ℕ)) → Reads value_of (delete_reading texts) (delete_in texts) (rd_delete_rule texts)
unfolding delete_reading monitor_reading start_reading delete_in monitor_in start_in parameter_of
delete-fields texts =
    agree_inside value_of (site_in (field 3 texts) (field 4 texts) (field 5 texts)) _ _ _ _ _ BadSite _ refl λ site is_site.
    agree_inside value_of (parameter_in (field 6 texts)) _ _ _ _ _ ParameterOutOfProfile _ (parameter-Rd (parameter_in (field 6 texts))) λ pollutant is_pollutant.
    agree_inside value_of (poc_in (field 7 texts)) _ _ _ _ _ BadPoc _ refl λ poc is_poc.
    agree_inside value_of (date_in (field 11 texts)) _ _ _ _ _ BadDate _ refl λ day is_day.
    agree_inside value_of (time_in (field 12 texts)) _ _ _ _ _ BadTime _ refl λ hour is_hour.
    (refl, refl)

reads-delete : (texts : List (List ℕ))
    → Reads value_of (delete_reading texts) (delete_in texts) (find (λ rule. breaks_in rule Rd true texts) (rules_of Rd true))
reads-delete texts = subst (Reads value_of (delete_reading texts) (delete_in texts)) (sym (rd_delete-rule texts)) (delete-fields texts)

-- ---- the action

lift : (r : Result RdLine Rule) (value : Option RdValue) (rule : Option Rule) → Reads value_of r value rule → Reads line_of r (value >>- λ v. Some (OfRd v)) rule
lift (Ok x) value rule h = (ap (λ o. o >>- λ v. Some (OfRd v)) h.0, h.1)
lift (Err e) value rule h = (ap (λ o. o >>- λ v. Some (OfRd v)) h.0, h.1)

by-action : (i u d : Bool) (texts : List (List ℕ)) → (i ≡ true → d ≡ false) → (u ≡ true → d ≡ false)
    → Reads line_of (cond i (put_reading false texts) (cond u (put_reading true texts) (cond d (delete_reading texts) (Err BadAction))))
    ((cond i (Some Insert) (cond u (Some Update) (cond d (Some Delete) None)) >>- λ action. if acts Rd action then Some action else None) >>- λ action. value_for Rd action texts)
    (cond (is_none (cond i (Some Insert) (cond u (Some Update) (cond d (Some Delete) None)) >>- λ action. if acts Rd action then Some action else None)) (Some BadAction)
    (find (λ rule. breaks_in rule Rd d texts) (rules_of Rd d)))
by-action true u d texts not_i not_u =
    subst (λ b. Reads line_of (put_reading false texts) (put_in false texts >>- λ v. Some (OfRd v)) (find (λ rule. breaks_in rule Rd b texts) (rules_of Rd b)))
    (sym (not_i refl))
    (lift (put_reading false texts) (put_in false texts) _ (reads-put false texts))
by-action false true d texts not_i not_u =
    subst (λ b. Reads line_of (put_reading true texts) (put_in true texts >>- λ v. Some (OfRd v)) (find (λ rule. breaks_in rule Rd b texts) (rules_of Rd b)))
    (sym (not_u refl))
    (lift (put_reading true texts) (put_in true texts) _ (reads-put true texts))
by-action false false true texts not_i not_u = lift (delete_reading texts) (delete_in texts) _ (reads-delete texts)
by-action false false false texts not_i not_u = (refl, refl)

-- ---- the form

by-count : (texts : List (List ℕ)) (wrong : Bool) (rest : Option Rule)
    → rest ≡ find (λ rule. breaks_in rule Rd (is_deletion texts) texts) (rules_of Rd (is_deletion texts))
    → Reads line_of
    (cond wrong (Err FieldCount)
    (cond (bytes_eq (field 2 texts) (codes "I")) (put_reading false texts) (cond (bytes_eq (field 2 texts) (codes "U")) (put_reading true texts) (cond (bytes_eq (field 2 texts) (codes "D")) (delete_reading texts) (Err BadAction)))))
    (cond wrong None (action_for Rd (field 2 texts) >>- λ action. value_for Rd action texts))
    (cond wrong (Some FieldCount) (cond (is_none (action_for Rd (field 2 texts))) (Some BadAction) rest))
by-count texts true rest same = (refl, refl)
by-count texts false rest same =
    subst (λ r. Reads line_of (cond (bytes_eq (field 2 texts) (codes "I")) (put_reading false texts) (cond (bytes_eq (field 2 texts) (codes "U")) (put_reading true texts) (cond (bytes_eq (field 2 texts) (codes "D")) (delete_reading texts) (Err BadAction)))) (action_for Rd (field 2 texts) >>- λ action. value_for Rd action texts) (cond (is_none (action_for Rd (field 2 texts))) (Some BadAction) r))
    (sym same)
    (by-action (bytes_eq (field 2 texts) (codes "I")) (bytes_eq (field 2 texts) (codes "U")) (bytes_eq (field 2 texts) (codes "D")) texts
    (λ i. ap (λ t. bytes_eq t (codes "D")) ((bytes_eq-Decides (field 2 texts) (codes "I")).0 i))
    (λ u. ap (λ t. bytes_eq t (codes "D")) ((bytes_eq-Decides (field 2 texts) (codes "U")).0 u)))

-- the rules of a form's fields are broken by its fields
same_rules : (texts : List (List ℕ)) (deletes : Bool)
    → find (λ rule. breaks_in rule Rd (is_deletion texts) texts) (rules_of Rd deletes) ≡ find (λ rule. breaks_parts rule true (Some Rd) texts) (rules_of Rd deletes)
same_rules texts true = refl
same_rules texts false = refl

-- ---- the line

-- an office tag is none that is looked for behind RD
no_office : (b : Bool) (tag : Tag) (rest : Option Tag) → is_office (Some tag) ≡ true → (is_office rest ≡ false → rest ≡ None) → is_office (cond b (Some tag) rest) ≡ false → cond b (Some tag) rest ≡ None
no_office true tag rest office later none = absurd (false≢true (sym none ∙ office))
no_office false tag rest office later none = later none

by-tag : (plain rd : Bool) (other tag : Option Tag) (texts : List (List ℕ)) → tag ≡ cond rd (Some Rd) other → (is_office other ≡ false → other ≡ None)
    → cond plain (is_office tag) false ≡ false
    → Reads line_of (cond plain (cond rd (form_reading texts) (Err BadTag)) (Err BadBytes))
    (cond plain (tag >>- λ t. form_value t texts) None)
    (find (λ rule. breaks_parts rule plain tag texts) (BadBytes ∷ BadTag ∷ FieldCount ∷ BadAction ∷ rules_for tag texts))
unfolding form_reading
by-tag false rd other tag texts is no_other none = (refl, refl)
by-tag true true other tag texts is no_other none =
    subst (λ t. Reads line_of (form_reading texts) (t >>- λ t. form_value t texts) (find (λ rule. breaks_parts rule true t texts) (BadBytes ∷ BadTag ∷ FieldCount ∷ BadAction ∷ rules_for t texts)))
    (sym is)
    (by-count texts (has_wrong_count Rd (is_deletion texts) texts) _ (sym (same_rules texts (is_deletion texts))))
by-tag true false other tag texts is no_other none =
    let nothing : tag ≡ None = is ∙ no_other (sym (ap is_office is) ∙ none) in
    subst (λ t. Reads line_of (Err BadTag) (t >>- λ t. form_value t texts) (find (λ rule. breaks_parts rule true t texts) (BadBytes ∷ BadTag ∷ FieldCount ∷ BadAction ∷ rules_for t texts)))
    (sym nothing)
    (refl, refl)

pub reads-line : (line : List ℕ) → has_office_tag line ≡ false → Reads line_of (rd_reading line) (line_value line) (reading_rule line)
unfolding rd_reading
reads-line line none =
    let text = field 1 (fields line) in
    by-tag (is_plain line) (bytes_eq text (codes "RD")) _ (tag_of line) (fields line) refl
    (no_office (bytes_eq text (codes "XM")) Xm _ refl (no_office (bytes_eq text (codes "XP")) Xp _ refl (no_office (bytes_eq text (codes "XS")) Xs _ refl
    (no_office (bytes_eq text (codes "XO")) Xo _ refl (no_office (bytes_eq text (codes "XU")) Xu _ refl (no_office (bytes_eq text (codes "XE")) Xe _ refl
    (no_office (bytes_eq text (codes "XC")) Xc _ refl (no_office (bytes_eq text (codes "XA")) Xa _ refl
    (no_office (bytes_eq text (codes "XB")) Xb _ refl (λ _. refl))))))))))
    none

-- ---- the clauses

-- what a law says of all values that a line spells holds of the one that is read
pub reads-clauses : {A : Type 0} (as_value : A → LineValue) (line : List ℕ) (r : Result A Rule) → Reads as_value r (line_value line) (reading_rule line)
    → ((value : LineValue) → line_value line ≡ Some value → IsTrue (is_line_value value)) → ReadsLine as_value line r
reads-clauses as_value line (Ok x) h law = record { ok = h.0; unbroken = h.1; rule = tt; refused = tt; spelled = law (as_value x) h.0 }
reads-clauses as_value line (Err broken) h law = record { ok = tt; unbroken = tt; rule = h.1; refused = h.0; spelled = tt }

ends : (least greatest value : ℤ) → (int_le least value && int_le value greatest) ≡ true → (least ≤ℤ value) × (value ≤ℤ greatest)
ends least greatest value h =
    let parts = and_parts (int_le least value) (int_le value greatest) h in
    let low : int_le least value ≡ true = parts.0 in
    let high : int_le value greatest ≡ true = parts.1 in
    (grind (arith, ints, low), grind (arith, ints, high))

in_range : (pollutant : Pollutant) (value : ℤ) → is_in_range pollutant value ≡ true → (least_value ≤ℤ value) × (value ≤ℤ greatest_value pollutant)
in_range Ozone value h = ends _ (pos 9999) value h
in_range Pm25 value h = ends _ (pos 99999) value h
in_range Pm10 value h = ends _ (pos 99999) value h

ranged-content : (pollutant : Pollutant) (value : Option ℤ) (null : Option Code) → is_measured pollutant value null ≡ true
    → IfSome value (λ v. (least_value ≤ℤ v) × (v ≤ℤ greatest_value pollutant))
ranged-content pollutant None null h = tt
ranged-content pollutant (Some value) None h = in_range pollutant value h
ranged-content pollutant (Some value) (Some null) h = absurd (false≢true h)

left : (a b : Bool) → (a && b) ≡ true → a ≡ true
left a b h = (and_parts a b h).0

right : (a b : Bool) → (a && b) ≡ true → b ≡ true
right a b h = (and_parts a b h).1

pub ranged-line : (r : Result RdLine Rule) → IfOk r (λ x. IsTrue (is_rd_value (value_of x))) → IfOk r HasLineRange
ranged-line (Ok (line.Put update monitor duration hour content)) h =
    let content_in = right _ (is_content monitor.pollutant content) h in
    ranged-content monitor.pollutant content.value content.null (left _ _ (left _ _ (left _ _ (left _ _ content_in))))
ranged-line (Ok (line.Delete monitor hour)) h = tt
ranged-line (Err e) h = tt
