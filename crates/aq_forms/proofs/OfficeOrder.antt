-- Testing field by field in the order of the rules gives the value that an office line spells, or the first rule that it breaks.
use Rattle.std.proofs.Common.{◌≡◌, ℕ, Bool, true, false, cond, not, ◌||◌, List, ◌∷◌, Some, None, Option, Ok, Err, Result, refl, sym, ap, ◌∙◌, subst}
use Rattle.std.specs.Prelude.{bytes_eq, codes, find, is_none, if◌then◌else◌}
use Rattle.std.specs.Option.{ok_or}
use Rattle.std.proofs.lemmas.Bool.{false≢true}
use Rattle.std.proofs.lemmas.Slice.Eq.{bytes_eq-Decides}
use Rattle.aq_base.specs.Calendar.{hour_number}
use Rattle.aq_base.specs.declared.code.Code.{Code}
use Rattle.aq_base.specs.declared.monitor.Pollutant.{Pollutant}
use Rattle.aq_base.specs.declared.office.OfficeRecord.{OfficeRecord}
use Rattle.aq_base.specs.declared.office.OfficeRecord.TheVariants.{Event}
use Rattle.aq_base.specs.declared.office.OfficeLine.{OfficeLine}
use Rattle.aq_base.specs.declared.office.OfficeLine.TheVariants.{Put, Change, Drop}
use Rattle.aq_base.specs.declared.rule.Rule.{Rule}
use Rattle.aq_base.specs.declared.rule.Rule.TheVariants.{BadBytes, BadTag, FieldCount, BadAction, BadSite, ParameterOutOfProfile, BadPoc, BadDuration, BadDate, BadTime, BadSpan, BadInterval, BadSeason, BadMakeup, BadCode, BadPair}
use Rattle.aq_rules.specs.Lines.Fields.{field, fields}
use Rattle.aq_rules.specs.Lines.Forms.{acts}
use Rattle.aq_rules.specs.Lines.FormRules.{xm_rule, xm-rule, xp_rule, xp-rule, xp_key_rule, xp_key-rule, xs_rule, xs-rule, xs_key_rule, xs_key-rule, xo_rule, xo-rule, xo_key_rule, xo_key-rule, xu_rule, xu-rule, xu_key_rule, xu_key-rule, xe_rule, xe-rule, xe_key_rule, xe_key-rule, xc_rule, xc-rule, xa_rule, xa-rule, xa_key_rule, xa_key-rule, xb_rule, xb-rule, xb_key_rule, xb_key-rule}
use Rattle.aq_rules.specs.Lines.OfficeForms.{is_season, is_makeup, is_span, is_pair, xm_record, xp_record, xp_key, xs_record, xs_key, xo_record, xo_key, xu_record, xu_key, xe_record, xe_key, xc_record, xa_record, xa_key, xb_record, xb_key, record_in, key_in, office_line_in}
use Rattle.aq_rules.specs.Lines.RdForm.{monitor_in}
use Rattle.aq_rules.specs.Lines.Reading.{LineValue, OfOffice, breaks_in, rules_of, rules_for, fails, value_for, action_for, form_value, has_wrong_count, is_deletion, breaks_parts, line_value, reading_rule, is_plain, tag_of}
use Rattle.aq_rules.specs.Lines.Spellings as spellings
use Rattle.aq_rules.specs.Lines.Spellings.{Tag, Rd, Xm, Xp, Xs, Xo, Xu, Xe, Xc, Xa, Xb, Action, Insert, Update, Delete, site_in, parameter_in, parameter_of, poc_in, primary_in, duration_in, date_in, year_in, time_in, interval_in, truth_in, event_number_in, event_code_in}
use Rattle.aq_rd.specs.RdReading.{◌>>=◌}
use Rattle.aq_rd.proofs.ReadingOrder as order
use Rattle.aq_forms.specs.OfficeReading.{xm_reading, xp_reading, xp_key_reading, xs_reading, xs_key_reading, xo_reading, xo_key_reading, xu_reading, xu_key_reading, xe_reading, event_reading, xe_key_reading, xc_reading, xa_reading, xa_key_reading, xb_reading, xb_key_reading, record_reading, key_reading, action_reading, form_reading, office_reading, is_rd, has_rd_tag}

-- a reading gives what is spelled, and else the rule that is broken
abbrev Reads : {A : Type 0} → Result A Rule → Option A → Option Rule → Type 0
Reads r value rule = order.Reads (λ x. x) r value rule

-- the same of a line
abbrev pub ReadsLine : Result OfficeLine Rule → Option LineValue → Option Rule → Type 0
ReadsLine r value rule = order.Reads OfOffice r value rule

infixl 10 ◌>>-◌
abbrev ◌>>-◌ : {A B : Type 0} → Option A → (A → Option B) → Option B
part >>- next = spellings.◌>>=◌ part next

-- a part that is spelled, or breaks its rule
agree : {A B : Type 0} (part : Option A) (go : A → Result B Rule) (next : A → Option B) (is_broken : Bool) (rule : Rule) (rest : Option Rule)
    → is_broken ≡ is_none part → ((x : A) → part ≡ Some x → Reads (go x) (next x) rest)
    → Reads (ok_or part rule >>= go) (part >>- next) (cond is_broken (Some rule) rest)
agree None go next is_broken rule rest same k = (refl, ap (λ b. cond b (Some rule) rest) same)
agree (Some x) go next is_broken rule rest same k =
    subst (Reads (go x) (next x)) (sym (ap (λ b. cond b (Some rule) rest) same)) (k x refl)

-- the same of a part inside a part
agree_inside : {A B C : Type 0} (part : Option A) (go : A → Result C Rule) (next : A → Option B) (next_on : B → Option C) (is_broken : Bool) (rule : Rule) (rest : Option Rule)
    → is_broken ≡ is_none part → ((x : A) → part ≡ Some x → Reads (go x) (next x >>- next_on) rest)
    → Reads (ok_or part rule >>= go) ((part >>- next) >>- next_on) (cond is_broken (Some rule) rest)
agree_inside None go next next_on is_broken rule rest same k = (refl, ap (λ b. cond b (Some rule) rest) same)
agree_inside (Some x) go next next_on is_broken rule rest same k =
    subst (Reads (go x) (next x >>- next_on)) (sym (ap (λ b. cond b (Some rule) rest) same)) (k x refl)

-- two and three parts of one rule
agree_two : {A B C : Type 0} (a : Option A) (b : Option B) (go : A → B → Result C Rule) (next : A → B → Option C) (rule : Rule) (rest : Option Rule)
    → ((x : A) (y : B) → a ≡ Some x → b ≡ Some y → Reads (go x y) (next x y) rest)
    → Reads (ok_or a rule >>= λ x. ok_or b rule >>= λ y. go x y) (a >>- λ x. b >>- λ y. next x y) (cond (is_none a || is_none b) (Some rule) rest)
agree_two None b go next rule rest k = (refl, refl)
agree_two (Some x) None go next rule rest k = (refl, refl)
agree_two (Some x) (Some y) go next rule rest k = k x y refl refl

agree_three : {A B C D : Type 0} (a : Option A) (b : Option B) (c : Option C) (go : A → B → C → Result D Rule) (next : A → B → C → Option D) (rule : Rule) (rest : Option Rule)
    → ((x : A) (y : B) (z : C) → a ≡ Some x → b ≡ Some y → c ≡ Some z → Reads (go x y z) (next x y z) rest)
    → Reads (ok_or a rule >>= λ x. ok_or b rule >>= λ y. ok_or c rule >>= λ z. go x y z) (a >>- λ x. b >>- λ y. c >>- λ z. next x y z) (cond (is_none a || (is_none b || is_none c)) (Some rule) rest)
agree_three None b c go next rule rest k = (refl, refl)
agree_three (Some x) None c go next rule rest k = (refl, refl)
agree_three (Some x) (Some y) None go next rule rest k = (refl, refl)
agree_three (Some x) (Some y) (Some z) go next rule rest k = k x y z refl refl refl

-- a test across fields comes last
agree_test : {A : Type 0} (passes : Bool) (x : A) (rule : Rule) (test : Option Bool) → test ≡ Some passes
    → Reads (cond passes (Ok x) (Err rule)) (cond passes (Some x) None) (cond (fails test) (Some rule) None)
agree_test true x rule test is = (refl, ap (λ t. cond (fails t) (Some rule) None) is)
agree_test false x rule test is = (refl, ap (λ t. cond (fails t) (Some rule) None) is)

-- every form but those of schedules and make-up samples has all parameters
all_parameters : (part : Option Pollutant) → is_none (part >>- λ x. Some x) ≡ is_none part
all_parameters None = refl
all_parameters (Some x) = refl

xm-fields : (texts : List (List ℕ)) → Reads (xm_reading texts) (xm_record texts) (xm_rule texts)
unfolding xm_reading xm_record monitor_in parameter_of
xm-fields texts =
    agree_inside (site_in (field 3 texts) (field 4 texts) (field 5 texts)) _ _ _ _ BadSite _ refl λ site is_site.
    agree_inside (parameter_in (field 6 texts)) _ _ _ _ ParameterOutOfProfile _ (all_parameters (parameter_in (field 6 texts))) λ pollutant is_pollutant.
    agree_inside (poc_in (field 7 texts)) _ _ _ _ BadPoc _ refl λ poc is_poc.
    agree (duration_in pollutant (field 8 texts)) _ _ _ BadDuration _
    (ap (λ q. is_none ((q >>- λ x. Some x) >>- λ p. duration_in p (field 8 texts))) is_pollutant) λ duration is_duration.
    agree (truth_in (field 9 texts)) _ _ _ BadCode _ refl λ eligible is_eligible.
    (refl, refl)

xp-fields : (texts : List (List ℕ)) → Reads (xp_reading texts) (xp_record texts) (xp_rule texts)
unfolding xp_reading xp_record
xp-fields texts =
    agree (site_in (field 3 texts) (field 4 texts) (field 5 texts)) _ _ _ BadSite _ refl λ site is_site.
    agree (parameter_of Xp (field 6 texts)) _ _ _ ParameterOutOfProfile _ refl λ pollutant is_pollutant.
    agree (primary_in (field 8 texts)) _ _ _ BadPoc _ refl λ poc is_poc.
    agree (date_in (field 7 texts)) _ _ _ BadDate _ refl λ from is_from.
    (refl, refl)

xp_key-fields : (texts : List (List ℕ)) → Reads (xp_key_reading texts) (xp_key texts) (xp_key_rule texts)
unfolding xp_key_reading xp_key
xp_key-fields texts =
    agree (site_in (field 3 texts) (field 4 texts) (field 5 texts)) _ _ _ BadSite _ refl λ site is_site.
    agree (parameter_of Xp (field 6 texts)) _ _ _ ParameterOutOfProfile _ refl λ pollutant is_pollutant.
    agree (date_in (field 7 texts)) _ _ _ BadDate _ refl λ from is_from.
    (refl, refl)

xs-fields : (texts : List (List ℕ)) → Reads (xs_reading texts) (xs_record texts) (xs_rule texts)
unfolding xs_reading xs_record
xs-fields texts =
    agree (site_in (field 3 texts) (field 4 texts) (field 5 texts)) _ _ _ BadSite _ refl λ site is_site.
    agree (parameter_of Xs (field 6 texts)) _ _ _ ParameterOutOfProfile _ refl λ pollutant is_pollutant.
    agree_two (date_in (field 7 texts)) (date_in (field 9 texts)) _ _ BadDate _ λ from anchor is_from is_anchor.
    agree (interval_in (field 8 texts)) _ _ _ BadInterval _ refl λ interval is_interval.
    (refl, refl)

xs_key-fields : (texts : List (List ℕ)) → Reads (xs_key_reading texts) (xs_key texts) (xs_key_rule texts)
unfolding xs_key_reading xs_key
xs_key-fields texts =
    agree (site_in (field 3 texts) (field 4 texts) (field 5 texts)) _ _ _ BadSite _ refl λ site is_site.
    agree (parameter_of Xs (field 6 texts)) _ _ _ ParameterOutOfProfile _ refl λ pollutant is_pollutant.
    agree (date_in (field 7 texts)) _ _ _ BadDate _ refl λ from is_from.
    (refl, refl)

xo-fields : (texts : List (List ℕ)) → Reads (xo_reading texts) (xo_record texts) (xo_rule texts)
unfolding xo_reading xo_record
xo-fields texts =
    agree (site_in (field 3 texts) (field 4 texts) (field 5 texts)) _ _ _ BadSite _ refl λ site is_site.
    agree_three (year_in (field 6 texts)) (date_in (field 7 texts)) (date_in (field 8 texts)) _ _ BadDate _ λ year first last is_year is_first is_last.
    agree_test (is_season year first last) _ BadSeason _
    (ap (λ y. y >>- λ year. date_in (field 7 texts) >>- λ first. date_in (field 8 texts) >>- λ last. Some (is_season year first last)) is_year
    ∙ ap (λ f. f >>- λ first. date_in (field 8 texts) >>- λ last. Some (is_season year first last)) is_first
    ∙ ap (λ l. l >>- λ last. Some (is_season year first last)) is_last)

xo_key-fields : (texts : List (List ℕ)) → Reads (xo_key_reading texts) (xo_key texts) (xo_key_rule texts)
unfolding xo_key_reading xo_key
xo_key-fields texts =
    agree (site_in (field 3 texts) (field 4 texts) (field 5 texts)) _ _ _ BadSite _ refl λ site is_site.
    agree (year_in (field 6 texts)) _ _ _ BadDate _ refl λ year is_year.
    (refl, refl)

xu-fields : (texts : List (List ℕ)) → Reads (xu_reading texts) (xu_record texts) (xu_rule texts)
unfolding xu_reading xu_record
xu-fields texts =
    agree (site_in (field 3 texts) (field 4 texts) (field 5 texts)) _ _ _ BadSite _ refl λ site is_site.
    agree (parameter_of Xu (field 6 texts)) _ _ _ ParameterOutOfProfile _ refl λ pollutant is_pollutant.
    agree_two (date_in (field 7 texts)) (date_in (field 8 texts)) _ _ BadDate _ λ missed makeup is_missed is_made_up.
    agree_test (is_makeup missed makeup) _ BadMakeup _
    (ap (λ m. m >>- λ missed. date_in (field 8 texts) >>- λ makeup. Some (is_makeup missed makeup)) is_missed
    ∙ ap (λ m. m >>- λ makeup. Some (is_makeup missed makeup)) is_made_up)

xu_key-fields : (texts : List (List ℕ)) → Reads (xu_key_reading texts) (xu_key texts) (xu_key_rule texts)
unfolding xu_key_reading xu_key
xu_key-fields texts =
    agree (site_in (field 3 texts) (field 4 texts) (field 5 texts)) _ _ _ BadSite _ refl λ site is_site.
    agree (parameter_of Xu (field 6 texts)) _ _ _ ParameterOutOfProfile _ refl λ pollutant is_pollutant.
    agree (date_in (field 7 texts)) _ _ _ BadDate _ refl λ missed is_missed.
    (refl, refl)

-- the number and the code of an event, after the test of its hours
event-end : (fits : Bool) (number : Option ℕ) (code : Option Code) (event : ℕ → Code → OfficeRecord)
    → Reads (cond fits (ok_or number BadCode >>= λ n. ok_or code BadCode >>= λ c. Ok (event n c)) (Err BadSpan))
    (number >>- λ n. code >>- λ c. cond fits (Some (event n c)) None)
    (cond (not fits) (Some BadSpan) (cond (is_none number || is_none code) (Some BadCode) None))
event-end false None code event = (refl, refl)
event-end false (Some n) None event = (refl, refl)
event-end false (Some n) (Some c) event = (refl, refl)
event-end true None code event = (refl, refl)
event-end true (Some n) None event = (refl, refl)
event-end true (Some n) (Some c) event = (refl, refl)

-- both dates are tested before both times
event-hours : (first_day last_day first_time last_time number : Option ℕ) (code : Option Code) (fits : ℕ → ℕ → Bool) (event : ℕ → ℕ → ℕ → Code → OfficeRecord)
    → Reads
    (ok_or first_day BadDate >>= λ a. ok_or last_day BadDate >>= λ b. ok_or first_time BadTime >>= λ s. ok_or last_time BadTime >>= λ t.
    cond (fits (hour_number a s) (hour_number b t)) (ok_or number BadCode >>= λ n. ok_or code BadCode >>= λ c. Ok (event (hour_number a s) (hour_number b t) n c)) (Err BadSpan))
    ((first_day >>- λ a. first_time >>- λ s. Some (hour_number a s)) >>- λ first. (last_day >>- λ b. last_time >>- λ t. Some (hour_number b t)) >>- λ last.
    number >>- λ n. code >>- λ c. cond (fits first last) (Some (event first last n c)) None)
    (cond (is_none first_day || is_none last_day) (Some BadDate)
    (cond (is_none first_time || is_none last_time) (Some BadTime)
    (cond (fails ((first_day >>- λ a. first_time >>- λ s. Some (hour_number a s)) >>- λ first. (last_day >>- λ b. last_time >>- λ t. Some (hour_number b t)) >>- λ last. Some (fits first last))) (Some BadSpan)
    (cond (is_none number || is_none code) (Some BadCode) None))))
event-hours None last_day first_time last_time number code fits event = (refl, refl)
event-hours (Some a) None None last_time number code fits event = (refl, refl)
event-hours (Some a) None (Some s) last_time number code fits event = (refl, refl)
event-hours (Some a) (Some b) None last_time number code fits event = (refl, refl)
event-hours (Some a) (Some b) (Some s) None number code fits event = (refl, refl)
event-hours (Some a) (Some b) (Some s) (Some t) number code fits event =
    event-end (fits (hour_number a s) (hour_number b t)) number code (event (hour_number a s) (hour_number b t))

xe-fields : (texts : List (List ℕ)) → Reads (xe_reading texts) (xe_record texts) (xe_rule texts)
unfolding xe_reading event_reading xe_record
xe-fields texts =
    agree (site_in (field 4 texts) (field 5 texts) (field 6 texts)) _ _ _ BadSite _ refl λ site is_site.
    agree (parameter_of Xe (field 7 texts)) _ _ _ ParameterOutOfProfile _ refl λ pollutant is_pollutant.
    event-hours (date_in (field 8 texts)) (date_in (field 10 texts)) (time_in (field 9 texts)) (time_in (field 11 texts)) (event_number_in (field 3 texts)) (event_code_in (field 12 texts))
    is_span (λ first last number code. Event number site pollutant first last code)

xe_key-fields : (texts : List (List ℕ)) → Reads (xe_key_reading texts) (xe_key texts) (xe_key_rule texts)
unfolding xe_key_reading xe_key
xe_key-fields texts =
    agree (event_number_in (field 3 texts)) _ _ _ BadCode _ refl λ number is_number.
    (refl, refl)

xc-fields : (texts : List (List ℕ)) → Reads (xc_reading texts) (xc_record texts) (xc_rule texts)
unfolding xc_reading xc_record
xc-fields texts =
    agree_two (event_number_in (field 3 texts)) (truth_in (field 4 texts)) _ _ BadCode _ λ number agreed is_number is_agreed.
    (refl, refl)

xa-fields : (texts : List (List ℕ)) → Reads (xa_reading texts) (xa_record texts) (xa_rule texts)
unfolding xa_reading xa_record
xa-fields texts =
    agree (site_in (field 3 texts) (field 4 texts) (field 5 texts)) _ _ _ BadSite _ refl λ site is_site.
    agree (date_in (field 6 texts)) _ _ _ BadDate _ refl λ day is_day.
    (refl, refl)

xa_key-fields : (texts : List (List ℕ)) → Reads (xa_key_reading texts) (xa_key texts) (xa_key_rule texts)
unfolding xa_key_reading xa_key
xa_key-fields texts =
    agree (site_in (field 3 texts) (field 4 texts) (field 5 texts)) _ _ _ BadSite _ refl λ site is_site.
    agree (date_in (field 6 texts)) _ _ _ BadDate _ refl λ day is_day.
    (refl, refl)

xb-fields : (texts : List (List ℕ)) → Reads (xb_reading texts) (xb_record texts) (xb_rule texts)
unfolding xb_reading xb_record
xb-fields texts =
    agree_two (site_in (field 3 texts) (field 4 texts) (field 5 texts)) (site_in (field 8 texts) (field 9 texts) (field 10 texts)) _ _ BadSite _ λ site joined is_site is_joined.
    agree (parameter_of Xb (field 6 texts)) _ _ _ ParameterOutOfProfile _ refl λ pollutant is_pollutant.
    agree (date_in (field 7 texts)) _ _ _ BadDate _ refl λ from is_from.
    agree_test (is_pair site joined) _ BadPair _
    (ap (λ s. s >>- λ site. site_in (field 8 texts) (field 9 texts) (field 10 texts) >>- λ joined. Some (is_pair site joined)) is_site
    ∙ ap (λ j. j >>- λ joined. Some (is_pair site joined)) is_joined)

xb_key-fields : (texts : List (List ℕ)) → Reads (xb_key_reading texts) (xb_key texts) (xb_key_rule texts)
unfolding xb_key_reading xb_key
xb_key-fields texts =
    agree (site_in (field 3 texts) (field 4 texts) (field 5 texts)) _ _ _ BadSite _ refl λ site is_site.
    agree (parameter_of Xb (field 6 texts)) _ _ _ ParameterOutOfProfile _ refl λ pollutant is_pollutant.
    (refl, refl)

-- ---- the record or the key, by the tag

reads-record : (tag : Tag) (texts : List (List ℕ)) → is_rd (Some tag) ≡ false
    → Reads (record_reading tag texts) (record_in tag texts) (find (λ rule. breaks_in rule tag false texts) (rules_of tag false))
reads-record Rd texts h = absurd (false≢true (sym h))
reads-record Xm texts h = subst (Reads (xm_reading texts) (xm_record texts)) (sym (xm-rule texts)) (xm-fields texts)
reads-record Xp texts h = subst (Reads (xp_reading texts) (xp_record texts)) (sym (xp-rule texts)) (xp-fields texts)
reads-record Xs texts h = subst (Reads (xs_reading texts) (xs_record texts)) (sym (xs-rule texts)) (xs-fields texts)
reads-record Xo texts h = subst (Reads (xo_reading texts) (xo_record texts)) (sym (xo-rule texts)) (xo-fields texts)
reads-record Xu texts h = subst (Reads (xu_reading texts) (xu_record texts)) (sym (xu-rule texts)) (xu-fields texts)
reads-record Xe texts h = subst (Reads (xe_reading texts) (xe_record texts)) (sym (xe-rule texts)) (xe-fields texts)
reads-record Xc texts h = subst (Reads (xc_reading texts) (xc_record texts)) (sym (xc-rule texts)) (xc-fields texts)
reads-record Xa texts h = subst (Reads (xa_reading texts) (xa_record texts)) (sym (xa-rule texts)) (xa-fields texts)
reads-record Xb texts h = subst (Reads (xb_reading texts) (xb_record texts)) (sym (xb-rule texts)) (xb-fields texts)

reads-key : (tag : Tag) (texts : List (List ℕ)) → is_rd (Some tag) ≡ false → acts tag Delete ≡ true
    → Reads (key_reading tag texts) (key_in tag texts) (find (λ rule. breaks_in rule tag true texts) (rules_of tag true))
reads-key Rd texts h d = absurd (false≢true (sym h))
reads-key Xm texts h d = absurd (false≢true d)
reads-key Xp texts h d = subst (Reads (xp_key_reading texts) (xp_key texts)) (sym (xp_key-rule texts)) (xp_key-fields texts)
reads-key Xs texts h d = subst (Reads (xs_key_reading texts) (xs_key texts)) (sym (xs_key-rule texts)) (xs_key-fields texts)
reads-key Xo texts h d = subst (Reads (xo_key_reading texts) (xo_key texts)) (sym (xo_key-rule texts)) (xo_key-fields texts)
reads-key Xu texts h d = subst (Reads (xu_key_reading texts) (xu_key texts)) (sym (xu_key-rule texts)) (xu_key-fields texts)
reads-key Xe texts h d = subst (Reads (xe_key_reading texts) (xe_key texts)) (sym (xe_key-rule texts)) (xe_key-fields texts)
reads-key Xc texts h d = absurd (false≢true d)
reads-key Xa texts h d = subst (Reads (xa_key_reading texts) (xa_key texts)) (sym (xa_key-rule texts)) (xa_key-fields texts)
reads-key Xb texts h d = subst (Reads (xb_key_reading texts) (xb_key texts)) (sym (xb_key-rule texts)) (xb_key-fields texts)

-- ---- the action

lift : {A : Type 0} (line : A → OfficeLine) (r : Result A Rule) (value : Option A) (rule : Option Rule) → Reads r value rule
    → ReadsLine (r >>= λ x. Ok (line x)) ((value >>- λ x. Some (line x)) >>- λ l. Some (OfOffice l)) rule
lift line (Ok x) value rule h = (ap (λ o. (o >>- λ x. Some (line x)) >>- λ l. Some (OfOffice l)) h.0, h.1)
lift line (Err e) value rule h = (ap (λ o. (o >>- λ x. Some (line x)) >>- λ l. Some (OfOffice l)) h.0, h.1)

office-value : (tag : Tag) (action : Action) (texts : List (List ℕ)) → is_rd (Some tag) ≡ false
    → value_for tag action texts ≡ (office_line_in tag action texts >>- λ line. Some (OfOffice line))
office-value Rd action texts h = absurd (false≢true (sym h))
office-value tag action texts h = refl

abbrev rule_of_fields : Tag → Bool → List (List ℕ) → Option Rule
rule_of_fields tag deletes texts = find (λ rule. breaks_in rule tag deletes texts) (rules_of tag deletes)

abbrev deletes : Action → Bool
deletes Insert = false
deletes Update = false
deletes Delete = true

reads-action : (tag : Tag) (action : Action) (texts : List (List ℕ)) → is_rd (Some tag) ≡ false → acts tag action ≡ true
    → ReadsLine (action_reading tag action texts) (value_for tag action texts) (rule_of_fields tag (deletes action) texts)
reads-action tag Insert texts h does =
    subst (λ v. ReadsLine (action_reading tag Insert texts) v (rule_of_fields tag false texts)) (sym (office-value tag Insert texts h))
    (lift (λ r. Put r) (record_reading tag texts) (record_in tag texts) _ (reads-record tag texts h))
reads-action tag Update texts h does =
    subst (λ v. ReadsLine (action_reading tag Update texts) v (rule_of_fields tag false texts)) (sym (office-value tag Update texts h))
    (lift (λ r. Change r) (record_reading tag texts) (record_in tag texts) _ (reads-record tag texts h))
reads-action tag Delete texts h does =
    subst (λ v. ReadsLine (action_reading tag Delete texts) v (rule_of_fields tag true texts)) (sym (office-value tag Delete texts h))
    (lift (λ key. Drop key) (key_reading tag texts) (key_in tag texts) _ (reads-key tag texts h does))

-- an action is one of its form, or none
acted : (tag : Tag) (action : Action) (does : Bool) (texts : List (List ℕ)) (rest : Option Rule)
    → (does ≡ true → ReadsLine (action_reading tag action texts) (value_for tag action texts) rest)
    → ReadsLine (ok_or (if does then Some action else None) BadAction >>= λ a. action_reading tag a texts)
    ((if does then Some action else None) >>- λ a. value_for tag a texts)
    (cond (is_none (if does then Some action else None)) (Some BadAction) rest)
acted tag action true texts rest h = h refl
acted tag action false texts rest h = (refl, refl)

abbrev action_of : Tag → Bool → Bool → Bool → Option Action
action_of tag i u d =
    cond i (Some Insert) (cond u (Some Update) (cond d (Some Delete) None)) >>- λ action. if acts tag action then Some action else None

by-action : (tag : Tag) (i u d : Bool) (texts : List (List ℕ)) → is_rd (Some tag) ≡ false → (i ≡ true → d ≡ false) → (u ≡ true → d ≡ false)
    → ReadsLine (ok_or (action_of tag i u d) BadAction >>= λ a. action_reading tag a texts)
    (action_of tag i u d >>- λ a. value_for tag a texts)
    (cond (is_none (action_of tag i u d)) (Some BadAction) (find (λ rule. breaks_in rule tag d texts) (rules_of tag d)))
by-action tag true u d texts h not_i not_u =
    acted tag Insert (acts tag Insert) texts _ λ does.
    subst (λ b. ReadsLine (action_reading tag Insert texts) (value_for tag Insert texts) (rule_of_fields tag b texts)) (sym (not_i refl))
    (reads-action tag Insert texts h does)
by-action tag false true d texts h not_i not_u =
    acted tag Update (acts tag Update) texts _ λ does.
    subst (λ b. ReadsLine (action_reading tag Update texts) (value_for tag Update texts) (rule_of_fields tag b texts)) (sym (not_u refl))
    (reads-action tag Update texts h does)
by-action tag false false true texts h not_i not_u =
    acted tag Delete (acts tag Delete) texts _ (reads-action tag Delete texts h)
by-action tag false false false texts h not_i not_u = (refl, refl)

-- ---- the form

by-count : (tag : Tag) (texts : List (List ℕ)) (wrong : Bool) (rest : Option Rule) → is_rd (Some tag) ≡ false
    → rest ≡ rule_of_fields tag (is_deletion texts) texts
    → ReadsLine
    (cond wrong (Err FieldCount) (ok_or (action_for tag (field 2 texts)) BadAction >>= λ a. action_reading tag a texts))
    (cond wrong None (action_for tag (field 2 texts) >>- λ a. value_for tag a texts))
    (cond wrong (Some FieldCount) (cond (is_none (action_for tag (field 2 texts))) (Some BadAction) rest))
by-count tag texts true rest h same = (refl, refl)
by-count tag texts false rest h same =
    subst (λ r. ReadsLine (ok_or (action_for tag (field 2 texts)) BadAction >>= λ a. action_reading tag a texts) (action_for tag (field 2 texts) >>- λ a. value_for tag a texts) (cond (is_none (action_for tag (field 2 texts))) (Some BadAction) r))
    (sym same)
    (by-action tag (bytes_eq (field 2 texts) (codes "I")) (bytes_eq (field 2 texts) (codes "U")) (bytes_eq (field 2 texts) (codes "D")) texts h
    (λ i. ap (λ t. bytes_eq t (codes "D")) ((bytes_eq-Decides (field 2 texts) (codes "I")).0 i))
    (λ u. ap (λ t. bytes_eq t (codes "D")) ((bytes_eq-Decides (field 2 texts) (codes "U")).0 u)))

-- the rules of a form's fields are broken by its fields
same_rules : (tag : Tag) (texts : List (List ℕ)) (deletes : Bool)
    → find (λ rule. breaks_in rule tag (is_deletion texts) texts) (rules_of tag deletes) ≡ find (λ rule. breaks_parts rule true (Some tag) texts) (rules_of tag deletes)
same_rules Rd texts true = refl
same_rules Rd texts false = refl
same_rules Xm texts true = refl
same_rules Xm texts false = refl
same_rules Xp texts true = refl
same_rules Xp texts false = refl
same_rules Xs texts true = refl
same_rules Xs texts false = refl
same_rules Xo texts true = refl
same_rules Xo texts false = refl
same_rules Xu texts true = refl
same_rules Xu texts false = refl
same_rules Xe texts true = refl
same_rules Xe texts false = refl
same_rules Xc texts true = refl
same_rules Xc texts false = refl
same_rules Xa texts true = refl
same_rules Xb texts true = refl
same_rules Xa texts false = refl
same_rules Xb texts false = refl

-- ---- the line

by-tag : (plain : Bool) (tag : Option Tag) (texts : List (List ℕ)) → cond plain (is_rd tag) false ≡ false
    → ReadsLine (cond plain (ok_or tag BadTag >>= λ t. form_reading t texts) (Err BadBytes))
    (cond plain (tag >>- λ t. form_value t texts) None)
    (find (λ rule. breaks_parts rule plain tag texts) (BadBytes ∷ BadTag ∷ FieldCount ∷ BadAction ∷ rules_for tag texts))
unfolding form_reading
by-tag false tag texts none = (refl, refl)
by-tag true None texts none = (refl, refl)
by-tag true (Some tag) texts none =
    by-count tag texts (has_wrong_count tag (is_deletion texts) texts) _ none (sym (same_rules tag texts (is_deletion texts)))

pub reads-line : (line : List ℕ) → has_rd_tag line ≡ false → ReadsLine (office_reading line) (line_value line) (reading_rule line)
unfolding office_reading
reads-line line none = by-tag (is_plain line) (tag_of line) (fields line) none
