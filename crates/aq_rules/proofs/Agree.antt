-- A line spells a value exactly if it breaks no reading rule.
use Rattle.std.proofs.Common.{◌≡◌, ℕ, Bool, true, false, cond, not, ◌&&◌, ◌||◌, List, [], ◌∷◌, Some, None, Option, refl, sym, ap, ◌∙◌, inl, inr, subst}
use Rattle.std.specs.List.{AllByRecursion, list_any}
use Rattle.std.specs.Prelude.{bytes_eq, codes, filter, find, is_some, is_none, ℤ, if◌then◌else◌}
use Rattle.std.proofs.lemmas.Bool.{false≢true, cases_Bool}
use Rattle.std.proofs.lemmas.Slice.Eq.{bytes_eq-Decides}
use Rattle.aq_base.specs.Decimal.{is_decimal, cut}
use Rattle.aq_base.specs.Site.{Site}
use Rattle.aq_base.specs.declared.code.Code.{Code}
use Rattle.aq_base.specs.declared.monitor.Pollutant.{Pollutant}
use Rattle.aq_base.specs.Calendar.{hour_number}
use Rattle.aq_base.specs.declared.observation.Observation.{Observation}
use Rattle.aq_base.specs.declared.office.OfficeRecord.{OfficeRecord}
use Rattle.aq_base.specs.declared.office.OfficeRecord.TheVariants.{Season, Makeup, Event, Concurrence, Combined}
use Rattle.aq_base.specs.declared.rule.Rule.{Rule}
use Rattle.aq_base.specs.declared.rule.Rule.TheVariants.{BadBytes, BadTag, FieldCount, BadAction, BadSite, ParameterOutOfProfile, BadPoc, BadDuration, BadUnit, BadMethod, BadDate, BadTime, ValueAndNull, NeitherValueNorNull, BadValue, ValueOutOfRange, BadNull, BadQualifier, BadSpan, BadInterval, BadSeason, BadMakeup, BadCode, BadPair}
use Rattle.aq_rules.specs.Lines.FormRules.{rd_put_rule, rd_put-rule, rd_delete_rule, rd_delete-rule, xm_rule, xm-rule, xp_rule, xp-rule, xp_key_rule, xp_key-rule, xs_rule, xs-rule, xs_key_rule, xs_key-rule, xo_rule, xo-rule, xo_key_rule, xo_key-rule, xu_rule, xu-rule, xu_key_rule, xu_key-rule, xe_rule, xe-rule, xe_key_rule, xe_key-rule, xc_rule, xc-rule, xa_rule, xa-rule, xa_key_rule, xa_key-rule, xb_rule, xb-rule, xb_key_rule, xb_key-rule}
use Rattle.aq_rules.specs.Lines.Fields.{is_empty, field, fields}
use Rattle.aq_rules.specs.Lines.Forms.{acts}
use Rattle.aq_rules.specs.Lines.Spellings.{◌>>=◌, Action, Insert, Update, Delete, action_in, Tag, Rd, Xm, Xp, Xs, Xo, Xu, Xe, Xc, Xa, Xb, parameter_in, parameter_of, poc_in, site_in, duration_in, unit_in, method_in, date_in, time_in, value_in, is_in_range, null_in, qualifiers_in, truth_in, primary_in, interval_in, year_in, event_number_in, event_code_in}
use Rattle.aq_rules.specs.Lines.RdForm.{monitor_in, start_in, content_in, put_in, delete_in, qualifier_fields}
use Rattle.aq_rules.specs.Lines.OfficeForms.{hour_in, is_season, is_makeup, is_span, is_pair, xm_record, xp_record, xp_key, xs_record, xs_key, xo_record, xo_key, xu_record, xu_key, xe_record, xe_key, xc_record, xa_record, xa_key, xb_record, xb_key}
use Rattle.aq_rules.specs.Lines.Reading.{FIELD_RULES, demands_on, is_of_rule, breaks_in, rules_of, reported_value, fails, value_for, action_for, form_value, has_wrong_count, is_deletion, breaks_parts, rules_for, line_value, reading_rule, is_plain, tag_of}

-- a part that spells something, exactly if its rule is not broken
agree : {A B : Type 0} (part : Option A) (next : A → Option B) (is_broken : Bool) (rule : Rule) (rest : Option Rule)
    → is_broken ≡ is_none part → ((x : A) → part ≡ Some x → is_some (next x) ≡ is_none rest)
    → is_some (part >>= next) ≡ is_none (cond is_broken (Some rule) rest)
agree None next is_broken rule rest same go = sym (ap (λ b. is_none (cond b (Some rule) rest)) same)
agree (Some x) next is_broken rule rest same go =
    go x refl ∙ sym (ap (λ b. is_none (cond b (Some rule) rest)) same)

bind-assoc : {A B C : Type 0} (part : Option A) (f : A → Option B) (g : B → Option C)
    → ((part >>= f) >>= g) ≡ (part >>= λ x. f x >>= g)
bind-assoc None f g = refl
bind-assoc (Some x) f g = refl

-- the same of a part inside a part
agree_inside : {A B C : Type 0} (part : Option A) (f : A → Option B) (g : B → Option C) (is_broken : Bool) (rule : Rule) (rest : Option Rule)
    → is_broken ≡ is_none part → ((x : A) → part ≡ Some x → is_some (f x >>= g) ≡ is_none rest)
    → is_some ((part >>= f) >>= g) ≡ is_none (cond is_broken (Some rule) rest)
agree_inside part f g is_broken rule rest same go =
    ap is_some (bind-assoc part f g) ∙ agree part (λ x. f x >>= g) is_broken rule rest same go

-- a value that is handed on whole
kept : {A B : Type 0} (part : Option A) (f : A → B) → is_some (part >>= λ x. Some (f x)) ≡ is_some part
kept None f = refl
kept (Some x) f = refl

kept_twice : {A B C : Type 0} (part : Option A) (f : A → B) (g : B → C) → is_some ((part >>= λ x. Some (f x)) >>= λ y. Some (g y)) ≡ is_some part
kept_twice None f g = refl
kept_twice (Some x) f g = refl

parameter-Rd : (part : Option Pollutant) → is_none (part >>= λ x. Some x) ≡ is_none part
parameter-Rd None = refl
parameter-Rd (Some x) = refl

null-empty : (text : List ℕ) → is_empty text ≡ true → is_none (null_in text) ≡ true
null-empty [] e = refl
null-empty (b ∷ bs) e = absurd (false≢true e)

content : (no_value no_null : Bool) (null : Option Code) (codes : Option (List Code)) (decimal in_range : Bool) (value : ℤ) (reported : Option ℤ)
    → (no_null ≡ true → is_none null ≡ true) → reported ≡ (if decimal && in_range then Some value else None)
    → (f : Code → List Code → Option Observation) → ((c : Code) (cs : List Code) → is_some (f c cs) ≡ true)
    → (g : ℤ → List Code → Option Observation) → ((v : ℤ) (cs : List Code) → is_some (g v cs) ≡ true)
    → is_some (if no_value then (null >>= λ c. codes >>= λ cs. f c cs)
    else (if no_null then ((if decimal && in_range then Some value else None) >>= λ v. codes >>= λ cs. g v cs) else None))
    ≡ is_none (cond (not no_value && not no_null) (Some ValueAndNull)
    (cond (not (not no_value) && not (not no_null)) (Some NeitherValueNorNull)
    (cond (not no_value && not decimal) (Some BadValue)
    (cond (not no_value && decimal && is_none reported) (Some ValueOutOfRange)
    (cond (not no_null && is_none null) (Some BadNull)
    (cond (is_none codes) (Some BadQualifier) None))))))
content true true None codes d r v w h e f hf g hg = refl
content true true (Some c) codes d r v w h e f hf g hg = absurd (false≢true (h refl))
content true false None codes d r v w h e f hf g hg = refl
content true false (Some c) None d r v w h e f hf g hg = refl
content true false (Some c) (Some cs) d r v w h e f hf g hg = hf c cs
content false true null codes false r v w h e f hf g hg = refl
content false true null codes true false v w h e f hf g hg = sym (ap (λ o. is_none (cond (is_none o) (Some ValueOutOfRange) (cond (is_none codes) (Some BadQualifier) None))) e)
content false true null None true true v w h e f hf g hg = sym (ap (λ o. is_none (cond (is_none o) (Some ValueOutOfRange) (Some BadQualifier))) e)
content false true null (Some cs) true true v w h e f hf g hg =
    hg v cs ∙ sym (ap (λ o. is_none (cond (is_none o) (Some ValueOutOfRange) None)) e)
content false false null codes d r v w h e f hf g hg = refl

pub agree-rd_put : (update : Bool) (texts : List (List ℕ))
    → is_some (put_in update texts) ≡ is_none (rd_put_rule texts)
unfolding put_in monitor_in start_in content_in parameter_of value_in
agree-rd_put update texts =
    agree_inside (site_in (field 3 texts) (field 4 texts) (field 5 texts)) _ _ _ BadSite _ refl λ site is_site.
    agree_inside (parameter_in (field 6 texts)) _ _ _ ParameterOutOfProfile _ (parameter-Rd (parameter_in (field 6 texts))) λ pollutant is_pollutant.
    agree_inside (poc_in (field 7 texts)) _ _ _ BadPoc _ refl λ poc is_poc.
    agree (duration_in pollutant (field 8 texts)) _ _ BadDuration _
    (ap (λ q. is_none ((q >>= λ x. Some x) >>= λ p. duration_in p (field 8 texts))) is_pollutant) λ duration is_duration.
    agree (unit_in pollutant (field 9 texts)) _ _ BadUnit _
    (ap (λ q. is_none ((q >>= λ x. Some x) >>= λ p. unit_in p (field 9 texts))) is_pollutant) λ places is_places.
    agree (method_in (field 10 texts)) _ _ BadMethod _ refl λ method is_method.
    agree_inside (date_in (field 11 texts)) _ _ _ BadDate _ refl λ day is_day.
    agree_inside (time_in (field 12 texts)) _ _ _ BadTime _ refl λ hour is_hour.
    kept (content_in pollutant places method texts) _
    ∙ content (is_empty (field 13 texts)) (is_empty (field 14 texts)) (null_in (field 14 texts)) (qualifiers_in (qualifier_fields texts))
    (is_decimal (field 13 texts)) (is_in_range pollutant (cut (field 13 texts) places)) (cut (field 13 texts) places) (reported_value texts)
    (null-empty (field 14 texts))
    (ap (λ q. (q >>= λ x. Some x) >>= λ p. unit_in p (field 9 texts) >>= λ n. value_in p n (field 13 texts)) is_pollutant
    ∙ ap (λ q. q >>= λ n. value_in pollutant n (field 13 texts)) is_places)
    (λ code codes. Some (record { value = None; null = Some code; quals = codes; method = Some method })) (λ code codes. refl)
    (λ value codes. Some (record { value = Some value; null = None; quals = codes; method = Some method })) (λ value codes. refl)

pub agree-rd_delete : (texts : List (List ℕ))
    → is_some (delete_in texts) ≡ is_none (rd_delete_rule texts)
unfolding delete_in monitor_in start_in parameter_of
agree-rd_delete texts =
    agree_inside (site_in (field 3 texts) (field 4 texts) (field 5 texts)) _ _ _ BadSite _ refl λ site is_site.
    agree_inside (parameter_in (field 6 texts)) _ _ _ ParameterOutOfProfile _ (parameter-Rd (parameter_in (field 6 texts))) λ pollutant is_pollutant.
    agree_inside (poc_in (field 7 texts)) _ _ _ BadPoc _ refl λ poc is_poc.
    agree_inside (date_in (field 11 texts)) _ _ _ BadDate _ refl λ day is_day.
    agree_inside (time_in (field 12 texts)) _ _ _ BadTime _ refl λ hour is_hour.
    refl

-- XM
agree-xm : (texts : List (List ℕ))
    → is_some (xm_record texts) ≡ is_none (xm_rule texts)
unfolding xm_record monitor_in parameter_of
agree-xm texts =
    agree_inside (site_in (field 3 texts) (field 4 texts) (field 5 texts)) _ _ _ BadSite _ refl λ site is_site.
    agree_inside (parameter_in (field 6 texts)) _ _ _ ParameterOutOfProfile _ (parameter-Rd (parameter_in (field 6 texts))) λ pollutant is_pollutant.
    agree_inside (poc_in (field 7 texts)) _ _ _ BadPoc _ refl λ poc is_poc.
    agree (duration_in pollutant (field 8 texts)) _ _ BadDuration _
    (ap (λ q. is_none ((q >>= λ x. Some x) >>= λ p. duration_in p (field 8 texts))) is_pollutant) λ duration is_duration.
    agree (truth_in (field 9 texts)) _ _ BadCode _ refl λ eligible is_eligible.
    refl

-- XP
agree-xp : (texts : List (List ℕ)) → is_some (xp_record texts) ≡ is_none (xp_rule texts)
unfolding xp_record
agree-xp texts =
    agree (site_in (field 3 texts) (field 4 texts) (field 5 texts)) _ _ BadSite _ refl λ site is_site.
    agree (parameter_of Xp (field 6 texts)) _ _ ParameterOutOfProfile _ refl λ pollutant is_pollutant.
    agree (primary_in (field 8 texts)) _ _ BadPoc _ refl λ poc is_poc.
    agree (date_in (field 7 texts)) _ _ BadDate _ refl λ from is_from.
    refl

agree-xp_key : (texts : List (List ℕ)) → is_some (xp_key texts) ≡ is_none (xp_key_rule texts)
unfolding xp_key
agree-xp_key texts =
    agree (site_in (field 3 texts) (field 4 texts) (field 5 texts)) _ _ BadSite _ refl λ site is_site.
    agree (parameter_of Xp (field 6 texts)) _ _ ParameterOutOfProfile _ refl λ pollutant is_pollutant.
    agree (date_in (field 7 texts)) _ _ BadDate _ refl λ from is_from.
    refl

-- two parts under one rule
agree_two : {A B C : Type 0} (one : Option A) (two : Option B) (next : A → B → Option C) (rule : Rule) (rest : Option Rule)
    → ((x : A) (y : B) → one ≡ Some x → two ≡ Some y → is_some (next x y) ≡ is_none rest)
    → is_some (one >>= λ x. two >>= λ y. next x y) ≡ is_none (cond (is_none one || is_none two) (Some rule) rest)
agree_two None two next rule rest go = refl
agree_two (Some x) None next rule rest go = refl
agree_two (Some x) (Some y) next rule rest go = go x y refl refl

-- XS
agree-xs : (texts : List (List ℕ)) → is_some (xs_record texts) ≡ is_none (xs_rule texts)
unfolding xs_record
agree-xs texts =
    agree (site_in (field 3 texts) (field 4 texts) (field 5 texts)) _ _ BadSite _ refl λ site is_site.
    agree (parameter_of Xs (field 6 texts)) _ _ ParameterOutOfProfile _ refl λ pollutant is_pollutant.
    agree_two (date_in (field 7 texts)) (date_in (field 9 texts)) _ BadDate _ λ from anchor is_from is_anchor.
    agree (interval_in (field 8 texts)) _ _ BadInterval _ refl λ interval is_interval.
    refl

agree-xs_key : (texts : List (List ℕ)) → is_some (xs_key texts) ≡ is_none (xs_key_rule texts)
unfolding xs_key
agree-xs_key texts =
    agree (site_in (field 3 texts) (field 4 texts) (field 5 texts)) _ _ BadSite _ refl λ site is_site.
    agree (parameter_of Xs (field 6 texts)) _ _ ParameterOutOfProfile _ refl λ pollutant is_pollutant.
    agree (date_in (field 7 texts)) _ _ BadDate _ refl λ from is_from.
    refl

-- a test at the end
tested : {A : Type 0} (passed : Bool) (value : A) (rule : Rule)
    → is_some (if passed then Some value else None) ≡ is_none (cond (not passed) (Some rule) None)
tested true value rule = refl
tested false value rule = refl

-- XO
xo_end : (year first last : Option ℕ) (f : ℕ → ℕ → ℕ → Bool) (h : ℕ → ℕ → ℕ → OfficeRecord)
    → is_some (year >>= λ y. first >>= λ a. last >>= λ b. if f y a b then Some (h y a b) else None)
    ≡ is_none (cond (is_none year || (is_none first || is_none last)) (Some BadDate)
    (cond (fails (year >>= λ y. first >>= λ a. last >>= λ b. Some (f y a b))) (Some BadSeason) None))
xo_end None first last f h = refl
xo_end (Some y) None last f h = refl
xo_end (Some y) (Some a) None f h = refl
xo_end (Some y) (Some a) (Some b) f h = tested (f y a b) (h y a b) BadSeason

agree-xo : (texts : List (List ℕ)) → is_some (xo_record texts) ≡ is_none (xo_rule texts)
unfolding xo_record
agree-xo texts =
    agree (site_in (field 3 texts) (field 4 texts) (field 5 texts)) _ _ BadSite _ refl λ site is_site.
    xo_end (year_in (field 6 texts)) (date_in (field 7 texts)) (date_in (field 8 texts)) is_season (λ y a b. Season site y a b)

agree-xo_key : (texts : List (List ℕ)) → is_some (xo_key texts) ≡ is_none (xo_key_rule texts)
unfolding xo_key
agree-xo_key texts =
    agree (site_in (field 3 texts) (field 4 texts) (field 5 texts)) _ _ BadSite _ refl λ site is_site.
    agree (year_in (field 6 texts)) _ _ BadDate _ refl λ year is_year.
    refl

-- XU
xu_end : (missed makeup : Option ℕ) (f : ℕ → ℕ → Bool) (h : ℕ → ℕ → OfficeRecord)
    → is_some (missed >>= λ a. makeup >>= λ b. if f a b then Some (h a b) else None)
    ≡ is_none (cond (is_none missed || is_none makeup) (Some BadDate)
    (cond (fails (missed >>= λ a. makeup >>= λ b. Some (f a b))) (Some BadMakeup) None))
xu_end None makeup f h = refl
xu_end (Some a) None f h = refl
xu_end (Some a) (Some b) f h = tested (f a b) (h a b) BadMakeup

agree-xu : (texts : List (List ℕ)) → is_some (xu_record texts) ≡ is_none (xu_rule texts)
unfolding xu_record
agree-xu texts =
    agree (site_in (field 3 texts) (field 4 texts) (field 5 texts)) _ _ BadSite _ refl λ site is_site.
    agree (parameter_of Xu (field 6 texts)) _ _ ParameterOutOfProfile _ refl λ pollutant is_pollutant.
    xu_end (date_in (field 7 texts)) (date_in (field 8 texts)) is_makeup (λ a b. Makeup site a b)

agree-xu_key : (texts : List (List ℕ)) → is_some (xu_key texts) ≡ is_none (xu_key_rule texts)
unfolding xu_key
agree-xu_key texts =
    agree (site_in (field 3 texts) (field 4 texts) (field 5 texts)) _ _ BadSite _ refl λ site is_site.
    agree (parameter_of Xu (field 6 texts)) _ _ ParameterOutOfProfile _ refl λ pollutant is_pollutant.
    agree (date_in (field 7 texts)) _ _ BadDate _ refl λ missed is_missed.
    refl

-- XE
xe_end : (number : Option ℕ) (code : Option Code) (passed : Bool) (h : ℕ → Code → OfficeRecord)
    → is_some (number >>= λ n. code >>= λ c. if passed then Some (h n c) else None)
    ≡ is_none (cond (not passed) (Some BadSpan) (cond (is_none number || is_none code) (Some BadCode) None))
xe_end None code true h = refl
xe_end None code false h = refl
xe_end (Some n) None true h = refl
xe_end (Some n) None false h = refl
xe_end (Some n) (Some c) true h = refl
xe_end (Some n) (Some c) false h = refl

hour_of : Option ℕ → Option ℕ → Option ℕ
hour_of day hour = day >>= λ d. hour >>= λ h. Some (hour_number d h)

xe_hours : {A : Type 0} (day hour last_day last_hour : Option ℕ) (next : ℕ → ℕ → Option A) (rest : Option Rule)
    → ((first last : ℕ) → hour_of day hour ≡ Some first → hour_of last_day last_hour ≡ Some last → is_some (next first last) ≡ is_none rest)
    → is_some (hour_of day hour >>= λ first. hour_of last_day last_hour >>= λ last. next first last)
    ≡ is_none (cond (is_none day || is_none last_day) (Some BadDate) (cond (is_none hour || is_none last_hour) (Some BadTime) rest))
unfolding hour_of
xe_hours None hour last_day last_hour next rest go = refl
xe_hours (Some d) None None last_hour next rest go = refl
xe_hours (Some d) (Some h) None last_hour next rest go = refl
xe_hours (Some d) None (Some e) last_hour next rest go = refl
xe_hours (Some d) (Some h) (Some e) None next rest go = refl
xe_hours (Some d) (Some h) (Some e) (Some i) next rest go = go (hour_number d h) (hour_number e i) refl refl

agree-xe : (texts : List (List ℕ)) → is_some (xe_record texts) ≡ is_none (xe_rule texts)
unfolding xe_record hour_of
agree-xe texts =
    agree (site_in (field 4 texts) (field 5 texts) (field 6 texts)) _ _ BadSite _ refl λ site is_site.
    agree (parameter_of Xe (field 7 texts)) _ _ ParameterOutOfProfile _ refl λ pollutant is_pollutant.
    xe_hours (date_in (field 8 texts)) (time_in (field 9 texts)) (date_in (field 10 texts)) (time_in (field 11 texts)) _ _ λ first last is_first is_last.
    xe_end (event_number_in (field 3 texts)) (event_code_in (field 12 texts)) (is_span first last) (λ n c. Event n site pollutant first last c)
    ∙ sym (ap (λ o. is_none (cond (fails o) (Some BadSpan) (cond (is_none (event_number_in (field 3 texts)) || is_none (event_code_in (field 12 texts))) (Some BadCode) None)))
    (ap (λ q. q >>= λ a. hour_in (field 10 texts) (field 11 texts) >>= λ b. Some (is_span a b)) is_first ∙ ap (λ q. q >>= λ b. Some (is_span first b)) is_last))

agree-xe_key : (texts : List (List ℕ)) → is_some (xe_key texts) ≡ is_none (xe_key_rule texts)
unfolding xe_key
agree-xe_key texts =
    agree (event_number_in (field 3 texts)) _ _ BadCode _ refl λ number is_number.
    refl

-- XC
agree-xc : (texts : List (List ℕ)) → is_some (xc_record texts) ≡ is_none (xc_rule texts)
unfolding xc_record
agree-xc texts = xc_end (event_number_in (field 3 texts)) (truth_in (field 4 texts))
  where
    xc_end : (number : Option ℕ) (flag : Option Bool) → is_some (number >>= λ n. flag >>= λ f. Some (Concurrence n f)) ≡ is_none (cond (is_none number || is_none flag) (Some BadCode) None)
    xc_end None flag = refl
    xc_end (Some n) None = refl
    xc_end (Some n) (Some f) = refl

-- XA
agree-xa : (texts : List (List ℕ)) → is_some (xa_record texts) ≡ is_none (xa_rule texts)
unfolding xa_record
agree-xa texts =
    agree (site_in (field 3 texts) (field 4 texts) (field 5 texts)) _ _ BadSite _ refl λ site is_site.
    agree (date_in (field 6 texts)) _ _ BadDate _ refl λ day is_day.
    refl

agree-xa_key : (texts : List (List ℕ)) → is_some (xa_key texts) ≡ is_none (xa_key_rule texts)
unfolding xa_key
agree-xa_key texts =
    agree (site_in (field 3 texts) (field 4 texts) (field 5 texts)) _ _ BadSite _ refl λ site is_site.
    agree (date_in (field 6 texts)) _ _ BadDate _ refl λ day is_day.
    refl

-- XB
xb_end : (site joined : Option Site) (pollutant : Option Pollutant) (from : Option ℕ) (f : Site → Site → Bool) (h : Site → Site → Pollutant → ℕ → OfficeRecord)
    → is_some (site >>= λ s. joined >>= λ j. pollutant >>= λ p. from >>= λ d. if f s j then Some (h s j p d) else None)
    ≡ is_none (cond (is_none site || is_none joined) (Some BadSite)
    (cond (is_none pollutant) (Some ParameterOutOfProfile)
    (cond (is_none from) (Some BadDate)
    (cond (fails (site >>= λ s. joined >>= λ j. Some (f s j))) (Some BadPair) None))))
xb_end None joined pollutant from f h = refl
xb_end (Some s) None pollutant from f h = refl
xb_end (Some s) (Some j) None from f h = refl
xb_end (Some s) (Some j) (Some p) None f h = refl
xb_end (Some s) (Some j) (Some p) (Some d) f h = tested (f s j) (h s j p d) BadPair

agree-xb : (texts : List (List ℕ)) → is_some (xb_record texts) ≡ is_none (xb_rule texts)
unfolding xb_record
agree-xb texts =
    xb_end (site_in (field 3 texts) (field 4 texts) (field 5 texts)) (site_in (field 8 texts) (field 9 texts) (field 10 texts)) (parameter_of Xb (field 6 texts)) (date_in (field 7 texts)) is_pair
    (λ s j p d. Combined s p d j)

agree-xb_key : (texts : List (List ℕ)) → is_some (xb_key texts) ≡ is_none (xb_key_rule texts)
unfolding xb_key
agree-xb_key texts =
    agree (site_in (field 3 texts) (field 4 texts) (field 5 texts)) _ _ BadSite _ refl λ site is_site.
    agree (parameter_of Xb (field 6 texts)) _ _ ParameterOutOfProfile _ refl λ pollutant is_pollutant.
    refl

-- ---- the whole line

is_delete : Action → Bool
is_delete Insert = false
is_delete Update = false
is_delete Delete = true

chosen : (i u d : Bool) (action : Action) → cond i (Some Insert) (cond u (Some Update) (cond d (Some Delete) None)) ≡ Some action
    → (i ≡ true → d ≡ false) → (u ≡ true → d ≡ false) → d ≡ is_delete action
unfolding is_delete
chosen true u d action is not_i not_u =
    let same : Insert ≡ action = cc in
    not_i refl ∙ ap is_delete same
chosen false true d action is not_i not_u =
    let same : Update ≡ action = cc in
    not_u refl ∙ ap is_delete same
chosen false false true action is not_i not_u =
    let same : Delete ≡ action = cc in
    ap is_delete same
chosen false false false action is not_i not_u = cc

deletion : (text : List ℕ) (action : Action) → action_in text ≡ Some action → bytes_eq text (codes "D") ≡ is_delete action
deletion text action is_action =
    chosen (bytes_eq text (codes "I")) (bytes_eq text (codes "U")) (bytes_eq text (codes "D")) action is_action
    (λ i. ap (λ t. bytes_eq t (codes "D")) ((bytes_eq-Decides text (codes "I")).0 i))
    (λ u. ap (λ t. bytes_eq t (codes "D")) ((bytes_eq-Decides text (codes "U")).0 u))

agree-value : (tag : Tag) (action : Action) (texts : List (List ℕ)) → acts tag action ≡ true
    → is_some (value_for tag action texts)
    ≡ is_none (find (λ rule. breaks_in rule tag (is_delete action) texts) (rules_of tag (is_delete action)))
unfolding is_delete
agree-value Rd Insert texts may = kept (put_in false texts) _ ∙ agree-rd_put false texts ∙ ap is_none (sym (rd_put-rule texts))
agree-value Rd Update texts may = kept (put_in true texts) _ ∙ agree-rd_put true texts ∙ ap is_none (sym (rd_put-rule texts))
agree-value Rd Delete texts may = kept (delete_in texts) _ ∙ agree-rd_delete texts ∙ ap is_none (sym (rd_delete-rule texts))
agree-value Xm Insert texts may = kept_twice (xm_record texts) _ _ ∙ agree-xm texts ∙ ap is_none (sym (xm-rule texts))
agree-value Xm Update texts may = kept_twice (xm_record texts) _ _ ∙ agree-xm texts ∙ ap is_none (sym (xm-rule texts))
agree-value Xm Delete texts may = absurd (false≢true may)
agree-value Xp Insert texts may = kept_twice (xp_record texts) _ _ ∙ agree-xp texts ∙ ap is_none (sym (xp-rule texts))
agree-value Xp Update texts may = absurd (false≢true may)
agree-value Xp Delete texts may = kept_twice (xp_key texts) _ _ ∙ agree-xp_key texts ∙ ap is_none (sym (xp_key-rule texts))
agree-value Xs Insert texts may = kept_twice (xs_record texts) _ _ ∙ agree-xs texts ∙ ap is_none (sym (xs-rule texts))
agree-value Xs Update texts may = absurd (false≢true may)
agree-value Xs Delete texts may = kept_twice (xs_key texts) _ _ ∙ agree-xs_key texts ∙ ap is_none (sym (xs_key-rule texts))
agree-value Xo Insert texts may = kept_twice (xo_record texts) _ _ ∙ agree-xo texts ∙ ap is_none (sym (xo-rule texts))
agree-value Xo Update texts may = absurd (false≢true may)
agree-value Xo Delete texts may = kept_twice (xo_key texts) _ _ ∙ agree-xo_key texts ∙ ap is_none (sym (xo_key-rule texts))
agree-value Xu Insert texts may = kept_twice (xu_record texts) _ _ ∙ agree-xu texts ∙ ap is_none (sym (xu-rule texts))
agree-value Xu Update texts may = absurd (false≢true may)
agree-value Xu Delete texts may = kept_twice (xu_key texts) _ _ ∙ agree-xu_key texts ∙ ap is_none (sym (xu_key-rule texts))
agree-value Xe Insert texts may = kept_twice (xe_record texts) _ _ ∙ agree-xe texts ∙ ap is_none (sym (xe-rule texts))
agree-value Xe Update texts may = absurd (false≢true may)
agree-value Xe Delete texts may = kept_twice (xe_key texts) _ _ ∙ agree-xe_key texts ∙ ap is_none (sym (xe_key-rule texts))
agree-value Xc Insert texts may = absurd (false≢true may)
agree-value Xc Update texts may = kept_twice (xc_record texts) _ _ ∙ agree-xc texts ∙ ap is_none (sym (xc-rule texts))
agree-value Xc Delete texts may = absurd (false≢true may)
agree-value Xa Insert texts may = kept_twice (xa_record texts) _ _ ∙ agree-xa texts ∙ ap is_none (sym (xa-rule texts))
agree-value Xa Update texts may = absurd (false≢true may)
agree-value Xa Delete texts may = kept_twice (xa_key texts) _ _ ∙ agree-xa_key texts ∙ ap is_none (sym (xa_key-rule texts))
agree-value Xb Insert texts may = kept_twice (xb_record texts) _ _ ∙ agree-xb texts ∙ ap is_none (sym (xb-rule texts))
agree-value Xb Update texts may = absurd (false≢true may)
agree-value Xb Delete texts may = kept_twice (xb_key texts) _ _ ∙ agree-xb_key texts ∙ ap is_none (sym (xb_key-rule texts))

-- an action of the form is one that the text spells
spelled : (tag : Tag) (part : Option Action) (action : Action)
    → (part >>= λ a. if acts tag a then Some a else None) ≡ Some action → (part ≡ Some action) × (acts tag action ≡ true)
spelled tag None action is = cc
spelled tag (Some a) action is =
    elim (cases_Bool (acts tag a)) [
      | inl may ↦
          let same : Some a ≡ Some action = sym (ap (λ b. cond b (Some a) None) may) ∙ is in
          let equal : a ≡ action = cc in
          (same, subst (λ x. acts tag x ≡ true) equal may)
      | inr not ↦
          let none : None ≡ Some action = sym (ap (λ b. cond b (Some a) None) not) ∙ is in
          cc
    ]

same_find : (p q kept : Rule → Bool) (rules : List Rule) → AllByRecursion (λ rule. p rule ≡ q rule) rules
    → find p (filter kept rules) ≡ find q (filter kept rules)
same_find p q kept [] same = refl
same_find p q kept (rule ∷ rules) same =
    elim (cases_Bool (kept rule)) [
      | inl is ↦
          subst (λ b. find p (cond b (rule ∷ filter kept rules) (filter kept rules)) ≡ find q (cond b (rule ∷ filter kept rules) (filter kept rules))) (sym is)
          (ap (λ b. cond b (Some rule) (find p (filter kept rules))) same.0
          ∙ ap (λ o. cond (q rule) (Some rule) o) (same_find p q kept rules same.1))
      | inr not ↦
          subst (λ b. find p (cond b (rule ∷ filter kept rules) (filter kept rules)) ≡ find q (cond b (rule ∷ filter kept rules) (filter kept rules))) (sym not)
          (same_find p q kept rules same.1)
    ]

-- beside the rules of all forms, a line breaks what its fields break
pub same_rule : (tag : Tag) (texts : List (List ℕ))
    → find (λ rule. breaks_parts rule true (Some tag) texts) (rules_of tag (is_deletion texts))
    ≡ find (λ rule. breaks_in rule tag (is_deletion texts) texts) (rules_of tag (is_deletion texts))
same_rule tag texts =
    same_find (λ rule. breaks_parts rule true (Some tag) texts) (λ rule. breaks_in rule tag (is_deletion texts) texts)
    (λ rule. list_any (is_of_rule rule) (demands_on tag (is_deletion texts))) FIELD_RULES
    (refl, (refl, (refl, (refl, (refl, (refl, (refl, (refl, (refl, (refl, (refl, (refl, (refl, (refl, (refl, (refl, (refl, (refl, (refl, (refl, tt))))))))))))))))))))

agree-form : (tag : Tag) (texts : List (List ℕ)) (wrong : Bool) (rest : Option Rule)
    → rest ≡ find (λ rule. breaks_in rule tag (is_deletion texts) texts) (rules_of tag (is_deletion texts))
    → is_some (if wrong then None else (action_for tag (field 2 texts) >>= λ action. value_for tag action texts))
    ≡ is_none (cond wrong (Some FieldCount) (cond (is_none (action_for tag (field 2 texts))) (Some BadAction) rest))
agree-form tag texts true rest same = refl
agree-form tag texts false rest same =
    agree (action_for tag (field 2 texts)) _ _ BadAction _ refl λ action is_action.
    let parts = spelled tag (action_in (field 2 texts)) action is_action in
    agree-value tag action texts parts.1
    ∙ ap (λ b. is_none (find (λ rule. breaks_in rule tag b texts) (rules_of tag b))) (sym (deletion (field 2 texts) action parts.0))
    ∙ ap is_none (sym same)

agree-parts : (plain : Bool) (tag : Option Tag) (texts : List (List ℕ))
    → is_some (if plain then (tag >>= λ t. form_value t texts) else None)
    ≡ is_none (find (λ rule. breaks_parts rule plain tag texts) (BadBytes ∷ BadTag ∷ FieldCount ∷ BadAction ∷ rules_for tag texts))
agree-parts false tag texts = refl
agree-parts true None texts = refl
agree-parts true (Some tag) texts =
    agree-form tag texts (has_wrong_count tag (is_deletion texts) texts) _
    (same_rule tag texts)

pub agree-line : (line : List ℕ) → is_some (line_value line) ≡ is_none (reading_rule line)
agree-line line = agree-parts (is_plain line) (tag_of line) (fields line)
