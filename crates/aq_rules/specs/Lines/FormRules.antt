-- Lemmas, no definition: the first rule that the fields of each form break, written out and proved equal to that of `Reading`; crates above cite it.
use Rattle.std.proofs.Common.{◌≡◌, ℕ, Bool, true, false, cond, not, ◌&&◌, ◌||◌, List, Some, None, Option, refl, ap, ◌∙◌}
use Rattle.std.specs.Prelude.{find, is_none}
use Rattle.aq_base.specs.Decimal.{is_decimal}
use Rattle.aq_base.specs.declared.rule.Rule.{Rule}
use Rattle.aq_base.specs.declared.rule.Rule.TheVariants.{BadSite, ParameterOutOfProfile, BadPoc, BadDuration, BadUnit, BadMethod, BadDate, BadTime, ValueAndNull, NeitherValueNorNull, BadValue, ValueOutOfRange, BadNull, BadQualifier, BadSpan, BadInterval, BadSeason, BadMakeup, BadCode, BadPair}
use Rattle.aq_rules.specs.Lines.Fields.{is_empty, field}
use Rattle.aq_rules.specs.Lines.Spellings.{◌>>=◌, Rd, Xm, Xp, Xs, Xo, Xu, Xe, Xc, Xa, Xb, digits_in, site_in, parameter_of, poc_in, primary_in, duration_in, unit_in, method_in, date_in, year_in, time_in, null_in, qualifiers_in, interval_in, truth_in, event_number_in, event_code_in}
use Rattle.aq_rules.specs.Lines.RdForm.{qualifier_fields}
use Rattle.aq_rules.specs.Lines.OfficeForms.{hour_in, is_season, is_makeup, is_span, is_pair}
use Rattle.aq_rules.specs.Lines.Reading.{breaks_in, rules_of, reported_value, fails}

or_false : (a : Bool) → (a || false) ≡ a
or_false true = refl
or_false false = refl

or_two : (a b : Bool) → (a || (b || false)) ≡ (a || b)
or_two a b = ap (λ c. a || c) (or_false b)

or_three : (a b c : Bool) → (a || (b || (c || false))) ≡ (a || (b || c))
or_three a b c = ap (λ d. a || d) (or_two b c)

-- a site is spelled if its three numbers are
three_parts : {A B C D : Type 0} (one : Option A) (two : Option B) (three : Option C) (f : A → B → C → D)
    → (is_none one || (is_none two || (is_none three || false))) ≡ is_none (one >>= λ x. two >>= λ y. three >>= λ z. Some (f x y z))
three_parts None two three f = refl
three_parts (Some x) None three f = refl
three_parts (Some x) (Some y) None f = refl
three_parts (Some x) (Some y) (Some z) f = refl

site_spelled : (state county number : List ℕ)
    → (is_none (digits_in 2 state) || (is_none (digits_in 3 county) || (is_none (digits_in 4 number) || false))) ≡ is_none (site_in state county number)
unfolding site_in
site_spelled state county number = three_parts (digits_in 2 state) (digits_in 3 county) (digits_in 4 number) _

regroup : (a b c rest : Bool) → (a || (b || (c || rest))) ≡ ((a || (b || (c || false))) || rest)
regroup true b c rest = refl
regroup false true c rest = refl
regroup false false true rest = refl
regroup false false false rest = refl

two_sites_spelled : (state county number joined_state joined_county joined_number : List ℕ)
    → (is_none (digits_in 2 state) || (is_none (digits_in 3 county) || (is_none (digits_in 4 number) || (is_none (digits_in 2 joined_state) || (is_none (digits_in 3 joined_county) || (is_none (digits_in 4 joined_number) || false))))))
    ≡ (is_none (site_in state county number) || is_none (site_in joined_state joined_county joined_number))
two_sites_spelled state county number joined_state joined_county joined_number =
    regroup (is_none (digits_in 2 state)) (is_none (digits_in 3 county)) (is_none (digits_in 4 number)) _
    ∙ ap (λ b. b || (is_none (digits_in 2 joined_state) || (is_none (digits_in 3 joined_county) || (is_none (digits_in 4 joined_number) || false)))) (site_spelled state county number)
    ∙ ap (λ b. is_none (site_in state county number) || b) (site_spelled joined_state joined_county joined_number)

-- a rule and those after it
link : {a b : Bool} (rule : Rule) {rest others : Option Rule} → a ≡ b → rest ≡ others → cond a (Some rule) rest ≡ cond b (Some rule) others
link {a} {b} rule {rest} {others} same more = ap (λ c. cond c (Some rule) rest) same ∙ ap (λ o. cond b (Some rule) o) more

-- RD
abbrev rd_put_tests : List (List ℕ) → Option Rule
rd_put_tests texts =
    cond (is_none (digits_in 2 (field 3 texts)) || (is_none (digits_in 3 (field 4 texts)) || (is_none (digits_in 4 (field 5 texts)) || false))) (Some BadSite)
    (cond (is_none (parameter_of Rd (field 6 texts)) || false) (Some ParameterOutOfProfile)
    (cond (is_none (poc_in (field 7 texts)) || false) (Some BadPoc)
    (cond (is_none (parameter_of Rd (field 6 texts) >>= λ p. duration_in p (field 8 texts)) || false) (Some BadDuration)
    (cond (is_none (parameter_of Rd (field 6 texts) >>= λ p. unit_in p (field 9 texts)) || false) (Some BadUnit)
    (cond (is_none (method_in (field 10 texts)) || false) (Some BadMethod)
    (cond (is_none (date_in (field 11 texts)) || false) (Some BadDate)
    (cond (is_none (time_in (field 12 texts)) || false) (Some BadTime)
    (cond (not (is_empty (field 13 texts)) && not (is_empty (field 14 texts)) || false) (Some ValueAndNull)
    (cond (not (not (is_empty (field 13 texts))) && not (not (is_empty (field 14 texts))) || false) (Some NeitherValueNorNull)
    (cond (not (is_empty (field 13 texts)) && not (is_decimal (field 13 texts)) || false) (Some BadValue)
    (cond (not (is_empty (field 13 texts)) && is_decimal (field 13 texts) && is_none (reported_value texts) || false) (Some ValueOutOfRange)
    (cond (not (is_empty (field 14 texts)) && is_none (null_in (field 14 texts)) || false) (Some BadNull)
    (cond (is_none (qualifiers_in (qualifier_fields texts)) || false) (Some BadQualifier) None)))))))))))))

abbrev pub rd_put_rule : List (List ℕ) → Option Rule
rd_put_rule texts =
    cond (is_none (site_in (field 3 texts) (field 4 texts) (field 5 texts))) (Some BadSite)
    (cond (is_none (parameter_of Rd (field 6 texts))) (Some ParameterOutOfProfile)
    (cond (is_none (poc_in (field 7 texts))) (Some BadPoc)
    (cond (is_none (parameter_of Rd (field 6 texts) >>= λ p. duration_in p (field 8 texts))) (Some BadDuration)
    (cond (is_none (parameter_of Rd (field 6 texts) >>= λ p. unit_in p (field 9 texts))) (Some BadUnit)
    (cond (is_none (method_in (field 10 texts))) (Some BadMethod)
    (cond (is_none (date_in (field 11 texts))) (Some BadDate)
    (cond (is_none (time_in (field 12 texts))) (Some BadTime)
    (cond (not (is_empty (field 13 texts)) && not (is_empty (field 14 texts))) (Some ValueAndNull)
    (cond (not (not (is_empty (field 13 texts))) && not (not (is_empty (field 14 texts)))) (Some NeitherValueNorNull)
    (cond (not (is_empty (field 13 texts)) && not (is_decimal (field 13 texts))) (Some BadValue)
    (cond (not (is_empty (field 13 texts)) && is_decimal (field 13 texts) && is_none (reported_value texts)) (Some ValueOutOfRange)
    (cond (not (is_empty (field 14 texts)) && is_none (null_in (field 14 texts))) (Some BadNull)
    (cond (is_none (qualifiers_in (qualifier_fields texts))) (Some BadQualifier) None)))))))))))))

rd_put_found : (texts : List (List ℕ)) → find (λ rule. breaks_in rule Rd false texts) (rules_of Rd false) ≡ rd_put_tests texts
rd_put_found texts = refl

rd_put_same : (texts : List (List ℕ)) → rd_put_tests texts ≡ rd_put_rule texts
rd_put_same texts =
    link BadSite (site_spelled (field 3 texts) (field 4 texts) (field 5 texts))
    (link ParameterOutOfProfile (or_false (is_none (parameter_of Rd (field 6 texts))))
    (link BadPoc (or_false (is_none (poc_in (field 7 texts))))
    (link BadDuration (or_false (is_none (parameter_of Rd (field 6 texts) >>= λ p. duration_in p (field 8 texts))))
    (link BadUnit (or_false (is_none (parameter_of Rd (field 6 texts) >>= λ p. unit_in p (field 9 texts))))
    (link BadMethod (or_false (is_none (method_in (field 10 texts))))
    (link BadDate (or_false (is_none (date_in (field 11 texts))))
    (link BadTime (or_false (is_none (time_in (field 12 texts))))
    (link ValueAndNull (or_false (not (is_empty (field 13 texts)) && not (is_empty (field 14 texts))))
    (link NeitherValueNorNull (or_false (not (not (is_empty (field 13 texts))) && not (not (is_empty (field 14 texts)))))
    (link BadValue (or_false (not (is_empty (field 13 texts)) && not (is_decimal (field 13 texts))))
    (link ValueOutOfRange (or_false (not (is_empty (field 13 texts)) && is_decimal (field 13 texts) && is_none (reported_value texts)))
    (link BadNull (or_false (not (is_empty (field 14 texts)) && is_none (null_in (field 14 texts))))
    (link BadQualifier (or_false (is_none (qualifiers_in (qualifier_fields texts)))) refl)))))))))))))

pub rd_put-rule : (texts : List (List ℕ)) → find (λ rule. breaks_in rule Rd false texts) (rules_of Rd false) ≡ rd_put_rule texts
rd_put-rule texts = rd_put_found texts ∙ rd_put_same texts

-- RD, a deletion
abbrev rd_delete_tests : List (List ℕ) → Option Rule
rd_delete_tests texts =
    cond (is_none (digits_in 2 (field 3 texts)) || (is_none (digits_in 3 (field 4 texts)) || (is_none (digits_in 4 (field 5 texts)) || false))) (Some BadSite)
    (cond (is_none (parameter_of Rd (field 6 texts)) || false) (Some ParameterOutOfProfile)
    (cond (is_none (poc_in (field 7 texts)) || false) (Some BadPoc)
    (cond (is_none (date_in (field 11 texts)) || false) (Some BadDate)
    (cond (is_none (time_in (field 12 texts)) || false) (Some BadTime) None))))

abbrev pub rd_delete_rule : List (List ℕ) → Option Rule
rd_delete_rule texts =
    cond (is_none (site_in (field 3 texts) (field 4 texts) (field 5 texts))) (Some BadSite)
    (cond (is_none (parameter_of Rd (field 6 texts))) (Some ParameterOutOfProfile)
    (cond (is_none (poc_in (field 7 texts))) (Some BadPoc)
    (cond (is_none (date_in (field 11 texts))) (Some BadDate)
    (cond (is_none (time_in (field 12 texts))) (Some BadTime) None))))

rd_delete_found : (texts : List (List ℕ)) → find (λ rule. breaks_in rule Rd true texts) (rules_of Rd true) ≡ rd_delete_tests texts
rd_delete_found texts = refl

rd_delete_same : (texts : List (List ℕ)) → rd_delete_tests texts ≡ rd_delete_rule texts
rd_delete_same texts =
    link BadSite (site_spelled (field 3 texts) (field 4 texts) (field 5 texts))
    (link ParameterOutOfProfile (or_false (is_none (parameter_of Rd (field 6 texts))))
    (link BadPoc (or_false (is_none (poc_in (field 7 texts))))
    (link BadDate (or_false (is_none (date_in (field 11 texts))))
    (link BadTime (or_false (is_none (time_in (field 12 texts)))) refl))))

pub rd_delete-rule : (texts : List (List ℕ)) → find (λ rule. breaks_in rule Rd true texts) (rules_of Rd true) ≡ rd_delete_rule texts
rd_delete-rule texts = rd_delete_found texts ∙ rd_delete_same texts

-- XM
abbrev xm_tests : List (List ℕ) → Option Rule
xm_tests texts =
    cond (is_none (digits_in 2 (field 3 texts)) || (is_none (digits_in 3 (field 4 texts)) || (is_none (digits_in 4 (field 5 texts)) || false))) (Some BadSite)
    (cond (is_none (parameter_of Xm (field 6 texts)) || false) (Some ParameterOutOfProfile)
    (cond (is_none (poc_in (field 7 texts)) || false) (Some BadPoc)
    (cond (is_none (parameter_of Xm (field 6 texts) >>= λ p. duration_in p (field 8 texts)) || false) (Some BadDuration)
    (cond (is_none (truth_in (field 9 texts)) || false) (Some BadCode) None))))

abbrev pub xm_rule : List (List ℕ) → Option Rule
xm_rule texts =
    cond (is_none (site_in (field 3 texts) (field 4 texts) (field 5 texts))) (Some BadSite)
    (cond (is_none (parameter_of Xm (field 6 texts))) (Some ParameterOutOfProfile)
    (cond (is_none (poc_in (field 7 texts))) (Some BadPoc)
    (cond (is_none (parameter_of Xm (field 6 texts) >>= λ p. duration_in p (field 8 texts))) (Some BadDuration)
    (cond (is_none (truth_in (field 9 texts))) (Some BadCode) None))))

xm_found : (texts : List (List ℕ)) → find (λ rule. breaks_in rule Xm false texts) (rules_of Xm false) ≡ xm_tests texts
xm_found texts = refl

xm_same : (texts : List (List ℕ)) → xm_tests texts ≡ xm_rule texts
xm_same texts =
    link BadSite (site_spelled (field 3 texts) (field 4 texts) (field 5 texts))
    (link ParameterOutOfProfile (or_false (is_none (parameter_of Xm (field 6 texts))))
    (link BadPoc (or_false (is_none (poc_in (field 7 texts))))
    (link BadDuration (or_false (is_none (parameter_of Xm (field 6 texts) >>= λ p. duration_in p (field 8 texts))))
    (link BadCode (or_false (is_none (truth_in (field 9 texts)))) refl))))

pub xm-rule : (texts : List (List ℕ)) → find (λ rule. breaks_in rule Xm false texts) (rules_of Xm false) ≡ xm_rule texts
xm-rule texts = xm_found texts ∙ xm_same texts

-- XP
abbrev xp_tests : List (List ℕ) → Option Rule
xp_tests texts =
    cond (is_none (digits_in 2 (field 3 texts)) || (is_none (digits_in 3 (field 4 texts)) || (is_none (digits_in 4 (field 5 texts)) || false))) (Some BadSite)
    (cond (is_none (parameter_of Xp (field 6 texts)) || false) (Some ParameterOutOfProfile)
    (cond (is_none (primary_in (field 8 texts)) || false) (Some BadPoc)
    (cond (is_none (date_in (field 7 texts)) || false) (Some BadDate) None)))

abbrev pub xp_rule : List (List ℕ) → Option Rule
xp_rule texts =
    cond (is_none (site_in (field 3 texts) (field 4 texts) (field 5 texts))) (Some BadSite)
    (cond (is_none (parameter_of Xp (field 6 texts))) (Some ParameterOutOfProfile)
    (cond (is_none (primary_in (field 8 texts))) (Some BadPoc)
    (cond (is_none (date_in (field 7 texts))) (Some BadDate) None)))

xp_found : (texts : List (List ℕ)) → find (λ rule. breaks_in rule Xp false texts) (rules_of Xp false) ≡ xp_tests texts
xp_found texts = refl

xp_same : (texts : List (List ℕ)) → xp_tests texts ≡ xp_rule texts
xp_same texts =
    link BadSite (site_spelled (field 3 texts) (field 4 texts) (field 5 texts))
    (link ParameterOutOfProfile (or_false (is_none (parameter_of Xp (field 6 texts))))
    (link BadPoc (or_false (is_none (primary_in (field 8 texts))))
    (link BadDate (or_false (is_none (date_in (field 7 texts)))) refl)))

pub xp-rule : (texts : List (List ℕ)) → find (λ rule. breaks_in rule Xp false texts) (rules_of Xp false) ≡ xp_rule texts
xp-rule texts = xp_found texts ∙ xp_same texts

-- XP, a deletion
abbrev xp_key_tests : List (List ℕ) → Option Rule
xp_key_tests texts =
    cond (is_none (digits_in 2 (field 3 texts)) || (is_none (digits_in 3 (field 4 texts)) || (is_none (digits_in 4 (field 5 texts)) || false))) (Some BadSite)
    (cond (is_none (parameter_of Xp (field 6 texts)) || false) (Some ParameterOutOfProfile)
    (cond (is_none (date_in (field 7 texts)) || false) (Some BadDate) None))

abbrev pub xp_key_rule : List (List ℕ) → Option Rule
xp_key_rule texts =
    cond (is_none (site_in (field 3 texts) (field 4 texts) (field 5 texts))) (Some BadSite)
    (cond (is_none (parameter_of Xp (field 6 texts))) (Some ParameterOutOfProfile)
    (cond (is_none (date_in (field 7 texts))) (Some BadDate) None))

xp_key_found : (texts : List (List ℕ)) → find (λ rule. breaks_in rule Xp true texts) (rules_of Xp true) ≡ xp_key_tests texts
xp_key_found texts = refl

xp_key_same : (texts : List (List ℕ)) → xp_key_tests texts ≡ xp_key_rule texts
xp_key_same texts =
    link BadSite (site_spelled (field 3 texts) (field 4 texts) (field 5 texts))
    (link ParameterOutOfProfile (or_false (is_none (parameter_of Xp (field 6 texts))))
    (link BadDate (or_false (is_none (date_in (field 7 texts)))) refl))

pub xp_key-rule : (texts : List (List ℕ)) → find (λ rule. breaks_in rule Xp true texts) (rules_of Xp true) ≡ xp_key_rule texts
xp_key-rule texts = xp_key_found texts ∙ xp_key_same texts

-- XS
abbrev xs_tests : List (List ℕ) → Option Rule
xs_tests texts =
    cond (is_none (digits_in 2 (field 3 texts)) || (is_none (digits_in 3 (field 4 texts)) || (is_none (digits_in 4 (field 5 texts)) || false))) (Some BadSite)
    (cond (is_none (parameter_of Xs (field 6 texts)) || false) (Some ParameterOutOfProfile)
    (cond (is_none (date_in (field 7 texts)) || (is_none (date_in (field 9 texts)) || false)) (Some BadDate)
    (cond (is_none (interval_in (field 8 texts)) || false) (Some BadInterval) None)))

abbrev pub xs_rule : List (List ℕ) → Option Rule
xs_rule texts =
    cond (is_none (site_in (field 3 texts) (field 4 texts) (field 5 texts))) (Some BadSite)
    (cond (is_none (parameter_of Xs (field 6 texts))) (Some ParameterOutOfProfile)
    (cond (is_none (date_in (field 7 texts)) || is_none (date_in (field 9 texts))) (Some BadDate)
    (cond (is_none (interval_in (field 8 texts))) (Some BadInterval) None)))

xs_found : (texts : List (List ℕ)) → find (λ rule. breaks_in rule Xs false texts) (rules_of Xs false) ≡ xs_tests texts
xs_found texts = refl

xs_same : (texts : List (List ℕ)) → xs_tests texts ≡ xs_rule texts
xs_same texts =
    link BadSite (site_spelled (field 3 texts) (field 4 texts) (field 5 texts))
    (link ParameterOutOfProfile (or_false (is_none (parameter_of Xs (field 6 texts))))
    (link BadDate (or_two (is_none (date_in (field 7 texts))) (is_none (date_in (field 9 texts))))
    (link BadInterval (or_false (is_none (interval_in (field 8 texts)))) refl)))

pub xs-rule : (texts : List (List ℕ)) → find (λ rule. breaks_in rule Xs false texts) (rules_of Xs false) ≡ xs_rule texts
xs-rule texts = xs_found texts ∙ xs_same texts

-- XS, a deletion
abbrev xs_key_tests : List (List ℕ) → Option Rule
xs_key_tests texts =
    cond (is_none (digits_in 2 (field 3 texts)) || (is_none (digits_in 3 (field 4 texts)) || (is_none (digits_in 4 (field 5 texts)) || false))) (Some BadSite)
    (cond (is_none (parameter_of Xs (field 6 texts)) || false) (Some ParameterOutOfProfile)
    (cond (is_none (date_in (field 7 texts)) || false) (Some BadDate) None))

abbrev pub xs_key_rule : List (List ℕ) → Option Rule
xs_key_rule texts =
    cond (is_none (site_in (field 3 texts) (field 4 texts) (field 5 texts))) (Some BadSite)
    (cond (is_none (parameter_of Xs (field 6 texts))) (Some ParameterOutOfProfile)
    (cond (is_none (date_in (field 7 texts))) (Some BadDate) None))

xs_key_found : (texts : List (List ℕ)) → find (λ rule. breaks_in rule Xs true texts) (rules_of Xs true) ≡ xs_key_tests texts
xs_key_found texts = refl

xs_key_same : (texts : List (List ℕ)) → xs_key_tests texts ≡ xs_key_rule texts
xs_key_same texts =
    link BadSite (site_spelled (field 3 texts) (field 4 texts) (field 5 texts))
    (link ParameterOutOfProfile (or_false (is_none (parameter_of Xs (field 6 texts))))
    (link BadDate (or_false (is_none (date_in (field 7 texts)))) refl))

pub xs_key-rule : (texts : List (List ℕ)) → find (λ rule. breaks_in rule Xs true texts) (rules_of Xs true) ≡ xs_key_rule texts
xs_key-rule texts = xs_key_found texts ∙ xs_key_same texts

-- XO
abbrev xo_tests : List (List ℕ) → Option Rule
xo_tests texts =
    cond (is_none (digits_in 2 (field 3 texts)) || (is_none (digits_in 3 (field 4 texts)) || (is_none (digits_in 4 (field 5 texts)) || false))) (Some BadSite)
    (cond (is_none (year_in (field 6 texts)) || (is_none (date_in (field 7 texts)) || (is_none (date_in (field 8 texts)) || false))) (Some BadDate)
    (cond (fails (year_in (field 6 texts) >>= λ year. date_in (field 7 texts) >>= λ first. date_in (field 8 texts) >>= λ last. Some (is_season year first last)) || false) (Some BadSeason) None))

abbrev pub xo_rule : List (List ℕ) → Option Rule
xo_rule texts =
    cond (is_none (site_in (field 3 texts) (field 4 texts) (field 5 texts))) (Some BadSite)
    (cond (is_none (year_in (field 6 texts)) || (is_none (date_in (field 7 texts)) || is_none (date_in (field 8 texts)))) (Some BadDate)
    (cond (fails (year_in (field 6 texts) >>= λ year. date_in (field 7 texts) >>= λ first. date_in (field 8 texts) >>= λ last. Some (is_season year first last))) (Some BadSeason) None))

xo_found : (texts : List (List ℕ)) → find (λ rule. breaks_in rule Xo false texts) (rules_of Xo false) ≡ xo_tests texts
xo_found texts = refl

xo_same : (texts : List (List ℕ)) → xo_tests texts ≡ xo_rule texts
xo_same texts =
    link BadSite (site_spelled (field 3 texts) (field 4 texts) (field 5 texts))
    (link BadDate (or_three (is_none (year_in (field 6 texts))) (is_none (date_in (field 7 texts))) (is_none (date_in (field 8 texts))))
    (link BadSeason (or_false (fails (year_in (field 6 texts) >>= λ year. date_in (field 7 texts) >>= λ first. date_in (field 8 texts) >>= λ last. Some (is_season year first last)))) refl))

pub xo-rule : (texts : List (List ℕ)) → find (λ rule. breaks_in rule Xo false texts) (rules_of Xo false) ≡ xo_rule texts
xo-rule texts = xo_found texts ∙ xo_same texts

-- XO, a deletion
abbrev xo_key_tests : List (List ℕ) → Option Rule
xo_key_tests texts =
    cond (is_none (digits_in 2 (field 3 texts)) || (is_none (digits_in 3 (field 4 texts)) || (is_none (digits_in 4 (field 5 texts)) || false))) (Some BadSite)
    (cond (is_none (year_in (field 6 texts)) || false) (Some BadDate) None)

abbrev pub xo_key_rule : List (List ℕ) → Option Rule
xo_key_rule texts =
    cond (is_none (site_in (field 3 texts) (field 4 texts) (field 5 texts))) (Some BadSite)
    (cond (is_none (year_in (field 6 texts))) (Some BadDate) None)

xo_key_found : (texts : List (List ℕ)) → find (λ rule. breaks_in rule Xo true texts) (rules_of Xo true) ≡ xo_key_tests texts
xo_key_found texts = refl

xo_key_same : (texts : List (List ℕ)) → xo_key_tests texts ≡ xo_key_rule texts
xo_key_same texts =
    link BadSite (site_spelled (field 3 texts) (field 4 texts) (field 5 texts))
    (link BadDate (or_false (is_none (year_in (field 6 texts)))) refl)

pub xo_key-rule : (texts : List (List ℕ)) → find (λ rule. breaks_in rule Xo true texts) (rules_of Xo true) ≡ xo_key_rule texts
xo_key-rule texts = xo_key_found texts ∙ xo_key_same texts

-- XU
abbrev xu_tests : List (List ℕ) → Option Rule
xu_tests texts =
    cond (is_none (digits_in 2 (field 3 texts)) || (is_none (digits_in 3 (field 4 texts)) || (is_none (digits_in 4 (field 5 texts)) || false))) (Some BadSite)
    (cond (is_none (parameter_of Xu (field 6 texts)) || false) (Some ParameterOutOfProfile)
    (cond (is_none (date_in (field 7 texts)) || (is_none (date_in (field 8 texts)) || false)) (Some BadDate)
    (cond (fails (date_in (field 7 texts) >>= λ missed. date_in (field 8 texts) >>= λ makeup. Some (is_makeup missed makeup)) || false) (Some BadMakeup) None)))

abbrev pub xu_rule : List (List ℕ) → Option Rule
xu_rule texts =
    cond (is_none (site_in (field 3 texts) (field 4 texts) (field 5 texts))) (Some BadSite)
    (cond (is_none (parameter_of Xu (field 6 texts))) (Some ParameterOutOfProfile)
    (cond (is_none (date_in (field 7 texts)) || is_none (date_in (field 8 texts))) (Some BadDate)
    (cond (fails (date_in (field 7 texts) >>= λ missed. date_in (field 8 texts) >>= λ makeup. Some (is_makeup missed makeup))) (Some BadMakeup) None)))

xu_found : (texts : List (List ℕ)) → find (λ rule. breaks_in rule Xu false texts) (rules_of Xu false) ≡ xu_tests texts
xu_found texts = refl

xu_same : (texts : List (List ℕ)) → xu_tests texts ≡ xu_rule texts
xu_same texts =
    link BadSite (site_spelled (field 3 texts) (field 4 texts) (field 5 texts))
    (link ParameterOutOfProfile (or_false (is_none (parameter_of Xu (field 6 texts))))
    (link BadDate (or_two (is_none (date_in (field 7 texts))) (is_none (date_in (field 8 texts))))
    (link BadMakeup (or_false (fails (date_in (field 7 texts) >>= λ missed. date_in (field 8 texts) >>= λ makeup. Some (is_makeup missed makeup)))) refl)))

pub xu-rule : (texts : List (List ℕ)) → find (λ rule. breaks_in rule Xu false texts) (rules_of Xu false) ≡ xu_rule texts
xu-rule texts = xu_found texts ∙ xu_same texts

-- XU, a deletion
abbrev xu_key_tests : List (List ℕ) → Option Rule
xu_key_tests texts =
    cond (is_none (digits_in 2 (field 3 texts)) || (is_none (digits_in 3 (field 4 texts)) || (is_none (digits_in 4 (field 5 texts)) || false))) (Some BadSite)
    (cond (is_none (parameter_of Xu (field 6 texts)) || false) (Some ParameterOutOfProfile)
    (cond (is_none (date_in (field 7 texts)) || false) (Some BadDate) None))

abbrev pub xu_key_rule : List (List ℕ) → Option Rule
xu_key_rule texts =
    cond (is_none (site_in (field 3 texts) (field 4 texts) (field 5 texts))) (Some BadSite)
    (cond (is_none (parameter_of Xu (field 6 texts))) (Some ParameterOutOfProfile)
    (cond (is_none (date_in (field 7 texts))) (Some BadDate) None))

xu_key_found : (texts : List (List ℕ)) → find (λ rule. breaks_in rule Xu true texts) (rules_of Xu true) ≡ xu_key_tests texts
xu_key_found texts = refl

xu_key_same : (texts : List (List ℕ)) → xu_key_tests texts ≡ xu_key_rule texts
xu_key_same texts =
    link BadSite (site_spelled (field 3 texts) (field 4 texts) (field 5 texts))
    (link ParameterOutOfProfile (or_false (is_none (parameter_of Xu (field 6 texts))))
    (link BadDate (or_false (is_none (date_in (field 7 texts)))) refl))

pub xu_key-rule : (texts : List (List ℕ)) → find (λ rule. breaks_in rule Xu true texts) (rules_of Xu true) ≡ xu_key_rule texts
xu_key-rule texts = xu_key_found texts ∙ xu_key_same texts

-- XE
abbrev xe_tests : List (List ℕ) → Option Rule
xe_tests texts =
    cond (is_none (digits_in 2 (field 4 texts)) || (is_none (digits_in 3 (field 5 texts)) || (is_none (digits_in 4 (field 6 texts)) || false))) (Some BadSite)
    (cond (is_none (parameter_of Xe (field 7 texts)) || false) (Some ParameterOutOfProfile)
    (cond (is_none (date_in (field 8 texts)) || (is_none (date_in (field 10 texts)) || false)) (Some BadDate)
    (cond (is_none (time_in (field 9 texts)) || (is_none (time_in (field 11 texts)) || false)) (Some BadTime)
    (cond (fails (hour_in (field 8 texts) (field 9 texts) >>= λ first. hour_in (field 10 texts) (field 11 texts) >>= λ last. Some (is_span first last)) || false) (Some BadSpan)
    (cond (is_none (event_number_in (field 3 texts)) || (is_none (event_code_in (field 12 texts)) || false)) (Some BadCode) None)))))

abbrev pub xe_rule : List (List ℕ) → Option Rule
xe_rule texts =
    cond (is_none (site_in (field 4 texts) (field 5 texts) (field 6 texts))) (Some BadSite)
    (cond (is_none (parameter_of Xe (field 7 texts))) (Some ParameterOutOfProfile)
    (cond (is_none (date_in (field 8 texts)) || is_none (date_in (field 10 texts))) (Some BadDate)
    (cond (is_none (time_in (field 9 texts)) || is_none (time_in (field 11 texts))) (Some BadTime)
    (cond (fails (hour_in (field 8 texts) (field 9 texts) >>= λ first. hour_in (field 10 texts) (field 11 texts) >>= λ last. Some (is_span first last))) (Some BadSpan)
    (cond (is_none (event_number_in (field 3 texts)) || is_none (event_code_in (field 12 texts))) (Some BadCode) None)))))

xe_found : (texts : List (List ℕ)) → find (λ rule. breaks_in rule Xe false texts) (rules_of Xe false) ≡ xe_tests texts
xe_found texts = refl

xe_same : (texts : List (List ℕ)) → xe_tests texts ≡ xe_rule texts
xe_same texts =
    link BadSite (site_spelled (field 4 texts) (field 5 texts) (field 6 texts))
    (link ParameterOutOfProfile (or_false (is_none (parameter_of Xe (field 7 texts))))
    (link BadDate (or_two (is_none (date_in (field 8 texts))) (is_none (date_in (field 10 texts))))
    (link BadTime (or_two (is_none (time_in (field 9 texts))) (is_none (time_in (field 11 texts))))
    (link BadSpan (or_false (fails (hour_in (field 8 texts) (field 9 texts) >>= λ first. hour_in (field 10 texts) (field 11 texts) >>= λ last. Some (is_span first last))))
    (link BadCode (or_two (is_none (event_number_in (field 3 texts))) (is_none (event_code_in (field 12 texts)))) refl)))))

pub xe-rule : (texts : List (List ℕ)) → find (λ rule. breaks_in rule Xe false texts) (rules_of Xe false) ≡ xe_rule texts
xe-rule texts = xe_found texts ∙ xe_same texts

-- XE, a deletion
abbrev xe_key_tests : List (List ℕ) → Option Rule
xe_key_tests texts =
    cond (is_none (event_number_in (field 3 texts)) || false) (Some BadCode) None

abbrev pub xe_key_rule : List (List ℕ) → Option Rule
xe_key_rule texts =
    cond (is_none (event_number_in (field 3 texts))) (Some BadCode) None

xe_key_found : (texts : List (List ℕ)) → find (λ rule. breaks_in rule Xe true texts) (rules_of Xe true) ≡ xe_key_tests texts
xe_key_found texts = refl

xe_key_same : (texts : List (List ℕ)) → xe_key_tests texts ≡ xe_key_rule texts
xe_key_same texts =
    link BadCode (or_false (is_none (event_number_in (field 3 texts)))) refl

pub xe_key-rule : (texts : List (List ℕ)) → find (λ rule. breaks_in rule Xe true texts) (rules_of Xe true) ≡ xe_key_rule texts
xe_key-rule texts = xe_key_found texts ∙ xe_key_same texts

-- XC
abbrev xc_tests : List (List ℕ) → Option Rule
xc_tests texts =
    cond (is_none (event_number_in (field 3 texts)) || (is_none (truth_in (field 4 texts)) || false)) (Some BadCode) None

abbrev pub xc_rule : List (List ℕ) → Option Rule
xc_rule texts =
    cond (is_none (event_number_in (field 3 texts)) || is_none (truth_in (field 4 texts))) (Some BadCode) None

xc_found : (texts : List (List ℕ)) → find (λ rule. breaks_in rule Xc false texts) (rules_of Xc false) ≡ xc_tests texts
xc_found texts = refl

xc_same : (texts : List (List ℕ)) → xc_tests texts ≡ xc_rule texts
xc_same texts =
    link BadCode (or_two (is_none (event_number_in (field 3 texts))) (is_none (truth_in (field 4 texts)))) refl

pub xc-rule : (texts : List (List ℕ)) → find (λ rule. breaks_in rule Xc false texts) (rules_of Xc false) ≡ xc_rule texts
xc-rule texts = xc_found texts ∙ xc_same texts

-- XA
abbrev xa_tests : List (List ℕ) → Option Rule
xa_tests texts =
    cond (is_none (digits_in 2 (field 3 texts)) || (is_none (digits_in 3 (field 4 texts)) || (is_none (digits_in 4 (field 5 texts)) || false))) (Some BadSite)
    (cond (is_none (date_in (field 6 texts)) || false) (Some BadDate) None)

abbrev pub xa_rule : List (List ℕ) → Option Rule
xa_rule texts =
    cond (is_none (site_in (field 3 texts) (field 4 texts) (field 5 texts))) (Some BadSite)
    (cond (is_none (date_in (field 6 texts))) (Some BadDate) None)

xa_found : (texts : List (List ℕ)) → find (λ rule. breaks_in rule Xa false texts) (rules_of Xa false) ≡ xa_tests texts
xa_found texts = refl

xa_same : (texts : List (List ℕ)) → xa_tests texts ≡ xa_rule texts
xa_same texts =
    link BadSite (site_spelled (field 3 texts) (field 4 texts) (field 5 texts))
    (link BadDate (or_false (is_none (date_in (field 6 texts)))) refl)

pub xa-rule : (texts : List (List ℕ)) → find (λ rule. breaks_in rule Xa false texts) (rules_of Xa false) ≡ xa_rule texts
xa-rule texts = xa_found texts ∙ xa_same texts

-- XA, a deletion
abbrev xa_key_tests : List (List ℕ) → Option Rule
xa_key_tests texts =
    cond (is_none (digits_in 2 (field 3 texts)) || (is_none (digits_in 3 (field 4 texts)) || (is_none (digits_in 4 (field 5 texts)) || false))) (Some BadSite)
    (cond (is_none (date_in (field 6 texts)) || false) (Some BadDate) None)

abbrev pub xa_key_rule : List (List ℕ) → Option Rule
xa_key_rule texts =
    cond (is_none (site_in (field 3 texts) (field 4 texts) (field 5 texts))) (Some BadSite)
    (cond (is_none (date_in (field 6 texts))) (Some BadDate) None)

xa_key_found : (texts : List (List ℕ)) → find (λ rule. breaks_in rule Xa true texts) (rules_of Xa true) ≡ xa_key_tests texts
xa_key_found texts = refl

xa_key_same : (texts : List (List ℕ)) → xa_key_tests texts ≡ xa_key_rule texts
xa_key_same texts =
    link BadSite (site_spelled (field 3 texts) (field 4 texts) (field 5 texts))
    (link BadDate (or_false (is_none (date_in (field 6 texts)))) refl)

pub xa_key-rule : (texts : List (List ℕ)) → find (λ rule. breaks_in rule Xa true texts) (rules_of Xa true) ≡ xa_key_rule texts
xa_key-rule texts = xa_key_found texts ∙ xa_key_same texts

-- XB
abbrev xb_tests : List (List ℕ) → Option Rule
xb_tests texts =
    cond (is_none (digits_in 2 (field 3 texts)) || (is_none (digits_in 3 (field 4 texts)) || (is_none (digits_in 4 (field 5 texts)) || (is_none (digits_in 2 (field 8 texts)) || (is_none (digits_in 3 (field 9 texts)) || (is_none (digits_in 4 (field 10 texts)) || false)))))) (Some BadSite)
    (cond (is_none (parameter_of Xb (field 6 texts)) || false) (Some ParameterOutOfProfile)
    (cond (is_none (date_in (field 7 texts)) || false) (Some BadDate)
    (cond (fails (site_in (field 3 texts) (field 4 texts) (field 5 texts) >>= λ site. site_in (field 8 texts) (field 9 texts) (field 10 texts) >>= λ joined. Some (is_pair site joined)) || false) (Some BadPair) None)))

abbrev pub xb_rule : List (List ℕ) → Option Rule
xb_rule texts =
    cond (is_none (site_in (field 3 texts) (field 4 texts) (field 5 texts)) || is_none (site_in (field 8 texts) (field 9 texts) (field 10 texts))) (Some BadSite)
    (cond (is_none (parameter_of Xb (field 6 texts))) (Some ParameterOutOfProfile)
    (cond (is_none (date_in (field 7 texts))) (Some BadDate)
    (cond (fails (site_in (field 3 texts) (field 4 texts) (field 5 texts) >>= λ site. site_in (field 8 texts) (field 9 texts) (field 10 texts) >>= λ joined. Some (is_pair site joined))) (Some BadPair) None)))

xb_found : (texts : List (List ℕ)) → find (λ rule. breaks_in rule Xb false texts) (rules_of Xb false) ≡ xb_tests texts
xb_found texts = refl

xb_same : (texts : List (List ℕ)) → xb_tests texts ≡ xb_rule texts
xb_same texts =
    link BadSite (two_sites_spelled (field 3 texts) (field 4 texts) (field 5 texts) (field 8 texts) (field 9 texts) (field 10 texts))
    (link ParameterOutOfProfile (or_false (is_none (parameter_of Xb (field 6 texts))))
    (link BadDate (or_false (is_none (date_in (field 7 texts))))
    (link BadPair (or_false (fails (site_in (field 3 texts) (field 4 texts) (field 5 texts) >>= λ site. site_in (field 8 texts) (field 9 texts) (field 10 texts) >>= λ joined. Some (is_pair site joined)))) refl)))

pub xb-rule : (texts : List (List ℕ)) → find (λ rule. breaks_in rule Xb false texts) (rules_of Xb false) ≡ xb_rule texts
xb-rule texts = xb_found texts ∙ xb_same texts

-- XB, a deletion
abbrev xb_key_tests : List (List ℕ) → Option Rule
xb_key_tests texts =
    cond (is_none (digits_in 2 (field 3 texts)) || (is_none (digits_in 3 (field 4 texts)) || (is_none (digits_in 4 (field 5 texts)) || false))) (Some BadSite)
    (cond (is_none (parameter_of Xb (field 6 texts)) || false) (Some ParameterOutOfProfile) None)

abbrev pub xb_key_rule : List (List ℕ) → Option Rule
xb_key_rule texts =
    cond (is_none (site_in (field 3 texts) (field 4 texts) (field 5 texts))) (Some BadSite)
    (cond (is_none (parameter_of Xb (field 6 texts))) (Some ParameterOutOfProfile) None)

xb_key_found : (texts : List (List ℕ)) → find (λ rule. breaks_in rule Xb true texts) (rules_of Xb true) ≡ xb_key_tests texts
xb_key_found texts = refl

xb_key_same : (texts : List (List ℕ)) → xb_key_tests texts ≡ xb_key_rule texts
xb_key_same texts =
    link BadSite (site_spelled (field 3 texts) (field 4 texts) (field 5 texts))
    (link ParameterOutOfProfile (or_false (is_none (parameter_of Xb (field 6 texts)))) refl)

pub xb_key-rule : (texts : List (List ℕ)) → find (λ rule. breaks_in rule Xb true texts) (rules_of Xb true) ≡ xb_key_rule texts
xb_key-rule texts = xb_key_found texts ∙ xb_key_same texts
