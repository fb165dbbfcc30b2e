-- A line of an extract breaks the rule that it breaks as a line of a load, but of one that inserts nothing none after that of the action is told.
use Rattle.std.proofs.Common.{◌≡◌, ℕ, Bool, true, false, cond, not, ◌&&◌, List, [], ◌∷◌, Some, None, Option, refl, sym, ap, ◌∙◌, subst}
use Rattle.std.specs.Prelude.{find, bytes_eq, codes, is_none, is_some, nat_lt, if◌then◌else◌}
use Rattle.std.specs.List.{list_all}
use Rattle.std.proofs.lemmas.Bool.{false≢true, and_parts}
use Rattle.std.proofs.lemmas.Slice.Eq.{bytes_eq-Decides}
use Rattle.aq_base.specs.Rule.{rule_number}
use Rattle.aq_base.specs.declared.rule.Rule.{Rule}
use Rattle.aq_base.specs.declared.rule.Rule.TheVariants.{BadBytes, BadTag, FieldCount, BadAction}
use Rattle.aq_staging.specs.Extracts.Samples.{inserted, inserts, narrowed, up_to_action}
use Rattle.aq_rd.specs.Tags.{is_office, has_office_tag}
use Rattle.aq_rules.specs.Extracts.Changes.{Sample, extract_rule, is_rd, sample_of}
use Rattle.aq_rules.specs.Lines.Fields.{fields, field}
use Rattle.aq_rules.specs.Lines.Forms.{acts}
use Rattle.aq_rules.specs.Lines.RdForm.{RdValue, Put, Delete, put_in, delete_in, monitor_in, start_in, content_in}
use Rattle.aq_rules.specs.Lines.Forms.{SampleDuration, Unit as UnitField, Method, text_of}
use Rattle.aq_rules.specs.Lines.Reading.{LineValue, OfRd, OfOffice, action_for, breaks_parts, form_value, has_wrong_count, is_deletion, is_plain, line_value, reading_rule, rules_for, rules_of, tag_of, value_for}
use Rattle.aq_rules.specs.Lines.Spellings.{◌>>=◌, Tag, Rd, Xm, Xp, Xs, Xo, Xu, Xe, Xc, Xa, Xb, Action, Insert, Update, Delete as DeleteAction, duration_in, unit_in, method_in}

-- ---- the rule

-- what an extract tells of the rule that a line breaks in a load, by whether the line inserts
abbrev told : Bool → Option Rule → Option Rule
told true o = o
told false None = Some BadAction
told false (Some rule) = Some (up_to_action rule)

abbrev is_later : Rule → Bool
is_later rule = not (nat_lt (rule_number rule) (rule_number BadAction))

later : (rule : Rule) → is_later rule ≡ true → up_to_action rule ≡ BadAction
later rule h = choose (nat_lt (rule_number rule) (rule_number BadAction)) h
  where
    choose : (b : Bool) → not b ≡ true → cond b rule BadAction ≡ BadAction
    choose true h = absurd (false≢true h)
    choose false h = refl

told-later : (p : Rule → Bool) (rules : List Rule) → list_all is_later rules ≡ true → told false (find p rules) ≡ Some BadAction
told-later p [] h = refl
told-later p (rule ∷ rules) h =
    let parts = and_parts (is_later rule) (list_all is_later rules) h in
    choose (p rule) (later rule parts.0) (told-later p rules parts.1)
  where
    choose : (b : Bool) → up_to_action rule ≡ BadAction → told false (find p rules) ≡ Some BadAction → told false (cond b (Some rule) (find p rules)) ≡ Some BadAction
    choose true e f = ap Some e
    choose false e f = f

all-later : (deletes : Bool) → list_all is_later (rules_of Rd deletes) ≡ true
all-later true = refl
all-later false = refl

abbrev action_of : Bool → Bool → Bool → Option Action
action_of i u d =
    cond i (Some Insert) (cond u (Some Update) (cond d (Some DeleteAction) None)) >>= λ action. if acts Rd action then Some action else None

counted : (r : Bool → Option Rule) (w i u d : Bool) → (i ≡ true → d ≡ false) → ((b : Bool) → told false (r b) ≡ Some BadAction)
    → cond w (Some FieldCount) (cond (not i) (Some BadAction) (r false)) ≡ told i (cond w (Some FieldCount) (cond (is_none (action_of i u d)) (Some BadAction) (r d)))
counted r true true u d h k = refl
counted r true false u d h k = refl
counted r false true u d h k = ap r (sym (h refl))
counted r false false true d h k = sym (k d)
counted r false false false true h k = sym (k true)
counted r false false false false h k = refl

no_tag : (b : Bool) → Some BadTag ≡ told b (Some BadTag)
no_tag true = refl
no_tag false = refl

tagged : (plain : Bool) (tag : Option Tag) (texts : List (List ℕ)) → cond plain (is_office tag) false ≡ false
    → cond (not plain) (Some BadBytes) (cond (not (is_rd tag)) (Some BadTag) (cond (breaks_parts FieldCount plain tag texts) (Some FieldCount) (cond (not (bytes_eq (field 2 texts) (codes "I"))) (Some BadAction) (find (λ rule. breaks_parts rule plain tag texts) (rules_of Rd false)))))
    ≡ told (plain && bytes_eq (field 2 texts) (codes "I")) (find (λ rule. breaks_parts rule plain tag texts) (BadBytes ∷ BadTag ∷ FieldCount ∷ BadAction ∷ rules_for tag texts))
tagged false tag texts none = refl
tagged true None texts none = no_tag (bytes_eq (field 2 texts) (codes "I"))
tagged true (Some Rd) texts none =
    counted (λ b. find (λ rule. breaks_parts rule true (Some Rd) texts) (rules_of Rd b)) (has_wrong_count Rd (is_deletion texts) texts)
    (bytes_eq (field 2 texts) (codes "I")) (bytes_eq (field 2 texts) (codes "U")) (bytes_eq (field 2 texts) (codes "D"))
    (λ e. ap (λ t. bytes_eq t (codes "D")) ((bytes_eq-Decides (field 2 texts) (codes "I")).0 e))
    (λ b. told-later (λ rule. breaks_parts rule true (Some Rd) texts) (rules_of Rd b) (all-later b))
tagged true (Some Xm) texts none = absurd (false≢true (sym none))
tagged true (Some Xp) texts none = absurd (false≢true (sym none))
tagged true (Some Xs) texts none = absurd (false≢true (sym none))
tagged true (Some Xo) texts none = absurd (false≢true (sym none))
tagged true (Some Xu) texts none = absurd (false≢true (sym none))
tagged true (Some Xe) texts none = absurd (false≢true (sym none))
tagged true (Some Xc) texts none = absurd (false≢true (sym none))
tagged true (Some Xa) texts none = absurd (false≢true (sym none))
tagged true (Some Xb) texts none = absurd (false≢true (sym none))

extract-computed : (line : List ℕ) → extract_rule line
    ≡ cond (not (is_plain line)) (Some BadBytes) (cond (not (is_rd (tag_of line))) (Some BadTag) (cond (breaks_parts FieldCount (is_plain line) (tag_of line) (fields line)) (Some FieldCount) (cond (not (bytes_eq (field 2 (fields line)) (codes "I"))) (Some BadAction) (find (λ rule. breaks_parts rule (is_plain line) (tag_of line) (fields line)) (rules_of Rd false)))))
extract-computed line = refl

extract-told : (line : List ℕ) → has_office_tag line ≡ false → extract_rule line ≡ told (inserts line) (reading_rule line)
extract-told line none = extract-computed line ∙ tagged (is_plain line) (tag_of line) (fields line) none

-- ---- the action of a value

abbrev IfRd : (RdValue → Type 0) → Option LineValue → Type 0
IfRd P None = Unit {0}
IfRd P (Some (OfRd value)) = P value
IfRd P (Some (OfOffice line)) = Unit {0}

abbrev is_insertion : RdValue → Bool
is_insertion (Put update monitor duration hour content) = not update
is_insertion (Delete monitor hour) = false

abbrev as_line : Option RdValue → Option LineValue
as_line o = o >>= λ value. Some (OfRd value)

inside : {A : Type 0} (P : RdValue → Type 0) (part : Option A) (next : A → Option RdValue) → ((x : A) → IfRd P (as_line (next x))) → IfRd P (as_line (part >>= next))
inside P None next k = tt
inside P (Some x) next k = k x

puts : (update : Bool) (texts : List (List ℕ)) → IfRd (λ value. is_insertion value ≡ not update) (as_line (put_in update texts))
unfolding put_in
puts update texts =
    let P : RdValue → Type 0 = λ value. is_insertion value ≡ not update in
    inside P (monitor_in Rd texts) _ λ monitor.
    inside P (duration_in monitor.pollutant (text_of Rd SampleDuration texts)) _ λ duration.
    inside P (unit_in monitor.pollutant (text_of Rd UnitField texts)) _ λ places.
    inside P (method_in (text_of Rd Method texts)) _ λ method.
    inside P (start_in texts) _ λ hour.
    inside P (content_in monitor.pollutant places method texts) _ λ content. refl

deletes : (texts : List (List ℕ)) → IfRd (λ value. is_insertion value ≡ false) (as_line (delete_in texts))
unfolding delete_in
deletes texts =
    let P : RdValue → Type 0 = λ value. is_insertion value ≡ false in
    inside P (monitor_in Rd texts) _ λ monitor.
    inside P (start_in texts) _ λ hour. refl

acted : (i u d : Bool) (texts : List (List ℕ)) → IfRd (λ value. is_insertion value ≡ i) (action_of i u d >>= λ action. value_for Rd action texts)
acted true u d texts = puts false texts
acted false true d texts = puts true texts
acted false false true texts = deletes texts
acted false false false texts = tt

formed : (w : Bool) (texts : List (List ℕ)) → IfRd (λ value. is_insertion value ≡ bytes_eq (field 2 texts) (codes "I")) (cond w None (action_for Rd (field 2 texts) >>= λ action. value_for Rd action texts))
formed true texts = tt
formed false texts = acted (bytes_eq (field 2 texts) (codes "I")) (bytes_eq (field 2 texts) (codes "U")) (bytes_eq (field 2 texts) (codes "D")) texts

spelled : (plain : Bool) (tag : Option Tag) (texts : List (List ℕ)) → cond plain (is_office tag) false ≡ false
    → IfRd (λ value. is_insertion value ≡ (plain && bytes_eq (field 2 texts) (codes "I"))) (cond plain (tag >>= λ t. form_value t texts) None)
spelled false tag texts none = tt
spelled true None texts none = tt
spelled true (Some Rd) texts none = formed (has_wrong_count Rd (is_deletion texts) texts) texts
spelled true (Some Xm) texts none = absurd (false≢true (sym none))
spelled true (Some Xp) texts none = absurd (false≢true (sym none))
spelled true (Some Xs) texts none = absurd (false≢true (sym none))
spelled true (Some Xo) texts none = absurd (false≢true (sym none))
spelled true (Some Xu) texts none = absurd (false≢true (sym none))
spelled true (Some Xe) texts none = absurd (false≢true (sym none))
spelled true (Some Xc) texts none = absurd (false≢true (sym none))
spelled true (Some Xa) texts none = absurd (false≢true (sym none))
spelled true (Some Xb) texts none = absurd (false≢true (sym none))

value-inserts : (line : List ℕ) (value : RdValue) → has_office_tag line ≡ false → line_value line ≡ Some (OfRd value) → is_insertion value ≡ inserts line
value-inserts line value none is =
    subst (IfRd (λ v. is_insertion v ≡ inserts line)) is (spelled (is_plain line) (tag_of line) (fields line) none)

-- ---- the line

office : (plain : Bool) (tag : Option Tag) (rest : Option Rule) → cond plain (is_office tag) false ≡ true → cond (not plain) (Some BadBytes) (cond (not (is_rd tag)) (Some BadTag) rest) ≡ Some BadTag
office false tag rest h = absurd (false≢true h)
office true None rest h = absurd (false≢true h)
office true (Some Rd) rest h = absurd (false≢true h)
office true (Some Xm) rest h = refl
office true (Some Xp) rest h = refl
office true (Some Xs) rest h = refl
office true (Some Xo) rest h = refl
office true (Some Xu) rest h = refl
office true (Some Xe) rest h = refl
office true (Some Xc) rest h = refl
office true (Some Xa) rest h = refl
office true (Some Xb) rest h = refl

-- a line of the agency's own forms has no tag of an extract
pub office-refused : (line : List ℕ) → has_office_tag line ≡ true → extract_rule line ≡ Some BadTag
office-refused line h = extract-computed line ∙ office (is_plain line) (tag_of line) _ h

told-narrowed : (b : Bool) (rule : Rule) → told b (Some rule) ≡ Some (narrowed b rule)
told-narrowed true rule = refl
told-narrowed false rule = refl

-- a line that breaks a rule in a load
pub broken-refused : (line : List ℕ) (rule : Rule) → has_office_tag line ≡ false → reading_rule line ≡ Some rule → extract_rule line ≡ Some (narrowed (inserts line) rule)
broken-refused line rule none is = extract-told line none ∙ ap (told (inserts line)) is ∙ told-narrowed (inserts line) rule

unbroken : (line : List ℕ) (value : RdValue) → has_office_tag line ≡ false → line_value line ≡ Some (OfRd value) → reading_rule line ≡ None → extract_rule line ≡ told (is_insertion value) None
unbroken line value none is none_broken = extract-told line none ∙ (λ i. told (sym (value-inserts line value none is) i) (none_broken i))

-- a line that breaks none in a load, and inserts
pub insertion-taken : (line : List ℕ) (value : RdValue) (s : Sample) → has_office_tag line ≡ false → line_value line ≡ Some (OfRd value) → reading_rule line ≡ None
    → inserted value ≡ Some s → (sample_of (line_value line) ≡ Some s) × (extract_rule line ≡ None)
insertion-taken line (Put true monitor duration hour content) s none is none_broken e = absurd (false≢true (ap is_some e))
insertion-taken line (Put false monitor duration hour content) s none is none_broken e =
    (ap sample_of is ∙ e, unbroken line (Put false monitor duration hour content) none is none_broken)
insertion-taken line (Delete monitor hour) s none is none_broken e = absurd (false≢true (ap is_some e))

-- a line that breaks none in a load, and updates or deletes
pub other-refused : (line : List ℕ) (value : RdValue) → has_office_tag line ≡ false → line_value line ≡ Some (OfRd value) → reading_rule line ≡ None
    → inserted value ≡ None → extract_rule line ≡ Some BadAction
other-refused line (Put true monitor duration hour content) none is none_broken e = unbroken line (Put true monitor duration hour content) none is none_broken
other-refused line (Put false monitor duration hour content) none is none_broken e = absurd (false≢true (sym (ap is_some e)))
other-refused line (Delete monitor hour) none is none_broken e = unbroken line (Delete monitor hour) none is none_broken
