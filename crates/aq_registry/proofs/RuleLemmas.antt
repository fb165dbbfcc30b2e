-- What the rules of the office ask is found by searches, and by walks over parts of the map.
use Rattle.std.proofs.Common.{◌≡◌, ℕ, ◌+◌, ◌<◌, ◌≤◌, ◌↔◌, Bool, true, false, cond, not, ◌&&◌, ◌||◌, ◌==◌, List, [], ◌∷◌, Option, Some, None, is_some, refl, sym, ap, ◌∙◌, arith}
use Rattle.std.specs.Prelude.{find, filter, filter_map, count_by, nat_le, nat_lt, slice_get}
use mathlib.Core.Path.{fun_ext}
use Rattle.std.specs.List.{cons_option, list_all, list_any}
use Rattle.std.proofs.lemmas.Bool.{false≢true, and_parts, and_from, leb-true, ltb-true, le-leb, lt-ltb, eqb-true, eqb-false, false_from_ne_true}
use Rattle.std.proofs.lemmas.Bool.Decides.{nat_tests}
use Rattle.std.proofs.lemmas.List.Sums.{sum_by-cons}
use Rattle.aq_base.specs.Calendar.{quarter_of, quarter_first, days_in_quarter}
use Rattle.aq_base.specs.Site.{Site}
use Rattle.aq_base.specs.declared.day.TheConstants.{LAST_DAY}
use Rattle.aq_base.specs.declared.monitor.Pollutant.{Pollutant}
use Rattle.aq_base.specs.declared.office.OfficeRecord.{OfficeRecord}
use Rattle.aq_base.specs.declared.office.OfficeRecord.TheVariants.{Monitor, Primary, Schedule, Season, Makeup, Event, Concurrence, Approved, Combined}
use Rattle.aq_base.specs.declared.office.OfficeKey.{OfficeKey}
use Rattle.aq_base.specs.declared.office.OfficeKey.TheVariants.{Monitor as MonitorKey, Event as EventKey, Concurrence as ConcurrenceKey}
use Rattle.aq_base.specs.declared.office.OfficeLine.TheVariants.{Put, Change, Drop}
use Rattle.aq_base.specs.declared.rule.Rule.{Rule}
use Rattle.aq_rules.specs.Lines.Canonical.{is_office_line}
use Rattle.aq_rules.specs.Lines.Reading.{OfOffice}
use Rattle.aq_rules.specs.Office.Office.{Office, key_of, parameter_number, site_numbers, series_numbers, is_same, group_of, is_day, is_key, is_content_of, is_record, registers, makes_up_on, combines_either}
use Rattle.aq_rules.specs.Office.Monitors.{is_same_site}
use Rattle.aq_rules.specs.Office.Questions.{first_given, missed_for, missed_of}
use Rattle.aq_rules.specs.Office.Refusal.{broken}
use Rattle.aq_registry.specs.declared.place.Place.{Place}
use Rattle.aq_registry.specs.Places.{is_of, is_of_from, is_of_between, lies_between, of_kind, place_of}
use Rattle.aq_registry.specs.Rules.{new_rule, change_rule, drop_rule, makes_up_in}
use Rattle.aq_registry.proofs.QuestionLemmas.{any-found, four_tests, last_test}
use Rattle.aq_registry.proofs.SiteLemmas.{all-below, flipped, numbers}

-- ---- monitors of a site and pollutant

from_none : (a : Bool) (n : ℕ) → a ≡ (a && nat_le 0 n)
from_none a n = grind (arith, nat_tests)

monitor-tells : (site : Site) (pollutant : Pollutant) (r : OfficeRecord) → registers site pollutant r ≡ is_of_from 1 site (parameter_number pollutant) 0 r
monitor-tells site pollutant (Monitor id duration eligible) =
    sym (four_tests (id.site.state == site.state) (id.site.county == site.county) (id.site.number == site.number) (parameter_number id.pollutant == parameter_number pollutant))
    ∙ from_none ((id.site.state == site.state) && (id.site.county == site.county) && (id.site.number == site.number) && (parameter_number id.pollutant == parameter_number pollutant)) id.poc
monitor-tells site pollutant r = refl

pub has_monitor_found : (rows : List OfficeRecord) (site : Site) (pollutant : Pollutant) → list_any (registers site pollutant) rows ≡ is_some (find (is_of_from 1 site (parameter_number pollutant) 0) rows)
has_monitor_found rows site pollutant =
    any-found (registers site pollutant) rows ∙ ap (λ (q : OfficeRecord → Bool). is_some (find q rows)) (fun_ext (monitor-tells site pollutant))

-- ---- what a limit counts together

monitors-together : (site : Site) (pollutant : Pollutant) (r : OfficeRecord) → is_same (group_of r) (1 ∷ series_numbers site pollutant) ≡ is_of 1 site (parameter_number pollutant) r
monitors-together site pollutant (Monitor id duration eligible) =
    sym (four_tests (id.site.state == site.state) (id.site.county == site.county) (id.site.number == site.number) (parameter_number id.pollutant == parameter_number pollutant))
monitors-together site pollutant r = refl

primaries-together : (site : Site) (pollutant : Pollutant) (r : OfficeRecord) → is_same (group_of r) (2 ∷ series_numbers site pollutant) ≡ is_of 2 site (parameter_number pollutant) r
primaries-together site pollutant (Primary other p from poc) =
    sym (four_tests (other.state == site.state) (other.county == site.county) (other.number == site.number) (parameter_number p == parameter_number pollutant))
primaries-together site pollutant r = refl

schedules-together : (site : Site) (pollutant : Pollutant) (r : OfficeRecord) → is_same (group_of r) (3 ∷ series_numbers site pollutant) ≡ is_of 3 site (parameter_number pollutant) r
schedules-together site pollutant (Schedule other p from interval anchor) =
    sym (four_tests (other.state == site.state) (other.county == site.county) (other.number == site.number) (parameter_number p == parameter_number pollutant))
schedules-together site pollutant r = refl

pub monitors_counted : (rows : List OfficeRecord) (site : Site) (pollutant : Pollutant) → count_by (λ other. is_same (group_of other) (1 ∷ series_numbers site pollutant)) rows ≡ count_by (is_of 1 site (parameter_number pollutant)) rows
monitors_counted rows site pollutant = ap (λ (q : OfficeRecord → Bool). count_by q rows) (fun_ext (monitors-together site pollutant))

pub primaries_counted : (rows : List OfficeRecord) (site : Site) (pollutant : Pollutant) → count_by (λ other. is_same (group_of other) (2 ∷ series_numbers site pollutant)) rows ≡ count_by (is_of 2 site (parameter_number pollutant)) rows
primaries_counted rows site pollutant = ap (λ (q : OfficeRecord → Bool). count_by q rows) (fun_ext (primaries-together site pollutant))

pub schedules_counted : (rows : List OfficeRecord) (site : Site) (pollutant : Pollutant) → count_by (λ other. is_same (group_of other) (3 ∷ series_numbers site pollutant)) rows ≡ count_by (is_of 3 site (parameter_number pollutant)) rows
schedules_counted rows site pollutant = ap (λ (q : OfficeRecord → Bool). count_by q rows) (fun_ext (schedules-together site pollutant))

-- ---- the make-up samples of a quarter

quarter_test : (a q first end day : ℕ) → (a ≡ q) ↔ ((first ≤ day) × (day < end)) → (a == q) ≡ (nat_le first day && nat_lt day end)
quarter_test a q first end day law = choose (a == q) refl
  where
    choose : (b : Bool) → (a == q) ≡ b → b ≡ (nat_le first day && nat_lt day end)
    choose true e =
        let within = law.0 (eqb-true a q e) in
        sym (and_from (nat_le first day) (nat_lt day end) (le-leb first day within.0) (lt-ltb day end within.1))
    choose false e =
        sym (false_from_ne_true (nat_le first day && nat_lt day end) λ h.
        let parts = and_parts (nat_le first day) (nat_lt day end) h in
        eqb-false a q e (law.1 (leb-true first day parts.0, ltb-true day end parts.1)))

three_tests : (a b c d e : Bool) → (a && (b && (c && ((d && e) && true)))) ≡ (((((a && b) && c) && true) && d) && e)
three_tests true true true d e = sym (last_test (d && e))
three_tests true true false d e = refl
three_tests true false c d e = refl
three_tests false b c d e = refl

abbrev pub QuarterLaw : Type 0
QuarterLaw = (quarter day : ℕ) → day ≤ LAST_DAY → (quarter_of day ≡ quarter) ↔ ((quarter_first quarter ≤ day) × (day < quarter_first quarter + days_in_quarter quarter))

makeups-together : QuarterLaw → (site : Site) (day : ℕ) (r : OfficeRecord) → is_record r ≡ true → makes_up_in site day r ≡ is_of_between 5 site 0 (quarter_first (quarter_of day)) (quarter_first (quarter_of day) + days_in_quarter (quarter_of day)) r
makeups-together law site day (Makeup other missed makeup) h =
    let r = Makeup other missed makeup in
    let first = quarter_first (quarter_of day) in
    let end = quarter_first (quarter_of day) + days_in_quarter (quarter_of day) in
    let low : missed ≤ LAST_DAY = leb-true missed LAST_DAY (and_parts _ (is_day missed) (and_parts (is_key (key_of r)) (is_content_of r) h).0).1 in
    ap (λ b. (other.state == site.state) && ((other.county == site.county) && ((other.number == site.number) && (b && true)))) (quarter_test (quarter_of missed) (quarter_of day) first end missed (law (quarter_of day) missed low))
    ∙ three_tests (other.state == site.state) (other.county == site.county) (other.number == site.number) (nat_le first missed) (nat_lt missed end)
makeups-together law site day r h = refl

count-cons : {X : Type 0} (p : X → Bool) (x : X) (xs : List X) → count_by p (x ∷ xs) ≡ cond (p x) 1 0 + count_by p xs
count-cons p x xs = sum_by-cons (λ y. cond (p y) 1 0) x xs

counted_alike : {X : Type 0} (p q good : X → Bool) (xs : List X) → ((x : X) → good x ≡ true → p x ≡ q x) → list_all good xs ≡ true → count_by p xs ≡ count_by q xs
counted_alike p q good [] same all = refl
counted_alike p q good (x ∷ xs) same all =
    let parts = and_parts (good x) (list_all good xs) all in
    let rest = counted_alike p q good xs same parts.1 in
    let here : cond {A = ℕ} (p x) 1 0 ≡ cond {A = ℕ} (q x) 1 0 = ap (λ b. cond {A = ℕ} b 1 0) (same x parts.0) in
    omega (arith, count-cons p x xs, count-cons q x xs)

pub makeups_counted : QuarterLaw → (site : Site) (day : ℕ) (rows : List OfficeRecord) → list_all is_record rows ≡ true → count_by (makes_up_in site day) rows ≡ count_by (is_of_between 5 site 0 (quarter_first (quarter_of day)) (quarter_first (quarter_of day) + days_in_quarter (quarter_of day))) rows
makeups_counted law site day rows all = counted_alike _ _ is_record rows (makeups-together law site day) all

-- ---- a make-up day that is taken

some_first : {X : Type 0} (o : Option X) (xs : List X) → is_some (slice_get (cons_option o xs) 0) ≡ (is_some o || is_some (slice_get xs 0))
some_first None xs = refl
some_first (Some x) xs = refl

some_more : (b : Bool) (n : ℕ) → nat_lt 0 (cond b 1 0 + n) ≡ (b || nat_lt 0 n)
some_more true n = grind (arith, nat_tests)
some_more false n = grind (arith, nat_tests)

is_some-cond : {X : Type 0} (b : Bool) (x : X) → is_some (cond b (Some x) None) ≡ b
is_some-cond true x = refl
is_some-cond false x = refl

makeup-tells : (site : Site) (day : ℕ) (r : OfficeRecord) → is_some (missed_for site day r) ≡ makes_up_on site day r
makeup-tells site day (Makeup other missed makeup) =
    is_some-cond (is_same_site other site && (makeup == day)) missed ∙ ap (λ b. b && (makeup == day)) (sym (numbers other site))
makeup-tells site day r = refl

taken : (rows : List OfficeRecord) (site : Site) (day : ℕ) → nat_lt 0 (count_by (makes_up_on site day) rows) ≡ is_some (first_given (missed_for site day) rows)
taken [] site day = refl
taken (r ∷ rows) site day =
    ap (nat_lt 0) (count-cons (makes_up_on site day) r rows)
    ∙ some_more (makes_up_on site day r) (count_by (makes_up_on site day) rows)
    ∙ ap (λ b. b || nat_lt 0 (count_by (makes_up_on site day) rows)) (sym (makeup-tells site day r))
    ∙ ap (λ b. is_some (missed_for site day r) || b) (taken rows site day)
    ∙ sym (some_first (missed_for site day r) (filter_map (missed_for site day) rows))

pub taken_found : (rows : List OfficeRecord) (site : Site) (day : ℕ) → nat_lt 0 (count_by (makes_up_on site day) rows) ≡ is_some (missed_of rows site day)
unfolding missed_of
taken_found rows site day = taken rows site day

-- ---- combined sites

pub some_counted : (p : OfficeRecord → Bool) (rows : List OfficeRecord) → nat_lt 0 (count_by p rows) ≡ list_any p rows
some_counted p [] = refl
some_counted p (r ∷ rows) = ap (nat_lt 0) (count-cons p r rows) ∙ some_more (p r) (count_by p rows) ∙ ap (λ b. p r || b) (some_counted p rows)

-- a combination stands between the first place of its kind and that of the next
combined-part : (site joined : Site) (pollutant : Pollutant) (r : OfficeRecord) → combines_either site joined pollutant r ≡ (lies_between (of_kind 9) (of_kind 10) r && combines_either site joined pollutant r)
combined-part site joined pollutant (Combined first other from second) =
    ap (λ b. (b && true) && combines_either site joined pollutant (Combined first other from second)) (sym (all-below (place_of (key_of (Combined first other from second)))))
combined-part site joined pollutant r = nowhere (lies_between (of_kind 9) (of_kind 10) r)
  where
    nowhere : (b : Bool) → false ≡ (b && false)
    nowhere true = refl
    nowhere false = refl

any_part : (test part : OfficeRecord → Bool) → ((r : OfficeRecord) → test r ≡ (part r && test r)) → (rows : List OfficeRecord) → list_any test (filter part rows) ≡ list_any test rows
any_part test part inside [] = refl
any_part test part inside (r ∷ rows) = choose (part r) (inside r) (any_part test part inside rows)
  where
    choose : (b : Bool) → test r ≡ (b && test r) → list_any test (filter part rows) ≡ list_any test rows → list_any test (cond b (r ∷ filter part rows) (filter part rows)) ≡ (test r || list_any test rows)
    choose true h rest = ap (λ c. test r || c) rest
    choose false h rest = rest ∙ ap (λ c. c || list_any test rows) (sym h)

pub combined_in_part : (rows : List OfficeRecord) (site joined : Site) (pollutant : Pollutant) (start end : Place) (part : List OfficeRecord)
    → start ≡ of_kind 9 → end ≡ of_kind 10 → part ≡ filter (lies_between start end) rows
    → list_any (combines_either site joined pollutant) part ≡ list_any (combines_either site joined pollutant) rows
combined_in_part rows site joined pollutant start end part first last is =
    ap (list_any (combines_either site joined pollutant)) (is ∙ ap (λ s. filter (lies_between s end) rows) first ∙ ap (λ e. filter (lies_between (of_kind 9) e) rows) last)
    ∙ any_part (combines_either site joined pollutant) (lies_between (of_kind 9) (of_kind 10)) (combined-part site joined pollutant) rows

-- ---- sites

pub site_listed : (sites : List Site) (site : Site) → list_any (λ other. is_same (site_numbers other) (site_numbers site)) sites ≡ list_any (is_same_site site) sites
site_listed sites site = ap (λ (q : Site → Bool). list_any q sites) (fun_ext (λ other. numbers other site ∙ flipped other site))

-- ---- the rules in the order of testing

turned : (b : Bool) (rule : Rule) → cond (not b) (Some rule) None ≡ cond b None (Some rule)
turned true rule = refl
turned false rule = refl

pub new_is : (office : Office) (r : OfficeRecord) → is_office_line (Put r) ≡ true → broken office (OfOffice (Put r)) ≡ new_rule office r
new_is office (Monitor id duration eligible) h = refl
new_is office (Primary site pollutant from poc) h = refl
new_is office (Schedule site pollutant from interval anchor) h = refl
new_is office (Season site year first last) h = refl
new_is office (Makeup site missed makeup) h = refl
new_is office (Event number site pollutant first last code) h = refl
new_is office (Concurrence number agreed) h = absurd (false≢true h)
new_is office (Approved site day) h = refl
new_is office (Combined site pollutant from joined) h = refl

pub change_is : (office : Office) (r : OfficeRecord) → is_office_line (Change r) ≡ true → broken office (OfOffice (Change r)) ≡ change_rule office r
change_is office (Monitor id duration eligible) h = refl
change_is office (Concurrence number agreed) h = turned _ _
change_is office r h = absurd (false≢true h)

pub drop_is : (office : Office) (key : OfficeKey) → is_office_line (Drop key) ≡ true → broken office (OfOffice (Drop key)) ≡ drop_rule office key
drop_is office (MonitorKey id) h = absurd (false≢true h)
drop_is office (ConcurrenceKey number) h = absurd (false≢true h)
drop_is office (EventKey number) h = turned _ _
drop_is office key h = turned _ _
