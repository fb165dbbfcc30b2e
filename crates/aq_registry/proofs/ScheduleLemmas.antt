-- Schedules, and the samples that make up for missed ones.
use Rattle.std.proofs.Common.{◌≡◌, ℕ, ◌+◌, ◌-◌, ◌<◌, Bool, true, false, ◌&&◌, ◌==◌, List, [], ◌∷◌, cond, Option, Some, None, is_some, refl, ap, sym, ◌∙◌, arith}
use Rattle.std.specs.Prelude.{filter, filter_map, nat_le, nat_lt, option_map, unwrap_or, slice_get, IsTrue, IfSome}
use Rattle.std.specs.List.{cons_option, last_or, list_all}
use Rattle.std.specs.List.Sorted.{IsStrictlySortedBy}
use Rattle.std.specs.Option.{option_and_then}
use Rattle.std.proofs.lemmas.Bool.{false≢true}
use Rattle.std.proofs.lemmas.Bool.Decides.{nat_tests}
use Rattle.aq_base.specs.Site.{Site}
use Rattle.aq_base.specs.Calendar.{quarter_of}
use Rattle.aq_base.specs.declared.monitor.Pollutant.{Pollutant}
use Rattle.aq_base.specs.declared.office.OfficeRecord.{OfficeRecord}
use Rattle.aq_base.specs.declared.office.OfficeRecord.TheVariants.{Schedule, Makeup}
use Rattle.aq_rules.specs.Lines.OfficeForms.{is_makeup}
use Rattle.aq_rules.specs.Lines.Spellings.{is_interval}
use Rattle.aq_rules.specs.Office.Office.{Office, IsOffice, key_of, parameter_number, is_day, is_key, is_content_of, is_record, fits_records, has_its_monitor, has_its_event, group_size, most_in_group}
use Rattle.aq_rules.specs.Office.Monitors.{is_same_site}
use Rattle.aq_rules.specs.Office.Questions.{first_given, missed_for, missed_of}
use Rattle.aq_rules.specs.Office.Schedule.{Schedule as Sampling, schedule_by}
use Rattle.aq_registry.specs.declared.place.Place.{Place}
use Rattle.aq_registry.specs.Places.{of_site, place_of, place_cmp, places_of, is_of_between, lies_between}
use Rattle.aq_registry.specs.Registry.{office_with, schedule_in, schedule_on, missed_by}
use Rattle.aq_registry.proofs.PlaceOrder.{first_of_both, second_of_both}
use Rattle.aq_registry.proofs.QuestionLemmas.{same-parameters}
use Rattle.aq_registry.proofs.LatestLemmas.{until, latest-last}
use Rattle.aq_registry.proofs.SeriesLemmas.{filter-between}

-- ---- each record is one that a line can spell

fits_is_record : (office : Office) (r : OfficeRecord) → fits_records office r ≡ true → is_record r ≡ true
fits_is_record office r h =
    first_of_both (is_record r) (has_its_monitor office r)
    (first_of_both (is_record r && has_its_monitor office r) (has_its_event office r)
    (first_of_both (is_record r && has_its_monitor office r && has_its_event office r) (nat_le (group_size office r) (most_in_group r)) h))

pub all-are_records : (office : Office) (rows : List OfficeRecord) → list_all (fits_records office) rows ≡ true → list_all is_record rows ≡ true
all-are_records office [] h = refl
all-are_records office (r ∷ rows) h =
    ap (λ b. b && list_all is_record rows) (fits_is_record office r (first_of_both (fits_records office r) (list_all (fits_records office) rows) h))
    ∙ all-are_records office rows (second_of_both (fits_records office r) (list_all (fits_records office) rows) h)

last-filter : (test p : OfficeRecord → Bool) (o : Option OfficeRecord) (rows : List OfficeRecord) → IfSome o (λ r. IsTrue (p r)) → list_all p rows ≡ true → IfSome (last_or o (filter test rows)) (λ r. IsTrue (p r))
last-filter test p o [] h all = h
last-filter test p o (r ∷ rows) h all =
    let first = first_of_both (p r) (list_all p rows) all in
    let rest = second_of_both (p r) (list_all p rows) all in
    elim (test r) as (λ b. IfSome (last_or o (cond b (r ∷ filter test rows) (filter test rows))) (λ r. IsTrue (p r))) [
      | true ↦ last-filter test p (Some r) rows first rest
      | false ↦ last-filter test p o rows h rest
    ]

pub last_is_record : (test : OfficeRecord → Bool) (rows : List OfficeRecord) → IsOffice (office_with rows) → IfSome (last_or None (filter test rows)) (λ r. IsTrue (is_record r))
last_is_record test rows office = let fit = office.records_fit in last-filter test is_record None rows tt (all-are_records (office_with rows) rows fit)

-- ---- schedules

some_interval : (n : ℕ) → is_interval n ≡ true → 0 < n
some_interval n h = grind (arith, nat_tests)

pub interval_is_some : (site : Site) (pollutant : Pollutant) (from interval anchor : ℕ) → IsTrue (is_record (Schedule site pollutant from interval anchor)) → 0 < interval
interval_is_some site pollutant from interval anchor h =
    let r = Schedule site pollutant from interval anchor in
    some_interval interval (first_of_both (is_interval interval) (is_day anchor) (second_of_both (is_key (key_of r)) (is_content_of r) h))

schedule-tells : (site : Site) (pollutant : Pollutant) (day : ℕ) (r : OfficeRecord) → schedule_by site pollutant day r ≡ cond (is_of_between 3 site (parameter_number pollutant) 0 (day + 1) r) (schedule_in r) None
schedule-tells site pollutant day (Schedule other p from interval anchor) =
    ap (λ s. cond (is_same_site other site && s && nat_le from day) (schedule_in (Schedule other p from interval anchor)) None) (same-parameters p pollutant)
    ∙ ap (λ b. cond b (schedule_in (Schedule other p from interval anchor)) None) (until (is_same_site other site && (parameter_number p == parameter_number pollutant)) from day)
schedule-tells site pollutant day r = refl

schedule-says : (site : Site) (parameter end : ℕ) (r : OfficeRecord) → is_of_between 3 site parameter 0 end r ≡ true → is_some (schedule_in r) ≡ true
schedule-says site parameter end (Schedule other p from interval anchor) h = refl
schedule-says site parameter end r h = absurd (false≢true h)

schedule-part : (r : OfficeRecord) (x : Sampling) → schedule_in r ≡ Some x → x.from ≡ (place_of (key_of r)).part
schedule-part (Schedule site pollutant from interval anchor) x h = ap (λ (o : Option Sampling). unwrap_or (option_map (λ (d : Sampling). d.from) o) 0) (sym h)
schedule-part r x h = cc

pub schedule_found : (rows : List OfficeRecord) (site : Site) (pollutant : Pollutant) (day : ℕ) → IsStrictlySortedBy place_cmp (places_of rows) → schedule_on rows site pollutant day ≡ option_and_then schedule_in (last_or None (filter (is_of_between 3 site (parameter_number pollutant) 0 (day + 1)) rows))
unfolding schedule_on
schedule_found rows site pollutant day sorted =
    latest-last (schedule_by site pollutant day) schedule_in (λ (d : Sampling). d.from) 3 site (parameter_number pollutant) (day + 1) (schedule-tells site pollutant day) (schedule-says site (parameter_number pollutant) (day + 1)) schedule-part rows sorted

-- ---- make-up samples

and_true : (a : Bool) → a ≡ (a && true)
and_true true = refl
and_true false = refl

in_week : (site : Bool) (missed makeup day : ℕ) → nat_lt missed makeup ≡ true → nat_le makeup (missed + 7) ≡ true → cond (site && (makeup == day)) (Some missed) None ≡ cond ((site && nat_le (day - 7) missed) && nat_lt missed day) (cond (makeup == day) (Some missed) None) None
in_week false missed makeup day before soon = refl
in_week true missed makeup day before soon =
    let at : (b : Bool) → (makeup == day) ≡ b → cond b (Some missed) None ≡ cond (nat_le (day - 7) missed && nat_lt missed day) (cond b (Some missed) None) None =
    elim [
      | true ↦ λ same.
          let inside : (nat_le (day - 7) missed && nat_lt missed day) ≡ true = grind (arith, nat_tests) in
          ap (λ c. cond c (Some missed) None) (sym inside)
      | false ↦ λ _. elim (nat_le (day - 7) missed && nat_lt missed day) as (λ c. ◌≡◌ {A = Option ℕ} None (cond c None None)) [ true ↦ refl | false ↦ refl ]
    ]
    in
    at (makeup == day) refl

-- the missed day is one of the seven before the make-up day
within_a_week : (site : Bool) (missed makeup day : ℕ) → is_makeup missed makeup ≡ true → cond (site && (makeup == day)) (Some missed) None ≡ cond ((site && nat_le (day - 7) missed) && nat_lt missed day) (cond (makeup == day) (Some missed) None) None
within_a_week site missed makeup day h =
    let before : nat_lt missed makeup ≡ true = first_of_both (nat_lt missed makeup) (quarter_of makeup == quarter_of missed) (first_of_both (nat_lt missed makeup && (quarter_of makeup == quarter_of missed)) (nat_le makeup (missed + 7)) h) in
    let soon : nat_le makeup (missed + 7) ≡ true = second_of_both (nat_lt missed makeup && (quarter_of makeup == quarter_of missed)) (nat_le makeup (missed + 7)) h in
    in_week site missed makeup day before soon

missed-tells : (site : Site) (day : ℕ) (r : OfficeRecord) → is_record r ≡ true → missed_for site day r ≡ cond (is_of_between 5 site 0 (day - 7) day r) (missed_by day r) None
missed-tells site day (Makeup other missed makeup) h =
    let r = Makeup other missed makeup in
    let in_order = second_of_both (is_day makeup) (is_makeup missed makeup) (second_of_both (is_key (key_of r)) (is_content_of r) h) in
    within_a_week (is_same_site other site) missed makeup day in_order
    ∙ ap (λ b. cond ((b && nat_le (day - 7) missed) && nat_lt missed day) (missed_by day r) None) (and_true (is_same_site other site))
missed-tells site day r h = refl

part-answers : (answer word : OfficeRecord → Option ℕ) (test p : OfficeRecord → Bool) → ((r : OfficeRecord) → p r ≡ true → answer r ≡ cond (test r) (word r) None) → (rows : List OfficeRecord) → list_all p rows ≡ true → filter_map answer rows ≡ filter_map word (filter test rows)
part-answers answer word test p tells [] all = refl
part-answers answer word test p tells (r ∷ rows) all =
    let first = first_of_both (p r) (list_all p rows) all in
    let rest = part-answers answer word test p tells rows (second_of_both (p r) (list_all p rows) all) in
    ap (λ o. cons_option o (filter_map answer rows)) (tells r first)
    ∙ elim (test r) as (λ b. cons_option (cond b (word r) None) (filter_map answer rows) ≡ filter_map word (cond b (r ∷ filter test rows) (filter test rows))) [
      | true ↦ ap (cons_option (word r)) rest
      | false ↦ rest
    ]

pub missed_found : (rows : List OfficeRecord) (site : Site) (day : ℕ) (start end : Place) (part : List OfficeRecord) → IsOffice (office_with rows) → start ≡ of_site 5 site 0 (day - 7) → end ≡ of_site 5 site 0 day → part ≡ filter (lies_between start end) rows → missed_of rows site day ≡ first_given (missed_by day) part
unfolding missed_of
missed_found rows site day start end part office begins ends is =
    let fit = office.records_fit in
    ap (λ (l : List ℕ). slice_get l 0)
    (part-answers (missed_for site day) (missed_by day) (is_of_between 5 site 0 (day - 7) day) is_record (missed-tells site day) rows (all-are_records (office_with rows) rows fit)
    ∙ ap (filter_map (missed_by day)) (sym (is ∙ filter-between 5 site 0 (day - 7) day start end rows begins ends)))
