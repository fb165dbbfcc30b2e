-- Each question is answered by the first record of the part in which its answers lie.
use Rattle.std.proofs.Common.{◌≡◌, ℕ, ◌+◌, Bool, true, false, ◌&&◌, ◌==◌, List, [], ◌∷◌, cond, Option, Some, None, is_some, refl, ap, ◌∙◌, arith}
use Rattle.std.specs.Prelude.{◌||◌, find, filter_map, slice_get, nat_le, nat_lt, unwrap_or}
use mathlib.Core.Path.{fun_ext}
use Rattle.std.specs.List.{list_any, cons_option}
use Rattle.std.specs.Option.{option_and_then}
use Rattle.std.proofs.lemmas.Bool.{false≢true}
use Rattle.std.proofs.lemmas.Bool.Decides.{nat_tests}
use Rattle.aq_base.specs.Site.{Site}
use Rattle.aq_base.specs.declared.monitor.Pollutant.{Pollutant}
use Rattle.aq_base.specs.declared.monitor.Pollutant.TheVariants.{Ozone, Pm25, Pm10}
use Rattle.aq_base.specs.declared.monitor.MonitorId.{MonitorId}
use Rattle.aq_base.specs.declared.office.OfficeRecord.{OfficeRecord}
use Rattle.aq_base.specs.declared.office.OfficeRecord.TheVariants.{Monitor, Season, Makeup, Event, Approved, Combined}
use Rattle.aq_base.specs.declared.office.OfficeKey.{OfficeKey}
use Rattle.aq_base.specs.declared.office.OfficeKey.TheVariants.{Monitor as MonitorKey, Season as SeasonKey, Makeup as MakeupKey, Event as EventKey, Approved as ApprovedKey, Combined as CombinedKey}
use Rattle.aq_rules.specs.Office.Office.{key_numbers, record_rank, is_same, parameter_number}
use Rattle.aq_rules.specs.Office.Monitors.{is_same_site, is_same_pollutant, is_same_monitor}
use Rattle.aq_rules.specs.Office.Questions.{first_given, record_of, registration_by, registration_of, poc_above, next_poc, makeup_for, makeup_of, coverage_by, covers, joined_by, combined}
use Rattle.aq_rules.specs.Office.Season.{season_by, season_of, whole_year, Season as Days}
use Rattle.aq_rules.specs.Office.Approval.{approves, is_approved}
use Rattle.aq_registry.specs.Places.{is_of_from}
use Rattle.aq_registry.specs.Registry.{registration_in, poc_in, season_in, makeup_in, coverage_in, joined_in}

-- ---- the first answer

some_answer : {X : Type 0} (o : Option X) (xs : List X) → is_some o ≡ true → slice_get (cons_option o xs) 0 ≡ o
some_answer None xs h = absurd (false≢true h)
some_answer (Some x) xs h = refl

-- records answer if a test holds, as one word says, and else not
module _ {X : Type 0} (answer word : OfficeRecord → Option X) (test : OfficeRecord → Bool) (tells : (r : OfficeRecord) → answer r ≡ cond (test r) (word r) None) (says : (r : OfficeRecord) → test r ≡ true → is_some (word r) ≡ true) where
  pub first_given-found : (rows : List OfficeRecord) → first_given answer rows ≡ option_and_then word (find test rows)
  first_given-found [] = refl
  first_given-found (r ∷ rows) =
      let at : (b : Bool) → test r ≡ b → slice_get (cons_option (cond b (word r) None) (filter_map answer rows)) 0 ≡ option_and_then word (cond b (Some r) (find test rows)) =
      elim [
        | true ↦ λ h. some_answer (word r) (filter_map answer rows) (says r h)
        | false ↦ λ _. first_given-found rows
      ]
      in
      ap (λ o. slice_get (cons_option o (filter_map answer rows)) 0) (tells r) ∙ at (test r) refl

-- ---- the same keys

pub same-parameters : (p q : Pollutant) → is_same_pollutant p q ≡ (parameter_number p == parameter_number q)
same-parameters Ozone Ozone = refl
same-parameters Ozone Pm25 = refl
same-parameters Ozone Pm10 = refl
same-parameters Pm25 Ozone = refl
same-parameters Pm25 Pm25 = refl
same-parameters Pm25 Pm10 = refl
same-parameters Pm10 Ozone = refl
same-parameters Pm10 Pm25 = refl
same-parameters Pm10 Pm10 = refl

pub last_test : (a : Bool) → a ≡ (a && true)
last_test true = refl
last_test false = refl

pub four_tests : (a b c d : Bool) → (a && b && c && d) ≡ (a && (b && (c && (d && true))))
four_tests true true true d = last_test d
four_tests true true false d = refl
four_tests true false c d = refl
four_tests false b c d = refl

five_tests : (a b c d e : Bool) → (a && b && c && d && e) ≡ (a && (b && (c && (d && (e && true)))))
five_tests true true true true e = last_test e
five_tests true true true false e = refl
five_tests true true false d e = refl
five_tests true false c d e = refl
five_tests false b c d e = refl

pub same-monitors : (a b : MonitorId) → is_same_monitor a b ≡ ((a.site.state == b.site.state) && ((a.site.county == b.site.county) && ((a.site.number == b.site.number) && ((parameter_number a.pollutant == parameter_number b.pollutant) && ((a.poc == b.poc) && true)))))
same-monitors a b =
    ap (λ p. is_same_site a.site b.site && p && (a.poc == b.poc)) (same-parameters a.pollutant b.pollutant)
    ∙ five_tests (a.site.state == b.site.state) (a.site.county == b.site.county) (a.site.number == b.site.number) (parameter_number a.pollutant == parameter_number b.pollutant) (a.poc == b.poc)

same-days : (a b : Site) (m n : ℕ) → (is_same_site a b && (m == n)) ≡ ((a.state == b.state) && ((a.county == b.county) && ((a.number == b.number) && ((m == n) && true))))
same-days a b m n = four_tests (a.state == b.state) (a.county == b.county) (a.number == b.number) (m == n)

has_key : OfficeKey → OfficeRecord → Bool
has_key key r = is_same (record_rank r) (key_numbers key)

-- ---- monitors

monitor-tells : (id : MonitorId) (r : OfficeRecord) → registration_by id r ≡ cond (has_key (MonitorKey id) r) (registration_in r) None
unfolding has_key
monitor-tells id (Monitor other duration eligible) = ap (λ b. cond b (registration_in (Monitor other duration eligible)) None) (same-monitors other id)
monitor-tells id r = refl

monitor-says : (id : MonitorId) (r : OfficeRecord) → has_key (MonitorKey id) r ≡ true → is_some (registration_in r) ≡ true
unfolding has_key
monitor-says id (Monitor other duration eligible) h = refl
monitor-says id r h = absurd (false≢true h)

pub registration_found : (rows : List OfficeRecord) (id : MonitorId) → registration_of rows id ≡ option_and_then registration_in (record_of rows (MonitorKey id))
unfolding registration_of has_key
registration_found rows id = first_given-found (registration_by id) registration_in (has_key (MonitorKey id)) (monitor-tells id) (monitor-says id) rows

above : (m n : ℕ) → nat_lt m n ≡ nat_le (m + 1) n
above m n = grind (arith, nat_tests)

poc-tells : (site : Site) (pollutant : Pollutant) (after : ℕ) (r : OfficeRecord) → poc_above site pollutant after r ≡ cond (is_of_from 1 site (parameter_number pollutant) (after + 1) r) (poc_in r) None
poc-tells site pollutant after (Monitor id duration eligible) =
    ap (λ p. cond (is_same_site id.site site && p && nat_lt after id.poc) (Some id.poc) None) (same-parameters id.pollutant pollutant)
    ∙ ap (λ b. cond (is_same_site id.site site && (parameter_number id.pollutant == parameter_number pollutant) && b) (Some id.poc) None) (above after id.poc)
poc-tells site pollutant after r = refl

poc-says : (site : Site) (parameter from : ℕ) (r : OfficeRecord) → is_of_from 1 site parameter from r ≡ true → is_some (poc_in r) ≡ true
poc-says site parameter from (Monitor id duration eligible) h = refl
poc-says site parameter from r h = absurd (false≢true h)

pub poc_found : (rows : List OfficeRecord) (site : Site) (pollutant : Pollutant) (after : ℕ) → next_poc rows site pollutant after ≡ option_and_then poc_in (find (is_of_from 1 site (parameter_number pollutant) (after + 1)) rows)
unfolding next_poc
poc_found rows site pollutant after =
    first_given-found (poc_above site pollutant after) poc_in (is_of_from 1 site (parameter_number pollutant) (after + 1)) (poc-tells site pollutant after) (poc-says site (parameter_number pollutant) (after + 1)) rows

-- ---- seasons, make-up days and events

season-tells : (site : Site) (year : ℕ) (r : OfficeRecord) → season_by site year r ≡ cond (has_key (SeasonKey site year) r) (season_in r) None
unfolding has_key
season-tells site year (Season other other_year first last) = ap (λ b. cond b (season_in (Season other other_year first last)) None) (same-days other site other_year year)
season-tells site year r = refl

season-says : (site : Site) (year : ℕ) (r : OfficeRecord) → has_key (SeasonKey site year) r ≡ true → is_some (season_in r) ≡ true
unfolding has_key
season-says site year (Season other other_year first last) h = refl
season-says site year r h = absurd (false≢true h)

pub season_found : (rows : List OfficeRecord) (site : Site) (year : ℕ) → season_of rows site year ≡ unwrap_or (option_and_then season_in (record_of rows (SeasonKey site year))) (whole_year year)
unfolding season_of has_key
season_found rows site year =
    ap (λ (o : Option Days). unwrap_or o (whole_year year)) (first_given-found (season_by site year) season_in (has_key (SeasonKey site year)) (season-tells site year) (season-says site year) rows)

makeup-tells : (site : Site) (day : ℕ) (r : OfficeRecord) → makeup_for site day r ≡ cond (has_key (MakeupKey site day) r) (makeup_in r) None
unfolding has_key
makeup-tells site day (Makeup other missed makeup) = ap (λ b. cond b (Some makeup) None) (same-days other site missed day)
makeup-tells site day r = refl

makeup-says : (site : Site) (day : ℕ) (r : OfficeRecord) → has_key (MakeupKey site day) r ≡ true → is_some (makeup_in r) ≡ true
unfolding has_key
makeup-says site day (Makeup other missed makeup) h = refl
makeup-says site day r h = absurd (false≢true h)

pub makeup_found : (rows : List OfficeRecord) (site : Site) (day : ℕ) → makeup_of rows site day ≡ option_and_then makeup_in (record_of rows (MakeupKey site day))
unfolding makeup_of has_key
makeup_found rows site day = first_given-found (makeup_for site day) makeup_in (has_key (MakeupKey site day)) (makeup-tells site day) (makeup-says site day) rows

event-tells : (number hour : ℕ) (r : OfficeRecord) → coverage_by number hour r ≡ cond (has_key (EventKey number) r) (coverage_in hour r) None
unfolding has_key
event-tells number hour (Event other site pollutant first last code) = ap (λ b. cond b (Some (nat_le first hour && nat_le hour last)) None) (last_test (other == number))
event-tells number hour r = refl

event-says : (number hour : ℕ) (r : OfficeRecord) → has_key (EventKey number) r ≡ true → is_some (coverage_in hour r) ≡ true
unfolding has_key
event-says number hour (Event other site pollutant first last code) h = refl
event-says number hour r h = absurd (false≢true h)

pub event_found : (rows : List OfficeRecord) (number hour : ℕ) → covers rows number hour ≡ option_and_then (coverage_in hour) (record_of rows (EventKey number))
unfolding covers has_key
event_found rows number hour = first_given-found (coverage_by number hour) (coverage_in hour) (has_key (EventKey number)) (event-tells number hour) (event-says number hour) rows

-- ---- approved days

approval-tells : (site : Site) (day : ℕ) (r : OfficeRecord) → approves site day r ≡ has_key (ApprovedKey site day) r
unfolding has_key
approval-tells site day (Approved other other_day) = same-days other site other_day day
approval-tells site day r = refl

pub any-found : {X : Type 0} (test : X → Bool) (rows : List X) → list_any test rows ≡ is_some (find test rows)
any-found test [] = refl
any-found test (r ∷ rows) =
    elim (test r) as (λ b. (b || list_any test rows) ≡ is_some (cond b (Some r) (find test rows))) [ true ↦ refl | false ↦ any-found test rows ]

pub approval_found : (rows : List OfficeRecord) (site : Site) (day : ℕ) → is_approved rows site day ≡ is_some (record_of rows (ApprovedKey site day))
unfolding is_approved has_key
approval_found rows site day =
    ap (λ (test : OfficeRecord → Bool). list_any test rows) (fun_ext (approval-tells site day)) ∙ any-found (has_key (ApprovedKey site day)) rows

-- ---- combined sites

combined-tells : (site : Site) (pollutant : Pollutant) (r : OfficeRecord) → joined_by site pollutant r ≡ cond (has_key (CombinedKey site pollutant) r) (joined_in r) None
unfolding has_key
combined-tells site pollutant (Combined other p from joined) =
    ap (λ b. cond (is_same_site other site && b) (joined_in (Combined other p from joined)) None) (same-parameters p pollutant)
    ∙ ap (λ b. cond b (joined_in (Combined other p from joined)) None) (same-days other site (parameter_number p) (parameter_number pollutant))
combined-tells site pollutant r = refl

combined-says : (site : Site) (pollutant : Pollutant) (r : OfficeRecord) → has_key (CombinedKey site pollutant) r ≡ true → is_some (joined_in r) ≡ true
unfolding has_key
combined-says site pollutant (Combined other p from joined) h = refl
combined-says site pollutant r h = absurd (false≢true h)

pub combined_found : (rows : List OfficeRecord) (site : Site) (pollutant : Pollutant) → combined rows site pollutant ≡ option_and_then joined_in (record_of rows (CombinedKey site pollutant))
unfolding combined has_key
combined_found rows site pollutant =
    first_given-found (joined_by site pollutant) joined_in (has_key (CombinedKey site pollutant)) (combined-tells site pollutant) (combined-says site pollutant) rows
