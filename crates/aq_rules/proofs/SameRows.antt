-- The tests of whether two records, or two observations, are the same hold of equal ones alone.
use Rattle.std.proofs.Common.{◌≡◌, Bool, true, ◌&&◌, refl, subst}
use Rattle.std.specs.Prelude.{Option, Some, None, ◌==◌}
use Rattle.std.specs.Bool.{beq}
use Rattle.std.specs.Cmp.{booleans_Decides}
use Rattle.std.specs.Option.{option_eq}
use Rattle.std.specs.Ordering.{int_eq}
use Rattle.std.proofs.lemmas.Bool.{false≢true, and_parts, eqb-true}
use lib.Pointwise.{pointwise, pointwise_decides}
use Rattle.aq_base.specs.Quals.{is_same_code}
use Rattle.aq_base.specs.declared.code.Code.{Code}
use Rattle.aq_base.specs.declared.monitor.Duration.{Duration}
use Rattle.aq_base.specs.declared.monitor.Duration.TheVariants.{Hour, Day}
use Rattle.aq_base.specs.declared.observation.Observation.{Observation}
use Rattle.aq_base.specs.declared.office.OfficeRecord.{OfficeRecord}
use Rattle.aq_base.specs.declared.office.OfficeRecord.TheVariants.{Monitor, Primary, Schedule, Season, Makeup, Event, Concurrence, Approved, Combined}
use Rattle.aq_rules.specs.Office.Monitors.{is_same_site, is_same_pollutant, is_same_monitor}
use Rattle.aq_rules.specs.Office.Load.{is_same_duration, is_same_record, is_same_method, is_same_content}
use Rattle.aq_rules.proofs.Tests.{int_is, int_itself}
use Rattle.aq_rules.specs.Office.Sameness.{number_itself, same_site, same_pollutant, same_monitor, site_itself, pollutant_itself}

truths : (a b : Bool) → beq a b ≡ true → a ≡ b
truths a b h = (booleans_Decides a b).0 h

truth-itself : (a : Bool) → beq a a ≡ true
truth-itself a = (booleans_Decides a a).1 refl

durations : (a b : Duration) → is_same_duration a b ≡ true → a ≡ b
durations Hour Hour h = refl
durations Day Day h = refl
durations Hour Day h = absurd (false≢true h)
durations Day Hour h = absurd (false≢true h)

duration-itself : (a : Duration) → is_same_duration a a ≡ true
duration-itself Hour = refl
duration-itself Day = refl

same_codes : (a b : Code) → is_same_code a b ≡ true → a ≡ b
same_codes a b h =
    let parts = and_parts (a.first == b.first) (a.second == b.second) h in
    let first = eqb-true a.first b.first parts.0 in
    let second = eqb-true a.second b.second parts.1 in
    λ i. record { first = first i; second = second i }

code-itself : (a : Code) → is_same_code a a ≡ true
code-itself a = rw (number_itself a.first, number_itself a.second) refl

pub record-same : (a b : OfficeRecord) → is_same_record a b ≡ true → a ≡ b
record-same (Monitor id duration eligible) (Monitor id2 duration2 eligible2) h =
    let e = and_parts (is_same_monitor id id2 && is_same_duration duration duration2) (beq eligible eligible2) h in
    let d = and_parts (is_same_monitor id id2) (is_same_duration duration duration2) e.0 in
    let id_is = same_monitor id id2 d.0 in
    let duration_is = durations duration duration2 d.1 in
    let eligible_is = truths eligible eligible2 e.1 in
    λ i. Monitor (id_is i) (duration_is i) (eligible_is i)
record-same (Primary site pollutant from poc) (Primary site2 pollutant2 from2 poc2) h =
    let d = and_parts (is_same_site site site2 && is_same_pollutant pollutant pollutant2 && (from == from2)) (poc == poc2) h in
    let c = and_parts (is_same_site site site2 && is_same_pollutant pollutant pollutant2) (from == from2) d.0 in
    let b = and_parts (is_same_site site site2) (is_same_pollutant pollutant pollutant2) c.0 in
    let site_is = same_site site site2 b.0 in
    let pollutant_is = same_pollutant pollutant pollutant2 b.1 in
    let from_is = eqb-true from from2 c.1 in
    let poc_is = eqb-true poc poc2 d.1 in
    λ i. Primary (site_is i) (pollutant_is i) (from_is i) (poc_is i)
record-same (Schedule site pollutant from interval anchor) (Schedule site2 pollutant2 from2 interval2 anchor2) h =
    let e = and_parts (is_same_site site site2 && is_same_pollutant pollutant pollutant2 && (from == from2) && (interval == interval2)) (anchor == anchor2) h in
    let d = and_parts (is_same_site site site2 && is_same_pollutant pollutant pollutant2 && (from == from2)) (interval == interval2) e.0 in
    let c = and_parts (is_same_site site site2 && is_same_pollutant pollutant pollutant2) (from == from2) d.0 in
    let b = and_parts (is_same_site site site2) (is_same_pollutant pollutant pollutant2) c.0 in
    let site_is = same_site site site2 b.0 in
    let pollutant_is = same_pollutant pollutant pollutant2 b.1 in
    let from_is = eqb-true from from2 c.1 in
    let interval_is = eqb-true interval interval2 d.1 in
    let anchor_is = eqb-true anchor anchor2 e.1 in
    λ i. Schedule (site_is i) (pollutant_is i) (from_is i) (interval_is i) (anchor_is i)
record-same (Season site year first last) (Season site2 year2 first2 last2) h =
    let d = and_parts (is_same_site site site2 && (year == year2) && (first == first2)) (last == last2) h in
    let c = and_parts (is_same_site site site2 && (year == year2)) (first == first2) d.0 in
    let b = and_parts (is_same_site site site2) (year == year2) c.0 in
    let site_is = same_site site site2 b.0 in
    let year_is = eqb-true year year2 b.1 in
    let first_is = eqb-true first first2 c.1 in
    let last_is = eqb-true last last2 d.1 in
    λ i. Season (site_is i) (year_is i) (first_is i) (last_is i)
record-same (Makeup site missed makeup) (Makeup site2 missed2 makeup2) h =
    let c = and_parts (is_same_site site site2 && (missed == missed2)) (makeup == makeup2) h in
    let b = and_parts (is_same_site site site2) (missed == missed2) c.0 in
    let site_is = same_site site site2 b.0 in
    let missed_is = eqb-true missed missed2 b.1 in
    let makeup_is = eqb-true makeup makeup2 c.1 in
    λ i. Makeup (site_is i) (missed_is i) (makeup_is i)
record-same (Event number site pollutant first last code) (Event number2 site2 pollutant2 first2 last2 code2) h =
    let f = and_parts ((number == number2) && is_same_site site site2 && is_same_pollutant pollutant pollutant2 && (first == first2) && (last == last2)) (is_same_code code code2) h in
    let e = and_parts ((number == number2) && is_same_site site site2 && is_same_pollutant pollutant pollutant2 && (first == first2)) (last == last2) f.0 in
    let d = and_parts ((number == number2) && is_same_site site site2 && is_same_pollutant pollutant pollutant2) (first == first2) e.0 in
    let c = and_parts ((number == number2) && is_same_site site site2) (is_same_pollutant pollutant pollutant2) d.0 in
    let b = and_parts (number == number2) (is_same_site site site2) c.0 in
    let number_is = eqb-true number number2 b.0 in
    let site_is = same_site site site2 b.1 in
    let pollutant_is = same_pollutant pollutant pollutant2 c.1 in
    let first_is = eqb-true first first2 d.1 in
    let last_is = eqb-true last last2 e.1 in
    let code_is = same_codes code code2 f.1 in
    λ i. Event (number_is i) (site_is i) (pollutant_is i) (first_is i) (last_is i) (code_is i)
record-same (Concurrence number agreed) (Concurrence number2 agreed2) h =
    let b = and_parts (number == number2) (beq agreed agreed2) h in
    let number_is = eqb-true number number2 b.0 in
    let agreed_is = truths agreed agreed2 b.1 in
    λ i. Concurrence (number_is i) (agreed_is i)
record-same (Approved site day) (Approved site2 day2) h =
    let b = and_parts (is_same_site site site2) (day == day2) h in
    let site_is = same_site site site2 b.0 in
    let day_is = eqb-true day day2 b.1 in
    λ i. Approved (site_is i) (day_is i)
record-same (Combined site pollutant from joined) (Combined site2 pollutant2 from2 joined2) h =
    let d = and_parts (is_same_site site site2 && is_same_pollutant pollutant pollutant2 && (from == from2)) (is_same_site joined joined2) h in
    let c = and_parts (is_same_site site site2 && is_same_pollutant pollutant pollutant2) (from == from2) d.0 in
    let b = and_parts (is_same_site site site2) (is_same_pollutant pollutant pollutant2) c.0 in
    let site_is = same_site site site2 b.0 in
    let pollutant_is = same_pollutant pollutant pollutant2 b.1 in
    let from_is = eqb-true from from2 c.1 in
    let joined_is = same_site joined joined2 d.1 in
    λ i. Combined (site_is i) (pollutant_is i) (from_is i) (joined_is i)
record-same a b h = absurd (false≢true h)

pub record-itself : (a : OfficeRecord) → is_same_record a a ≡ true
record-itself (Monitor id duration eligible) =
    rw (site_itself id.site, pollutant_itself id.pollutant, number_itself id.poc, duration-itself duration, truth-itself eligible) refl
record-itself (Primary site pollutant from poc) = rw (site_itself site, pollutant_itself pollutant, number_itself from, number_itself poc) refl
record-itself (Schedule site pollutant from interval anchor) =
    rw (site_itself site, pollutant_itself pollutant, number_itself from, number_itself interval, number_itself anchor) refl
record-itself (Season site year first last) = rw (site_itself site, number_itself year, number_itself first, number_itself last) refl
record-itself (Makeup site missed makeup) = rw (site_itself site, number_itself missed, number_itself makeup) refl
record-itself (Event number site pollutant first last code) =
    rw (number_itself number, site_itself site, pollutant_itself pollutant, number_itself first, number_itself last, code-itself code) refl
record-itself (Concurrence number agreed) = rw (number_itself number, truth-itself agreed) refl
record-itself (Approved site day) = rw (site_itself site, number_itself day) refl
record-itself (Combined site pollutant from joined) =
    rw (site_itself site, pollutant_itself pollutant, number_itself from, site_itself joined) refl

-- ---- observations

module _ {X : Type 0} (same : X → X → Bool) (is : (a b : X) → same a b ≡ true → a ≡ b) (itself : (a : X) → same a a ≡ true) where
  options : (a b : Option X) → option_eq same a b ≡ true → a ≡ b
  options None None h = refl
  options (Some x) (Some y) h = λ i. Some (is x y h i)
  options None (Some y) h = absurd (false≢true h)
  options (Some x) None h = absurd (false≢true h)

  option-itself : (a : Option X) → option_eq same a a ≡ true
  option-itself None = refl
  option-itself (Some x) = itself x

code_decides : (a b : Code) → (is_same_code a b ≡ true → a ≡ b) × (a ≡ b → is_same_code a b ≡ true)
code_decides a b = (same_codes a b, λ e. subst (λ (c : Code). is_same_code a c ≡ true) e (code-itself a))

pub content-same : (a b : Observation) → is_same_content a b ≡ true → a ≡ b
content-same a b h =
    let m = and_parts (option_eq int_eq a.value b.value && option_eq is_same_code a.null b.null && pointwise is_same_code a.quals b.quals) (option_eq is_same_method a.method b.method) h in
    let q = and_parts (option_eq int_eq a.value b.value && option_eq is_same_code a.null b.null) (pointwise is_same_code a.quals b.quals) m.0 in
    let n = and_parts (option_eq int_eq a.value b.value) (option_eq is_same_code a.null b.null) q.0 in
    let value = options int_eq int_is int_itself a.value b.value n.0 in
    let null = options is_same_code same_codes code-itself a.null b.null n.1 in
    let quals = (pointwise_decides code_decides a.quals b.quals).0 q.1 in
    let method = options is_same_method eqb-true number_itself a.method b.method m.1 in
    λ i. record { value = value i; null = null i; quals = quals i; method = method i }

pub content-itself : (a : Observation) → is_same_content a a ≡ true
content-itself a =
    rw (option-itself int_eq int_is int_itself a.value, option-itself is_same_code same_codes code-itself a.null, (pointwise_decides code_decides a.quals a.quals).1 refl, option-itself is_same_method eqb-true number_itself a.method) refl
