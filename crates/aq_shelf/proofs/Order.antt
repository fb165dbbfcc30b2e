-- The order of keys, and of the stretches that they lie in, is that of their ranks.
use Rattle.std.proofs.Common.{◌≡◌, ℕ, ◌<◌, Bool, true, false, ◌&&◌, ◌||◌, ◌==◌, refl, ap, sym, ◌∙◌, arith}
use Rattle.std.specs.Prelude.{nat_lt, ◌/◌}
use Rattle.std.specs.declared.cmp.Ordering.{Ordering}
use Rattle.std.specs.declared.cmp.Ordering.TheVariants.{Less, Equal, Greater}
use Rattle.std.specs.Ordering.{is_eq, is_lt, nat_cmp, ordering_then}
use Rattle.std.specs.Cmp.{IsTotalOrder}
use Rattle.std.proofs.lemmas.Bool.Decides.{nat_tests}
use Rattle.std.proofs.lemmas.Cmp.{tied_itself}
use Rattle.aq_base.specs.declared.monitor.Pollutant.{Pollutant}
use Rattle.aq_base.specs.declared.monitor.Pollutant.TheVariants.{Ozone, Pm25, Pm10}
use Rattle.aq_base.specs.declared.monitor.MonitorId.{MonitorId}
use Rattle.aq_base.specs.declared.observation.ObsKey.{ObsKey}
use Rattle.aq_base.specs.contracts.monitor.PollutantOrd.TheImpl as pollutant_derived
use Rattle.aq_base.specs.contracts.monitor.MonitorIdOrd.TheImpl as monitor_derived
use Rattle.aq_base.specs.contracts.monitor.MonitorIdOrd.TheImpl.Laws as monitor_laws
use Rattle.aq_base.specs.contracts.observation.ObsKeyOrd.TheImpl as key_derived
use Rattle.aq_rules.specs.Office.Monitors.{is_same_site, is_same_pollutant, is_same_monitor, is_same_key}
use Rattle.aq_rules.specs.Office.Office.{observation_numbers, pollutant_number, is_same, comes_before}
use Rattle.aq_rules.specs.Office.Sameness as sameness
use Rattle.aq_shelf.specs.declared.stretch.Stretch.{Stretch}
use Rattle.aq_shelf.specs.contracts.stretch.StretchOrd.TheImpl as stretch_derived
use Rattle.aq_shelf.specs.contracts.stretch.StretchOrd.TheImpl.Laws as stretch_laws
use Rattle.aq_shelf.specs.Stretches.{stretch_of}

-- ---- the orders that the code derives

abbrev pub pollutant_cmp : Pollutant → Pollutant → Ordering
pollutant_cmp = (pollutant_derived.ghosts).cmp

abbrev pub monitor_cmp : MonitorId → MonitorId → Ordering
monitor_cmp = (monitor_derived.ghosts).cmp

abbrev pub key_cmp : ObsKey → ObsKey → Ordering
key_cmp = (key_derived.ghosts).cmp

abbrev pub stretch_cmp : Stretch → Stretch → Ordering
stretch_cmp = (stretch_derived.ghosts).cmp

pub stretch_total : IsTotalOrder stretch_cmp
stretch_total = stretch_laws.total-law

pub monitor_total : IsTotalOrder monitor_cmp
monitor_total = monitor_laws.total-law

-- ---- which keys are the same

is_lt-nat_cmp : (x y : ℕ) → nat_lt x y ≡ is_lt (nat_cmp x y)
is_lt-nat_cmp x y = grind (arith, nat_tests)

is_eq-nat_cmp : (x y : ℕ) → is_eq (nat_cmp x y) ≡ (x == y)
is_eq-nat_cmp x y = grind (arith, nat_tests)

is_eq-pollutant_cmp : (p q : Pollutant) → is_eq (pollutant_cmp p q) ≡ is_same_pollutant p q
is_eq-pollutant_cmp Ozone Ozone = refl
is_eq-pollutant_cmp Ozone Pm25 = refl
is_eq-pollutant_cmp Ozone Pm10 = refl
is_eq-pollutant_cmp Pm25 Ozone = refl
is_eq-pollutant_cmp Pm25 Pm25 = refl
is_eq-pollutant_cmp Pm25 Pm10 = refl
is_eq-pollutant_cmp Pm10 Ozone = refl
is_eq-pollutant_cmp Pm10 Pm25 = refl
is_eq-pollutant_cmp Pm10 Pm10 = refl

is_eq-then : (o p : Ordering) (x y : Bool) → is_eq o ≡ x → is_eq p ≡ y → is_eq (ordering_then o p) ≡ (x && y)
is_eq-then Less p x y e f = ap (λ b. b && y) e
is_eq-then Equal p x y e f = f ∙ ap (λ b. b && y) e
is_eq-then Greater p x y e f = ap (λ b. b && y) e

is_eq-three : (o p q : Ordering) (x y z : Bool) → is_eq o ≡ x → is_eq p ≡ y → is_eq q ≡ z → is_eq (ordering_then o (ordering_then p q)) ≡ (x && y && z)
is_eq-three Less p q x y z e f g = ap (λ b. b && y && z) e
is_eq-three Equal p q x y z e f g = is_eq-then p q y z f g ∙ ap (λ b. b && y && z) e
is_eq-three Greater p q x y z e f g = ap (λ b. b && y && z) e

pub is_eq-monitor_cmp : (a b : MonitorId) → is_eq (monitor_cmp a b) ≡ is_same_monitor a b
is_eq-monitor_cmp a b =
    let site = is_eq-three (nat_cmp a.site.state b.site.state) (nat_cmp a.site.county b.site.county) (nat_cmp a.site.number b.site.number) _ _ _
    (is_eq-nat_cmp a.site.state b.site.state) (is_eq-nat_cmp a.site.county b.site.county) (is_eq-nat_cmp a.site.number b.site.number) in
    is_eq-three _ (pollutant_cmp a.pollutant b.pollutant) (nat_cmp a.poc b.poc) _ _ _ site (is_eq-pollutant_cmp a.pollutant b.pollutant) (is_eq-nat_cmp a.poc b.poc)

monitor_itself : (monitor : MonitorId) → is_same_monitor monitor monitor ≡ true
monitor_itself monitor = sym (is_eq-monitor_cmp monitor monitor) ∙ ap is_eq (tied_itself monitor_total monitor)

-- two stretches of which neither comes first are one
one_monitor : (a b : Stretch) → stretch_cmp a b ≡ Equal → a.monitor ≡ b.monitor
one_monitor a b h =
    let same = sym (is_eq-monitor_cmp a.monitor b.monitor) ∙ first (monitor_cmp a.monitor b.monitor) (nat_cmp a.number b.number) h in
    ap (λ (k : ObsKey). k.monitor)
    (sameness.same_key (record { monitor = a.monitor; hour = 0 }) (record { monitor = b.monitor; hour = 0 }) (ap (λ b. b && (0 == 0)) same))
  where
    first : (o p : Ordering) → ordering_then o p ≡ Equal → is_eq o ≡ true
    first Less p h = cc
    first Equal p h = refl
    first Greater p h = cc

pub one_stretch : (a b : Stretch) → stretch_cmp a b ≡ Equal → a ≡ b
one_stretch a b h =
    let monitor = one_monitor a b h in
    let number = same_number a.number b.number (second (monitor_cmp a.monitor b.monitor) (nat_cmp a.number b.number) h) in
    λ i. record { monitor = monitor i; number = number i }
  where
    second : (o p : Ordering) → ordering_then o p ≡ Equal → p ≡ Equal
    second Less p h = cc
    second Equal p h = h
    second Greater p h = cc

    same_number : (x y : ℕ) → nat_cmp x y ≡ Equal → x ≡ y
    same_number x y h = grind (arith, nat_tests)

regroup : (s c n p q h : Bool) → (s && (c && (n && (p && (q && (h && true)))))) ≡ (s && c && n && p && q && h)
regroup false c n p q h = refl
regroup true false n p q h = refl
regroup true true false p q h = refl
regroup true true true false q h = refl
regroup true true true true false h = refl
regroup true true true true true false = refl
regroup true true true true true true = refl

same_pollutant_number : (p q : Pollutant) → (pollutant_number p == pollutant_number q) ≡ is_same_pollutant p q
same_pollutant_number Ozone Ozone = refl
same_pollutant_number Ozone Pm25 = refl
same_pollutant_number Ozone Pm10 = refl
same_pollutant_number Pm25 Ozone = refl
same_pollutant_number Pm25 Pm25 = refl
same_pollutant_number Pm25 Pm10 = refl
same_pollutant_number Pm10 Ozone = refl
same_pollutant_number Pm10 Pm25 = refl
same_pollutant_number Pm10 Pm10 = refl

-- by their ranks, as by their parts
pub same_rank : (a b : ObsKey) → is_same (observation_numbers a) (observation_numbers b) ≡ is_same_key a b
same_rank a b =
    regroup (a.monitor.site.state == b.monitor.site.state) (a.monitor.site.county == b.monitor.site.county) (a.monitor.site.number == b.monitor.site.number) (pollutant_number a.monitor.pollutant == pollutant_number b.monitor.pollutant) (a.monitor.poc == b.monitor.poc) (a.hour == b.hour)
    ∙ ap (λ p. is_same_site a.monitor.site b.monitor.site && p && (a.monitor.poc == b.monitor.poc) && (a.hour == b.hour)) (same_pollutant_number a.monitor.pollutant b.monitor.pollutant)

-- by their ranks, as in the order that the code derives
pub same_rank-cmp : (a b : ObsKey) → is_same (observation_numbers a) (observation_numbers b) ≡ is_eq (key_cmp a b)
same_rank-cmp a b =
    same_rank a b ∙ sym (is_eq-then (monitor_cmp a.monitor b.monitor) (nat_cmp a.hour b.hour) _ _ (is_eq-monitor_cmp a.monitor b.monitor) (is_eq-nat_cmp a.hour b.hour))

-- ---- which key comes first

is_lt-then : (o p : Ordering) → (is_lt o || (is_eq o && is_lt p)) ≡ is_lt (ordering_then o p)
is_lt-then Less p = refl
is_lt-then Equal p = refl
is_lt-then Greater p = refl

-- one number before the rest
first_decides : (x y : ℕ) (o : Ordering) (rest : Bool) → rest ≡ is_lt o → (nat_lt x y || ((x == y) && rest)) ≡ is_lt (ordering_then (nat_cmp x y) o)
first_decides x y o rest h =
    ap (λ b. b || ((x == y) && rest)) (is_lt-nat_cmp x y)
    ∙ ap (λ b. is_lt (nat_cmp x y) || (b && rest)) (sym (is_eq-nat_cmp x y))
    ∙ ap (λ b. is_lt (nat_cmp x y) || (is_eq (nat_cmp x y) && b)) h
    ∙ is_lt-then (nat_cmp x y) o

last_decides : (x y : ℕ) → (nat_lt x y || ((x == y) && false)) ≡ is_lt (nat_cmp x y)
last_decides x y = grind (arith, nat_tests)

pollutant_number-cmp : (p q : Pollutant) → nat_cmp (pollutant_number p) (pollutant_number q) ≡ pollutant_cmp p q
pollutant_number-cmp Ozone Ozone = refl
pollutant_number-cmp Ozone Pm25 = refl
pollutant_number-cmp Ozone Pm10 = refl
pollutant_number-cmp Pm25 Ozone = refl
pollutant_number-cmp Pm25 Pm25 = refl
pollutant_number-cmp Pm25 Pm10 = refl
pollutant_number-cmp Pm10 Ozone = refl
pollutant_number-cmp Pm10 Pm25 = refl
pollutant_number-cmp Pm10 Pm10 = refl

-- six orders, one after another, however they are grouped
group_six : (s c n p q h : Ordering) → ordering_then s (ordering_then c (ordering_then n (ordering_then p (ordering_then q h)))) ≡ ordering_then (ordering_then (ordering_then s (ordering_then c n)) (ordering_then p q)) h
group_six Less c n p q h = refl
group_six Equal Less n p q h = refl
group_six Equal Equal Less p q h = refl
group_six Equal Equal Equal Less q h = refl
group_six Equal Equal Equal Equal q h = refl
group_six Equal Equal Equal Greater q h = refl
group_six Equal Equal Greater p q h = refl
group_six Equal Greater n p q h = refl
group_six Greater c n p q h = refl

pub before_rank : (a b : ObsKey) → comes_before (observation_numbers a) (observation_numbers b) ≡ is_lt (key_cmp a b)
before_rank a b =
    let site = ordering_then (nat_cmp a.monitor.site.state b.monitor.site.state) (ordering_then (nat_cmp a.monitor.site.county b.monitor.site.county) (nat_cmp a.monitor.site.number b.monitor.site.number)) in
    first_decides a.monitor.site.state b.monitor.site.state _ _
    (first_decides a.monitor.site.county b.monitor.site.county _ _
    (first_decides a.monitor.site.number b.monitor.site.number _ _
    (first_decides (pollutant_number a.monitor.pollutant) (pollutant_number b.monitor.pollutant) _ _
    (first_decides a.monitor.poc b.monitor.poc (nat_cmp a.hour b.hour) _ (last_decides a.hour b.hour)))))
    ∙ ap is_lt (group_six (nat_cmp a.monitor.site.state b.monitor.site.state) (nat_cmp a.monitor.site.county b.monitor.site.county) (nat_cmp a.monitor.site.number b.monitor.site.number) (nat_cmp (pollutant_number a.monitor.pollutant) (pollutant_number b.monitor.pollutant)) (nat_cmp a.monitor.poc b.monitor.poc) (nat_cmp a.hour b.hour))
    ∙ ap (λ o. is_lt (ordering_then (ordering_then site (ordering_then o (nat_cmp a.monitor.poc b.monitor.poc))) (nat_cmp a.hour b.hour))) (pollutant_number-cmp a.monitor.pollutant b.monitor.pollutant)

less_hour : (x y : ℕ) → nat_cmp (x / 256) (y / 256) ≡ Less → nat_cmp x y ≡ Less
less_hour x y h =
    let less : x / 256 < y / 256 = grind (arith, nat_tests) in
    let hour : x < y = omega arith in
    grind (arith, nat_tests)

-- a key of an earlier stretch
pub earlier_stretch : (a b : ObsKey) → stretch_cmp (stretch_of a) (stretch_of b) ≡ Less → comes_before (observation_numbers a) (observation_numbers b) ≡ true
earlier_stretch a b h = before_rank a b ∙ ap is_lt (by_monitor (monitor_cmp a.monitor b.monitor) h)
  where
    by_monitor : (o : Ordering) → ordering_then o (nat_cmp (a.hour / 256) (b.hour / 256)) ≡ Less → ordering_then o (nat_cmp a.hour b.hour) ≡ Less
    by_monitor Less h = refl
    by_monitor Equal h = less_hour a.hour b.hour h
    by_monitor Greater h = h

-- ---- keys of one monitor

module _ (monitor : MonitorId) (x y : ℕ) where
  pub before_hour : comes_before (observation_numbers (record { monitor = monitor; hour = x })) (observation_numbers (record { monitor = monitor; hour = y })) ≡ nat_lt x y
  before_hour =
      before_rank (record { monitor = monitor; hour = x }) (record { monitor = monitor; hour = y })
      ∙ ap (λ o. is_lt (ordering_then o (nat_cmp x y))) (tied_itself monitor_total monitor)
      ∙ sym (is_lt-nat_cmp x y)

  pub same_hour : is_same (observation_numbers (record { monitor = monitor; hour = x })) (observation_numbers (record { monitor = monitor; hour = y })) ≡ (x == y)
  same_hour =
      same_rank (record { monitor = monitor; hour = x }) (record { monitor = monitor; hour = y })
      ∙ ap (λ b. b && (x == y)) (monitor_itself monitor)
