-- The order of places is that of keys as numbers.
use Rattle.std.proofs.Common.{◌≡◌, ℕ, Bool, true, false, ◌&&◌, ◌==◌, eqb-true, refl, ap, sym, ◌∙◌, arith, cond}
use Rattle.std.specs.Prelude.{◌||◌, nat_lt}
use Rattle.std.proofs.lemmas.Bool.{false≢true}
use Rattle.std.specs.declared.cmp.Ordering.{Ordering}
use Rattle.std.specs.declared.cmp.Ordering.TheVariants.{Less, Equal, Greater}
use Rattle.std.specs.Ordering.{nat_cmp, ordering_then, is_eq, is_lt}
use Rattle.std.specs.Cmp.{IsTotalOrder}
use Rattle.std.proofs.lemmas.Cmp.{nat_cmp_total, on_total, then_total}
use Rattle.std.proofs.lemmas.Bool.Decides.{nat_tests}
use Rattle.aq_base.specs.Site.{Site}
use Rattle.aq_base.specs.declared.monitor.Pollutant.{Pollutant}
use Rattle.aq_base.specs.declared.office.OfficeKey.{OfficeKey}
use Rattle.aq_base.specs.declared.office.OfficeKey.TheVariants.{Monitor, Primary, Schedule, Season, Makeup, Event, Concurrence, Approved, Combined}
use Rattle.aq_rules.specs.Office.Office.{key_numbers, comes_before, is_same, parameter_number}
use Rattle.aq_registry.specs.declared.place.Place.{Place}
use Rattle.aq_registry.specs.Places.{place_of, place_cmp}

pub place_total : IsTotalOrder place_cmp
place_total =
    then_total (on_total (λ (p : Place). p.kind) nat_cmp_total)
    (then_total (on_total (λ (p : Place). p.state) nat_cmp_total)
    (then_total (on_total (λ (p : Place). p.county) nat_cmp_total)
    (then_total (on_total (λ (p : Place). p.number) nat_cmp_total)
    (then_total (on_total (λ (p : Place). p.parameter) nat_cmp_total) (on_total (λ (p : Place). p.part) nat_cmp_total)))))

-- ---- one number

eq-nat_cmp : (m n : ℕ) → is_eq (nat_cmp m n) ≡ (m == n)
eq-nat_cmp m n = grind (arith, nat_tests)

lt-nat_cmp : (m n : ℕ) → is_lt (nat_cmp m n) ≡ (nat_lt m n || ((m == n) && false))
lt-nat_cmp m n =
    elim (nat_lt m n) as (λ b. is_lt (cond b Less (cond (m == n) Equal Greater)) ≡ (b || ((m == n) && false))) [
      | true ↦ refl
      | false ↦ elim (m == n) as (λ b. is_lt (cond b Equal Greater) ≡ (b && false)) [ true ↦ refl | false ↦ refl ]
    ]

eq-last : (m n : ℕ) → is_eq (nat_cmp m n) ≡ ((m == n) && true)
eq-last m n = eq-nat_cmp m n ∙ elim (m == n) as (λ b. b ≡ (b && true)) [ true ↦ refl | false ↦ refl ]

-- ---- a number before others

lt-then : (m n : ℕ) (o : Ordering) (b : Bool) → is_lt o ≡ b → is_lt (ordering_then (nat_cmp m n) o) ≡ (nat_lt m n || ((m == n) && b))
lt-then m n o b h =
    elim (nat_lt m n) as (λ l. is_lt (ordering_then (cond l Less (cond (m == n) Equal Greater)) o) ≡ (l || ((m == n) && b))) [
      | true ↦ refl
      | false ↦ elim (m == n) as (λ e. is_lt (ordering_then (cond e Equal Greater) o) ≡ (e && b)) [ true ↦ h | false ↦ refl ]
    ]

is_eq-ordering_then : (o p : Ordering) (x y : Bool) → is_eq o ≡ x → is_eq p ≡ y → is_eq (ordering_then o p) ≡ (x && y)
is_eq-ordering_then Less p x y e f = ap (λ b. b && y) e
is_eq-ordering_then Equal p x y e f = f ∙ ap (λ b. b && y) e
is_eq-ordering_then Greater p x y e f = ap (λ b. b && y) e

eq-then : (m n : ℕ) (o : Ordering) (b : Bool) → is_eq o ≡ b → is_eq (ordering_then (nat_cmp m n) o) ≡ ((m == n) && b)
eq-then m n o b h = is_eq-ordering_then (nat_cmp m n) o (m == n) b (eq-nat_cmp m n) h

-- ---- keys

-- whether the first comes before the second, and whether both are the same
abbrev Tells : Ordering → Bool → Bool → Type 0
Tells o before same = (is_lt o ≡ before) × (is_eq o ≡ same)

last : (m n : ℕ) → Tells (nat_cmp m n) (nat_lt m n || ((m == n) && false)) ((m == n) && true)
last m n = (lt-nat_cmp m n, eq-last m n)

front : (m n : ℕ) (o : Ordering) (b s : Bool) → Tells o b s → Tells (ordering_then (nat_cmp m n) o) (nat_lt m n || ((m == n) && b)) ((m == n) && s)
front m n o b s h = (lt-then m n o b h.0, eq-then m n o s h.1)

of_site : (x y : Site) (o : Ordering) (b s : Bool) → Tells o b s
    → Tells (ordering_then (nat_cmp x.state y.state) (ordering_then (nat_cmp x.county y.county) (ordering_then (nat_cmp x.number y.number) o))) (nat_lt x.state y.state || ((x.state == y.state) && (nat_lt x.county y.county || ((x.county == y.county) && (nat_lt x.number y.number || ((x.number == y.number) && b)))))) ((x.state == y.state) && ((x.county == y.county) && ((x.number == y.number) && s)))
of_site x y o b s h = front x.state y.state _ _ _ (front x.county y.county _ _ _ (front x.number y.number o b s h))

of_parameter : (p q : Pollutant) (o : Ordering) (b s : Bool) → Tells o b s → Tells (ordering_then (nat_cmp (parameter_number p) (parameter_number q)) o) (nat_lt (parameter_number p) (parameter_number q) || ((parameter_number p == parameter_number q) && b)) ((parameter_number p == parameter_number q) && s)
of_parameter p q = front (parameter_number p) (parameter_number q)

-- the order of places is the one by which rows rise, and two keys are the same if neither comes first
places : (a b : OfficeKey) → Tells (place_cmp (place_of a) (place_of b)) (comes_before (key_numbers a) (key_numbers b)) (is_same (key_numbers a) (key_numbers b))
places (Monitor i) (Monitor j) = of_site i.site j.site _ _ _ (of_parameter i.pollutant j.pollutant _ _ _ (last i.poc j.poc))
places (Primary s p d) (Primary t q e) = of_site s t _ _ _ (of_parameter p q _ _ _ (last d e))
places (Schedule s p d) (Schedule t q e) = of_site s t _ _ _ (of_parameter p q _ _ _ (last d e))
places (Season s d) (Season t e) = of_site s t _ _ _ (last d e)
places (Makeup s d) (Makeup t e) = of_site s t _ _ _ (last d e)
places (Event d) (Event e) = last d e
places (Concurrence d) (Concurrence e) = last d e
places (Approved s d) (Approved t e) = of_site s t _ _ _ (last d e)
places (Combined s p) (Combined t q) = of_site s t _ _ _ (of_parameter p q (nat_cmp 0 0) false true (refl, refl))
places a b = (refl, refl)

pub before-places : (a b : OfficeKey) → is_lt (place_cmp (place_of a) (place_of b)) ≡ comes_before (key_numbers a) (key_numbers b)
before-places a b = (places a b).0

pub same-places : (a b : OfficeKey) → is_eq (place_cmp (place_of a) (place_of b)) ≡ is_same (key_numbers a) (key_numbers b)
same-places a b = (places a b).1

-- ---- places that compare alike are one

pub first_of_both : (a b : Bool) → (a && b) ≡ true → a ≡ true
first_of_both true b h = refl
first_of_both false b h = absurd (false≢true h)

pub second_of_both : (a b : Bool) → (a && b) ≡ true → b ≡ true
second_of_both true b h = h
second_of_both false b h = absurd (false≢true h)

pub exact_places : (a b : Place) → is_eq (place_cmp a b) ≡ true → a ≡ b
exact_places a b h =
    let all : ((a.kind == b.kind) && ((a.state == b.state) && ((a.county == b.county) && ((a.number == b.number) && ((a.parameter == b.parameter) && (a.part == b.part)))))) ≡ true =
    sym (eq-then a.kind b.kind _ _ (eq-then a.state b.state _ _ (eq-then a.county b.county _ _ (eq-then a.number b.number _ _ (eq-then a.parameter b.parameter _ _ (eq-nat_cmp a.part b.part)))))) ∙ h
    in
    let h2 = second_of_both (a.kind == b.kind) _ all in
    let h3 = second_of_both (a.state == b.state) _ h2 in
    let h4 = second_of_both (a.county == b.county) _ h3 in
    let h5 = second_of_both (a.number == b.number) _ h4 in
    let kind = eqb-true a.kind b.kind (first_of_both (a.kind == b.kind) _ all) in
    let state = eqb-true a.state b.state (first_of_both (a.state == b.state) _ h2) in
    let county = eqb-true a.county b.county (first_of_both (a.county == b.county) _ h3) in
    let number = eqb-true a.number b.number (first_of_both (a.number == b.number) _ h4) in
    let parameter = eqb-true a.parameter b.parameter (first_of_both (a.parameter == b.parameter) _ h5) in
    let part = eqb-true a.part b.part (second_of_both (a.parameter == b.parameter) _ h5) in
    λ i. record { kind = kind i; state = state i; county = county i; number = number i; parameter = parameter i; part = part i }
