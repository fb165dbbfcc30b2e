-- Tests on a site and a number, and the keys of what is kept of them.
use Rattle.std.proofs.Common.{◌≡◌, ℕ, ◌+◌, ◌<◌, ◌≤◌, Bool, true, false, cond, ◌&&◌, refl, sym, ap, ◌∙◌, arith}
use Rattle.std.specs.Prelude.{◌==◌, nat_le, nat_lt}
use Rattle.std.specs.Ordering.{nat_cmp, ordering_then, is_eq}
use Rattle.std.specs.declared.cmp.Ordering.{Ordering}
use Rattle.std.specs.declared.cmp.Ordering.TheVariants.{Less, Equal, Greater}
use Rattle.std.proofs.lemmas.Bool.{and_parts}
use Rattle.std.proofs.lemmas.Bool.Decides.{nat_tests}
use Rattle.aq_base.specs.Site.{Site}
use Rattle.aq_rules.specs.Office.Monitors.{is_same_site}
use Rattle.aq_rules.specs.Office.Sameness.{same_site, site_itself}
use Rattle.aq_ozone_cells.specs.OzoneCells.{is_among}
use Rattle.aq_ozone_cells.specs.SiteKeys.{key_cmp, site_key}

-- two tests that hold name one number of one site
pub named : (site other : Site) (number n : ℕ) → (is_same_site site other && (number == n)) ≡ true → (site ≡ other) × (number ≡ n)
named site other number n is =
    let parts = and_parts (is_same_site site other) (number == n) is in
    let numbers : number ≡ n = grind (arith, nat_tests, parts.1) in
    (same_site site other parts.0, numbers)

pub itself : (site : Site) (number n : ℕ) → number ≡ n → (is_same_site site site && (n == number)) ≡ true
itself site number n is = let on : (n == number) ≡ true = grind (arith, nat_tests, is) in λ i. site_itself site i && on i

pub among : (first count number : ℕ) → first ≤ number → number < first + count → is_among first count number ≡ true
among first count number low high =
    let one : nat_le first number ≡ true = grind (arith, nat_tests) in
    let two : nat_lt number (first + count) ≡ true = grind (arith, nat_tests) in
    λ i. one i && two i

pub never : (b : Bool) → (b && false) ≡ false
never true = refl
never false = refl

-- what stands at a number of a site, if it is what stood there
pub same-there : {X : Type 0} (f : Site → ℕ → X) (site other : Site) (number n : ℕ) (kept : Bool) (new : X) → f site number ≡ new
    → f other n ≡ cond (is_same_site site other && (number == n) && kept) new (f other n)
same-there f site other number n kept new is = by (is_same_site site other && (number == n)) kept refl
  where
    by : (b k : Bool) → (is_same_site site other && (number == n)) ≡ b → f other n ≡ cond (b && k) new (f other n)
    by true true both = let same = named site other number n both in (λ i. f (sym same.0 i) (sym same.1 i)) ∙ is
    by true false both = refl
    by false k both = refl

-- what is given to a number, if it is the one that is named
pub one-number : {X : Type 0} (site other : Site) (number n : ℕ) (f : ℕ → X) (old : X)
    → cond (is_same_site site other && (number == n)) (f number) old ≡ cond (is_same_site site other && (number == n)) (f n) old
one-number site other number n f old = by (is_same_site site other && (number == n)) refl
  where
    by : (b : Bool) → (is_same_site site other && (number == n)) ≡ b → cond b (f number) old ≡ cond b (f n) old
    by true both = ap f (named site other number n both).1
    by false both = refl

-- ---- keys

eq-then : (a b : Ordering) → is_eq (ordering_then a b) ≡ (is_eq a && is_eq b)
eq-then Less b = refl
eq-then Equal b = refl
eq-then Greater b = refl

eq-nat : (x y : ℕ) → is_eq (nat_cmp x y) ≡ (x == y)
eq-nat x y = grind (arith, nat_tests)

and-assoc4 : (a b c d : Bool) → (a && (b && (c && d))) ≡ (a && b && c && d)
and-assoc4 true true true d = refl
and-assoc4 true true false d = refl
and-assoc4 true false c d = refl
and-assoc4 false b c d = refl

pub same-key : (a b : Site) (m n : ℕ) → is_eq (key_cmp (site_key a m) (site_key b n)) ≡ (is_same_site a b && (m == n))
same-key a b m n =
    eq-then (nat_cmp a.state b.state) _ ∙ ap (λ t. is_eq (nat_cmp a.state b.state) && t) (eq-then (nat_cmp a.county b.county) _ ∙ ap (λ t. is_eq (nat_cmp a.county b.county) && t) (eq-then (nat_cmp a.number b.number) _))
    ∙ (λ i. eq-nat a.state b.state i && (eq-nat a.county b.county i && (eq-nat a.number b.number i && eq-nat m n i)))
    ∙ and-assoc4 (a.state == b.state) (a.county == b.county) (a.number == b.number) (m == n)
