-- The keys of days, quarters and years of sites, and what a map has under them after a change.
use Rattle.std.proofs.Common.{◌≡◌, ◌≢◌, ℕ, ◌+◌, Bool, true, false, cond, ◌&&◌, List, refl, ap, sym, ◌∙◌, arith}
use Rattle.std.specs.Prelude.{◌==◌, nat_le, nat_lt, Option, Some, unwrap_or}
use Rattle.std.specs.BTreeMap.{is_at}
use Rattle.std.specs.Map.{lookup}
use Rattle.std.specs.Ordering.{nat_cmp, is_eq}
use Rattle.std.specs.declared.cmp.Ordering.TheVariants.{Equal}
use Rattle.std.proofs.lemmas.Bool.Decides.{nat_tests}
use Rattle.std.proofs.lemmas.Bool.{false≢true, and_parts}
use Rattle.aq_base.specs.Site.{Site}
use Rattle.aq_particle_cells.proofs.DaysLemmas.Keys.{and-assoc4, eq-nat, eq-then}
use Rattle.aq_rules.specs.Office.Monitors.{is_same_site}
use Rattle.aq_rules.specs.Office.Sameness.{same_site, site_itself}
use Rattle.aq_particle_cells.specs.Days.SiteTimes.{found_at, site_time, time_cmp}
use Rattle.aq_particle_cells.specs.declared.days.site_time.SiteTime.{SiteTime}

pub same-time : (a b : Site) (m n : ℕ) → is_eq (time_cmp (site_time a m) (site_time b n)) ≡ (is_same_site a b && (m == n))
same-time a b m n =
    eq-then (nat_cmp a.state b.state) _ ∙ ap (λ t. is_eq (nat_cmp a.state b.state) && t) (eq-then (nat_cmp a.county b.county) _ ∙ ap (λ t. is_eq (nat_cmp a.county b.county) && t) (eq-then (nat_cmp a.number b.number) _))
    ∙ (λ i. eq-nat a.state b.state i && (eq-nat a.county b.county i && (eq-nat a.number b.number i && eq-nat m n i)))
    ∙ and-assoc4 (a.state == b.state) (a.county == b.county) (a.number == b.number) (m == n)

turned : (x y : ℕ) → (x == y) ≡ (y == x)
turned x y = grind (arith, nat_tests)

pub apart : (site other : Site) (time number : ℕ) → (is_same_site site other && (time == number)) ≡ false → time_cmp (site_time other number) (site_time site time) ≢ Equal
apart site other time number differ same =
    let one : (is_same_site other site && (number == time)) ≡ true = sym (same-time other site number time) ∙ ap is_eq same in
    let two : (is_same_site site other && (time == number)) ≡ (is_same_site other site && (number == time))
    = λ i. turned site.state other.state i && turned site.county other.county i && turned site.number other.number i && turned time number i in
    false≢true (sym differ ∙ two ∙ one)

-- two tests that hold name one number of one site
pub named : (site other : Site) (number n : ℕ) → (is_same_site site other && (number == n)) ≡ true → (site ≡ other) × (number ≡ n)
named site other number n is =
    let parts = and_parts (is_same_site site other) (number == n) is in
    let numbers : number ≡ n = grind (arith, nat_tests, parts.1) in
    (same_site site other parts.0, numbers)

pub itself : (site : Site) (number : ℕ) → (is_same_site site site && (number == number)) ≡ true
itself site number = let on : (number == number) ≡ true = grind (arith, nat_tests) in λ i. site_itself site i && on i

pub other-number : (site other : Site) (number n : ℕ) → number ≢ n → (is_same_site site other && (number == n)) ≡ false
other-number site other number n differ =
    let off : (number == n) ≡ false = grind (arith, nat_tests, differ) in
    ap (λ b. is_same_site site other && b) off ∙ never (is_same_site site other)
  where
    never : (b : Bool) → (b && false) ≡ false
    never true = refl
    never false = refl

module _ {D : Type 0} where
  -- what is found under every key, if one has something else
  abbrev pub Changes : List (SiteTime × D) → List (SiteTime × D) → Option D → SiteTime → Type 0
  Changes es fs now key = (q : SiteTime) → lookup (is_at (time_cmp q)) fs ≡ cond (is_at (time_cmp key) q) now (lookup (is_at (time_cmp q)) es)

  pub found-put : (site : Site) (time : ℕ) (now : Option D) (es fs : List (SiteTime × D)) → Changes es fs now (site_time site time)
      → (other : Site) (number : ℕ) → found_at fs other number ≡ cond (is_same_site site other && (time == number)) now (found_at es other number)
  found-put site time now es fs updates other number =
      updates (site_time other number) ∙ ap (λ b. cond b now (found_at es other number)) (same-time site other time number)

  pub or-other : (b : Bool) (now : D) (found : Option D) (none : D) → unwrap_or (cond b (Some now) found) none ≡ cond b now (unwrap_or found none)
  or-other true now found none = refl
  or-other false now found none = refl

-- ---- what is given for every site and number, once one number has something else

-- whether a number is one of so many from the first on
abbrev pub is_among : ℕ → ℕ → ℕ → Bool
is_among first count number = nat_le first number && nat_lt number (first + count)

none-among : (p : Bool) (first number : ℕ) → (p && is_among first 0 number) ≡ false
none-among true first number = grind (arith, nat_tests)
none-among false first number = refl

module _ {X : Type 0} where
  -- what was there already
  pub put-same : (f : Site → ℕ → X) (site : Site) (number : ℕ) (now : X) → now ≡ f site number
      → (other : Site) (n : ℕ) → f other n ≡ cond (is_same_site site other && (number == n)) now (f other n)
  put-same f site number now is other n = by (is_same_site site other && (number == n)) refl
    where
      by : (b : Bool) → (is_same_site site other && (number == n)) ≡ b → f other n ≡ cond b now (f other n)
      by true both = let same = named site other number n both in sym (is ∙ (λ i. f (same.0 i) (same.1 i)))
      by false both = refl

  -- one more number
  pub one-more : (p : Bool) (first count number day : ℕ) (new : ℕ → X) (old : X) → first + count ≡ day
      → cond (p && (day == number)) (new day) (cond (p && is_among first count number) (new number) old)
      ≡ cond (p && is_among first (count + 1) number) (new number) old
  one-more false first count number day new old at = refl
  one-more true first count number day new old at = by (day == number) refl
    where
      by : (q : Bool) → (day == number) ≡ q
          → cond q (new day) (cond (is_among first count number) (new number) old) ≡ cond (is_among first (count + 1) number) (new number) old
      by true is =
          let same : day ≡ number = grind (arith, nat_tests) in
          let among : is_among first (count + 1) number ≡ true = grind (arith, nat_tests, at, same) in
          ap new same ∙ ap (λ b. cond b (new number) old) (sym among)
      by false is =
          let same : is_among first count number ≡ is_among first (count + 1) number = grind (arith, nat_tests, at, is) in
          ap (λ b. cond b (new number) old) same

  -- no number yet
  pub none-yet : (p : Bool) (first number : ℕ) (new old : X) → old ≡ cond (p && is_among first 0 number) new old
  none-yet p first number new old = ap (λ b. cond b new old) (sym (none-among p first number))
