-- The strata of days that follow one another: one day more adds the stratum that it begins, if it begins one.
use Rattle.std.proofs.Common.{◌≡◌, ℕ, zero, suc, ◌+◌, ◌-◌, ◌≤◌, inl, inr, Bool, true, false, cond, ◌&&◌, ◌||◌, ◌==◌, List, Option, Some, None, refl, ap, sym, ◌∙◌, arith}
use Rattle.std.specs.Prelude.{nat_le}
use Rattle.std.specs.List.{list_any, range_with_len}
use Rattle.std.specs.Option.{option_map_or}
use Rattle.std.proofs.lemmas.Bool.{and_parts, eqb-true, false≢true}
use Rattle.std.proofs.lemmas.Bool.Decides.{nat_tests}
use Rattle.aq_base.specs.Site.{Site}
use Rattle.aq_base.specs.declared.day.TheConstants.{LAST_DAY}
use Rattle.aq_base.specs.declared.office.OfficeRecord.{OfficeRecord}
use Rattle.aq_rules.specs.Office.Monitors.{is_same_site}
use Rattle.aq_rules.specs.Particles.Strata.{stratum_by}
use Rattle.aq_dirty.specs.ParticleReach.{begins_stratum, covers_stratum, holds_one, is_in_stratum}
use Rattle.aq_dirty.specs.Reach.{span_of}
use Rattle.aq_dirty.specs.Spans.{covers}
use Rattle.aq_dirty.proofs.Along.{any-last}
use Rattle.aq_dirty.proofs.Bounds.{or_cases}
use Rattle.aq_dirty.proofs.StratumStarts.{first-low, next-found}

one_number : (s : Bool) (n start : ℕ) → (s && nat_le start n && nat_le n start) ≡ (s && (n == start))
one_number true n start = grind (arith, nat_tests)
one_number false n start = refl

added : (old s l e : Bool) → ((old || (s && l)) || (s && e)) ≡ (old || (s && (l || e)))
added true s l e = refl
added false true l e = refl
added false false l e = refl

stays : (old s l e : Bool) → ((old || (s && (l || e))) || false) ≡ (old || (s && ((l || e) || e)))
stays true s l e = refl
stays false true true e = refl
stays false true false true = refl
stays false true false false = refl
stays false false l e = refl

or_none : (b : Bool) → (b || false) ≡ b
or_none true = refl
or_none false = refl

module _ (records : List OfficeRecord) (site : Site) (first : ℕ) where
  -- a day whose stratum is known lies in that one
  in_own : (day start n : ℕ) → stratum_by records site day ≡ Some start → is_in_stratum records site n day ≡ (n == start)
  in_own day start n is = ap (λ (o : Option ℕ). option_map_or (λ f. n == f) o false) is

  pub first-held : (start : ℕ) (old : Bool) (other : Site) (n : ℕ) → stratum_by records site first ≡ Some start
      → (old || covers other n (span_of site start start)) ≡ (old || covers_stratum records site first first other n)
  unfolding holds_one
  first-held start old other n is =
      let count : 1 ≡ first + 1 - first = omega arith in
      ap (λ b. old || b)
      (one_number (is_same_site site other) n start
      ∙ ap (λ b. is_same_site site other && b)
      (sym (in_own first start n is) ∙ sym (or_none (is_in_stratum records site n first)) ∙ ap (λ m. list_any (is_in_stratum records site n) (range_with_len first m)) count))

  module _ (day start n : ℕ) (low : first ≤ day) (is : stratum_by records site day ≡ Some start) where
    held-last : holds_one records site first day n ≡ (list_any (is_in_stratum records site n) (range_with_len first (day - first)) || (n == start))
    unfolding holds_one
    held-last =
        let count : day + 1 - first ≡ day - first + 1 = omega (arith, low) in
        let at : first + (day - first) ≡ day = omega (arith, low) in
        ap (λ m. list_any (is_in_stratum records site n) (range_with_len first m)) count
        ∙ any-last (is_in_stratum records site n) first (day - first)
        ∙ ap (λ d. list_any (is_in_stratum records site n) (range_with_len first (day - first)) || is_in_stratum records site n d) at
        ∙ ap (λ b. list_any (is_in_stratum records site n) (range_with_len first (day - first)) || b) (in_own day start n is)

    held-next : (next : ℕ) → stratum_by records site (day + 1) ≡ Some next → holds_one records site first (day + 1) n ≡ (holds_one records site first day n || (n == next))
    unfolding holds_one
    held-next next is_next =
        let count : day + 1 + 1 - first ≡ day + 1 - first + 1 = omega (arith, low) in
        let at : first + (day + 1 - first) ≡ day + 1 = omega (arith, low) in
        ap (λ m. list_any (is_in_stratum records site n) (range_with_len first m)) count
        ∙ any-last (is_in_stratum records site n) first (day + 1 - first)
        ∙ ap (λ d. list_any (is_in_stratum records site n) (range_with_len first (day + 1 - first)) || is_in_stratum records site n d) at
        ∙ ap (λ b. list_any (is_in_stratum records site n) (range_with_len first (day + 1 - first)) || b) (in_own (day + 1) next n is_next)

    pub next-held : (within : day + 1 ≤ LAST_DAY) (old : Bool) (other : Site)
        → ((old || covers_stratum records site first day other n) || (begins_stratum records site start (day + 1) && covers other n (span_of site (day + 1) (day + 1))))
        ≡ (old || covers_stratum records site first (day + 1) other n)
    next-held within old other = by (begins_stratum records site start (day + 1)) (next-found records site day start within is)
      where
        by : (b : Bool) → stratum_by records site (day + 1) ≡ Some (cond b (day + 1) start)
            → ((old || covers_stratum records site first day other n) || (b && covers other n (span_of site (day + 1) (day + 1)))) ≡ (old || covers_stratum records site first (day + 1) other n)
        by true begun =
            ap (λ c. (old || (is_same_site site other && holds_one records site first day n)) || c) (one_number (is_same_site site other) n (day + 1))
            ∙ added old (is_same_site site other) (holds_one records site first day n) (n == day + 1)
            ∙ ap (λ c. old || (is_same_site site other && c)) (sym (held-next (day + 1) begun))
        by false goes_on =
            let before : Bool = list_any (is_in_stratum records site n) (range_with_len first (day - first)) in
            ap (λ c. (old || (is_same_site site other && c)) || false) held-last
            ∙ stays old (is_same_site site other) before (n == start)
            ∙ ap (λ c. old || (is_same_site site other && (c || (n == start)))) (sym held-last)
            ∙ ap (λ c. old || (is_same_site site other && c)) (sym (held-next start goes_on))

-- ---- strata are named by days of the profile

any-low : (f : ℕ → Bool) (n top a k : ℕ) → a + k ≤ top + 1 → ((d : ℕ) → d ≤ top → f d ≡ true → n ≤ top) → list_any f (range_with_len a k) ≡ true → n ≤ top
any-low f n top a zero end low any = absurd (false≢true any)
any-low f n top a (suc k) end low any =
    elim (or_cases (f a) (list_any f (range_with_len (a + 1) k)) any) [
      | inl here ↦ low a (omega (arith, end)) here
      | inr there ↦ any-low f n top (a + 1) k (omega (arith, end)) low there
    ]

in_stratum-low : (records : List OfficeRecord) (site : Site) (n day : ℕ) → day ≤ LAST_DAY → is_in_stratum records site n day ≡ true → n ≤ LAST_DAY
in_stratum-low records site n day within is_in = by (stratum_by records site day) refl is_in
  where
    by : (o : Option ℕ) → stratum_by records site day ≡ o → option_map_or (λ f. n == f) o false ≡ true → n ≤ LAST_DAY
    by None is off = absurd (false≢true off)
    by (Some f) is on = let same = eqb-true n f on in let low = first-low records site day f within is in omega (arith, same, low, within)

pub strata-low : (records : List OfficeRecord) (site : Site) (first last : ℕ) → first ≤ last → last ≤ LAST_DAY → (other : Site) (n : ℕ) → covers_stratum records site first last other n ≡ true → n ≤ LAST_DAY
unfolding holds_one
strata-low records site first last some end other n held =
    any-low (is_in_stratum records site n) n LAST_DAY first (last + 1 - first) (omega (arith, some, end)) (λ d within is_in. in_stratum-low records site n d within is_in)
    (and_parts (is_same_site site other) (holds_one records site first last n) held).1
