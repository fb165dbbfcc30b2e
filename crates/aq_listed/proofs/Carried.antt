-- One mark for each code by which an observation asks for an exclusion.
use Rattle.std.proofs.Common.{◌≡◌, ◌+◌, ℕ, Bool, true, false, not, ◌&&◌, List, [], ◌∷◌, ◌++◌, cond, count_by, refl, ap, sym, ◌∙◌, arith}
use Rattle.std.specs.Prelude.{◌||◌, flat_map}
use Rattle.std.proofs.lemmas.Bool.{false≢true}
use Rattle.std.proofs.lemmas.Bool.Decides.{nat_tests}
use Rattle.aq_base.specs.Quals.{all_distinct, has_code, is_same_code}
use Rattle.aq_base.specs.declared.code.Code.{Code}
use Rattle.aq_base.specs.declared.monitor.Pollutant.{Pollutant}
use Rattle.aq_base.specs.declared.observation.ObsKey.{ObsKey}
use Rattle.aq_rules.specs.Office.Exclusion.{asks_exclusion, is_flagged}
use Rattle.aq_base.specs.Site.{Site}
use Rattle.aq_rules.specs.Office.Monitors.{is_same_pollutant, is_same_site}
use Rattle.aq_listed.specs.Marks.{is_marked, marks_at, AddsMarks}
use Rattle.aq_listed.specs.declared.marks.Mark.{Mark}
use Rattle.aq_listed.proofs.Counted.{count-append, count-cons}

pub same-code : (c d : Code) → is_same_code c d ≡ true → c ≡ d
same-code c d h =
    let first : c.first ≡ d.first = grind (arith, nat_tests) in
    let second : c.second ≡ d.second = grind (arith, nat_tests) in
    λ i. record { first = first i; second = second i }

and-last : (a b : Bool) → (a && b) ≡ true → b ≡ true
and-last true b h = h
and-last false b h = absurd (false≢true h)

-- what one more code at the front of codes adds to whether they flag another one
module _ (p t : Bool) (code other : Code) (rest : List Code) (distinct : all_distinct (other ∷ rest) ≡ true) where
  -- b: whether the two codes are the same
  asked : asks_exclusion other ≡ true → (b : Bool) → is_same_code other code ≡ b
      → cond (p && b && t) 1 0 + cond (p && (asks_exclusion code && has_code code rest) && t) 1 0 ≡ cond (p && (asks_exclusion code && (b || has_code code rest)) && t) 1 0
  asked asks true same =
      let is = same-code other code same in
      let absent : has_code code rest ≡ false = ap (λ c. has_code c rest) (sym is) ∙ apart (has_code other rest) (all_distinct rest) distinct in
      let asks_too : asks_exclusion code ≡ true = ap asks_exclusion (sym is) ∙ asks in
      ap (λ h. cond (p && true && t) 1 0 + cond (p && (asks_exclusion code && h) && t) 1 0) absent
      ∙ ap (λ a. cond (p && true && t) 1 0 + cond (p && (a && false) && t) 1 0) asks_too
      ∙ none p t
      ∙ ap (λ a. cond (p && (a && (true || has_code code rest)) && t) 1 0) (sym asks_too)
    where
      apart : (h d : Bool) → (not h && d) ≡ true → h ≡ false
      apart false d e = refl
      apart true d e = absurd (false≢true e)

      none : (p t : Bool) → cond (p && true && t) 1 0 + cond (p && (true && false) && t) 1 0 ≡ cond (p && (true && true) && t) 1 0
      none true true = refl
      none true false = refl
      none false t = refl
  asked asks false other_code = first_only p t (asks_exclusion code && has_code code rest)
    where
      nothing : (n : ℕ) → 0 + n ≡ n
      nothing n = omega arith

      first_only : (p t f : Bool) → cond (p && false && t) 1 0 + cond (p && f && t) 1 0 ≡ cond (p && f && t) 1 0
      first_only true t f = nothing (cond (true && f && t) 1 0)
      first_only false t f = refl

  unasked : asks_exclusion other ≡ false → (b : Bool) → is_same_code other code ≡ b
      → (asks_exclusion code && has_code code rest) ≡ (asks_exclusion code && (b || has_code code rest))
  unasked asks true same =
      let asks_not : asks_exclusion code ≡ false = ap asks_exclusion (sym (same-code other code same)) ∙ asks in
      ap (λ a. a && has_code code rest) asks_not ∙ sym (ap (λ a. a && (true || has_code code rest)) asks_not)
  unasked asks false same = refl

  pub one-asked : asks_exclusion other ≡ true
      → cond (p && is_same_code other code && t) 1 0 + cond (p && is_flagged code rest && t) 1 0 ≡ cond (p && is_flagged code (other ∷ rest) && t) 1 0
  one-asked asks = asked asks (is_same_code other code) refl

  pub none-asked : asks_exclusion other ≡ false → is_flagged code rest ≡ is_flagged code (other ∷ rest)
  none-asked asks = unasked asks (is_same_code other code) refl

-- ---- the marks of an observation's codes

module _ (key : ObsKey) (pollutant : Pollutant) (code : Code) (test : ℕ → Bool) where
  no_codes : (p a t : Bool) (n : ℕ) → n ≡ 0 → n ≡ cond (p && (a && false) && t) 1 0
  no_codes false a t n none = none
  no_codes true false t n none = none
  no_codes true true t n none = none

  pub count-codes : (carried : List Code) → all_distinct carried ≡ true
      → count_by (is_marked pollutant code test) (flat_map (marks_at key) carried)
      ≡ cond (is_same_pollutant key.monitor.pollutant pollutant && is_flagged code carried && test key.hour) 1 0
  count-codes [] distinct = no_codes (is_same_pollutant key.monitor.pollutant pollutant) (asks_exclusion code) (test key.hour) (count_by (is_marked pollutant code test) []) refl
  count-codes (other ∷ rest) distinct =
      one (asks_exclusion other) refl (count-codes rest (and-last (not (has_code other rest)) (all_distinct rest) distinct))
    where
      marks : Bool → List Mark
      marks b = cond b (record { pollutant = key.monitor.pollutant; code = other; hour = key.hour } ∷ []) [] ++ flat_map (marks_at key) rest

      one : (b : Bool) → asks_exclusion other ≡ b
          → count_by (is_marked pollutant code test) (flat_map (marks_at key) rest) ≡ cond (is_same_pollutant key.monitor.pollutant pollutant && is_flagged code rest && test key.hour) 1 0
          → count_by (is_marked pollutant code test) (flat_map (marks_at key) (other ∷ rest))
          ≡ cond (is_same_pollutant key.monitor.pollutant pollutant && is_flagged code (other ∷ rest) && test key.hour) 1 0
      one true asks before =
          ap (λ b. count_by (is_marked pollutant code test) (marks b)) asks
          ∙ count-cons (is_marked pollutant code test) (record { pollutant = key.monitor.pollutant; code = other; hour = key.hour }) (flat_map (marks_at key) rest)
          ∙ ap (λ n. cond (is_same_pollutant key.monitor.pollutant pollutant && is_same_code other code && test key.hour) 1 0 + n) before
          ∙ one-asked (is_same_pollutant key.monitor.pollutant pollutant) (test key.hour) code other rest distinct asks
      one false asks before =
          ap (λ b. count_by (is_marked pollutant code test) (marks b)) asks
          ∙ before
          ∙ ap (λ f. cond (is_same_pollutant key.monitor.pollutant pollutant && f && test key.hour) 1 0) (none-asked true true code other rest distinct asks)

-- marks with those of an observation of the site
pub adds-codes : (site : Site) (key : ObsKey) (carried quals : List Code) (before after : List Mark) → is_same_site key.monitor.site site ≡ true → all_distinct carried ≡ true → carried ≡ quals
    → after ≡ before ++ flat_map (marks_at key) carried → AddsMarks site key quals before after
adds-codes site key carried quals before after here distinct same added pollutant code test =
    let counted = count-codes key pollutant code test carried distinct in
    ap (count_by (is_marked pollutant code test)) added
    ∙ count-append (is_marked pollutant code test) before (flat_map (marks_at key) carried)
    ∙ ap (λ n. count_by (is_marked pollutant code test) before + n) counted
    ∙ ap (λ cs. count_by (is_marked pollutant code test) before + cond (is_same_pollutant key.monitor.pollutant pollutant && is_flagged code cs && test key.hour) 1 0) same
    ∙ ap (λ s. count_by (is_marked pollutant code test) before + cond (s && (is_same_pollutant key.monitor.pollutant pollutant && is_flagged code quals && test key.hour)) 1 0) (sym here)

-- and of one of another site
pub adds-none : (site : Site) (key : ObsKey) (quals : List Code) (marks : List Mark) → is_same_site key.monitor.site site ≡ false → AddsMarks site key quals marks marks
adds-none site key quals marks elsewhere pollutant code test =
    nothing (count_by (is_marked pollutant code test) marks)
    ∙ ap (λ s. count_by (is_marked pollutant code test) marks + cond (s && (is_same_pollutant key.monitor.pollutant pollutant && is_flagged code quals && test key.hour)) 1 0) (sym elsewhere)
  where
    nothing : (n : ℕ) → n ≡ n + 0
    nothing n = omega arith
