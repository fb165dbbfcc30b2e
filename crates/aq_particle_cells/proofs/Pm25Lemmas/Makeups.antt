-- The make-up record of a missed day and of its make-up day is one record of a valid office.
use Rattle.std.proofs.Common.{◌≡◌, ℕ, suc, ◌+◌, ◌≤◌, Bool, true, false, cond, ◌&&◌, List, [], ◌∷◌, length, refl, ap, sym, ◌∙◌, arith}
use Rattle.std.specs.Prelude.{◌==◌, Some, None, count_by, filter_map, slice_get}
use Rattle.std.specs.List.{cons_option}
use Rattle.std.proofs.lemmas.Bool.{false≢true}
use Rattle.std.proofs.lemmas.Bool.Decides.{nat_tests}
use Rattle.std.proofs.lemmas.List.Sums.{sum_by-cons}
use Rattle.aq_base.specs.Calendar.{days_in_quarter, quarter_first}
use Rattle.aq_base.specs.Site.{Site}
use Rattle.aq_base.specs.declared.office.OfficeRecord.{OfficeRecord}
use Rattle.aq_base.specs.declared.office.OfficeRecord.TheVariants.{Makeup}
use Rattle.aq_particles.proofs.Pm25Lemmas.MakeupDays.{one_makeup}
use Rattle.aq_cal.proofs.Within.{quarter_holds}
use Rattle.aq_rules.specs.Office.Monitors.{is_same_site}
use Rattle.aq_rules.specs.Office.Office.{IsOffice, makes_up_on}
use Rattle.aq_rules.specs.Office.Questions.{makeup_for, makeup_of, missed_for, missed_of}
use Rattle.aq_registry.specs.Registry.{office_with}

module _ (site : Site) (missed makeup : ℕ) where
  abbrev given : List OfficeRecord → List ℕ
  given rows = filter_map (missed_for site makeup) rows

  -- as many records name the make-up day as give a missed one
  tests : (a b c d : Bool) → ((a && (b && (c && true))) && d) ≡ ((a && b && c) && d)
  tests true true true d = refl
  tests true true false d = refl
  tests true false c d = refl
  tests false b c d = refl

  given-many : (rows : List OfficeRecord) → length (given rows) ≡ count_by (makes_up_on site makeup) rows
  given-many [] = refl
  given-many (Makeup other m k ∷ rows) =
      by (is_same_site other site && (k == makeup)) (given-many rows) ∙ ap (λ b. cond b 1 0 + count_by (makes_up_on site makeup) rows) (sym (tests (other.state == site.state) (other.county == site.county) (other.number == site.number) (k == makeup)))
      ∙ sym (sum_by-cons (λ (r : OfficeRecord). cond (makes_up_on site makeup r) 1 0) (Makeup other m k) rows)
    where
      by : (b : Bool) → length (given rows) ≡ count_by (makes_up_on site makeup) rows → length (cons_option (cond b (Some m) None) (given rows)) ≡ cond b 1 0 + count_by (makes_up_on site makeup) rows
      by true rest = omega (arith, rest)
      by false rest = omega (arith, rest)
  given-many (r ∷ rows) =
      let more : count_by (makes_up_on site makeup) (r ∷ rows) ≡ 0 + count_by (makes_up_on site makeup) rows = sum_by-cons (λ (s : OfficeRecord). cond (makes_up_on site makeup s) 1 0) r rows in
      omega (arith, given-many rows, more)

  -- the first of one is it
  only : (rows : List ℕ) → length (missed ∷ rows) ≤ 1 → slice_get (missed ∷ rows) 0 ≡ Some missed
  only rows few = refl

  -- a record of the missed day that names the make-up day is among them
  found : (rows : List OfficeRecord) → slice_get (filter_map (makeup_for site missed) rows) 0 ≡ Some makeup → length (given rows) ≤ 1 → slice_get (given rows) 0 ≡ Some missed
  found [] is few = cc
  found (Makeup other m k ∷ rows) is few = by (is_same_site other site) (m == missed) (k == makeup) refl refl refl (found rows) is few
    where
      by : (s q r : Bool) → is_same_site other site ≡ s → (m == missed) ≡ q → (k == makeup) ≡ r
          → (slice_get (filter_map (makeup_for site missed) rows) 0 ≡ Some makeup → length (given rows) ≤ 1 → slice_get (given rows) 0 ≡ Some missed)
          → slice_get (cons_option (cond (s && q) (Some k) None) (filter_map (makeup_for site missed) rows)) 0 ≡ Some makeup
          → length (cons_option (cond (s && r) (Some m) None) (given rows)) ≤ 1
          → slice_get (cons_option (cond (s && r) (Some m) None) (given rows)) 0 ≡ Some missed
      by false q r si qi ri again is few = again is few
      by true true true si qi ri again is few = let same : m ≡ missed = grind (arith, nat_tests, qi) in ap (λ n. Some n) same
      by true true false si qi ri again is few =
          let same : k ≡ makeup = cc in
          let on : (k == makeup) ≡ true = grind (arith, nat_tests, same) in
          absurd (false≢true (sym ri ∙ on))
      by true false true si qi ri again is few = absurd (many (again is (omega (arith, few))) few)
        where
          many : slice_get (given rows) 0 ≡ Some missed → suc (length (given rows)) ≤ 1 → ⊥
          many first few = none (given rows) first few
            where
              none : (xs : List ℕ) → slice_get xs 0 ≡ Some missed → suc (length xs) ≤ 1 → ⊥
              none [] first few = cc
              none (x ∷ xs) first few = omega (arith, few)
      by true false false si qi ri again is few = again is few
  found (r ∷ rows) is few = found rows is few

-- so a missed day whose sample is made up on a day is the one for which that day's sample makes up
pub missed-of_makeup : (records : List OfficeRecord) (site : Site) (missed makeup : ℕ) → IsOffice (office_with records)
    → makeup_of records site missed ≡ Some makeup → missed_of records site makeup ≡ Some missed
unfolding makeup_of missed_of
missed-of_makeup records site missed makeup valid is =
    let one = one_makeup records site 0 (quarter_first 0) (days_in_quarter 0) valid (quarter_holds 0) makeup in
    found site missed makeup records is (omega (arith, one, given-many site missed makeup records))
