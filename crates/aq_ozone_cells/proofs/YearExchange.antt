-- The tallies of the years are those of the days that are held, once one day is held otherwise.
use Rattle.std.proofs.Common.{◌≡◌, ◌≢◌, ℕ, ◌+◌, ◌%◌, ◌<◌, ◌≤◌, Bool, true, false, cond, ◌&&◌, List, refl, ap, sym, subst, ◌∙◌, arith}
use Rattle.std.specs.Prelude.{Option, ◌==◌, ℤ}
use Rattle.std.specs.BTreeMap.{is_at}
use Rattle.std.specs.Map.{lookup}
use Rattle.std.specs.List.Sorted.{IsPermutation}
use Rattle.std.proofs.lemmas.List.FromFn.{length-range_with_len}
use Rattle.std.proofs.lemmas.Bool.Decides.{nat_tests}
use Rattle.std.proofs.lemmas.Bool.{false≢true}
use Rattle.aq_base.specs.Calendar.{days_in_year, year_first, year_of}
use Rattle.aq_base.specs.Site.{Site}
use Rattle.aq_base.specs.declared.day.TheConstants.{FIRST_YEAR, LAST_DAY}
use Rattle.aq_agg.proofs.Exchanged.{any_order_at}
use Rattle.aq_agg.specs.AnyOrder.{sums-any_order}
use Rattle.aq_agg.specs.Bags.{with_item}
use Rattle.aq_cal.proofs.Within.{year_holds}
use Rattle.aq_rules.specs.Office.Monitors.{is_same_site}
use Rattle.aq_rules.specs.Office.Sameness.{same_site}
use Rattle.aq_rules.specs.Ozone.OzoneYear.{days_of}
use Rattle.aq_ozone_cells.specs.KeptDays.{held_at}
use Rattle.aq_ozone_cells.specs.OzoneCells.{counted_held, maxima_held, AreYears, Cells}
use Rattle.aq_ozone_cells.specs.RankedMaxima.{ranks-any_order, AreRanksOf}
use Rattle.aq_ozone_cells.specs.SiteKeys.{key_cmp, site_key}
use Rattle.aq_ozone_cells.specs.YearTallies.{count_of, maximum_of, AreBags, Exchanges, HasDay, IsCountOf, OthersStay}
use Rattle.aq_ozone_cells.specs.declared.kept_days.HeldDay.{HeldDay}
use Rattle.aq_ozone_cells.specs.declared.year_tallies.YearTallies.{YearTallies}
use Rattle.aq_agg.proofs.ItemsOfDays.{changed, same_items, Changed}
use Rattle.aq_ozone_cells.proofs.SiteNumbers.{itself, never}

any_order : (site : Site) (year : ℕ) (a b c d : List ℤ) (tallies : YearTallies) → IsPermutation a b → IsPermutation c d
    → AreBags site year a c tallies → AreBags site year b d tallies
any_order site year a b c d tallies maxima counted of = record {
  maxima_are = any_order_at key_cmp AreRanksOf ranks-any_order (site_key site year) a b (lookup (is_at (key_cmp (site_key site year))) tallies.maxima) maxima of.maxima_are;
  counted_are = any_order_at key_cmp IsCountOf (λ x y kept moved is. sums-any_order x y kept.sum kept.number moved is) (site_key site year) c d
      (lookup (is_at (key_cmp (site_key site year))) tallies.counted) counted of.counted_are;
}

pub days_few : (year : ℕ) → days_in_year year ≤ 366
days_few year = elim (year % 4 == 0) as (λ b. cond b 366 365 ≤ 366) [ true ↦ omega arith | false ↦ omega arith ]

-- the day that is held is one of those that its year has
pub has-day : (cells : Cells) (tallies : YearTallies) (site : Site) (year day : ℕ) → FIRST_YEAR ≤ year → day ≤ LAST_DAY → year_of day ≡ year
    → AreBags site year (maxima_held cells site year) (counted_held cells site year) tallies → HasDay site year (held_at cells site day) tallies
unfolding days_of
has-day cells tallies site year day low in_profile is_year before =
    let within = (year_holds year day low in_profile).0 is_year in
    let f : ℕ → Option ℤ = λ d. maximum_of (held_at cells site d) in
    let g : ℕ → Option ℤ = λ d. count_of (held_at cells site d) in
    let maxima : Changed f f day (days_of year) = changed f f (year_first year) (days_in_year year) day within.0 within.1 (λ k apart. refl) in
    let counted : Changed g g day (days_of year) = changed g g (year_first year) (days_in_year year) day within.0 within.1 (λ k apart. refl) in
    let many = length-range_with_len (year_first year) (days_in_year year) in
    record {
      maxima = maxima.rest;
      counted = counted.rest;
      bags =
          any_order site year (maxima_held cells site year) (with_item (maximum_of (held_at cells site day)) maxima.rest)
          (counted_held cells site year) (with_item (count_of (held_at cells site day)) counted.rest) tallies maxima.before counted.before before;
      few_maxima = omega (arith, maxima.few, many, days_few year);
      few_counted = omega (arith, counted.few, many, days_few year);
    }

module _ (cells after : Cells) (tallies later : YearTallies) (site : Site) (year day : ℕ) (new : HeldDay)
    (low : FIRST_YEAR ≤ year) (in_profile : day ≤ LAST_DAY) (is_year : year_of day ≡ year)
    (held : (other : Site) (number : ℕ) → held_at after other number ≡ cond (is_same_site site other && (day == number)) new (held_at cells other number))
    (exchanged : Exchanges site year (held_at cells site day) new tallies later) (others : OthersStay site year tallies later) where
  -- a day other than this one is held as before
  elsewhere : (number : ℕ) → number ≢ day → held_at cells site number ≡ held_at after site number
  elsewhere number apart =
      let off : (day == number) ≡ false = grind (arith, nat_tests, apart) in
      sym (held site number ∙ ap (λ b. cond b new (held_at cells site number)) (ap (λ b. is_same_site site site && b) off ∙ never (is_same_site site site)))

  here : held_at after site day ≡ new
  here = held site day ∙ ap (λ b. cond b new (held_at cells site day)) (itself site day day refl)

  this_year : AreBags site year (maxima_held cells site year) (counted_held cells site year) tallies
      → AreBags site year (maxima_held after site year) (counted_held after site year) later
  unfolding days_of
  this_year before =
      let within = (year_holds year day low in_profile).0 is_year in
      let maxima : Changed (λ d. maximum_of (held_at cells site d)) (λ d. maximum_of (held_at after site d)) day (days_of year)
      = changed (λ d. maximum_of (held_at cells site d)) (λ d. maximum_of (held_at after site d)) (year_first year) (days_in_year year) day within.0 within.1
      (λ k apart. ap maximum_of (elsewhere k apart)) in
      let counted : Changed (λ d. count_of (held_at cells site d)) (λ d. count_of (held_at after site d)) day (days_of year)
      = changed (λ d. count_of (held_at cells site d)) (λ d. count_of (held_at after site d)) (year_first year) (days_in_year year) day within.0 within.1
      (λ k apart. ap count_of (elsewhere k apart)) in
      any_order site year (with_item (maximum_of (held_at after site day)) maxima.rest) (maxima_held after site year)
      (with_item (count_of (held_at after site day)) counted.rest) (counted_held after site year) later maxima.after counted.after
      (subst (λ (d : HeldDay). AreBags site year (with_item (maximum_of d) maxima.rest) (with_item (count_of d) counted.rest) later) (sym here)
      (exchanged maxima.rest counted.rest
      (any_order site year (maxima_held cells site year) (with_item (maximum_of (held_at cells site day)) maxima.rest)
      (counted_held cells site year) (with_item (count_of (held_at cells site day)) counted.rest) tallies maxima.before counted.before before)))

  -- the days of another site or year are held as before
  another : (other : Site) (number k : ℕ) → FIRST_YEAR ≤ number → (is_same_site site other && (year == number)) ≡ false
      → year_first number ≤ k → k < year_first number + days_in_year number → held_at cells other k ≡ held_at after other k
  another other number k from apart first last =
      sym (held other k ∙ by (is_same_site site other) (day == k) refl refl)
    where
      by : (p q : Bool) → is_same_site site other ≡ p → (day == k) ≡ q → cond (p && q) new (held_at cells other k) ≡ held_at cells other k
      by true true same is =
          let days : day ≡ k = grind (arith, nat_tests) in
          let years : year_of day ≡ number = (year_holds number day from in_profile).1 (omega (arith, first, days), omega (arith, last, days)) in
          let one : (year == number) ≡ true = grind (arith, nat_tests, years, is_year) in
          absurd (false≢true (sym apart ∙ (λ i. same i && one i)))
      by true false same is = refl
      by false q same is = refl

  other_year : (other : Site) (number : ℕ) → FIRST_YEAR ≤ number → (is_same_site site other && (year == number)) ≡ false
      → AreBags other number (maxima_held cells other number) (counted_held cells other number) tallies
      → AreBags other number (maxima_held after other number) (counted_held after other number) later
  unfolding days_of
  other_year other number from apart before =
      let same : (k : ℕ) → year_first number ≤ k → k < year_first number + days_in_year number → held_at cells other k ≡ held_at after other k
      = λ k first last. another other number k from apart first last in
      subst (λ (l : List ℤ). AreBags other number l (counted_held after other number) later)
      (same_items (λ d. maximum_of (held_at cells other d)) (λ d. maximum_of (held_at after other d)) (year_first number) (days_in_year number) (λ k first last. ap maximum_of (same k first last)))
      (subst (λ (l : List ℤ). AreBags other number (maxima_held cells other number) l later)
      (same_items (λ d. count_of (held_at cells other d)) (λ d. count_of (held_at after other d)) (year_first number) (days_in_year number) (λ k first last. ap count_of (same k first last)))
      (others other number (maxima_held cells other number) (counted_held cells other number) apart before))

  pub years-after : AreYears cells tallies → AreYears after later
  unfolding AreYears
  years-after before other number from to = by (is_same_site site other) (year == number) refl refl
    where
      by : (p q : Bool) → is_same_site site other ≡ p → (year == number) ≡ q
          → AreBags other number (maxima_held after other number) (counted_held after other number) later
      by true true same is =
          let numbers : year ≡ number = grind (arith, nat_tests) in
          let sites : site ≡ other = same_site site other same in
          let start = before other number from to in
          subst (λ (s : Site). AreBags s number (maxima_held after s number) (counted_held after s number) later) sites
          (subst (λ (y : ℕ). AreBags site y (maxima_held after site y) (counted_held after site y) later) numbers
          (this_year
          (subst (λ (y : ℕ). AreBags site y (maxima_held cells site y) (counted_held cells site y) tallies) (sym numbers)
          (subst (λ (s : Site). AreBags s number (maxima_held cells s number) (counted_held cells s number) tallies) (sym sites) start))))
      by true false same is = other_year other number from (λ i. same i && is i) (before other number from to)
      by false q same is = other_year other number from (ap (λ b. b && (year == number)) same) (before other number from to)
