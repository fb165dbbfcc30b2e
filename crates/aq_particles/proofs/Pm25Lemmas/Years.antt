-- What is kept of a year is its four quarters and the greatest of their values, and it keeps its facts.
use Rattle.std.proofs.Common.{◌≡◌, ℕ, zero, suc, ◌+◌, ◌*◌, ◌%◌, ◌<◌, ◌≤◌, Bool, true, false, cond, ◌==◌, Option, List, [], ◌∷◌, ◌++◌, map, refl, ap, sym, subst, ◌∙◌, arith, append_assoc}
use Rattle.std.specs.Prelude.{ℤ, All, nat_le}
use Rattle.std.specs.List.{list_all}
use Rattle.std.proofs.lemmas.List.{append-nil}
use Rattle.std.proofs.lemmas.List.Elements.{All-cons, All-nil}
use Rattle.aq_base.specs.Calendar.{days_in_month, days_in_quarter, quarter_number, quarter_year}
use Rattle.aq_base.specs.declared.monitor.Pollutant.TheVariants.{Pm25}
use Rattle.aq_rules.specs.Kept.Summaries.{KeepsPmQuarter, KeepsPmYear, PmQuarter, PmYear, eight_greatest, summary_of_quarter, summary_of_year}
use Rattle.aq_rules.specs.Lines.Spellings.{is_in_range}
use Rattle.aq_rules.specs.Lists.{ranked}
use Rattle.aq_rules.specs.Particles.QuarterCounts.{QuarterDays, days_of_quarter, quarters_of, values_in}
use Rattle.aq_rules.proofs.Elements.{Every, every-append}
use Rattle.aq_rules.proofs.Pm10Facts.{length-days, length-filter-le}
use Rattle.aq_rules.proofs.Pm25Facts.{top-count, top-falls, top-greatest}
use Rattle.aq_rules.proofs.Pm25Range.{every-take}
use Rattle.aq_rules.proofs.Quarters.{days-are}
use Rattle.aq_rules.proofs.ValueRange.{InRangeTo, every-ranked, to_test}
use Rattle.aq_particles.specs.Pm25.QuarterDays.{summary_of, IsQuarterOf}
use Rattle.aq_particles.specs.Pm25.QuarterValues.{top_after}
use Rattle.aq_particles.specs.Pm25.SiteDays.{SiteDays, quarter_by, year_by}
use Rattle.aq_particles.specs.declared.pm25.quarters.QuarterTally.{QuarterTally}
use Rattle.aq_particles.proofs.Pm25Lemmas.Facts.{every_of}
use Rattle.aq_particles.proofs.Pm25Lemmas.Greatest.{all-join}

-- ---- the days of the four quarters

most-days : (quarter part : ℕ) → quarter % 4 ≡ part → part < 4 → days_in_quarter quarter ≤ cond (nat_le 2 part) 92 91
most-days quarter part is few = by_part part few (days-are quarter (quarter_year quarter) part refl is)
  where
    feb : (b : Bool) → 31 + cond b 29 28 + 31 ≤ 91
    feb true = omega arith
    feb false = omega arith

    by_part : (n : ℕ) → n < 4 → days_in_quarter quarter ≡ days_in_month (quarter_year quarter) (3 * n + 1) + days_in_month (quarter_year quarter) (3 * n + 2) + days_in_month (quarter_year quarter) (3 * n + 3)
        → days_in_quarter quarter ≤ cond (nat_le 2 n) 92 91
    by_part zero low sum = omega (arith, sum, feb (quarter_year quarter % 4 == 0))
    by_part (suc zero) low sum = omega (arith, sum)
    by_part (suc (suc zero)) low sum = omega (arith, sum)
    by_part (suc (suc (suc zero))) low sum = omega (arith, sum)
    by_part (suc (suc (suc (suc n)))) low sum = absurd (omega (arith, low))

pub all_in_range : (values : List ℤ) → Every (InRangeTo 99999) values → list_all (is_in_range Pm25) values ≡ true
all_in_range [] every = refl
all_in_range (v ∷ vs) every = let h = to_test 99999 v every.0 in rw h (all_in_range vs every.1)

pub all_four : (P : PmQuarter → Type 0) (a b c d : PmQuarter) → P a → P b → P c → P d → All P (a ∷ b ∷ c ∷ d ∷ [])
all_four P a b c d pa pb pc pd =
    All-cons P a (b ∷ c ∷ d ∷ []) pa (All-cons P b (c ∷ d ∷ []) pb (All-cons P c (d ∷ []) pc (All-cons P d [] pd (All-nil P))))

-- ---- the year

module _ (site_days : SiteDays) (makeup_for : ℕ → Option ℕ) (year : ℕ) where
  abbrev quarter_at : ℕ → QuarterDays
  quarter_at part = quarter_by site_days makeup_for (quarter_number year part)

  abbrev values_at : ℕ → List ℤ
  values_at part = (quarter_at part).values

  abbrev summary_at : ℕ → PmQuarter
  summary_at part = summary_of_quarter (quarter_at part)

  joined : (a b c d : List ℤ) → ((a ++ b) ++ c) ++ d ≡ a ++ (b ++ (c ++ (d ++ [])))
  joined a b c d =
      append_assoc (a ++ b) c d ∙ append_assoc a b (c ++ d) ∙ ap (λ l. a ++ (b ++ (c ++ l))) (sym (append-nil d))

  scheduled-most : (part : ℕ) → part < 4 → (summary_at part).scheduled ≤ cond (nat_le 2 part) 92 91
  scheduled-most part few =
      let quarter = quarter_number year part in
      let is : quarter % 4 ≡ part = omega (arith, few) in
      omega (arith, length-filter-le site_days.schedules (days_of_quarter quarter), length-days quarter, most-days quarter part is few)

  abbrev IsPart : ℕ → List ℤ → QuarterTally → Type 0
  IsPart part before tally = IsQuarterOf (quarter_at part) before tally

  module _ (top : List ℤ) (a b c d : QuarterTally) (none : top ≡ []) (first : IsPart 0 top a) (second : IsPart 1 a.values.top b) (third : IsPart 2 b.values.top c) (fourth : IsPart 3 c.values.top d) where
    -- the greatest values after the four quarters
    top-is : d.values.top ≡ eight_greatest (values_in (year_by site_days makeup_for year))
    unfolding year_by ranked
    top-is =
        let one : a.values.top ≡ eight_greatest (values_at 0) = first.top ∙ ap (λ t. top_after t (values_at 0)) none ∙ all-join [] (values_at 0) in
        let two : b.values.top ≡ eight_greatest (values_at 0 ++ values_at 1) = second.top ∙ ap (λ t. top_after t (values_at 1)) one ∙ all-join (values_at 0) (values_at 1) in
        let three : c.values.top ≡ eight_greatest ((values_at 0 ++ values_at 1) ++ values_at 2) = third.top ∙ ap (λ t. top_after t (values_at 2)) two ∙ all-join (values_at 0 ++ values_at 1) (values_at 2) in
        fourth.top ∙ ap (λ t. top_after t (values_at 3)) three ∙ all-join ((values_at 0 ++ values_at 1) ++ values_at 2) (values_at 3)
        ∙ ap eight_greatest (joined (values_at 0) (values_at 1) (values_at 2) (values_at 3))

    year-is : (w x y z : PmQuarter) → w ≡ summary_of a → x ≡ summary_of b → y ≡ summary_of c → z ≡ summary_of d
        → (let kept : PmYear = record { quarters = w ∷ x ∷ y ∷ z ∷ []; top = d.values.top } in kept) ≡ summary_of_year (year_by site_days makeup_for year)
    unfolding year_by
    year-is w x y z wi xi yi zi =
        λ i. record { quarters = (wi ∙ first.summary) i ∷ (xi ∙ second.summary) i ∷ (yi ∙ third.summary) i ∷ (zi ∙ fourth.summary) i ∷ []; top = top-is i }

    every_value : Every (InRangeTo 99999) (values_in (year_by site_days makeup_for year))
    unfolding year_by
    every_value =
        every-append (InRangeTo 99999) (values_at 0) (values_at 1 ++ (values_at 2 ++ (values_at 3 ++ []))) (every_of (values_at 0) first.range)
        (every-append (InRangeTo 99999) (values_at 1) (values_at 2 ++ (values_at 3 ++ [])) (every_of (values_at 1) second.range)
        (every-append (InRangeTo 99999) (values_at 2) (values_at 3 ++ []) (every_of (values_at 2) third.range)
        (every-append (InRangeTo 99999) (values_at 3) [] (every_of (values_at 3) fourth.range) tt)))

    year-keeps : KeepsPmYear (summary_of_year (year_by site_days makeup_for year))
    unfolding year_by
    year-keeps =
        let quarters = map (quarter_by site_days makeup_for) (quarters_of year) in
        record {
          four = refl;
          quarters = all_four KeepsPmQuarter (summary_at 0) (summary_at 1) (summary_at 2) (summary_at 3) (subst KeepsPmQuarter first.summary first.facts) (subst KeepsPmQuarter second.summary second.facts) (subst KeepsPmQuarter third.summary third.facts) (subst KeepsPmQuarter fourth.summary fourth.facts);
          scheduled = omega (arith, scheduled-most 0 (omega arith), scheduled-most 1 (omega arith), scheduled-most 2 (omega arith), scheduled-most 3 (omega arith));
          top_falls = top-falls (values_in quarters);
          top_in_range = all_in_range (eight_greatest (values_in quarters)) (every-take 8 (ranked (values_in quarters)) (every-ranked 99999 (values_in quarters) every_value));
          top_count = top-count quarters;
          top_greatest = top-greatest quarters;
        }

-- what is kept of a year, and its facts
pub record IsYearOf (year : List QuarterDays) (kept : PmYear) : Type 0 where
  pub summary : kept ≡ summary_of_year year
  pub facts : KeepsPmYear kept

pub year-kept : (site_days : SiteDays) (makeup_for : ℕ → Option ℕ) (year : ℕ) {p q r s : ℕ} {top : List ℤ} {a b c d : QuarterTally} {w x y z : PmQuarter}
    → p ≡ quarter_number year 0 → q ≡ quarter_number year 1 → r ≡ quarter_number year 2 → s ≡ quarter_number year 3 → top ≡ []
    → IsQuarterOf (quarter_by site_days makeup_for p) top a → IsQuarterOf (quarter_by site_days makeup_for q) a.values.top b → IsQuarterOf (quarter_by site_days makeup_for r) b.values.top c → IsQuarterOf (quarter_by site_days makeup_for s) c.values.top d
    → w ≡ summary_of a → x ≡ summary_of b → y ≡ summary_of c → z ≡ summary_of d
    → IsYearOf (year_by site_days makeup_for year) (record { quarters = w ∷ x ∷ y ∷ z ∷ []; top = d.values.top })
year-kept site_days makeup_for year {p} {q} {r} {s} {top} {a} {b} {c} {d} {w} {x} {y} {z} pi qi ri si none ai bi ci di wi xi yi zi =
    let first = subst (λ n. IsQuarterOf (quarter_by site_days makeup_for n) top a) pi ai in
    let second = subst (λ n. IsQuarterOf (quarter_by site_days makeup_for n) a.values.top b) qi bi in
    let third = subst (λ n. IsQuarterOf (quarter_by site_days makeup_for n) b.values.top c) ri ci in
    let fourth = subst (λ n. IsQuarterOf (quarter_by site_days makeup_for n) c.values.top d) si di in
    let is = year-is site_days makeup_for year top a b c d none first second third fourth w x y z wi xi yi zi in
    record { summary = is; facts = subst KeepsPmYear (sym is) (year-keeps site_days makeup_for year top a b c d none first second third fourth) }
