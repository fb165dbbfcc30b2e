-- The 24-hour PM2.5 verdict on lists of values is that on what is kept of them: the eight greatest values are enough.
use Rattle.std.proofs.Common.{◌≡◌, ℕ, ◌+◌, ◌-◌, ◌≤◌, Bool, true, false, cond, List, [], ◌∷◌, ◌++◌, length, map, replicate, refl, sym, ap, ◌∙◌, arith, length-append, subst}
use Rattle.std.specs.Prelude.{ℤ, Option, Some, None, option_map, option_and_then, All, nat_le}
use Rattle.std.specs.List.{flat_map, zip}
use Rattle.std.proofs.lemmas.List.{length-replicate}
use Rattle.std.proofs.lemmas.List.Elements.{All-head, All-tail}
use Rattle.std.proofs.lemmas.List.Sums.{sum_by-cons}
use Rattle.aq_rules.specs.Lists.{all_of}
use Rattle.aq_rules.specs.Particles.QuarterCounts.{QuarterCounts, QuarterDays, capture, counted_in, values_in}
use Rattle.aq_rules.specs.Particles.Percentile.{percentile}
use Rattle.aq_rules.specs.Particles.YearParts.{of_values}
use Rattle.aq_rules.specs.Particles.Substitution.{maximum_copies, maximum_for, same_part, matched}
use Rattle.aq_rules.specs.Particles.AnnualVerdict.{counts_in}
use Rattle.aq_rules.specs.Particles.DailyVerdict.{daily_from, daily_dv, daily_value_of, is_daily_year, percentile_of, value_of_three, copies_in, filled_percentile}
use Rattle.aq_rules.specs.Kept.Summaries.{PmQuarter, PmYear, KeepsPmQuarter, KeepsPmYear, eight_greatest, scheduled_in, summary_of_year}
use Rattle.aq_rules.specs.Kept.SummaryVerdicts.{of_summaries, kept_daily_dv}
use Rattle.aq_rules.proofs.Eight.{eight-more, percentile-eight}
use Rattle.aq_rules.proofs.KeptSums.{mapped, s, kept, row, matched-summary, maximum-same, counts-same, counted-same}

-- ---- copies fill up to the scheduled days at most

-- the first and the others of a list that is all there
record FirstAndOthers {X : Type 0} (o : Option X) (os : List (Option X)) (all : List X) : Type 0 where
  pub first : X
  pub others : List X
  pub o_is : o ≡ Some first
  pub os_is : all_of os ≡ Some others
  pub all_is : all ≡ first ∷ others

same_list : {X : Type 0} (a b : List X) → Some a ≡ Some b → b ≡ a
same_list a b e = cc

first_by : {X : Type 0} (x : X) (os : List (Option X)) (rest : Option (List X)) (all : List X) → all_of os ≡ rest → option_map (λ others. x ∷ others) rest ≡ Some all → FirstAndOthers (Some x) os all
first_by x os None all is e = cc
first_by x os (Some others) all is e =
    record { first = x; others = others; o_is = refl; os_is = is; all_is = same_list (x ∷ others) all e }

first_of_all : {X : Type 0} (o : Option X) (os : List (Option X)) (all : List X) → all_of (o ∷ os) ≡ Some all → FirstAndOthers o os all
first_of_all None os all e = cc
first_of_all (Some x) os all e = first_by x os (all_of os) all refl e

copies-few : (n : ℕ) (a b : Bool) (top : Option ℤ) (more : List ℤ) → cond a (Some []) (cond b (option_map (replicate n) top) None) ≡ Some more → length more ≤ n
copies-few n true b top more e = let h : more ≡ [] = same_list [] more e in rw h (omega arith)
copies-few n false true None more e = cc
copies-few n false true (Some v) more e = let h : more ≡ replicate n v = same_list (replicate n v) more e in rw h (omega (arith, length-replicate n v))
copies-few n false false top more e = cc

maximum-few : (counts : QuarterCounts) (top : Option ℤ) (more : List ℤ) → maximum_copies counts top ≡ Some more → length more ≤ counts.scheduled - counts.creditable
maximum-few counts top more e =
    copies-few (counts.scheduled - counts.creditable) (nat_le 75 (capture counts)) (nat_le 50 (capture counts)) top more e

abbrev joined : List (List ℤ) → List ℤ
joined all = flat_map (λ copies. copies) all

few-first : (q : QuarterDays) (qs : List QuarterDays) (first others : List ℤ) → KeepsPmQuarter (s q) → length first ≤ q.counts.scheduled - q.counts.creditable
    → counted_in qs + length others ≤ scheduled_in (map s qs) → counted_in (q ∷ qs) + length (first ++ others) ≤ scheduled_in (map s (q ∷ qs))
few-first q qs first others keeps few rest =
    let counted : q.counts.counted ≤ q.counts.creditable = keeps.counted in
    let creditable : q.counts.creditable ≤ q.counts.scheduled = keeps.creditable in
    omega
    (arith, few, rest, counted, creditable, length-append first others, sum_by-cons (λ (o : QuarterDays). o.counts.counted) q qs, sum_by-cons (λ (o : PmQuarter). o.scheduled) (s q) (map s qs))

counted-few : (year : List QuarterDays) → All KeepsPmQuarter (map s year) → counted_in year + 0 ≤ scheduled_in (map s year)
counted-few [] keeps = omega arith
counted-few (q ∷ qs) keeps =
    few-first q qs [] [] (All-head KeepsPmQuarter (s q) (map s qs) keeps) (omega arith) (counted-few qs (All-tail KeepsPmQuarter (s q) (map s qs) keeps))

-- the counted samples of a year and the copies of its quarters
copied-few : (year : List QuarterDays) (triples : List (List QuarterDays)) (all : List (List ℤ)) → All KeepsPmQuarter (map s year)
    → all_of (map (maximum_for of_values) (zip year triples)) ≡ Some all → counted_in year + length (joined all) ≤ scheduled_in (map s year)
copied-few [] triples all keeps e = let h : all ≡ [] = same_list [] all e in rw h (omega arith)
copied-few (q ∷ qs) [] all keeps e = let h : all ≡ [] = same_list [] all e in rw h (counted-few (q ∷ qs) keeps)
copied-few (q ∷ qs) (three ∷ triples) all keeps e =
    let p = first_of_all (maximum_for of_values (q, three)) (map (maximum_for of_values) (zip qs triples)) all e in
    let rest : counted_in qs + length (joined p.others) ≤ scheduled_in (map s qs) = copied-few qs triples p.others (All-tail KeepsPmQuarter (s q) (map s qs) keeps) p.os_is in
    let P : List (List ℤ) → Type 0 = λ l. counted_in (q ∷ qs) + length (joined l) ≤ scheduled_in (map s (q ∷ qs)) in
    subst P (sym p.all_is)
    (few-first q qs p.first (joined p.others) (All-head KeepsPmQuarter (s q) (map s qs) keeps) (maximum-few q.counts _ p.first p.o_is) rest)

-- ---- the percentile of a year's values and copies

abbrev Keeps : List QuarterDays → Type 0
Keeps year = KeepsPmYear (summary_of_year year)

percentile-same : (year : List QuarterDays) (more : List ℤ) → counted_in year + length more ≤ 400
    → of_summaries.percentile_with more (summary_of_year year) ≡ of_values.percentile_with more year
percentile-same year more few =
    let V = values_in year in
    let n = counted_in year + length more in
    ap (λ k. percentile (eight_greatest V ++ more) (k + length more)) (counted-same year)
    ∙ sym (percentile-eight (eight_greatest V ++ more) n few)
    ∙ ap (λ (top : List ℤ). percentile top n) (eight-more V more)
    ∙ percentile-eight (V ++ more) n few

pub plain-same : (year : List QuarterDays) → Keeps year → percentile_of of_summaries (summary_of_year year) ≡ percentile_of of_values year
plain-same year keeps =
    let most : scheduled_in (map s year) ≤ 366 = keeps.scheduled in
    percentile-same year [] (omega (arith, most, counted-few year keeps.quarters))

copies-same : (years : List (List QuarterDays)) (year : List QuarterDays) → copies_in of_summaries (kept years) (summary_of_year year) ≡ copies_in of_values years year
copies-same years year =
    ap (λ (l : List (Option (List ℤ))). option_map joined (all_of l))
    (ap (map (maximum_for of_summaries)) (matched-summary years year)
    ∙ mapped (maximum_for of_summaries) row (maximum_for of_values) maximum-same (matched of_values years year))

filled-by : (year : List QuarterDays) (triples : List (List QuarterDays)) (all : Option (List (List ℤ))) → Keeps year
    → all_of (map (maximum_for of_values) (zip year triples)) ≡ all
    → option_and_then (λ copies. of_summaries.percentile_with copies (summary_of_year year)) (option_map joined all)
    ≡ option_and_then (λ copies. of_values.percentile_with copies year) (option_map joined all)
filled-by year triples None keeps e = refl
filled-by year triples (Some all) keeps e =
    let most : scheduled_in (map s year) ≤ 366 = keeps.scheduled in
    percentile-same year (joined all) (omega (arith, most, copied-few year triples all keeps.quarters e))

filled-same : (years : List (List QuarterDays)) (year : List QuarterDays) → Keeps year
    → filled_percentile of_summaries (kept years) (summary_of_year year) ≡ filled_percentile of_values years year
filled-same years year keeps =
    ap (option_and_then (λ copies. of_summaries.percentile_with copies (summary_of_year year))) (copies-same years year)
    ∙ filled-by year (map (same_part of_values years) (0 ∷ 1 ∷ 2 ∷ 3 ∷ [])) (all_of (map (maximum_for of_values) (matched of_values years year))) keeps refl

-- ---- the verdict

mapped-where : {X : Type 0} (P : List QuarterDays → Type 0) (g : PmYear → X) (h : List QuarterDays → X)
    → ((year : List QuarterDays) → P year → g (summary_of_year year) ≡ h year) → (years : List (List QuarterDays)) → All P years → map g (kept years) ≡ map h years
mapped-where P g h same [] all = refl
mapped-where P g h same (year ∷ years) all = λ i. same year (All-head P year years all) i ∷ mapped-where P g h same years (All-tail P year years all) i

pub kept_daily-same : (years : List (List QuarterDays)) → All (λ year. KeepsPmYear (summary_of_year year)) years → kept_daily_dv (map summary_of_year years) ≡ daily_dv years
kept_daily-same years keeps =
    let value : daily_value_of of_summaries (kept years) ≡ daily_value_of of_values years =
    ap value_of_three (mapped-where Keeps (percentile_of of_summaries) (percentile_of of_values) plain-same years keeps)
    in
    let valid : map (λ (y : PmYear). is_daily_year (daily_value_of of_summaries (kept years)) (percentile_of of_summaries y) (counts_in of_summaries y)) (kept years) ≡ map (λ (year : List QuarterDays). is_daily_year (daily_value_of of_values years) (percentile_of of_values year) (counts_in of_values year)) years =
    mapped-where Keeps (λ (y : PmYear). is_daily_year (daily_value_of of_summaries (kept years)) (percentile_of of_summaries y) (counts_in of_summaries y))
    (λ (year : List QuarterDays). is_daily_year (daily_value_of of_values years) (percentile_of of_values year) (counts_in of_values year))
    (λ year keep i. is_daily_year (value i) (plain-same year keep i) (counts-same year i)) years keeps
    in
    let filled = mapped-where Keeps (filled_percentile of_summaries (kept years)) (filled_percentile of_values years) (filled-same years) years keeps in
    λ i. daily_from (value i) (valid i) (value_of_three (filled i))
