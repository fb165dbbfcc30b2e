use Rattle.std.proofs.Common.{◌≡◌, [], ◌∷◌, ◌∙◌, ap, map, sym, get_or, ℤ}
use Rattle.std.specs.Prelude.{Option}
use Rattle.std.specs.Int.{w32}
use Rattle.std.proofs.lemmas.Int.{to_z-of_z}
use Rattle.aq_rules.specs.Particles.AnnualVerdict.{is_annual_year, mean_of, counts_in}
use Rattle.aq_rules.specs.Kept.Summaries.{PmYear}
use Rattle.aq_rules.specs.Kept.SummaryVerdicts.{of_summaries}
use Rattle.aq_verdict.proofs.Rows.{three-of}
use Rattle.aq_verdict.proofs.annual_value.valid_years.Goals as goal

at-level : (l level : ℤ) (value : Option ℤ) (year : PmYear) → l ≡ level
    → is_annual_year l value (mean_of of_summaries year.quarters) (counts_in of_summaries year) ≡ is_annual_year level value (mean_of of_summaries year.quarters) (counts_in of_summaries year)
at-level l level value year same = ap (λ (x : ℤ). is_annual_year x value (mean_of of_summaries year.quarters) (counts_in of_summaries year)) same

pub returns : goal.returns
returns c =
    let years = c.args.years.now in
    let fits = to_z-of_z w32 c.args.level c.ranges.level in
    let first = c.is_annual_year.ensures ∙ at-level _ c.args.level c.args.value (get_or years 0 c.index-years-0.result) fits in
    let second = c.is_annual_year-2.ensures ∙ at-level _ c.args.level c.args.value (get_or years 1 c.index-years-1.result) fits in
    let third = c.is_annual_year-3.ensures ∙ at-level _ c.args.level c.args.value (get_or years 2 c.index-years-2.result) fits in
    (λ i. first i ∷ second i ∷ third i ∷ [])
    ∙ ap (map (λ (year : PmYear). is_annual_year c.args.level c.args.value (mean_of of_summaries year.quarters) (counts_in of_summaries year)))
    (sym (three-of years c.index-years-0.result c.index-years-1.result c.index-years-2.result c.told-years))
