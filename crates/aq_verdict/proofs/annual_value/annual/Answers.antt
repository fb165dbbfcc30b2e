use Rattle.std.proofs.Common.{◌≡◌, ◌∙◌, ap, map, List, Bool, ℤ}
use Rattle.std.specs.Prelude.{Option}
use Rattle.std.specs.Int.{w32}
use Rattle.std.proofs.lemmas.Int.{to_z-of_z}
use Rattle.aq_base.specs.declared.standard.Verdict.{Verdict}
use Rattle.aq_rules.specs.Particles.Substitution.{minimum_for, maximum_for}
use Rattle.aq_rules.specs.Particles.AnnualVerdict.{ParticleDv, annual_value, is_annual_year, annual_test, annual_verdict, filled_value, mean_of, counts_in}
use Rattle.aq_rules.specs.Kept.Summaries.{PmYear}
use Rattle.aq_rules.specs.Kept.SummaryVerdicts.{of_summaries, kept_annual_dv}
use Rattle.aq_verdict.proofs.annual_value.annual.Goals as goal

-- the four parts are those of the rule
from-parts : (l level : ℤ) (years : List PmYear) (value test : Option ℤ) (valid : List Bool) (verdict : Verdict) → l ≡ level
    → value ≡ annual_value of_summaries years
    → valid ≡ map (λ (year : PmYear). is_annual_year l value (mean_of of_summaries year.quarters) (counts_in of_summaries year)) years
    → test ≡ annual_test l value valid (filled_value of_summaries (minimum_for of_summaries) years) (filled_value of_summaries (maximum_for of_summaries) years)
    → verdict ≡ annual_verdict l value valid test
    → (let design : ParticleDv = record { value = value; test = test; valid = valid; verdict = verdict } in design) ≡ kept_annual_dv level years
from-parts l level years value test valid verdict same is_value is_valid is_test is_verdict =
    let the_valid : valid ≡ map (λ (year : PmYear). is_annual_year l (annual_value of_summaries years) (mean_of of_summaries year.quarters) (counts_in of_summaries year)) years =
    is_valid ∙ ap (λ o. map (λ (year : PmYear). is_annual_year l o (mean_of of_summaries year.quarters) (counts_in of_summaries year)) years) is_value
    in
    let the_test = is_test ∙ (λ i. annual_test l (is_value i) (the_valid i) (filled_value of_summaries (minimum_for of_summaries) years) (filled_value of_summaries (maximum_for of_summaries) years)) in
    let the_verdict = is_verdict ∙ (λ i. annual_verdict l (is_value i) (the_valid i) (the_test i)) in
    (λ i. record { value = is_value i; test = the_test i; valid = the_valid i; verdict = the_verdict i }) ∙ ap (λ (x : ℤ). kept_annual_dv x years) same

pub returns : goal.returns
returns c =
    from-parts _ c.args.level c.args.years.now _ _ _ _ (to_z-of_z w32 c.args.level c.ranges.level)
    c.annual_value-value.ensures c.valid_years-valid.ensures c.annual_test-test.ensures c.annual_verdict.ensures
