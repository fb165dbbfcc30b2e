use Rattle.std.proofs.Common.{◌≡◌, ◌∙◌, ap, map, List, Bool}
use Rattle.std.specs.Prelude.{Option, ℤ}
use Rattle.aq_base.specs.declared.standard.Verdict.{Verdict}
use Rattle.aq_rules.specs.Particles.AnnualVerdict.{ParticleDv, counts_in}
use Rattle.aq_rules.specs.Particles.DailyVerdict.{is_daily_year, daily_test, daily_verdict, daily_value_of, percentile_of, filled_percentile, value_of_three}
use Rattle.aq_rules.specs.Kept.Summaries.{PmYear}
use Rattle.aq_rules.specs.Kept.SummaryVerdicts.{of_summaries, kept_daily_dv}
use Rattle.aq_verdict.proofs.daily_value.daily.Goals as goal

-- the four parts are those of the rule
from-parts : (years : List PmYear) (value test : Option ℤ) (valid : List Bool) (verdict : Verdict)
    → value ≡ daily_value_of of_summaries years
    → valid ≡ map (λ (year : PmYear). is_daily_year value (percentile_of of_summaries year) (counts_in of_summaries year)) years
    → test ≡ daily_test value valid (value_of_three (map (filled_percentile of_summaries years) years))
    → verdict ≡ daily_verdict value valid test
    → (let design : ParticleDv = record { value = value; test = test; valid = valid; verdict = verdict } in design) ≡ kept_daily_dv years
from-parts years value test valid verdict is_value is_valid is_test is_verdict =
    let the_valid : valid ≡ map (λ (year : PmYear). is_daily_year (daily_value_of of_summaries years) (percentile_of of_summaries year) (counts_in of_summaries year)) years =
    is_valid ∙ ap (λ o. map (λ (year : PmYear). is_daily_year o (percentile_of of_summaries year) (counts_in of_summaries year)) years) is_value
    in
    let the_test = is_test ∙ (λ i. daily_test (is_value i) (the_valid i) (value_of_three (map (filled_percentile of_summaries years) years))) in
    let the_verdict = is_verdict ∙ (λ i. daily_verdict (is_value i) (the_valid i) (the_test i)) in
    λ i. record { value = is_value i; test = the_test i; valid = the_valid i; verdict = the_verdict i }

pub returns : goal.returns
returns c =
    from-parts c.args.years.now _ _ _ _ c.daily_value-value.ensures c.valid_years-valid.ensures c.daily_test-test.ensures c.daily_verdict.ensures
