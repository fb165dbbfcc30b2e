use Rattle.std.proofs.Common.{◌∙◌, ap, get_or}
use Rattle.aq_verdict.specs.Filled.{together}
use Rattle.aq_verdict.proofs.Rows.{three-of, same-part, part-within}
use Rattle.aq_verdict.proofs.substitution.together_at.Goals as goal

pub returns-clause-value : goal.returns-clause-value
returns-clause-value c =
    let years = c.args.years.now in
    let part = c.args.part in
    let a = get_or years 0 c.index-years-0.result in
    let b = get_or years 1 c.index-years-1.result in
    let d = get_or years 2 c.index-years-2.result in
    let first = part-within a.quarters c.quarters.result.now part c.quarters.ensures.value c.quarters.ensures.facts.four c.requires in
    let second = part-within b.quarters c.quarters-2.result.now part c.quarters-2.ensures.value c.quarters-2.ensures.facts.four c.requires in
    let third = part-within d.quarters c.quarters-3.result.now part c.quarters-3.ensures.value c.quarters-3.ensures.facts.four c.requires in
    c.together.ensures.value
    ∙ ap together
    (same-part years part a b d c.quarters.result.now c.quarters-2.result.now c.quarters-3.result.now _ _ _
    (three-of years c.index-years-0.result c.index-years-1.result c.index-years-2.result c.told-years)
    c.quarters.ensures.value c.quarters-2.ensures.value c.quarters-3.ensures.value first second third)
