use Rattle.std.proofs.Common.{[], ◌∷◌}
use Rattle.aq_design.proofs.DesignLemmas.{ozone-value, years-are}
use Rattle.aq_design.proofs.value.ozone_value.Goals as goal

pub returns-clause-value : goal.returns-clause-value
returns-clause-value g c =
    let office = g.Y.Years.office c.args.source.now in
    let first = c.ozone-first.result in
    let second = c.ozone-second.result in
    let third = c.ozone-third.result in
    ozone-value office c.args.site c.args.year (first ∷ second ∷ third ∷ []) c.ozone.result
    (years-are office c.args.site c.args.year first second third c.ozone-first.ensures.year c.ozone-second.ensures.year c.ozone-third.ensures.year) c.ozone.ensures
