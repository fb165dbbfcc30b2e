use Rattle.std.proofs.Common.{◌&&◌, Bool, ap, sym, ◌∙◌}
use Rattle.aq_rules.specs.Combined.Pair.{would_give_credit}
use Rattle.aq_series.specs.OfficeView.{office_of}
use Rattle.aq_particles.specs.Pm25.SiteDays.{as_makeup}
use Rattle.aq_design.specs.Combined.Pairs.{pair_in}
use Rattle.aq_design.proofs.CombinedLemmas.Taken.{none-taken, one-taken}
use Rattle.aq_design.proofs.combined.pm25.is_taken.Goals as goal

pub returns-in_default : goal.returns-in_default
returns-in_default g c =
    let pair = c.args.pair.now in
    none-taken (office_of pair.registry.now pair.shelf.now) (pair_in pair) c.args.makeup c.in_default.ensures

pub returns-then-is_before : goal.returns-then-is_before
returns-then-is_before g c =
    let pair = c.args.pair.now in
    let office = office_of pair.registry.now pair.shelf.now in
    one-taken office (pair_in pair) c.args.makeup c.in-Some.missed c.in-Some.ensures c.gives_credit.result
    (c.gives_credit.ensures ∙ ap (λ (b : Bool). b && would_give_credit office (pair_in pair) (as_makeup c.in-Some.missed c.args.makeup)) (sym c.if-is_before.true ∙ c.is_before.ensures))

pub returns-else-is_before : goal.returns-else-is_before
returns-else-is_before g c =
    let pair = c.args.pair.now in
    let office = office_of pair.registry.now pair.shelf.now in
    one-taken office (pair_in pair) c.args.makeup c.in-Some.missed c.in-Some.ensures c.is_before.result
    (c.if-is_before.false ∙ ap (λ (b : Bool). b && would_give_credit office (pair_in pair) (as_makeup c.in-Some.missed c.args.makeup)) (sym c.if-is_before.false ∙ c.is_before.ensures))
