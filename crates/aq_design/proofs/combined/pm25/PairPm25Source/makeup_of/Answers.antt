use Rattle.std.proofs.Common.{sym, ◌∙◌}
use Rattle.aq_series.specs.OfficeView.{office_of}
use Rattle.aq_design.specs.Combined.Pairs.{pair_in}
use Rattle.aq_design.proofs.CombinedLemmas.Taken.{early-makeup, free-makeup, no-makeup, taken-makeup}
use Rattle.aq_design.proofs.combined.pm25.PairPm25Source.makeup_of.Goals as goal

pub returns-then-is_before : goal.returns-then-is_before
returns-then-is_before g c =
    let pair = c.args.self.now in
    c.makeup_of.ensures ∙ early-makeup (office_of pair.registry.now pair.shelf.now) (pair_in pair) c.args.missed (sym c.is_before.ensures ∙ c.if-is_before.true)

pub returns-in_err-makeup : goal.returns-in_err-makeup
returns-in_err-makeup g c =
    let pair = c.args.self.now in
    c.from_residual.ensures
    ∙ no-makeup (office_of pair.registry.now pair.shelf.now) (pair_in pair) c.args.missed (sym c.is_before.ensures ∙ c.if-is_before.false) c.in_err-makeup.ensures

pub returns-then-is_taken : goal.returns-then-is_taken
returns-then-is_taken g c =
    let pair = c.args.self.now in
    taken-makeup (office_of pair.registry.now pair.shelf.now) (pair_in pair) c.args.missed (sym c.is_before.ensures ∙ c.if-is_before.false) c.in_ok-makeup.makeup c.in_ok-makeup.ensures (sym c.is_taken.ensures ∙ c.if-is_taken.true)

pub returns : goal.returns
returns g c =
    let pair = c.args.self.now in
    free-makeup (office_of pair.registry.now pair.shelf.now) (pair_in pair) c.args.missed (sym c.is_before.ensures ∙ c.if-is_before.false) c.in_ok-makeup.makeup c.in_ok-makeup.ensures (sym c.is_taken.ensures ∙ c.if-is_taken.false)
