use Rattle.std.proofs.Common.{◌≡◌, ◌+◌, ◌++◌, ◌∙◌, List, ap, filter, arith}
use Rattle.aq_rules.specs.Listed.Flags.{ListedFlag}
use Rattle.aq_listed.specs.FlagWords.{flags_by, is_carried}
use Rattle.aq_listed.proofs.FlagRows.{days-more, flags-are}
use Rattle.aq_listed.proofs.flag_list.listed_flags.Goals as goal

pub loop-place-preserved : goal.loop-place-preserved
loop-place-preserved g c =
    let at : c.year_span-first.result.0 + c.loop-place.place ≡ c.new-day.result = omega (arith, c.new-day.ensures, c.number.ensures.value) in
    c.in_ok-add_day.ensures
    ∙ ap (λ (rows : List ListedFlag). rows ++ filter is_carried (flags_by c.in_ok-marks.marks c.args.pollutant c.new-day.result)) c.loop-place.invariant
    ∙ days-more (flags_by c.in_ok-marks.marks c.args.pollutant) c.year_span-first.result.0 c.loop-place.place c.new-day.result at

pub returns : goal.returns
returns g c =
    let all : c.loop-place.place ≡ c.year_span-first.result.1 = omega (arith, c.loop-place-test.false, c.loop-place.auto.place-end) in
    c.loop-place.invariant
    ∙ flags-are c.args.registry.now c.args.shelf.now c.args.site c.in_ok-marks.marks c.in_ok-marks.ensures.all c.in_ok-marks.ensures.covered c.in_ok-marks.ensures.excluded
    c.args.pollutant c.args.year c.year_span-first.result.0 c.loop-place.place c.year_span-first.ensures.first (all ∙ c.year_span-first.ensures.days)
