use Rattle.std.proofs.Common.{◌≡◌, ◌-◌, suc, List, drop, length, subst, arith}
use Rattle.aq_rules.specs.Listed.Highest.{RankedDay}
use Rattle.aq_pages.specs.Ranked.{are_highest, ranked_from}
use Rattle.aq_pages.proofs.Ranks.{none-left, none-ranked, one-before}
use Rattle.aq_pages.proofs.ranked.ten_highest.Goals as goal

pub loop-place-init : goal.loop-place-init
loop-place-init c = record {
  within = omega arith;
  found_is = none-ranked c.args.pollutant (length c.args.lines.now) c.args.lines.now c.new-days.result.items c.new-days.ensures.items;
}

pub loop-place-preserved : goal.loop-place-preserved
loop-place-preserved c =
    let place = c.loop-place.place in
    let next : suc (place - 1) ≡ place = omega (arith, c.loop-place-test.true) in
    let added = c.in_ok-add.ensures (ranked_from c.args.pollutant place (drop place c.args.lines.now)) c.loop-place.invariant.found_is in
    record {
      within = omega (arith, c.loop-place.invariant.within);
      found_is = subst (λ (l : List RankedDay). are_highest l c.add.new.days.items) (one-before c.args.pollutant (place - 1) place c.args.lines.now c.ranked_value_at.result next c.ranked_value_at.ensures) added;
    }

pub returns : goal.returns
returns c = none-left _ _ _ _ c.loop-place-test.false c.loop-place.invariant.found_is
