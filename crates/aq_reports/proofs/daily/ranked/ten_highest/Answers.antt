use Rattle.std.proofs.Common.{◌≡◌, ◌+◌, ◌-◌, List, None, drop, get_or, length, refl, subst, sym, arith}
use Rattle.aq_rules.specs.Listed.Highest.{RankedDay}
use Rattle.aq_reports.specs.Daily.Ranked.{ranked_from, with_value, IsHighest}
use Rattle.aq_reports.proofs.DailyLemmas.Ranks.{none-ranked, one-before}
use Rattle.aq_reports.proofs.daily.ranked.ten_highest.Goals as goal

pub loop-place-init : goal.loop-place-init
loop-place-init c = record {
  within = omega arith;
  few = omega arith;
  found_is = none-ranked (c.args.first + length c.args.values.now) c.args.values.now (record { ranked = 0; days = c.new.result }) refl c.new.ensures.items;
}

pub loop-place-preserved : goal.loop-place-preserved
loop-place-preserved c =
    let place = c.loop-place.place in
    let rest : List RankedDay = ranked_from (c.args.first + place) (drop place c.args.values.now) in
    let day : c.new-day.result ≡ c.args.first + (place - 1) = omega (arith, c.new-day.ensures, c.number.ensures.value) in
    let added = c.in_ok-add.ensures.days rest c.loop-place.invariant.found_is in
    let more : IsHighest (with_value (c.args.first + (place - 1)) (get_or c.args.values.now (place - 1) None) rest) c.add.new.self =
    subst (λ n. IsHighest (with_value n (get_or c.args.values.now (place - 1) None) rest) c.add.new.self) day added
    in
    record {
      within = omega (arith, c.loop-place.invariant.within);
      few = omega (arith, c.loop-place.invariant.few, c.loop-place-test.true, c.in_ok-add.ensures.few);
      found_is = subst (λ (l : List RankedDay). IsHighest l c.add.new.self) (sym (one-before c.args.first place c.args.values.now (omega (arith, c.loop-place-test.true)) c.loop-place.invariant.within)) more;
    }
