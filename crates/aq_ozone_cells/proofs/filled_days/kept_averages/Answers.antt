use Rattle.std.proofs.Common.{◌≡◌, ◌+◌, ◌-◌, ◌<◌, ◌∙◌, ap, take, drop, arith, length}
use Rattle.std.proofs.lemmas.List.{length-set}
use Rattle.aq_rules.specs.Ozone.EightHour.{row_of}
use Rattle.aq_ozone.specs.DayHours.{cells_in}
use Rattle.aq_ozone_cells.specs.FilledDays.{average_among}
use Rattle.aq_ozone_cells.specs.KeptDays.{averages_of, no_average}
use Rattle.aq_ozone_cells.proofs.FilledLemmas.{place-more}
use Rattle.aq_ozone_cells.proofs.filled_days.kept_averages.Goals as goal

pub loop-i-preserved : goal.loop-i-preserved
loop-i-preserved c =
    let i = c.loop-i.i in
    let hours = c.args.hours.now in
    let within : i < length c.loop-i.kept = omega (arith, c.loop-i-test.true, c.loop-i.invariant.many, c.loop-i.auto.i-end) in
    let eight : 7 + i + 8 - (7 + i) ≡ 8 = omega arith in
    let is = c.average_over.ensures.average ∙ ap (λ n. averages_of (row_of (cells_in (take n (drop (7 + i) hours))))) eight in
    record {
      many = length-set c.loop-i.kept i c.average_over.result ∙ c.loop-i.invariant.many;
      each = place-more (λ k. average_among hours (7 + k)) c.loop-i.kept i c.average_over.result no_average within is c.loop-i.invariant.each;
    }

pub returns : goal.returns
returns c k within =
    let all : c.loop-i.i ≡ 17 = omega (arith, c.loop-i-test.false, c.loop-i.auto.i-end) in
    c.loop-i.invariant.each k (omega (arith, all, within))
