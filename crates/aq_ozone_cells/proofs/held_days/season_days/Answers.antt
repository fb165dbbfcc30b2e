use Rattle.std.proofs.Common.{◌≡◌, ◌∙◌, ◌+◌, ◌≤◌, Bool, true, false, cond, ap, sym, arith}
use Rattle.std.specs.Prelude.{count_by}
use Rattle.std.specs.List.{range_with_len}
use Rattle.aq_rules.specs.Office.Season.{Season, is_in_season}
use Rattle.aq_rules.specs.Ozone.OzoneYear.{days_of}
use Rattle.aq_ozone_cells.proofs.SettleLemmas.{count-range}
use Rattle.aq_ozone_cells.proofs.held_days.season_days.Goals as goal

one_at_most : (b : Bool) → cond b 1 0 ≤ 1
one_at_most true = omega arith
one_at_most false = omega arith

pub loop-i-preserved : goal.loop-i-preserved
loop-i-preserved c =
    let season : Season = record { first = c.season-season.result.0; last = c.season-season.result.1 } in
    let at : c.year_span-first.result.0 + c.loop-i.i ≡ c.new-day.result = omega (arith, c.new-day.ensures, c.number.ensures.value) in
    let one : c.one_if-count.result ≡ cond (is_in_season season c.new-day.result) 1 0 = c.one_if-count.ensures ∙ ap (λ b. cond b 1 0) c.is_in_season.ensures in
    record {
      few = omega (arith, c.loop-i.invariant.few, one, one_at_most (is_in_season season c.new-day.result));
      counted =
          ap (λ n. n + c.one_if-count.result) c.loop-i.invariant.counted
          ∙ ap (λ n. count_by (is_in_season season) (range_with_len c.year_span-first.result.0 c.loop-i.i) + n) one
          ∙ sym (count-range (is_in_season season) c.year_span-first.result.0 c.loop-i.i c.new-day.result at);
    }

pub returns : goal.returns
unfolding days_of
returns c =
    let all : c.loop-i.i ≡ c.year_span-first.result.1 = omega (arith, c.loop-i-test.false, c.loop-i.auto.i-end) in
    c.loop-i.invariant.counted
    ∙ (λ i. count_by (is_in_season (record { first = (c.season-season.ensures i).0; last = (c.season-season.ensures i).1 }))
    (range_with_len (c.year_span-first.ensures.first i) ((all ∙ c.year_span-first.ensures.days) i)))
