use Rattle.std.proofs.Common.{◌≡◌, ◌∙◌, ◌+◌, ◌-◌, ◌≤◌, ℕ, Bool, true, false, cond, ap, sym, arith}
use Rattle.std.specs.Prelude.{count_by}
use Rattle.std.specs.List.{range_with_len}
use Rattle.aq_rules.specs.Office.Schedule.{asks_for}
use Rattle.aq_particle_cells.proofs.DaysLemmas.ItemCounts.{count-range, one_where}
use Rattle.aq_particle_cells.proofs.days.schedule.asked_days.Goals as goal

one_at_most : (b : Bool) → cond b 1 0 ≤ 1
one_at_most true = omega arith
one_at_most false = omega arith

pub loop-number-preserved : goal.loop-number-preserved
loop-number-preserved c =
    let test : ℕ → Bool = λ day. asks_for day c.args.schedule.now in
    let counted : ℕ = c.loop-number.number - c.args.first in
    let at : c.args.first + counted ≡ c.new.result = omega (arith, c.loop-number.auto.number, c.new.ensures) in
    let next : c.loop-number.number + 1 - c.args.first ≡ counted + 1 = omega (arith, c.loop-number.auto.number) in
    let one : c.from-count.result ≡ cond (test c.new.result) 1 0 = c.from-count.ensures ∙ one_where c.asks.result ∙ ap (λ b. cond b 1 0) c.asks.ensures in
    record {
      few = omega (arith, c.loop-number.invariant.few, next, one, one_at_most (test c.new.result));
      counted =
          ap (λ n. n + c.from-count.result) c.loop-number.invariant.counted
          ∙ ap (λ n. count_by test (range_with_len c.args.first counted) + n) one
          ∙ sym (count-range test c.args.first counted c.new.result at)
          ∙ ap (λ n. count_by test (range_with_len c.args.first n)) (sym next);
    }

pub returns-clause-asked : goal.returns-clause-asked
returns-clause-asked c =
    let all : c.loop-number.number ≡ c.args.end = omega (arith, c.loop-number-test.false, c.loop-number.auto.number-end) in
    c.loop-number.invariant.counted
    ∙ ap (λ n. count_by (λ day. asks_for day c.args.schedule.now) (range_with_len c.args.first (n - c.args.first))) all

pub returns-clause-few : goal.returns-clause-few
returns-clause-few c =
    let all : c.loop-number.number ≡ c.args.end = omega (arith, c.loop-number-test.false, c.loop-number.auto.number-end) in
    omega (arith, c.loop-number.invariant.few, all)
