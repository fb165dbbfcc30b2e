use Rattle.std.proofs.Common.{◌∙◌, ◌<◌, ◌≤◌, sym, arith}
use Rattle.aq_listed.specs.Marks.{lies_between}
use Rattle.aq_listed.proofs.Places.{few-view, found-between, none-between}
use Rattle.aq_listed.proofs.marks.Marks.count.Goals as goal

pub returns-then-number : goal.returns-then-number
returns-then-number c =
    let downward : c.args.last < c.args.first = omega arith in
    sym (none-between c.args.pollutant c.args.code c.args.first c.args.last c.args.self.now downward)

pub overflow_sub-result : goal.overflow_sub-result
overflow_sub-result c =
    let upward : c.args.first ≤ c.args.last = omega arith in
    let found = found-between c.args.pollutant c.args.code c.args.first c.args.last c.args.self.now c.as_slice.result.now c.as_slice-2.result.now c.count_below-before.result c.count_up_to-through.result upward
    (c.as_slice.ensures.value ∙ c.self.view_is) (c.as_slice-2.ensures.value ∙ c.self.view_is) c.count_below-before.ensures c.count_up_to-through.ensures in
    omega arith

pub overflow_cast-result : goal.overflow_cast-result
overflow_cast-result c =
    let upward : c.args.first ≤ c.args.last = omega arith in
    let found = found-between c.args.pollutant c.args.code c.args.first c.args.last c.args.self.now c.as_slice.result.now c.as_slice-2.result.now c.count_below-before.result c.count_up_to-through.result upward
    (c.as_slice.ensures.value ∙ c.self.view_is) (c.as_slice-2.ensures.value ∙ c.self.view_is) c.count_below-before.ensures c.count_up_to-through.ensures in
    let few = few-view c.self.inside.items.items c.args.self.now c.self.view_is c.self.invariant.few c.args.pollutant c.args.code (lies_between c.args.first c.args.last) in
    omega arith

pub returns : goal.returns
returns c =
    let upward : c.args.first ≤ c.args.last = omega arith in
    let found = found-between c.args.pollutant c.args.code c.args.first c.args.last c.args.self.now c.as_slice.result.now c.as_slice-2.result.now c.count_below-before.result c.count_up_to-through.result upward
    (c.as_slice.ensures.value ∙ c.self.view_is) (c.as_slice-2.ensures.value ∙ c.self.view_is) c.count_below-before.ensures c.count_up_to-through.ensures in
    omega arith
