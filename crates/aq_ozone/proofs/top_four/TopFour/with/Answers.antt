use Rattle.std.proofs.Common.{sym, ◌∙◌, w32}
use Rattle.std.proofs.lemmas.Int.{to_z-of_z}
use Rattle.aq_ozone.proofs.TopLemmas.{first_place, second_place, third_place, fourth_place, no_place}
use Rattle.aq_ozone.proofs.top_four.TopFour.with.Goals as goal

pub returns-then-is_no_lower : goal.returns-then-is_no_lower
returns-then-is_no_lower c values is =
    first_place c.args.value _ (to_z-of_z w32 c.args.value c.ranges.value) values c.args.self is
    (sym c.is_no_lower.ensures ∙ c.if-is_no_lower.true)

pub returns-then-is_no_lower-2 : goal.returns-then-is_no_lower-2
returns-then-is_no_lower-2 c values is =
    second_place c.args.value _ (to_z-of_z w32 c.args.value c.ranges.value) values c.args.self is
    (sym c.is_no_lower.ensures ∙ c.if-is_no_lower.false) (sym c.is_no_lower-else-is_no_lower.ensures ∙ c.if-is_no_lower-2.true)

pub returns-then-is_no_lower-3 : goal.returns-then-is_no_lower-3
returns-then-is_no_lower-3 c values is =
    third_place c.args.value _ (to_z-of_z w32 c.args.value c.ranges.value) values c.args.self is
    (sym c.is_no_lower.ensures ∙ c.if-is_no_lower.false) (sym c.is_no_lower-else-is_no_lower.ensures ∙ c.if-is_no_lower-2.false)
    (sym c.is_no_lower-else-is_no_lower-2.ensures ∙ c.if-is_no_lower-3.true)

pub returns-then-is_no_lower-4 : goal.returns-then-is_no_lower-4
returns-then-is_no_lower-4 c values is =
    fourth_place c.args.value _ (to_z-of_z w32 c.args.value c.ranges.value) values c.args.self is
    (sym c.is_no_lower.ensures ∙ c.if-is_no_lower.false) (sym c.is_no_lower-else-is_no_lower.ensures ∙ c.if-is_no_lower-2.false)
    (sym c.is_no_lower-else-is_no_lower-2.ensures ∙ c.if-is_no_lower-3.false) (sym c.is_no_lower-else-is_no_lower-3.ensures ∙ c.if-is_no_lower-4.true)

pub returns-else-is_no_lower-4 : goal.returns-else-is_no_lower-4
returns-else-is_no_lower-4 c values is =
    no_place c.args.value _ (to_z-of_z w32 c.args.value c.ranges.value) values c.args.self is
    (sym c.is_no_lower.ensures ∙ c.if-is_no_lower.false) (sym c.is_no_lower-else-is_no_lower.ensures ∙ c.if-is_no_lower-2.false)
    (sym c.is_no_lower-else-is_no_lower-2.ensures ∙ c.if-is_no_lower-3.false) (sym c.is_no_lower-else-is_no_lower-3.ensures ∙ c.if-is_no_lower-4.false)
