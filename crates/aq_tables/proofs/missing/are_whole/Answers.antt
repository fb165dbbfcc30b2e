use Rattle.std.proofs.Common.{sym, ◌∙◌}
use Rattle.aq_tables.proofs.Whole.{whole_before, whole_empty, whole_today, whole_viewed}
use Rattle.aq_tables.proofs.missing.are_whole.Goals as goal

pub returns-then-are_of_today : goal.returns-then-are_of_today
returns-then-are_of_today c are = sym (whole_today c.args.missing.now c.args.schema.now are (sym c.are_of_today.ensures ∙ c.if-are_of_today.true))

pub returns-then-has_view : goal.returns-then-has_view
returns-then-has_view c are = sym (whole_viewed c.args.missing.now c.args.schema.now are (sym c.are_of_today.ensures ∙ c.if-are_of_today.false) (sym c.has_view.ensures ∙ c.if-has_view.true))

pub returns-then-not-has_tables : goal.returns-then-not-has_tables
returns-then-not-has_tables c are =
    sym (whole_empty c.args.missing.now c.args.schema.now are (sym c.has_view.ensures ∙ c.if-has_view.false) (sym c.has_tables.ensures ∙ c.if-not-has_tables.true))

pub returns : goal.returns
returns c are =
    c.are_of_before.ensures
    ∙ sym (whole_before c.args.missing.now c.args.schema.now are (sym c.are_of_today.ensures ∙ c.if-are_of_today.false) (sym c.has_view.ensures ∙ c.if-has_view.false) (sym c.has_tables.ensures ∙ c.if-not-has_tables.false))
