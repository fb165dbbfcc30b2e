use Rattle.std.proofs.Common.{◌∙◌, sym, arith}
use Rattle.aq_series.specs.OfficeView.{office_of}
use Rattle.aq_ozone_cells.specs.Filling.{IsWeekOf}
use Rattle.aq_ozone_cells.proofs.FillLemmas.{stay-itself, week-each, week-has, week-stay}
use Rattle.aq_ozone_cells.proofs.filling.fill_at.Goals as goal

pub returns-then-is_within-clause-stay : goal.returns-then-is_within-clause-stay
returns-then-is_within-clause-stay g c = stay-itself (office_of c.args.registry.now c.args.shelf.now) c.args.cells.now

pub returns-then-is_within-clause-day : goal.returns-then-is_within-clause-day
returns-then-is_within-clause-day g c =
    week-has (office_of c.args.registry.now c.args.shelf.now) c.args.cells.now c.args.week.now c.args.site c.saturating_sub-first.result c.args.day c.requires.filling.week
    (sym c.is_within.ensures ∙ c.if-is_within.true) c.args.day (omega (arith, c.saturating_sub-first.ensures)) (omega arith) c.requires.day

pub returns-then-is_within-clause-before : goal.returns-then-is_within-clause-before
returns-then-is_within-clause-before g c number before =
    week-has (office_of c.args.registry.now c.args.shelf.now) c.args.cells.now c.args.week.now c.args.site c.saturating_sub-first.result c.args.day c.requires.filling.week
    (sym c.is_within.ensures ∙ c.if-is_within.true) number (omega (arith, before, c.saturating_sub-first.ensures)) (omega (arith, before)) (omega (arith, before, c.requires.day))

pub returns-clause-filling : goal.returns-clause-filling
unfolding IsWeekOf
returns-clause-filling g c = record {
  each = week-each (office_of c.args.registry.now c.args.shelf.now) c.args.cells.now c.fill_week.new.cells c.args.site c.saturating_sub-first.result
      c.in_ok-fill_week.ensures.filled c.in_ok-fill_week.ensures.others c.requires.filling.each;
  week = c.in_ok-fill_week.ensures.filled;
}

pub returns-clause-stay : goal.returns-clause-stay
returns-clause-stay g c =
    week-stay (office_of c.args.registry.now c.args.shelf.now) c.args.cells.now c.fill_week.new.cells c.args.site c.saturating_sub-first.result c.in_ok-fill_week.ensures.filled c.in_ok-fill_week.ensures.others

pub returns-clause-day : goal.returns-clause-day
returns-clause-day g c = c.in_ok-fill_week.ensures.filled c.args.day (omega (arith, c.saturating_sub-first.ensures)) (omega (arith, c.saturating_sub-first.ensures)) c.requires.day

pub returns-clause-before : goal.returns-clause-before
returns-clause-before g c number before =
    c.in_ok-fill_week.ensures.filled number (omega (arith, before, c.saturating_sub-first.ensures)) (omega (arith, before, c.saturating_sub-first.ensures)) (omega (arith, before, c.requires.day))
