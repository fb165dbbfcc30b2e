use Rattle.std.proofs.Common.{◌≡◌, ◌++◌, List, subst}
use Rattle.std.specs.Prelude.{OnOk}
use Rattle.aq_rules.specs.Shown.Sheet.{SheetCell}
use Rattle.aq_reports.proofs.DailyLemmas.QuarterRows.{quarter-rows}
use Rattle.aq_reports.proofs.daily.pm10_sheet.add_quarter.Goals as goal

pub returns : goal.returns
returns g c =
    subst (λ (rows : List (List SheetCell)). OnOk c.add_days.result (c.add_days.new.rows ≡ c.args.rows.now ++ rows))
    (quarter-rows (g.S.Years.office c.args.source.now) c.args.site c.args.quarter c.quarter_span-first.result.0 c.quarter_span-first.result.1 c.quarter_span-first.ensures.first c.quarter_span-first.ensures.days c.quarter_span-first.ensures.in_profile)
    c.add_days.ensures
