use Rattle.std.proofs.Common.{◌≡◌, Option, w32, ap, ◌∙◌, rules}
use Rattle.std.specs.Prelude.{FitsSigned, ℤ}
use Rattle.std.proofs.lemmas.Int.{to_z-of_z}
use Rattle.aq_rules.specs.Listed.Highest.{MaximumAt, RankedDay, first_at, with_start}
use Rattle.aq_reports.specs.Daily.Maxima.{first_among}
use Rattle.aq_reports.proofs.DailyLemmas.HighestDays.{start-among}
use Rattle.aq_office.proofs.highest.row_of.Goals as goal

pub returns-clause-row : goal.returns-clause-row
returns-clause-row g c =
    let office = c.args.book.now in
    let row : RankedDay = record { day = c.day.inside.day; value = c.day.inside.value } in
    let fits : FitsSigned w32 c.day.inside.value = search rules in
    let start : c.first_at-start.result ≡ first_at office c.args.site row.day row.value =
    c.first_at-start.ensures ∙ ap (λ (v : ℤ). first_among v c.in_ok-windows.windows) (to_z-of_z w32 c.day.inside.value fits)
    ∙ start-among office c.args.site 0 row.day row.value c.in_ok-windows.windows c.in_ok-windows.ensures.windows in
    ap (λ (at : Option MaximumAt). (row, at)) start ∙ ap (with_start office c.args.site) c.day.view_is
