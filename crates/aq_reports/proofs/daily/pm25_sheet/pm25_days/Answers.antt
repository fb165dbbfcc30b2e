use Rattle.std.proofs.Common.{◌≡◌, [], ◌∷◌, ◌∙◌, map, codes, sym}
use Rattle.std.proofs.lemmas.Simd.{map-map}
use Rattle.aq_rules.specs.Listed.Daily as daily
use Rattle.aq_rules.specs.Office.Office.{Office}
use Rattle.aq_rules.specs.Ozone.OzoneYear.{days_of}
use Rattle.aq_reports.proofs.daily.pm25_sheet.pm25_days.Goals as goal

pub returns : goal.returns
unfolding daily.daily_answer daily.pm25_days_sheet
returns g c =
    let office : Office = g.S.Years.office c.args.source.now in
    let columns : c.in_ok-columns.columns ≡ codes "day" ∷ codes "scheduled" ∷ codes "value" ∷ codes "excluded" ∷ codes "credit" ∷ [] = c.in_ok-columns.ensures in
    let rows : c.in_ok-rows.rows ≡ map daily.pm25_day_cells (map (daily.pm25_day office c.args.site) (days_of c.args.year)) =
    c.in_ok-rows.ensures ∙ sym (map-map daily.pm25_day_cells (daily.pm25_day office c.args.site) (days_of c.args.year)) in
    c.new.ensures ∙ (λ i. record { heads = c.in_ok-heads.ensures i; columns = columns i; rows = rows i })
