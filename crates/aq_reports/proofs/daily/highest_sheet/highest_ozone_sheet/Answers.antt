use Rattle.std.proofs.Common.{◌≡◌, [], ◌∷◌, codes, ◌∙◌}
use Rattle.aq_rules.specs.Listed.Highest as highest
use Rattle.aq_reports.proofs.daily.highest_sheet.highest_ozone_sheet.Goals as goal

pub returns : goal.returns
unfolding highest.highest_ozone_sheet
returns c =
    let columns : c.in_ok-columns.columns ≡ codes "rank" ∷ codes "day" ∷ codes "value" ∷ codes "hour" ∷ codes "hours" ∷ [] = c.in_ok-columns.ensures in
    c.new.ensures ∙ (λ i. record { heads = c.in_ok-heads.ensures i; columns = columns i; rows = c.in_ok-rows.ensures i })
