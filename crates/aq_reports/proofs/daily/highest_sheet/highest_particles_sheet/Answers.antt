use Rattle.std.proofs.Common.{◌≡◌, List, [], ◌∷◌, map, codes, ap, ◌∙◌}
use Rattle.std.specs.List.{enumerate_from}
use Rattle.aq_rules.specs.Listed.Highest as highest
use Rattle.aq_reports.proofs.daily.highest_sheet.highest_particles_sheet.Goals as goal

pub returns : goal.returns
unfolding highest.highest_particles_sheet
returns c =
    let columns : c.in_ok-columns.columns ≡ codes "rank" ∷ codes "day" ∷ codes "value" ∷ [] = c.in_ok-columns.ensures in
    let rows : c.in_ok-rows.rows ≡ map highest.particle_cells (enumerate_from 1 c.args.found.now.days.items) =
    c.in_ok-rows.ensures ∙ ap (λ (l : List highest.RankedDay). map highest.particle_cells (enumerate_from 1 l)) c.as_slice.ensures.value in
    c.new.ensures ∙ (λ i. record { heads = c.in_ok-heads.ensures i; columns = columns i; rows = rows i })
