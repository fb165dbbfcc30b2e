use Rattle.std.proofs.Common.{◌≡◌, ◌++◌, ◌∙◌}
use Rattle.aq_series.specs.OfficeView.{office_of}
use Rattle.aq_listed.proofs.LinesLeft.{left, left_all}
use Rattle.aq_listed.proofs.observation_lines.lines.Goals as goal

pub loop-key-init : goal.loop-key-init
loop-key-init g c =
    let office = office_of c.args.registry.now c.args.shelf.now in
    let rows : c.into_iter-key-iterator.result ≡ c.args.shelf.now = c.into_iter-key-iterator.ensures.into_iter_gives ∙ c.rows-key-items.ensures.rows in
    let none = c.new-text.ensures.items in
    (λ i. none i ++ left office c.args.site c.args.pollutant c.args.year (rows i)) ∙ left_all office c.args.site c.args.pollutant c.args.year
