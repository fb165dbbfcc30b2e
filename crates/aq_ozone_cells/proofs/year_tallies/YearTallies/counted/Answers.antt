use Rattle.std.proofs.Common.{ℕ, ap}
use Rattle.std.specs.Prelude.{ℤ}
use Rattle.aq_ozone_cells.specs.YearTallies.{IsCountOf}
use Rattle.aq_ozone_cells.proofs.TallyLemmas.{bag-here}
use Rattle.aq_ozone_cells.proofs.year_tallies.YearTallies.counted.Goals as goal

pub returns : goal.returns
returns c maxima counted bags =
    ap (λ (p : ℤ × ℕ). p.1)
    (c.answer-number.ensures counted (bag-here IsCountOf c.args.site c.args.year c.new.result c.new.ensures counted c.args.self.now.counted bags.counted_are))
