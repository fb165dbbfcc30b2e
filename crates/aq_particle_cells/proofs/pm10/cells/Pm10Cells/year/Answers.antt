use Rattle.std.proofs.Common.{◌∙◌, [], ◌∷◌, ap, arith}
use Rattle.aq_particle_cells.specs.Pm10.Pm10Cells.{pm10_quarter_of_days, pm10_year_of_days}
use Rattle.aq_particle_cells.proofs.Pm10Lemmas.Pm10Quarter.{part-counted}
use Rattle.aq_particle_cells.proofs.pm10.cells.Pm10Cells.year.Goals as goal

pub quarter-first-requires : goal.quarter-first-requires
quarter-first-requires c = part-counted c.args.registry.now c.args.self.now c.args.site c.args.year c.requires.first c.quarter_in.result 0 (omega arith) c.quarter_in.ensures c.requires.counted

pub quarter-second-requires : goal.quarter-second-requires
quarter-second-requires c = part-counted c.args.registry.now c.args.self.now c.args.site c.args.year c.requires.first c.quarter_in-2.result 1 (omega arith) c.quarter_in-2.ensures c.requires.counted

pub quarter-third-requires : goal.quarter-third-requires
quarter-third-requires c = part-counted c.args.registry.now c.args.self.now c.args.site c.args.year c.requires.first c.quarter_in-3.result 2 (omega arith) c.quarter_in-3.ensures c.requires.counted

pub quarter-fourth-requires : goal.quarter-fourth-requires
quarter-fourth-requires c = part-counted c.args.registry.now c.args.self.now c.args.site c.args.year c.requires.first c.quarter_in-4.result 3 (omega arith) c.quarter_in-4.ensures c.requires.counted

pub returns : goal.returns
unfolding pm10_year_of_days
returns c =
    let quarter = pm10_quarter_of_days c.args.registry.now c.args.self.now.days c.args.site in
    c.new.ensures
    ∙ (λ i. (c.quarter-first.ensures ∙ ap quarter c.quarter_in.ensures) i ∷ (c.quarter-second.ensures ∙ ap quarter c.quarter_in-2.ensures) i
    ∷ (c.quarter-third.ensures ∙ ap quarter c.quarter_in-3.ensures) i ∷ (c.quarter-fourth.ensures ∙ ap quarter c.quarter_in-4.ensures) i ∷ [])
