use Rattle.std.proofs.Common.{◌∙◌}
use Rattle.aq_particles.proofs.Pm25Lemmas.Years.{year-kept}
use Rattle.aq_particles.proofs.pm25.quarters.year_of.Goals as goal

pub new-requires : goal.new-requires
new-requires g c =
    (year-kept (g.S.Pm25Schedule.site_days c.args.source.now) (g.S.Pm25Source.makeup_for c.args.source.now) c.args.year c.part_of.ensures c.part_of-2.ensures c.part_of-3.ensures c.part_of-4.ensures c.new-top.ensures
    c.tally_of-a.ensures c.tally_of-b.ensures c.tally_of-c.ensures c.tally_of-d.ensures c.quarter-first.ensures c.quarter-second.ensures c.quarter-third.ensures c.quarter.ensures).facts

pub returns : goal.returns
returns g c =
    c.new.ensures
    ∙ (year-kept (g.S.Pm25Schedule.site_days c.args.source.now) (g.S.Pm25Source.makeup_for c.args.source.now) c.args.year c.part_of.ensures c.part_of-2.ensures c.part_of-3.ensures c.part_of-4.ensures c.new-top.ensures
    c.tally_of-a.ensures c.tally_of-b.ensures c.tally_of-c.ensures c.tally_of-d.ensures c.quarter-first.ensures c.quarter-second.ensures c.quarter-third.ensures c.quarter.ensures).summary
