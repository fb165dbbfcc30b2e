use Rattle.aq_design.proofs.WhatIfLemmas.StandingLemmas.{known-ozone}
use Rattle.aq_design.proofs.what_if.standing.Standing.ozone.Goals as goal

pub returns : goal.returns
returns c = known-ozone c.args.self.now c.requires.stands c.args.hours.now c.args.site c.args.year c.in_ok-place.place c.in_ok-place.ensures c.ozone_at.result c.ozone_at.ensures
