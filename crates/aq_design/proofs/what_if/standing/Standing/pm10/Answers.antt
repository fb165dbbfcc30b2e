use Rattle.aq_design.proofs.WhatIfLemmas.StandingLemmas.{known-pm10}
use Rattle.aq_design.proofs.what_if.standing.Standing.pm10.Goals as goal

pub returns : goal.returns
returns c = known-pm10 c.args.self.now c.requires.stands c.args.hours.now c.args.site c.args.year c.in_ok-place.place c.in_ok-place.ensures c.pm10_at.result c.pm10_at.ensures
