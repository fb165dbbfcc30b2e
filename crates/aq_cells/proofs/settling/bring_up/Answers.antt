use Rattle.std.proofs.Common.{arith}
use Rattle.aq_dirty.specs.Marked.{named}
use Rattle.aq_series.specs.OfficeView.{office_of}
use Rattle.aq_cells.proofs.ParticleSteps.{both-paid, enough-pm10, enough-pm25}
use Rattle.aq_cells.proofs.settling.bring_up.Goals as goal

pub returns-clause-steps : goal.returns-clause-steps
returns-clause-steps g c enough are =
    let office = office_of c.args.registry.now c.args.shelf.now in
    let fine = c.in_ok-bring_up.ensures.steps enough (enough-pm25 office c.args.pm25.now c.args.pm10.now enough are c.requires.valid) in
    let coarse = c.in_ok-bring_up-2.ensures.steps enough (enough-pm10 office c.args.pm25.now c.args.pm10.now enough are c.requires.valid) in
    omega (arith, fine, coarse, both-paid enough (named c.args.cell.now))

pub returns-in_err-bring_up-clause-steps : goal.returns-in_err-bring_up-clause-steps
returns-in_err-bring_up-clause-steps g c enough are =
    let office = office_of c.args.registry.now c.args.shelf.now in
    let fine = c.in_err-bring_up.ensures.steps enough (enough-pm25 office c.args.pm25.now c.args.pm10.now enough are c.requires.valid) in
    omega (arith, fine, both-paid enough (named c.args.cell.now))

pub returns-in_err-bring_up-2-clause-steps : goal.returns-in_err-bring_up-2-clause-steps
returns-in_err-bring_up-2-clause-steps g c enough are =
    let office = office_of c.args.registry.now c.args.shelf.now in
    let fine = c.in_ok-bring_up.ensures.steps enough (enough-pm25 office c.args.pm25.now c.args.pm10.now enough are c.requires.valid) in
    let coarse = c.in_err-bring_up-2.ensures.steps enough (enough-pm10 office c.args.pm25.now c.args.pm10.now enough are c.requires.valid) in
    omega (arith, fine, coarse, both-paid enough (named c.args.cell.now))
