use Rattle.std.proofs.Common.{subst, sym, arith}
use Rattle.aq_base.specs.Calendar.{quarter_of}
use Rattle.aq_particle_cells.specs.Pm10.Pm10Tallies.{captured_of}
use Rattle.aq_particle_cells.specs.Days.Tallied.{ExchangesItem, HasItem, AreSumsOf}
use Rattle.aq_particle_cells.specs.declared.days.kept_days.KeptDay.{KeptDay}
use Rattle.aq_particle_cells.proofs.Pm10Lemmas.Pm10Exchange.{has-sample, samples-bags}
use Rattle.aq_particle_cells.proofs.pm10.days.exchange_day.Goals as goal

pub exchange_day-requires : goal.exchange_day-requires
exchange_day-requires g c = record {
  day =
      subst (λ (d : KeptDay). HasItem AreSumsOf c.args.site (quarter_of c.args.day) (captured_of d) c.args.tallies.now.samples) (sym c.day-old.ensures)
      (has-sample c.args.days.now.days.entries c.args.strata.now.strata.entries c.args.tallies.now c.args.site c.args.day (omega (arith, c.number.ensures.value, c.number.ensures.range)) c.requires.tallies);
}

pub returns-clause-tallies : goal.returns-clause-tallies
returns-clause-tallies g c =
    samples-bags c.args.days.now.days.entries c.put.new.self.days.entries c.args.new.now c.args.site c.args.day c.in_ok-put.ensures.ok c.args.strata.now.strata.entries c.args.tallies.now c.exchange_day.new.self
    (omega (arith, c.number.ensures.value, c.number.ensures.range))
    (subst (λ (d : KeptDay). ExchangesItem AreSumsOf c.args.site (quarter_of c.args.day) (captured_of d) (captured_of c.args.new.now) c.args.tallies.now.samples c.exchange_day.new.self.samples) c.day-old.ensures
    c.in_ok-exchange_day.ensures.samples)
    c.exchange_day.ensures.strata c.requires.tallies
