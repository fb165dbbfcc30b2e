use Rattle.std.proofs.Common.{sym, subst, arith}
use Rattle.aq_particle_cells.specs.Pm25.Pm25Tallies.{ExchangesDay, HasDay}
use Rattle.aq_particle_cells.specs.declared.days.kept_days.KeptDay.{KeptDay}
use Rattle.aq_particle_cells.proofs.Pm25Lemmas.Pm25Exchange.{has-day, tallies-after}
use Rattle.aq_particle_cells.proofs.pm25.days.exchange_day.Goals as goal

pub exchange-requires-clause-day : goal.exchange-requires-clause-day
exchange-requires-clause-day g c =
    subst (λ (day : KeptDay). HasDay c.args.site c.args.day day c.args.tallies.now) (sym c.day-old.ensures)
    (has-day c.args.days.now.days.entries c.args.tallies.now c.args.site c.args.day (omega (arith, c.number.ensures.value, c.number.ensures.range)) c.requires.tallies)

pub returns-clause-tallies : goal.returns-clause-tallies
returns-clause-tallies g c =
    tallies-after c.args.days.now.days.entries c.put.new.self.days.entries c.args.new.now c.args.site c.args.day c.in_ok-put.ensures.ok c.args.tallies.now c.exchange.new.self
    (omega (arith, c.number.ensures.value, c.number.ensures.range))
    (subst (λ (day : KeptDay). ExchangesDay c.args.site c.args.day day c.args.new.now c.args.tallies.now c.exchange.new.self) c.day-old.ensures c.in_ok-exchange.ensures.day)
    c.requires.tallies
