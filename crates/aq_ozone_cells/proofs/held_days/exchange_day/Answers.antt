use Rattle.std.proofs.Common.{sym, subst, arith}
use Rattle.aq_ozone_cells.specs.OzoneCells.{AreYears}
use Rattle.aq_ozone_cells.specs.YearTallies.{Exchanges, HasDay}
use Rattle.aq_ozone_cells.specs.declared.kept_days.HeldDay.{HeldDay}
use Rattle.aq_ozone_cells.proofs.YearExchange.{has-day, years-after}
use Rattle.aq_ozone_cells.proofs.held_days.exchange_day.Goals as goal

pub exchange-requires-clause-day : goal.exchange-requires-clause-day
unfolding AreYears
exchange-requires-clause-day g c =
    subst (λ (day : HeldDay). HasDay c.args.site c.civil_of.result.year day c.args.tallies.now) (sym c.held-old.ensures)
    (has-day c.args.days.now.days.entries c.args.tallies.now c.args.site c.civil_of.result.year c.args.day
    c.civil_of.ensures.year_range.0 (omega (arith, c.number.ensures.value, c.number.ensures.range)) (sym c.civil_of.ensures.year)
    (c.requires.years c.args.site c.civil_of.result.year c.civil_of.ensures.year_range.0 c.civil_of.ensures.year_range.1))

pub returns-clause-years : goal.returns-clause-years
returns-clause-years g c =
    years-after c.args.days.now.days.entries c.put_held.new.self.days.entries c.args.tallies.now c.exchange.new.self c.args.site c.civil_of.result.year c.args.day c.args.new.now
    c.civil_of.ensures.year_range.0 (omega (arith, c.number.ensures.value, c.number.ensures.range)) (sym c.civil_of.ensures.year) c.in_ok-put_held.ensures.held
    (subst (λ (day : HeldDay). Exchanges c.args.site c.civil_of.result.year day c.args.new.now c.args.tallies.now c.exchange.new.self) c.held-old.ensures c.in_ok-exchange.ensures.day)
    c.in_ok-exchange.ensures.others c.requires.years
