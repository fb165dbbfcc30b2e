use Rattle.std.proofs.Common.{◌∙◌, ◌&&◌, ℕ, cond, ap, subst, sym, arith}
use Rattle.std.specs.Prelude.{◌==◌, Option}
use Rattle.aq_base.specs.Calendar.{quarter_of}
use Rattle.aq_rules.specs.Office.Monitors.{is_same_site}
use Rattle.aq_particle_cells.specs.Pm10.Strata.{stratum_at}
use Rattle.aq_particle_cells.specs.Pm10.StrataTotals.{AreTotalsOf}
use Rattle.aq_particle_cells.specs.Days.Tallied.{ExchangesItem, HasItem}
use Rattle.aq_particle_cells.proofs.Pm10Lemmas.Pm10Exchange.{has-stratum, strata-bags}
use Rattle.aq_particle_cells.proofs.pm10.days.settle_stratum.Goals as goal

pub exchange_stratum-requires-clause-stratum : goal.exchange_stratum-requires-clause-stratum
exchange_stratum-requires-clause-stratum g c =
    subst (λ (o : Option (ℕ × ℕ)). HasItem AreTotalsOf c.args.site (quarter_of c.args.first) o c.args.tallies.now.strata) (sym c.stratum-old.ensures)
    (has-stratum c.args.days.now.days.entries c.args.strata.now.strata.entries c.args.tallies.now c.args.site c.args.first (omega (arith, c.number.ensures.value, c.number.ensures.range)) c.requires.tallies)

pub returns-clause-tallies : goal.returns-clause-tallies
returns-clause-tallies g c =
    strata-bags c.args.days.now.days.entries c.args.strata.now.strata.entries c.put.new.self.strata.entries c.stratum_from-new.result c.args.site c.args.first c.in_ok-put.ensures.ok
    c.args.tallies.now c.exchange_stratum.new.self (omega (arith, c.number.ensures.value, c.number.ensures.range))
    (subst (λ (o : Option (ℕ × ℕ)). ExchangesItem AreTotalsOf c.args.site (quarter_of c.args.first) o c.stratum_from-new.result c.args.tallies.now.strata c.exchange_stratum.new.self.strata) c.stratum-old.ensures
    c.in_ok-exchange_stratum.ensures.strata)
    c.exchange_stratum.ensures.samples c.requires.tallies

pub returns-clause-strata : goal.returns-clause-strata
returns-clause-strata g c other number =
    c.in_ok-put.ensures.ok other number
    ∙ ap (λ (o : Option (ℕ × ℕ)). cond (is_same_site c.args.site other && (c.args.first == number)) o (stratum_at c.args.strata.now.strata.entries other number)) c.stratum_from-new.ensures.value
