use Rattle.std.proofs.Common.{◌∙◌, ◌+◌, ◌≤◌, ℕ, ap, sym, subst, rules, arith}
use Rattle.std.specs.Prelude.{ℤ, Option, is_some, nat_le}
use Rattle.std.specs.BTreeMap.{is_at}
use Rattle.std.specs.Map.{lookup}
use Rattle.aq_base.specs.Calendar.{days_in_year, year_first}
use Rattle.aq_base.specs.declared.day.TheConstants.{LAST_DAY}
use Rattle.aq_rules.specs.Lists.{ranked}
use Rattle.aq_rules.specs.Ozone.OzoneYear.{ozone_year}
use Rattle.aq_registry.specs.Registry.{office_with}
use Rattle.aq_ozone_cells.specs.OzoneCells.{counted_held, maxima_held, year_of_days, AreHeldBy, AreYears, Cells}
use Rattle.aq_ozone_cells.specs.SiteKeys.{key_cmp, site_key}
use Rattle.aq_ozone_cells.specs.YearTallies.{count_of, maximum_of}
use Rattle.aq_ozone_cells.proofs.CellFacts.{few-in_year, ranks-ozone}
use Rattle.aq_ozone_cells.proofs.HeldYear.{held-year, valid-few}
use Rattle.aq_ozone.proofs.RangeLemmas.{fourth_range}
use Rattle.aq_ozone.proofs.YearLemmas.{fourth_there, length_ranked}
use Rattle.aq_ozone_cells.proofs.ozone_cells.OzoneCells.year.Goals as goal

pub overflow_cast-counted : goal.overflow_cast-counted
unfolding AreYears
overflow_cast-counted c =
    let cells = c.self.inside.days.days.entries in
    let bags = c.self.invariant.years c.args.site c.args.year c.requires.first c.requires.last in
    let few : c.counted.result ≤ 366
    = omega (arith, c.counted.ensures (maxima_held cells c.args.site c.args.year) (counted_held cells c.args.site c.args.year) bags, few-in_year count_of cells c.args.site c.args.year) in
    search rules

pub overflow_cast-number : goal.overflow_cast-number
unfolding AreYears
overflow_cast-number c =
    let cells = c.self.inside.days.days.entries in
    let bags = c.self.invariant.years c.args.site c.args.year c.requires.first c.requires.last in
    let is = ap (λ (p : ℕ × Option ℤ). p.0) (c.maxima-number.ensures (maxima_held cells c.args.site c.args.year) (counted_held cells c.args.site c.args.year) bags) in
    let few : c.maxima-number.result.0 ≤ 366 = omega (arith, is, few-in_year maximum_of cells c.args.site c.args.year) in
    search rules

pub new-requires : goal.new-requires
unfolding AreYears ozone_year
new-requires c =
    let cells = c.self.inside.days.days.entries in
    let records = c.args.registry.now in
    let site = c.args.site in
    let year = c.args.year in
    let values = maxima_held cells site year in
    let bags = c.self.invariant.years site year c.requires.first c.requires.last in
    let two = c.maxima-number.ensures values (counted_held cells site year) bags in
    let number = ap (λ (p : ℕ × Option ℤ). p.0) two in
    let fourth = ap (λ (p : ℕ × Option ℤ). p.1) two in
    let counted = c.counted.ensures values (counted_held cells site year) bags in
    let held : AreHeldBy records cells site year = subst (λ (k : Cells). AreHeldBy records k site year) (sym c.self.view_is) c.requires.held in
    let in_profile : year_first year + days_in_year year ≤ LAST_DAY + 1 = omega (arith, c.year_span.ensures.first, c.year_span.ensures.days, c.year_span.ensures.in_profile) in
    let keeps = c.ozone_years_keep_their_facts.ensures (office_with records) site year c.next_poc.ensures.valid in
    record {
      some_season = subst (λ n. 1 ≤ n) (sym c.season_days.ensures) keeps.some_season;
      season_days = subst (λ n. n ≤ 366) (sym c.season_days.ensures) keeps.season_days;
      season_valid = omega (arith, counted, c.season_days.ensures, valid-few records cells site year c.requires.first in_profile held);
      ranked = omega (arith, number, few-in_year maximum_of cells site year);
      fourth = ap (λ (o : Option ℤ). is_some o) fourth ∙ fourth_there (ranked values) ∙ ap (λ n. nat_le 4 n) (length_ranked values ∙ sym number);
      fourth_in_range = rw fourth (fourth_range values (ranks-ozone values (lookup (is_at (key_cmp (site_key site year))) c.self.inside.tallies.maxima) bags.maxima_are));
    }

pub returns : goal.returns
unfolding AreYears
returns c =
    let cells = c.self.inside.days.days.entries in
    let records = c.args.registry.now in
    let site = c.args.site in
    let year = c.args.year in
    let bags = c.self.invariant.years site year c.requires.first c.requires.last in
    let held : AreHeldBy records cells site year = subst (λ (k : Cells). AreHeldBy records k site year) (sym c.self.view_is) c.requires.held in
    let in_profile : year_first year + days_in_year year ≤ LAST_DAY + 1 = omega (arith, c.year_span.ensures.first, c.year_span.ensures.days, c.year_span.ensures.in_profile) in
    c.new.ensures
    ∙ held-year records cells site year c.requires.first in_profile held c.season_days.result c.counted.result c.maxima-number.result.0 c.maxima-number.result.1
    c.season_days.ensures (c.counted.ensures (maxima_held cells site year) (counted_held cells site year) bags)
    (c.maxima-number.ensures (maxima_held cells site year) (counted_held cells site year) bags)
    ∙ ap (λ (k : Cells). year_of_days records k site year) c.self.view_is
