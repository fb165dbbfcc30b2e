use Rattle.std.proofs.Common.{◌≡◌, ◌∙◌, ◌+◌, ◌*◌, ◌/◌, ℕ, None, map, ap, sym, subst, arith}
use Rattle.std.specs.List.{range_with_len}
use Rattle.aq_rules.specs.Ozone.EightHour.{WindowRow}
use Rattle.aq_rules.specs.Ozone.OzoneDay.{starts_of}
use Rattle.aq_ozone.specs.DayHours.{AreNetOzone}
use Rattle.aq_ozone_cells.specs.KeptDays.{average_at}
use Rattle.aq_ozone_cells.specs.OzoneCells.{row_with}
use Rattle.aq_ozone.proofs.DayLemmas.{list_by}
use Rattle.aq_ozone_cells.proofs.KeptDayLemmas.{average-of-day}
use Rattle.aq_ozone_cells.proofs.SettleLemmas.{net-rows}
use Rattle.aq_ozone_cells.proofs.held_days.averages_of.Goals as goal

abbrev empty : WindowRow
empty = record { net = None; net_hours = 0; full = None; full_hours = 0 }

pub returns-clause-rows : goal.returns-clause-rows
unfolding starts_of
returns-clause-rows c =
    let all : c.loop-i.i ≡ 17 = omega (arith, c.loop-i-test.false, c.loop-i.auto.i-end) in
    let row : ℕ → WindowRow = λ start. row_with (average_at c.args.days.now.days.entries c.args.site start) in
    let day : c.number-number.result ≡ c.args.day = c.number-number.ensures.value in
    let first : 24 * c.from.result + 7 ≡ 24 * c.args.day + 7 = omega (arith, c.from.ensures, day) in
    c.new.ensures
    ∙ list_by empty row c.loop-i.rows (24 * c.from.result + 7) 17 c.loop-i.invariant.many
    (λ k within.
    let lies : (24 * c.from.result + 7 + k) / 24 ≡ c.number-number.result = omega (arith, c.from.ensures, within) in
    c.loop-i.invariant.rows empty k (omega (arith, all, within))
    ∙ ap row_with (average-of-day c.args.days.now.days.entries c.args.site c.number-number.result (24 * c.from.result + 7 + k) c.day-cells.result c.day-cells.ensures lies))
    ∙ ap (λ start. map row (range_with_len start 17)) first

pub returns-clause-range : goal.returns-clause-range
unfolding starts_of
returns-clause-range c =
    subst AreNetOzone (sym (returns-clause-rows c))
    (net-rows (average_at c.args.days.now.days.entries c.args.site) (range_with_len (24 * c.args.day + 7) 17) (c.requires c.args.site))
