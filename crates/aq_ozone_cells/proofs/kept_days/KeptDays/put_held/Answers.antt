use Rattle.std.proofs.Common.{◌≡◌, ◌∙◌, ◌&&◌, Bool, true, false, ap, cond, subst, refl}
use Rattle.std.specs.Prelude.{◌==◌}
use Rattle.aq_rules.specs.Office.Monitors.{is_same_site}
use Rattle.aq_ozone_cells.specs.declared.kept_days.DayCells.{DayCells}
use Rattle.aq_ozone_cells.specs.KeptDays.{day_at, held_at}
use Rattle.aq_ozone_cells.proofs.KeptDayLemmas.{averages-stay, hours-stay}
use Rattle.aq_ozone_cells.proofs.kept_days.KeptDays.put_held.Goals as goal

pub returns-clause-hours : goal.returns-clause-hours
returns-clause-hours c =
    hours-stay c.args.site c.number-day.result (record c.day-cells.result { held = c.args.held }) c.day-cells.result c.args.self.now.days.entries c.put.new.self.days.entries
    c.in_ok-put.ensures.ok c.day-cells.ensures refl

pub returns-clause-averages : goal.returns-clause-averages
returns-clause-averages c =
    averages-stay c.args.site c.number-day.result (record c.day-cells.result { held = c.args.held }) c.day-cells.result c.args.self.now.days.entries c.put.new.self.days.entries
    c.in_ok-put.ensures.ok c.day-cells.ensures refl

pub returns-clause-held : goal.returns-clause-held
unfolding held_at
returns-clause-held c other number =
    subst (λ day. held_at c.put.new.self.days.entries other number ≡ cond (is_same_site c.args.site other && (day == number)) c.args.held (held_at c.args.self.now.days.entries other number)) c.number-day.ensures.value
    (ap (λ (day : DayCells). day.held) (c.in_ok-put.ensures.ok other number) ∙ by (is_same_site c.args.site other && (c.number-day.result == number)))
  where
    by : (b : Bool) → (cond b (record c.day-cells.result { held = c.args.held }) (day_at c.args.self.now.days.entries other number)).held ≡ cond b c.args.held (day_at c.args.self.now.days.entries other number).held
    by true = refl
    by false = refl
