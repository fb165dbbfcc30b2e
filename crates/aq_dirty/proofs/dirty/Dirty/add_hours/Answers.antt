use Rattle.std.proofs.Common.{◌-◌, ◌&&◌, ℕ, arith}
use Rattle.std.specs.Prelude.{nat_le}
use Rattle.aq_base.specs.Calendar.{year_of}
use Rattle.aq_base.specs.Site.{Site}
use Rattle.aq_base.specs.declared.day.TheConstants.{LAST_DAY, LAST_HOUR}
use Rattle.aq_dirty.specs.Reach.{day_reading, span_of}
use Rattle.aq_dirty.specs.Spans.{covers}
use Rattle.aq_dirty.proofs.Bounds.{covered-low, covered_if-low, last_day, last_year, within-added}
use Rattle.aq_dirty.proofs.dirty.Dirty.add_hours.Goals as goal

pub invariant_of-self-2 : goal.invariant_of-self-2
invariant_of-self-2 c =
    let was = c.self.invariant in
    let here = c.self.inside in
    let site = c.args.site in
    let first = c.args.first in
    let last = c.args.last in
    let end = c.requires.end in
    let hours = span_of site first last in
    let windows = span_of site (first - 7) last in
    let days = span_of site (day_reading first) (day_reading last) in
    let years = span_of site (year_of (day_reading first)) (year_of (day_reading last)) in
    record {
      hours =
          within-added LAST_HOUR here.hours.spans c.reserve_each.new.hours.spans c.add_hours.new.hours.spans (λ (s : Site) (n : ℕ). covers s n hours) was.hours c.reserve_each.ensures.hours
          (λ s n held. let low = covered-low hours s n held in omega (arith, low, end)) c.add_hours.ensures.hours;
      windows =
          within-added LAST_HOUR here.windows.spans c.reserve_each.new.windows.spans c.add_hours.new.windows.spans (λ (s : Site) (n : ℕ). covers s n windows) was.windows c.reserve_each.ensures.windows
          (λ s n held. let low = covered-low windows s n held in omega (arith, low, end)) c.add_hours.ensures.windows;
      days =
          within-added LAST_DAY here.days.spans c.reserve_each.new.days.spans c.add_days.new.days.spans (λ (s : Site) (n : ℕ). nat_le 7 last && covers s n days) was.days c.reserve_each.ensures.days
          (λ s n held. let low = covered_if-low (nat_le 7 last) days s n held in let high = last_day last end in omega (arith, low, high)) c.add_days.ensures.days;
      years =
          within-added 65535 here.years.spans c.reserve_each.new.years.spans c.add_days.new.years.spans (λ (s : Site) (n : ℕ). nat_le 7 last && covers s n years) was.years c.reserve_each.ensures.years
          (λ s n held. let low = covered_if-low (nat_le 7 last) years s n held in let high = last_year last end in omega (arith, low, high)) c.add_days.ensures.years;
    }
