use Rattle.std.proofs.Common.{ℕ, ◌+◌, ◌*◌, ◌/◌, ◌<◌, None, get_or, arith, sym, subst, ◌∙◌}
use Rattle.std.specs.Prelude.{Option, false, pos}
use Rattle.aq_series.specs.DayStates.{IsUnread, hour_at, primary_in, site_hours}
use Rattle.aq_series.specs.OfficeView.{office_of}
use Rattle.aq_series.specs.declared.day_hours.HourState.{HourState}
use Rattle.aq_series.proofs.DayStages.{at_profile, has_room, hour-given, hours_are, ozone_by, stands-end, stands-more, stands-none}
use Rattle.aq_series.proofs.Pocs.{pocs-few, pocs-fewer}
use Rattle.aq_series.proofs.day_hours.site_hours.Goals as goal

pub loop-poc-init : goal.loop-poc-init
loop-poc-init g c = record {
  many = c.unread-hours.ensures.many;
  stands =
      λ k d within.
      let below : k / 24 < 8 = omega (arith, within) in
      stands-none c.args.registry.now c.args.shelf.now c.args.site (primary_in c.args.registry.now c.args.site (c.args.day + k / 24)) (24 * c.args.day + k) (get_or c.unread-hours.result k d)
      (subst (λ (p : Option ℕ). IsUnread p (get_or c.unread-hours.result k d)) (c.primaries.ensures (k / 24) below) (c.unread-hours.ensures.states k d within));
  steps = omega arith;
}

pub add_monitor-requires-clause-room : goal.add_monitor-requires-clause-room
add_monitor-requires-clause-room g c k d within =
    has_room c.args.registry.now c.args.shelf.now c.args.site (primary_in c.args.registry.now c.args.site (c.args.day + k / 24)) (24 * c.args.day + k) c.loop-poc.after c.in-Some.poc c.next_poc.ensures.valid
    (sym c.next_poc.ensures.value ∙ c.in-Some.is) (get_or c.loop-poc.hours k d) (c.loop-poc.invariant.stands k d within)

pub loop-poc-smaller : goal.loop-poc-smaller
loop-poc-smaller g c = omega (arith, pocs-fewer c.args.site c.args.registry.now c.loop-poc.after c.in-Some.poc c.next_poc.result c.next_poc.ensures.valid c.next_poc.ensures.value c.in-Some.is)

pub loop-poc-preserved : goal.loop-poc-preserved
loop-poc-preserved g c =
    let next = sym c.next_poc.ensures.value ∙ c.in-Some.is in
    record {
      many = c.add_monitor.array_long;
      stands =
          λ k d within.
          stands-more c.args.registry.now c.args.shelf.now c.args.site (primary_in c.args.registry.now c.args.site (c.args.day + k / 24)) (24 * c.args.day + k) c.loop-poc.after c.in-Some.poc c.next_poc.ensures.valid next
          (get_or c.loop-poc.hours k d) (get_or c.add_monitor.new.hours k d) (c.add_monitor.ensures.hours k d within) (c.loop-poc.invariant.stands k d within);
      steps = omega (arith, pocs-fewer c.args.site c.args.registry.now c.loop-poc.after c.in-Some.poc c.next_poc.result c.next_poc.ensures.valid c.next_poc.ensures.value c.in-Some.is, c.loop-poc.invariant.steps, c.add_monitor.ensures.steps);
    }

pub returns-clause-hours : goal.returns-clause-hours
unfolding site_hours
returns-clause-hours g c =
    let office = office_of c.args.registry.now c.args.shelf.now in
    hours_are (hour_at office c.args.site) c.cells.result (24 * c.args.day) c.cells.ensures.many
    (λ k within.
    let d : HourState = record { values = record { sum = pos 0; count = 0; excluded = false }; primary = None; is_settled = false } in
    stands-end c.args.registry.now c.args.shelf.now c.args.site (primary_in c.args.registry.now c.args.site (c.args.day + k / 24)) (24 * c.args.day + k)
    (hour-given c.args.registry.now c.args.shelf.now c.args.site c.next_poc.ensures.valid c.count.ensures.shelf c.args.day k)
    c.loop-poc.after (get_or c.loop-poc.hours k d) (sym c.next_poc.ensures.value ∙ c.in_default.is) (c.loop-poc.invariant.stands k d within) _ (c.cells.ensures.values k d within)
    ∙ at_profile c.args.registry.now c.args.shelf.now c.args.site (primary_in c.args.registry.now c.args.site (c.args.day + k / 24)) (24 * c.args.day + k) c.next_poc.ensures.valid c.count.ensures.shelf)

pub returns-clause-range : goal.returns-clause-range
returns-clause-range g c = ozone_by c.cells.result c.cells.ensures.range

pub returns-clause-steps : goal.returns-clause-steps
returns-clause-steps g c = omega (arith, c.loop-poc.invariant.steps, pocs-few c.args.site c.args.registry.now c.next_poc.ensures.valid)
