use Rattle.std.specs.Prelude.{pos, false, None}
use Rattle.std.proofs.Common.{ℕ, ◌+◌, ◌<◌, ◌≤◌, ◌⊎◌, inl, inr, get_or, subst, sym, ◌∙◌, arith}
use Rattle.aq_base.specs.declared.monitor.Pollutant.TheVariants.{Pm25}
use Rattle.aq_base.specs.declared.monitor.MonitorId.{MonitorId}
use Rattle.aq_rules.specs.Particles.ParticleDay.{monitor_day}
use Rattle.aq_series.specs.DaySums.{AddsDay, IsNew}
use Rattle.aq_series.specs.OfficeView.{office_of}
use Rattle.aq_series.specs.declared.site_spans.DayState.{DayState}
use Rattle.aq_series.proofs.SiteDay.{fewer}
use Rattle.aq_series.proofs.SiteSpans.{new-room, stands-end, stands-more, stands-new, stands-room}
use Rattle.aq_series.proofs.site_spans.site_days.Goals as goal

either : (k n : ℕ) → (k < n) ⊎ (n ≤ k)
either k n = grind arith

pub loop-poc-init : goal.loop-poc-init
loop-poc-init g c = record {
  many = c.new_states-states.ensures.many;
  stands = λ k d within.
      stands-new (office_of c.args.registry.now c.args.shelf.now) c.args.site (c.args.first + k) c.next_poc.ensures.valid (get_or c.new_states-states.result k d)
      (c.new_states-states.ensures.primaries k d within) (c.new_states-states.ensures.states k d (omega (arith, within, c.requires.few)));
  others = λ k d behind within. c.new_states-states.ensures.states k d within;
}

pub add_monitor-requires-clause-room : goal.add_monitor-requires-clause-room
add_monitor-requires-clause-room g c k d within =
    elim (either k c.args.count) [
      | inl inside ↦
          stands-room (office_of c.args.registry.now c.args.shelf.now) c.args.site (c.args.first + k) c.next_poc.ensures.valid c.loop-poc.after (get_or c.loop-poc.states k d) (c.loop-poc.invariant.stands k d inside)
      | inr behind ↦ new-room (get_or c.loop-poc.states k d) (c.loop-poc.invariant.others k d behind within)
    ]

pub loop-poc-smaller : goal.loop-poc-smaller
loop-poc-smaller g c =
    let one = fewer c.args.registry.now c.args.site Pm25 c.loop-poc.after c.in-Some.poc c.next_poc.ensures.valid (sym c.next_poc-in-loop-poc.ensures.value ∙ c.in-Some.is) in
    omega (arith, one)

pub loop-poc-preserved : goal.loop-poc-preserved
loop-poc-preserved g c =
    let office = office_of c.args.registry.now c.args.shelf.now in
    record {
      many = c.add_monitor.ensures.many;
      stands = λ k d within.
          stands-more office c.args.site (c.args.first + k) c.loop-poc.after c.in-Some.poc c.next_poc.ensures.valid (sym c.next_poc-in-loop-poc.ensures.value ∙ c.in-Some.is) (get_or c.loop-poc.states k d) (get_or c.add_monitor.new.states k d)
          (c.loop-poc.invariant.stands k d within)
          (subst (λ (m : MonitorId). AddsDay m.poc (monitor_day office m (c.args.first + k)) (get_or c.loop-poc.states k d) (get_or c.add_monitor.new.states k d)) c.monitor_at.ensures (c.add_monitor.ensures.days k d within));
      others = λ k d behind within. subst IsNew (sym (c.add_monitor.ensures.others k d behind)) (c.loop-poc.invariant.others k d behind within);
    }

pub returns-clause-days : goal.returns-clause-days
returns-clause-days g c k within =
    let office = office_of c.args.registry.now c.args.shelf.now in
    let d : DayState = get_or c.loop-poc.states 0 (record { primary = None; own = None; others = record { count = 0; sum = pos 0; excluded = false } }) in
    let stands = c.loop-poc.invariant.stands k d within in
    c.cells.ensures.days k d (omega (arith, within, c.requires.few)) stands.before stands.tallied
    ∙ stands-end office c.args.site (c.args.first + k) c.loop-poc.after (get_or c.loop-poc.states k d) stands c.next_poc.ensures.valid (sym c.next_poc-in-loop-poc.ensures.value ∙ c.in_default.is)
