use Rattle.std.proofs.Common.{◌∙◌, ap, sym}
use Rattle.aq_base.specs.declared.rule.Rule.TheVariants.{MonitorsFull, MakeupsFull, ListFull}
use Rattle.aq_rules.specs.Limits.{MOST_MONITORS, MOST_IN_LIST, MOST_MAKEUPS}
use Rattle.aq_registry.specs.Registry.{office_with}
use Rattle.aq_registry.specs.Rules.{full_rule, rule_where_full}
use Rattle.aq_registry.proofs.RuleLemmas.{monitors_counted, primaries_counted, schedules_counted}
use Rattle.aq_registry.proofs.registry.Registry.full_rule.Goals as goal

pub returns-in-Monitor : goal.returns-in-Monitor
returns-in-Monitor c =
    let id = c.in-Monitor.id in
    c.rule_where_full.ensures
    ∙ ap (λ n. rule_where_full n MOST_MONITORS MonitorsFull) (c.count-count.ensures ∙ sym (monitors_counted c.args.self.now id.site id.pollutant))
    ∙ sym (ap (full_rule (office_with c.args.self.now)) c.in-Monitor.is)

pub returns-in-Primary : goal.returns-in-Primary
returns-in-Primary c =
    c.rule_where_full-in-Primary.ensures
    ∙ ap (λ n. rule_where_full n MOST_IN_LIST ListFull) (c.count-count-in-Primary.ensures ∙ sym (primaries_counted c.args.self.now c.in-Primary.site c.in-Primary.pollutant))
    ∙ sym (ap (full_rule (office_with c.args.self.now)) c.in-Primary.is)

pub returns-in-Schedule : goal.returns-in-Schedule
returns-in-Schedule c =
    c.rule_where_full-in-Schedule.ensures
    ∙ ap (λ n. rule_where_full n MOST_IN_LIST ListFull) (c.count-count-in-Schedule.ensures ∙ sym (schedules_counted c.args.self.now c.in-Schedule.site c.in-Schedule.pollutant))
    ∙ sym (ap (full_rule (office_with c.args.self.now)) c.in-Schedule.is)

pub returns-in-Makeup : goal.returns-in-Makeup
returns-in-Makeup c =
    c.rule_where_full-in-Makeup.ensures
    ∙ ap (λ n. rule_where_full n MOST_MAKEUPS MakeupsFull) c.makeups_in_quarter-count.ensures
    ∙ sym (ap (full_rule (office_with c.args.self.now)) c.in-Makeup.is)
