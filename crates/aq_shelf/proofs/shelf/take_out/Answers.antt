use Rattle.std.proofs.Common.{◌∙◌, sym, Some, None}
use Rattle.aq_rules.specs.Office.Office.{observation_numbers, observation_rank, without_row}
use Rattle.aq_shelf.proofs.Cases.{on_some, if_none, changed_or_not}
use Rattle.aq_shelf.proofs.StretchLemmas.{content_at-found, changes-drop, changed-joined, unchanged-joined, AreStretches-change}
use Rattle.aq_shelf.proofs.shelf.take_out.Goals as goal

pub returns-in_err-hours-clause-before : goal.returns-in_err-hours-clause-before
returns-in_err-hours-clause-before c =
    c.from_residual.ensures ∙ sym (content_at-found c.args.key.now c.of.result c.of.ensures c.args.stretches.now.entries c.requires c.get_mut.ensures.ordered None c.in_err-hours.ensures.value)

pub returns-clause-before : goal.returns-clause-before
returns-clause-before c =
    c.remove.ensures.before ∙ sym (content_at-found c.args.key.now c.of.result c.of.ensures c.args.stretches.now.entries c.requires c.get_mut.ensures.ordered (Some c.in_ok-hours.hours.now) c.in_ok-hours.ensures.value)

pub returns-clause-ok : goal.returns-clause-ok
returns-clause-ok c =
    on_some c.remove.result
    (changed-joined c.args.key.now c.of.result c.of.ensures c.args.stretches.now.entries c.requires c.get_mut.ensures.ordered (without_row observation_rank (observation_numbers c.args.key.now)) (changes-drop c.args.key.now) _ c.in_ok-hours.hours.now c.remove.new.self c.in_ok-hours.ensures.value (c.get_mut.follows.holds c.remove.new.self).0)
    c.remove.ensures.ok

pub returns-clause-unchanged : goal.returns-clause-unchanged
returns-clause-unchanged c =
    if_none c.remove.result
    (unchanged-joined c.args.key.now c.of.result c.of.ensures c.args.stretches.now.entries c.requires c.get_mut.ensures.ordered (without_row observation_rank (observation_numbers c.args.key.now)) (changes-drop c.args.key.now) _ c.in_ok-hours.hours.now c.remove.new.self c.in_ok-hours.ensures.value (c.get_mut.follows.holds c.remove.new.self).0)
    c.remove.ensures.unchanged

pub returns-clause-stretches : goal.returns-clause-stretches
returns-clause-stretches c =
    AreStretches-change c.args.key.now c.of.result c.of.ensures c.args.stretches.now.entries c.requires c.get_mut.ensures.ordered (without_row observation_rank (observation_numbers c.args.key.now)) (changes-drop c.args.key.now) _ c.in_ok-hours.hours.now c.remove.new.self c.in_ok-hours.ensures.value (c.get_mut.follows.holds c.remove.new.self).0
    (changed_or_not c.remove.result c.remove.ensures.ok c.remove.ensures.unchanged)
