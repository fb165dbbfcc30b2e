use Rattle.std.proofs.Common.{◌++◌, ◌∙◌, None, ap}
use Rattle.aq_staging.specs.Extracts.Judging.{span_of}
use Rattle.aq_staging.specs.Extracts.Texts.{dropped_lines, optional_lines, walked}
use Rattle.aq_staging.proofs.ExtractsLemmas.DroppedLemmas.{all_walked, dropped-walked, more_walked}
use Rattle.aq_staging.proofs.extracts.deletions.add_deletions.Goals as goal

pub loop-key-preserved : goal.loop-key-preserved
loop-key-preserved g c =
    more_walked (dropped_lines (span_of c.args.days.now) c.args.rows.now c.args.shelf.now) c.loop-key.before (c.in-Some.key, c.in-Some.field-0-1) c.next.new.self c.loop-key.key-iterator c.loop-key.text.items c.add_monitor.new.text.items
    (c.args.text.now.items ++ walked (dropped_lines (span_of c.args.days.now) c.args.rows.now c.args.shelf.now) None c.args.rows.now) c.in-Some.ensures.steps
    (c.in_ok-add_monitor.ensures ∙ ap (λ o. c.loop-key.text.items ++ optional_lines (dropped_lines (span_of c.args.days.now) c.args.rows.now c.args.shelf.now) o) c.next_monitor-monitor.ensures) c.loop-key.invariant

pub returns : goal.returns
returns g c =
    all_walked (dropped_lines (span_of c.args.days.now) c.args.rows.now c.args.shelf.now) c.loop-key.before c.loop-key.key-iterator c.loop-key.text.items
    (c.args.text.now.items ++ walked (dropped_lines (span_of c.args.days.now) c.args.rows.now c.args.shelf.now) None c.args.rows.now) c.in-None.ensures.steps.0 c.loop-key.invariant
    ∙ ap (λ l. c.args.text.now.items ++ l) (dropped-walked (span_of c.args.days.now) c.args.rows.now c.args.shelf.now c.count.ensures.shelf.rising c.rows-key-items.ensures.shelf.rising)
