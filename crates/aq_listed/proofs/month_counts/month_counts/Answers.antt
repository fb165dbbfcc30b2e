use Rattle.aq_series.specs.OfficeView.{office_of}
use Rattle.aq_listed.proofs.MonthCounted.{month_walked}
use Rattle.aq_listed.proofs.MonthDays.{month_in}
use Rattle.aq_listed.proofs.month_counts.month_counts.Goals as goal

pub overflow_sub-missing : goal.overflow_sub-missing
overflow_sub-missing g c =
    let office = office_of c.args.registry.now c.args.shelf.now in
    let is = month_in c.args.year c.args.month c.requires.year c.requires.month in
    let span = c.month_span-span in
    let tally = c.standing_samples-tally in
    (month_walked office c.args.monitor.now c.args.duration c.args.year c.args.month is tally.ensures.shelf span.result.first span.result.days span.ensures.first span.ensures.days
    c.due_samples-due.result tally.result.standing tally.result.valued tally.result.null tally.result.extra
    c.due_samples-due.ensures tally.ensures.standing tally.ensures.valued tally.ensures.null tally.ensures.extra).0

pub returns : goal.returns
returns g c =
    let office = office_of c.args.registry.now c.args.shelf.now in
    let is = month_in c.args.year c.args.month c.requires.year c.requires.month in
    let span = c.month_span-span in
    let tally = c.standing_samples-tally in
    (month_walked office c.args.monitor.now c.args.duration c.args.year c.args.month is tally.ensures.shelf span.result.first span.result.days span.ensures.first span.ensures.days
    c.due_samples-due.result tally.result.standing tally.result.valued tally.result.null tally.result.extra
    c.due_samples-due.ensures tally.ensures.standing tally.ensures.valued tally.ensures.null tally.ensures.extra).1
