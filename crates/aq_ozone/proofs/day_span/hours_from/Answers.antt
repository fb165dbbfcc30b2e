use Rattle.std.proofs.Common.{arith}
use Rattle.aq_ozone.proofs.DayLemmas.{past}
use Rattle.aq_ozone.proofs.day_span.hours_from.Goals as goal

pub returns-else-day-le-LAST_DAY-clause-hours : goal.returns-else-day-le-LAST_DAY-clause-hours
returns-else-day-le-LAST_DAY-clause-hours g c = past (g.S.OzoneSource.cell_at c.args.source.now) c.args.day (omega (arith, c.if-day-le-LAST_DAY.false))
