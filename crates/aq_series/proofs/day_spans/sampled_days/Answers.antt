use Rattle.std.proofs.Common.{refl, arith}
use Rattle.aq_series.proofs.DaySpans.{none-yet}
use Rattle.aq_series.proofs.day_spans.sampled_days.Goals as goal

pub loop-i-init : goal.loop-i-init
loop-i-init g c = record { many = refl; days = λ k within. absurd (omega (arith, within)); range = none-yet 92 }
