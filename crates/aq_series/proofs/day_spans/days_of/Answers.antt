use Rattle.std.proofs.Common.{refl, arith}
use Rattle.aq_series.proofs.DaySpans.{none-yet}
use Rattle.aq_series.proofs.day_spans.days_of.Goals as goal

pub loop-i-init : goal.loop-i-init
loop-i-init c = record { many = refl; days = λ k d within cells is. absurd (omega (arith, within)); range = none-yet 92 }
