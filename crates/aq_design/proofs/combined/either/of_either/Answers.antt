use Rattle.std.proofs.Common.{None, Option, arith}
use Rattle.std.proofs.lemmas.List.{length-replicate}
use Rattle.aq_rules.specs.Ozone.SiteHour.{Cell}
use Rattle.aq_design.proofs.combined.either.of_either.Goals as goal

pub loop-i-init : goal.loop-i-init
loop-i-init g c = record { many = length-replicate {A = Option Cell} g.row.N None; each = λ k within. absurd (omega (arith, within)) }
