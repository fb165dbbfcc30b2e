use Rattle.std.proofs.Common.{[], refl, arith}
use Rattle.aq_rd.proofs.Scans.{scanned-start, scanned-end}
use Rattle.aq_rd.proofs.fields.Fields.of_empty_line.Goals as goal

pub invariant_of-result : goal.invariant_of-result
invariant_of-result c = (scanned-end [] 0 1 _ (scanned-start []) (omega arith), λ _. refl)
