use Rattle.aq_rd.proofs.Scans.{Scanned}
use Rattle.aq_rd.proofs.fields.cut_at_bars.Given as goal

abbrev pub invariant-loop-place : goal.invariant-loop-place
invariant-loop-place l = Scanned l.line l.place l.count l.starts
