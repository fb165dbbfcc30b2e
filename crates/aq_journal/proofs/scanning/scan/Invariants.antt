use Rattle.aq_journal.proofs.Scans.{IsRead}
use Rattle.aq_journal.proofs.scanning.scan.Given as goal

abbrev pub invariant-loop : goal.invariant-loop
invariant-loop l = IsRead l.file l.tables l.counter l.cursor.rest.now
