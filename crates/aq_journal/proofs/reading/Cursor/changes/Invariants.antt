use Rattle.std.proofs.Common.{◌≡◌, ◌-◌}
use Rattle.aq_journal.specs.JournalFormat.{changes_at}
use Rattle.aq_journal.specs.Reading.{with_front}
use Rattle.aq_journal.proofs.reading.Cursor.changes.Given as goal

abbrev pub invariant-loop : goal.invariant-loop
invariant-loop l = with_front l.changes.items (changes_at (l.count - l.counter) l.self.rest.now) ≡ changes_at l.count l.fn.self.rest.now
