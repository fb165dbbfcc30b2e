use Rattle.aq_staging.proofs.TouchLemmas.{AreTouched-line}
use Rattle.aq_staging.proofs.staging.Staging.apply_record.Goals as goal

pub returns-in-Ok-note-clause-touched : goal.returns-in-Ok-note-clause-touched
returns-in-Ok-note-clause-touched c = λ before are.
    AreTouched-line before c.args.self.now.records.standing c.apply.new.self.standing c.args.self.now.touched c.note.new.touched c.args.line c.in-Ok.changes c.in-Ok.ensures.after c.in-Ok.ensures.changes c.in-Ok-note.ensures are
