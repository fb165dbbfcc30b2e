use Rattle.std.proofs.Common.{◌-◌, ◌∙◌, get_or, sym, ap}
use Rattle.aq_rules.specs.Lines.Fields.{field}
use Rattle.aq_rd.proofs.FieldSteps.{trimmed-dense}
use Rattle.aq_rd.proofs.fields.Fields.field.Goals as goal
use Rattle.aq_rd.proofs.fields.Fields.field.Goals.{then-number-self, else-number-self}

pub returns-else-self : goal.returns-else-self
returns-else-self c =
    let line = c.self.inside.line.now in
    let number = c.args.number in
    let start = get_or c.self.inside.starts (number - 1) 0 in
    sym (trimmed-dense start (c.if-number-self.end - start) line (c.self.invariant.1 c.if-self.false))
    ∙ elim c.if-number-self.branch [
      | then-number-self w ↦ rw w.end-is (c.self.invariant.0.ended number c.requires.from c.requires.to w.if-number-self.true)
      | else-number-self w ↦ rw w.end-is (c.self.invariant.0.last number c.requires.from c.requires.to w.if-number-self.false)
    ]
    ∙ ap (field number) c.self.view_is
