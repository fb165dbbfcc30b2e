use Rattle.std.proofs.Common.{◌∙◌, sym}
use Rattle.aq_rules.specs.Lines.Reading.{OfOffice}
use Rattle.aq_registry.specs.Registry.{office_with}
use Rattle.aq_registry.proofs.RowCounts.{IsOffice-seen, changes-seen, valid-changed, put_changes, change_changes, dropped_changes}
use Rattle.aq_registry.proofs.registry.Registry.apply.Goals as goal

pub put_record-requires : goal.put_record-requires
put_record-requires c = valid-changed c.args.self.now c.args.line _ (c.lines_leave_the_office_valid.ensures.value (office_with c.args.self.now) (OfOffice c.args.line) (IsOffice-seen c.self.inside.records c.args.self.now c.self.invariant.office c.self.view_is) c.requires (sym c.broken_rule.ensures ∙ c.in_default.is)) c.in-Put.is

pub put_record-requires-in-Change : goal.put_record-requires-in-Change
put_record-requires-in-Change c = valid-changed c.args.self.now c.args.line _ (c.lines_leave_the_office_valid.ensures.value (office_with c.args.self.now) (OfOffice c.args.line) (IsOffice-seen c.self.inside.records c.args.self.now c.self.invariant.office c.self.view_is) c.requires (sym c.broken_rule.ensures ∙ c.in_default.is)) c.in-Change.is

pub drop_record-requires-clause-valid : goal.drop_record-requires-clause-valid
drop_record-requires-clause-valid c = valid-changed c.args.self.now c.args.line _ (c.lines_leave_the_office_valid.ensures.value (office_with c.args.self.now) (OfOffice c.args.line) (IsOffice-seen c.self.inside.records c.args.self.now c.self.invariant.office c.self.view_is) c.requires (sym c.broken_rule.ensures ∙ c.in_default.is)) c.in-Drop.is

pub returns-in_ok-put_record-in-Put-clause-changes : goal.returns-in_ok-put_record-in-Put-clause-changes
returns-in_ok-put_record-in-Put-clause-changes c = changes-seen c.args.self.now _ _ c.args.line _ _ _ c.in_ok-put_record-in-Put.ensures.changes (put_changes c.in-Put.row c.args.self.now) c.in_ok-put_record-in-Put.ensures.after c.in-Put.is

pub returns-in_ok-put_record-in-Change-clause-changes : goal.returns-in_ok-put_record-in-Change-clause-changes
returns-in_ok-put_record-in-Change-clause-changes c = changes-seen c.args.self.now _ _ c.args.line _ _ _ c.in_ok-put_record-in-Change.ensures.changes (change_changes c.in-Change.row c.args.self.now) c.in_ok-put_record-in-Change.ensures.after c.in-Change.is

pub returns-in-Drop-clause-changes : goal.returns-in-Drop-clause-changes
returns-in-Drop-clause-changes c = changes-seen c.args.self.now _ _ c.args.line _ _ _ c.drop_record.ensures.changes (dropped_changes c.in-Drop.key c.args.self.now) c.drop_record.ensures.after c.in-Drop.is
