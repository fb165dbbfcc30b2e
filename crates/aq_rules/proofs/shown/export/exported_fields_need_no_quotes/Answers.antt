use Rattle.std.proofs.Common.{refl}
use Rattle.aq_rules.proofs.ExportedFields.{exported-plain}
use Rattle.aq_rules.proofs.shown.export.exported_fields_need_no_quotes.Goals as goal

pub returns-clause-fields : goal.returns-clause-fields
returns-clause-fields c = exported-plain

pub returns-clause-other_bytes : goal.returns-clause-other_bytes
returns-clause-other_bytes c = refl
