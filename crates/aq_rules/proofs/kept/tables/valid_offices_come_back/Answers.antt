use Rattle.aq_rules.proofs.OfficeBack.{rows-are, office-back}
use Rattle.aq_rules.proofs.Undamaged.{undamaged}
use Rattle.aq_rules.proofs.kept.tables.valid_offices_come_back.Goals as goal

pub returns : goal.returns
returns c = record { rows = rows-are; office = office-back; undamaged = undamaged }
