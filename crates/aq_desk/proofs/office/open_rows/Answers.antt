use Rattle.aq_desk.proofs.Opening.{not_remembered, office_opened}
use Rattle.aq_desk.proofs.office.open_rows.Goals as goal

pub returns-in-Ok-clause-opened : goal.returns-in-Ok-clause-opened
returns-in-Ok-clause-opened g c =
    office_opened c.rows_are_those_of_their_office.ensures.rows c.rows_are_those_of_their_office.ensures.valid _ c.args.rows.now c.in-Ok.opened c.migrated_rows_are_an_offices.ensures.once
    c.requires c.in-Ok.ensures.office

pub returns-in-Err-Memory-clause-stopped : goal.returns-in-Err-Memory-clause-stopped
returns-in-Err-Memory-clause-stopped g c = not_remembered _ _
