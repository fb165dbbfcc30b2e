use Rattle.std.proofs.Common.{◌≡◌, ◌∷◌, []}
use Rattle.aq_tables.specs.Forms.{column_in, records_form}
use Rattle.aq_tables.proofs.Fitting.{misformed_with}
use Rattle.aq_tables.proofs.missing.are_records_missing.Goals as goal

pub returns-clause-refused : goal.returns-clause-refused
returns-clause-refused c =
    let columns : column_in c.required.result ∷ column_in c.required-2.result ∷ column_in c.required-3.result ∷ [] ≡ records_form.columns = λ i. c.required.ensures i ∷ c.required-2.ensures i ∷ c.required-3.ensures i ∷ [] in
    misformed_with c.is_missing.result c.args.schema.now records_form _ columns c.is_missing.ensures.refused
