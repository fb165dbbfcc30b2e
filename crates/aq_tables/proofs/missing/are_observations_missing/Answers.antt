use Rattle.std.proofs.Common.{◌≡◌, ◌∷◌, []}
use Rattle.aq_tables.specs.Forms.{column_in, observations_form}
use Rattle.aq_tables.proofs.Fitting.{missing_with, misformed_with}
use Rattle.aq_tables.proofs.missing.are_observations_missing.Goals as goal

pub returns-clause-missing : goal.returns-clause-missing
returns-clause-missing c =
    let columns : column_in c.required.result ∷ column_in c.required-2.result ∷ column_in c.required-3.result ∷ column_in c.required-4.result ∷ column_in c.optional.result ∷ column_in c.required-5.result ∷ column_in c.required-6.result ∷ [] ≡ observations_form.columns = λ i. c.required.ensures i ∷ c.required-2.ensures i ∷ c.required-3.ensures i ∷ c.required-4.ensures i ∷ c.optional.ensures i ∷ c.required-5.ensures i ∷ c.required-6.ensures i ∷ [] in
    missing_with c.is_missing.result c.args.schema.now observations_form _ columns c.is_missing.ensures.missing

pub returns-clause-refused : goal.returns-clause-refused
returns-clause-refused c =
    let columns : column_in c.required.result ∷ column_in c.required-2.result ∷ column_in c.required-3.result ∷ column_in c.required-4.result ∷ column_in c.optional.result ∷ column_in c.required-5.result ∷ column_in c.required-6.result ∷ [] ≡ observations_form.columns = λ i. c.required.ensures i ∷ c.required-2.ensures i ∷ c.required-3.ensures i ∷ c.required-4.ensures i ∷ c.optional.ensures i ∷ c.required-5.ensures i ∷ c.required-6.ensures i ∷ [] in
    misformed_with c.is_missing.result c.args.schema.now observations_form _ columns c.is_missing.ensures.refused
