use Rattle.std.proofs.Common.{refl}
use Rattle.std.proofs.lemmas.Result.{err_from_is_err_and}
use Rattle.sqlite_trees.specs.View.{is_int}
use Rattle.aq_tables.specs.Why.{is_blob, is_text}
use Rattle.aq_tables.specs.declared.reading.Table.TheVariants.{Loads}
use Rattle.aq_tables.proofs.ReadRefused.{unfit_at}
use Rattle.aq_tables.proofs.reading.load_in.Goals as goal

pub returns-in_err-integer_at-clause-why : goal.returns-in_err-integer_at-clause-why
returns-in_err-integer_at-clause-why c =
    let p = err_from_is_err_and c.from_residual.result c.from_residual.ensures.1 in
    rw (p.1, p.2) (unfit_at Loads 0 is_int c.args.columns.now c.in_err-integer_at.field-0.0 refl c.in_err-integer_at.ensures.why)

pub returns-in_err-blob_at-clause-why : goal.returns-in_err-blob_at-clause-why
returns-in_err-blob_at-clause-why c =
    let p = err_from_is_err_and c.from_residual-in_err-blob_at.result c.from_residual-in_err-blob_at.ensures.1 in
    rw (p.1, p.2) (unfit_at Loads 1 is_blob c.args.columns.now c.in_err-blob_at.field-0.0 refl c.in_err-blob_at.ensures.why)

pub returns-in_err-integer_at-2-clause-why : goal.returns-in_err-integer_at-2-clause-why
returns-in_err-integer_at-2-clause-why c =
    let p = err_from_is_err_and c.from_residual-in_err-integer_at-2.result c.from_residual-in_err-integer_at-2.ensures.1 in
    rw (p.1, p.2) (unfit_at Loads 2 is_int c.args.columns.now c.in_err-integer_at-2.field-0.0 refl c.in_err-integer_at-2.ensures.why)

pub returns-in_err-integer_at-3-clause-why : goal.returns-in_err-integer_at-3-clause-why
returns-in_err-integer_at-3-clause-why c =
    let p = err_from_is_err_and c.from_residual-in_err-integer_at-3.result c.from_residual-in_err-integer_at-3.ensures.1 in
    rw (p.1, p.2) (unfit_at Loads 3 is_int c.args.columns.now c.in_err-integer_at-3.field-0.0 refl c.in_err-integer_at-3.ensures.why)

pub returns-in_err-text_at-clause-why : goal.returns-in_err-text_at-clause-why
returns-in_err-text_at-clause-why c =
    let p = err_from_is_err_and c.from_residual-in_err-text_at.result c.from_residual-in_err-text_at.ensures.1 in
    rw (p.1, p.2) (unfit_at Loads 4 is_text c.args.columns.now c.in_err-text_at.field-0.0 refl c.in_err-text_at.ensures.why)

pub returns-in_err-text_at-2-clause-why : goal.returns-in_err-text_at-2-clause-why
returns-in_err-text_at-2-clause-why c =
    let p = err_from_is_err_and c.from_residual-in_err-text_at-2.result c.from_residual-in_err-text_at-2.ensures.1 in
    rw (p.1, p.2) (unfit_at Loads 5 is_text c.args.columns.now c.in_err-text_at-2.field-0.0 refl c.in_err-text_at-2.ensures.why)
