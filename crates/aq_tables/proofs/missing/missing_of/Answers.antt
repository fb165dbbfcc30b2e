use Rattle.std.proofs.Common.{refl, sym, ◌∙◌}
use Rattle.std.proofs.lemmas.Bool.{false≢true}
use Rattle.std.proofs.lemmas.Result.{err_from_is_err_and}
use Rattle.aq_tables.proofs.missing.missing_of.Goals as goal

pub returns-in_err-missing-clause-refused : goal.returns-in_err-missing-clause-refused
returns-in_err-missing-clause-refused c =
    let p = err_from_is_err_and c.from_residual.result c.from_residual.ensures.1 in
    let why = c.in_err-missing.ensures.refused in
    rw (p.1, p.2) (why.0, λ office. why.1 office.missing office.are)

pub returns-else-are_whole-clause-refused : goal.returns-else-are_whole-clause-refused
returns-else-are_whole-clause-refused c = (refl, λ office. absurd (false≢true (sym c.if-are_whole.false ∙ c.are_whole.ensures c.in_ok-missing.ensures.missing ∙ office.whole)))
