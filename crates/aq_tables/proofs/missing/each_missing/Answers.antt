use Rattle.std.proofs.lemmas.Result.{err_from_is_err_and}
use Rattle.aq_tables.proofs.missing.each_missing.Goals as goal

pub returns-in_err-are_records_missing-clause-refused : goal.returns-in_err-are_records_missing-clause-refused
returns-in_err-are_records_missing-clause-refused c =
    let p = err_from_is_err_and c.from_residual.result c.from_residual.ensures.1 in
    let why = c.in_err-are_records_missing.ensures.refused in
    rw (p.1, p.2) (why.0, λ missing are. why.1 missing.records are.of_records)

pub returns-in_err-are_observations_missing-clause-refused : goal.returns-in_err-are_observations_missing-clause-refused
returns-in_err-are_observations_missing-clause-refused c =
    let p = err_from_is_err_and c.from_residual-in_err-are_observations_missing.result c.from_residual-in_err-are_observations_missing.ensures.1 in
    let why = c.in_err-are_observations_missing.ensures.refused in
    rw (p.1, p.2) (why.0, λ missing are. why.1 missing.observations are.of_observations)

pub returns-in_err-are_loads_missing-clause-refused : goal.returns-in_err-are_loads_missing-clause-refused
returns-in_err-are_loads_missing-clause-refused c =
    let p = err_from_is_err_and c.from_residual-in_err-are_loads_missing.result c.from_residual-in_err-are_loads_missing.ensures.1 in
    let why = c.in_err-are_loads_missing.ensures.refused in
    rw (p.1, p.2) (why.0, λ missing are. why.1 missing.loads are.of_loads)

pub returns-in_err-are_second_missing-clause-refused : goal.returns-in_err-are_second_missing-clause-refused
returns-in_err-are_second_missing-clause-refused c =
    let p = err_from_is_err_and c.from_residual-in_err-are_second_missing.result c.from_residual-in_err-are_second_missing.ensures.1 in
    let why = c.in_err-are_second_missing.ensures.refused in
    rw (p.1, p.2) (why.0, λ missing are. why.1 missing.second are.of_second)

pub returns-in_err-are_third_missing-clause-refused : goal.returns-in_err-are_third_missing-clause-refused
returns-in_err-are_third_missing-clause-refused c =
    let p = err_from_is_err_and c.from_residual-in_err-are_third_missing.result c.from_residual-in_err-are_third_missing.ensures.1 in
    let why = c.in_err-are_third_missing.ensures.refused in
    rw (p.1, p.2) (why.0, λ missing are. why.1 missing.third are.of_third)
