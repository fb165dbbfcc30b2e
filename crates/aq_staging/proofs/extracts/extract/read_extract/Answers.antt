use Rattle.std.proofs.lemmas.Result.{err_from_is_err_and}
use Rattle.aq_staging.specs.Extracts.Judging.{line_at, span_of}
use Rattle.aq_registry.specs.Registry.{office_with}
use Rattle.aq_rules.specs.Extracts.Changes.{extract_of}
use Rattle.aq_staging.proofs.ExtractsLemmas.Judged.{all-taken, next-refused, next-taken}
use Rattle.aq_staging.proofs.extracts.extract.read_extract.Goals as goal

pub loop-line-preserved : goal.loop-line-preserved
loop-line-preserved c =
    next-taken (span_of c.args.days.now) (office_with c.args.registry.now) c.loop-line.rows (line_at c.in-Some.line.number c.in-Some.line.text.now) c.next.new.self c.loop-line.line-iterator _
    c.take_line.new.rows c.in-Some.ensures.steps c.in_ok-take_line.ensures.ok c.loop-line.invariant

pub returns-clause-ok : goal.returns-clause-ok
unfolding extract_of
returns-clause-ok c =
    all-taken (span_of c.args.days.now) (office_with c.args.registry.now) c.loop-line.rows c.loop-line.line-iterator _ c.in-None.ensures.steps.0 c.loop-line.invariant

pub returns-in_err-take_line-clause-refused : goal.returns-in_err-take_line-clause-refused
unfolding extract_of
returns-in_err-take_line-clause-refused c =
    let p = err_from_is_err_and c.from_residual.result c.from_residual.ensures.1 in
    rw (p.1, p.2) (next-refused (span_of c.args.days.now) (office_with c.args.registry.now) c.loop-line.rows (line_at c.in-Some.line.number c.in-Some.line.text.now) c.next.new.self c.loop-line.line-iterator _
    c.in_err-take_line.field-0.0 c.in-Some.ensures.steps c.in_err-take_line.ensures.refused c.loop-line.invariant)
