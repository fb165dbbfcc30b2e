use Rattle.std.proofs.Common.{◌∙◌, subst, sym}
use Rattle.aq_staging.specs.Extracts.Judging.{IsFault, line_at, span_of}
use Rattle.aq_staging.specs.Extracts.Samples.{sample_in}
use Rattle.aq_registry.specs.Registry.{office_with}
use Rattle.aq_shelf.proofs.Cases.{if_err, on_ok}
use Rattle.aq_staging.proofs.ExtractsLemmas.Judged.{judged-refused, judged-sample}
use Rattle.aq_staging.proofs.extracts.extract.take_line.Goals as goal

pub returns-in-Ok-clause-ok : goal.returns-in-Ok-clause-ok
returns-in-Ok-clause-ok c =
    let same = judged-sample (span_of c.args.days.now) (office_with c.args.registry.now) c.args.rows.now (line_at c.args.number c.args.text.now) (sample_in c.in-Ok.sample) c.in-Ok.ensures.ok c.in-Ok.ensures.unbroken in
    on_ok c.take_sample.result (λ h. same ∙ h) c.take_sample.ensures.ok

pub returns-in-Ok-clause-refused : goal.returns-in-Ok-clause-refused
returns-in-Ok-clause-refused c =
    let same = judged-sample (span_of c.args.days.now) (office_with c.args.registry.now) c.args.rows.now (line_at c.args.number c.args.text.now) (sample_in c.in-Ok.sample) c.in-Ok.ensures.ok c.in-Ok.ensures.unbroken in
    if_err c.take_sample.result (λ fault why. subst (λ e. IsFault e fault) (sym same) why) c.take_sample.ensures.refused

pub returns-in-Err-clause-refused : goal.returns-in-Err-clause-refused
returns-in-Err-clause-refused c =
    judged-refused (span_of c.args.days.now) (office_with c.args.registry.now) c.args.rows.now (line_at c.args.number c.args.text.now) c.in-Err.rule c.in-Err.ensures.rule
