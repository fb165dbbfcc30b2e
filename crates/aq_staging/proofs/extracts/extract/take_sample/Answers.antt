use Rattle.std.proofs.Common.{◌∙◌, subst, sym}
use Rattle.aq_staging.specs.Extracts.Judging.{IsFault, span_of}
use Rattle.aq_staging.specs.Extracts.Samples.{sample_in}
use Rattle.aq_registry.specs.Registry.{office_with}
use Rattle.aq_shelf.proofs.Cases.{if_err, on_ok}
use Rattle.aq_staging.proofs.ExtractsLemmas.Judged.{judged-placed, judged-unplaced}
use Rattle.aq_staging.proofs.extracts.extract.take_sample.Goals as goal

pub returns-in-Ok-clause-ok : goal.returns-in-Ok-clause-ok
returns-in-Ok-clause-ok c =
    let same = judged-placed (span_of c.args.days.now) (office_with c.args.registry.now) c.args.rows.now c.args.number (sample_in c.args.sample.now) c.in-Ok.key (sym c.in-Ok.ensures.place) in
    on_ok c.put_sample.result (λ h. same ∙ h) c.put_sample.ensures.ok

pub returns-in-Ok-clause-refused : goal.returns-in-Ok-clause-refused
returns-in-Ok-clause-refused c =
    let same = judged-placed (span_of c.args.days.now) (office_with c.args.registry.now) c.args.rows.now c.args.number (sample_in c.args.sample.now) c.in-Ok.key (sym c.in-Ok.ensures.place) in
    if_err c.put_sample.result (λ fault why. subst (λ e. IsFault e fault) (sym same) why) c.put_sample.ensures.refused

pub returns-in-Err-clause-refused : goal.returns-in-Err-clause-refused
returns-in-Err-clause-refused c =
    judged-unplaced (span_of c.args.days.now) (office_with c.args.registry.now) c.args.rows.now c.args.number (sample_in c.args.sample.now) c.in-Err.rule (sym c.in-Err.ensures.place)
