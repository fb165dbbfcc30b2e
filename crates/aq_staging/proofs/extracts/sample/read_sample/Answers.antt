use Rattle.std.proofs.Common.{Some, sym, ◌∙◌}
use Rattle.aq_staging.specs.Extracts.Samples.{sample_in}
use Rattle.aq_rd.specs.RdReading.{value_of}
use Rattle.aq_staging.proofs.ExtractsLemmas.SampleReading.{broken-refused, insertion-taken, other-refused}
use Rattle.aq_staging.proofs.extracts.sample.read_sample.Goals as goal

pub returns-in-Some-clause-unbroken : goal.returns-in-Some-clause-unbroken
returns-in-Some-clause-unbroken c =
    (insertion-taken c.args.line.now (value_of c.in-Ok.read) (sample_in c.in-Some.sample) (sym c.has_office_tag.ensures ∙ c.if-has_office_tag.false) c.in-Ok.ensures.ok c.in-Ok.ensures.unbroken (sym c.in-Some.ensures.sample)).1

pub returns-in-None-clause-rule : goal.returns-in-None-clause-rule
returns-in-None-clause-rule c =
    other-refused c.args.line.now (value_of c.in-Ok.read) (sym c.has_office_tag.ensures ∙ c.if-has_office_tag.false) c.in-Ok.ensures.ok c.in-Ok.ensures.unbroken (sym c.in-None.ensures.sample)

pub returns-in-Err-clause-rule : goal.returns-in-Err-clause-rule
returns-in-Err-clause-rule c =
    broken-refused c.args.line.now c.in-Err.rule (sym c.has_office_tag.ensures ∙ c.if-has_office_tag.false) c.in-Err.ensures.rule
    ∙ (λ i. Some (sym c.rule_in_extract.ensures i))
