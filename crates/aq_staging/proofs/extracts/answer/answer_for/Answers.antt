use Rattle.std.proofs.Common.{◌∙◌, ap}
use Rattle.aq_staging.specs.Extracts.Judging.{span_of}
use Rattle.aq_rules.specs.Extracts.Changes.{OfLines}
use Rattle.aq_series.specs.OfficeView.{office_of}
use Rattle.aq_staging.proofs.ExtractsLemmas.ChangeTexts.{all-texts}
use Rattle.aq_staging.proofs.extracts.answer.answer_for.Goals as goal

pub returns : goal.returns
returns g c =
    ap OfLines (c.from_vec.ensures ∙ c.in_ok-text.ensures ∙ all-texts (span_of c.args.days.now) (office_of c.args.registry.now c.args.shelf.now) c.args.rows.now)
