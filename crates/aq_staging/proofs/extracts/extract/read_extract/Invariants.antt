use Rattle.std.proofs.Common.{◌≡◌, []}
use Rattle.std.specs.Prelude.{fold}
use Rattle.aq_staging.specs.Extracts.Judging.{span_of}
use Rattle.aq_registry.specs.Registry.{office_with}
use Rattle.aq_rules.specs.Extracts.Changes.{Says, extract_after}
use Rattle.aq_rules.specs.Lines.Lines.{body_lines}
use Rattle.aq_staging.proofs.extracts.extract.read_extract.Given as goal

abbrev pub invariant-loop-line : goal.invariant-loop-line
invariant-loop-line l =
    fold (extract_after (span_of l.days) (office_with l.registry)) (Says l.rows) l.line-iterator
    ≡ fold (extract_after (span_of l.days) (office_with l.registry)) (Says []) (body_lines l.body)
