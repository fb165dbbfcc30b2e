use Rattle.std.proofs.Common.{◌≡◌, ◌++◌, ◌+◌, length}
use Rattle.aq_rules.specs.Lines.Lines.{body_lines}
use Rattle.aq_rules.specs.Office.Load.{after_all, refusals}
use Rattle.aq_staging.specs.OfficeView.{office_of}
use Rattle.aq_staging.specs.Touched.{AreTouched}
use Rattle.aq_staging.specs.Refusals.{office_before, office_in}
use Rattle.aq_staging.proofs.load.stage_load.Given as goal

abbrev pub invariant-loop-line : goal.invariant-loop-line
invariant-loop-line l = record {
  before : office_before l.staging ≡ office_of l.registry l.shelf;
  touched : AreTouched l.registry l.staging.records.standing l.staging.touched;
  office : after_all (office_in l.staging) l.line-iterator ≡ after_all (office_of l.registry l.shelf) (body_lines l.body);
  refused : l.refused.items ++ refusals (office_in l.staging) l.line-iterator ≡ refusals (office_of l.registry l.shelf) (body_lines l.body);
  count : l.taken + length l.line-iterator ≡ length (body_lines l.body);
}
