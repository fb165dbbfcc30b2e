use Rattle.std.proofs.Common.{rules, ◌≡◌, ◌≤◌, sym, unwrap_or, List, length, ap, subst, ◌∙◌, arith}
use Rattle.std.specs.Prelude.{Err, IfOk, IsErrAnd, Ok, Result}
use Rattle.aq_base.specs.declared.observation.ObsKey.{ObsKey}
use Rattle.aq_base.specs.declared.observation.Observation.{Observation}
use Rattle.aq_base.specs.declared.office.OfficeRecord.{OfficeRecord}
use Rattle.aq_rules.specs.Limits.{MOST_OBSERVATIONS}
use Rattle.aq_rules.specs.Lines.Lines.{body_lines}
use Rattle.aq_rules.specs.Office.Load.{refusals}
use Rattle.aq_rules.specs.Office.Office.{Office}
use Rattle.aq_staging.specs.Changes.{with_changes, AreChanges}
use Rattle.aq_staging.specs.Refusals.{office_in}
use Rattle.aq_staging.specs.OfficeView.{office_of}
use Rattle.aq_staging.specs.Touched.{AreTouched}
use Rattle.aq_staging.proofs.LoadLaws.{all_refused, after_all_lines, few_refused, next_refused, reply_for-same}
use Rattle.aq_staging.proofs.StageLemmas.{staged-office}
use Rattle.aq_staging.proofs.load.stage_load.Goals as goal

pub reply_of-requires : goal.reply_of-requires
reply_of-requires c =
    let refused = all_refused _ _ _ _ c.in-None.ensures.steps.0 c.loop-line.invariant.refused in
    let few = few_refused (office_of c.args.registry.now c.args.shelf.now) (body_lines c.args.body.now) in
    let none = ap length c.in-None.ensures.steps.0 in
    omega (arith, few, none, ap length refused, ap length c.deref.ensures.value, c.loop-line.invariant.count)

pub returns-clause-office : goal.returns-clause-office
returns-clause-office c =
    staged-office c.loop-line.staging c.into_copy-left.result c.into_changes-changes.result c.args.registry.now c.args.shelf.now c.loop-line.invariant.before c.into_copy-left.ensures c.into_changes-changes.ensures.standing
    ∙ after_all_lines _ _ _ c.in-None.ensures.steps.0 c.loop-line.invariant.office

pub returns-clause-reply : goal.returns-clause-reply
returns-clause-reply c =
    let refused : c.deref.result.now ≡ refusals (office_of c.args.registry.now c.args.shelf.now) (body_lines c.args.body.now) =
    c.deref.ensures.value ∙ all_refused _ _ _ _ c.in-None.ensures.steps.0 c.loop-line.invariant.refused
    in
    let taken : c.loop-line.taken ≡ length (body_lines c.args.body.now) =
    omega (arith, ap length c.in-None.ensures.steps.0, c.loop-line.invariant.count)
    in
    c.in_ok-reply.ensures ∙ reply_for-same c.number_in-number.result _ c.line_count.result _ c.loop-line.taken _ c.deref.result.now _ c.number_in-number.ensures c.line_count.ensures.count taken refused

pub changes_of-requires : goal.changes_of-requires
changes_of-requires c = record {
  order = c.requires.order;
  touched =
      subst (λ (after : List OfficeRecord). AreTouched c.args.registry.now after c.loop-line.staging.touched)
      (sym c.into_copy-left.ensures ∙ ap (λ (o : Office). unwrap_or c.into_copy-left.result o.records) c.loop-line.invariant.before) c.loop-line.invariant.touched;
  changes = subst (λ (o : Office). AreChanges o.observations c.into_changes-changes.result) c.loop-line.invariant.before c.into_changes-changes.ensures.changes;
}

pub returns-clause-staged_on : goal.returns-clause-staged_on
returns-clause-staged_on c = record {
  changed = c.in_ok-office_changes.ensures;
  changes = subst (λ (o : Office). AreChanges o.observations c.into_changes-changes.result) c.loop-line.invariant.before c.into_changes-changes.ensures.changes;
  few =
      subst (λ (o : Office). length (with_changes c.into_changes-changes.result o.observations) ≤ MOST_OBSERVATIONS) c.loop-line.invariant.before
      (subst (λ (rows : List (ObsKey × Observation)). length rows ≤ MOST_OBSERVATIONS) (sym c.into_changes-changes.ensures.standing) c.into_changes-changes.ensures.few);
}

-- nothing is answered for want of memory
unanswered : {X E : Type 0} (P : X → Type 0) (Q : E → Type 0) (answer : Result X E) → IsErrAnd answer Q → IfOk answer P
unanswered P Q (Ok x) is = absurd is
unanswered P Q (Err e) is = tt

pub returns-in_err-office_changes-clause-reply : goal.returns-in_err-office_changes-clause-reply
returns-in_err-office_changes-clause-reply c = unanswered _ _ c.from_residual-in_err-office_changes.result c.from_residual-in_err-office_changes.ensures.1

pub returns-in_err-office_changes-clause-identity : goal.returns-in_err-office_changes-clause-identity
returns-in_err-office_changes-clause-identity c = unanswered _ _ c.from_residual-in_err-office_changes.result c.from_residual-in_err-office_changes.ensures.1

pub returns-in_err-office_changes-clause-staged_on : goal.returns-in_err-office_changes-clause-staged_on
returns-in_err-office_changes-clause-staged_on c = unanswered _ _ c.from_residual-in_err-office_changes.result c.from_residual-in_err-office_changes.ensures.1

pub returns-in_err-office_changes-clause-office : goal.returns-in_err-office_changes-clause-office
returns-in_err-office_changes-clause-office c = unanswered _ _ c.from_residual-in_err-office_changes.result c.from_residual-in_err-office_changes.ensures.1

pub loop-line-preserved : goal.loop-line-preserved
loop-line-preserved c = record {
  before = search rules;
  touched = c.in_ok-take_line.ensures.touched c.args.registry.now c.loop-line.invariant.touched;
  office = search rules;
  refused =
      next_refused (office_in c.loop-line.staging) (office_in c.take_line.new.staging) (record { number = c.in-Some.line.number; text = c.in-Some.line.text.now }) c.next.new.self c.loop-line.line-iterator c.loop-line.refused.items c.take_line.new.refused.items (refusals (office_of c.args.registry.now c.args.shelf.now) (body_lines c.args.body.now))
      c.in-Some.ensures.steps c.in_ok-take_line.ensures.refused c.in_ok-take_line.ensures.office c.loop-line.invariant.refused;
  count = search rules;
}
