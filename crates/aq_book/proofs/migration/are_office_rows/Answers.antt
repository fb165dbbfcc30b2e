use Rattle.std.proofs.Common.{◌≡◌, Bool, sym, subst}
use Rattle.std.specs.Prelude.{Result, IfOk}
use Rattle.aq_base.specs.declared.refusal.Memory.{Memory}
use Rattle.aq_rows.specs.Opening.{IsOpenFault}
use Rattle.aq_rows.specs.declared.opening.OpenFault.{OpenFault}
use Rattle.aq_rules.specs.Kept.Rows.{are_office_rows}
use Rattle.aq_book.proofs.MigrationLemmas.{damaged-no_office, opened-office}
use Rattle.aq_book.proofs.migration.are_office_rows.Goals as goal
use Rattle.aq_book.proofs.migration.are_office_rows.Goals.{in-Ok, in-Err-Damaged, in-Err-Memory}

pub returns : goal.returns
returns c =
    let rows = c.args.rows.now in
    let Right : Result Bool Memory → Type 0 = λ result. IfOk result (λ are. are ≡ are_office_rows rows) in
    let Refused : OpenFault → Type 0 = IsOpenFault rows in
    elim c.match-open.branch [
      | in-Ok w ↦ subst Right (sym w.result-is) (sym (opened-office rows _ w.in-Ok.ensures.office))
      | in-Err-Damaged w ↦
          subst Right (sym w.result-is) (sym (damaged-no_office rows _ (subst Refused w.in-Err-Damaged.field-0-is w.in-Err-Damaged.ensures.damaged)))
      | in-Err-Memory w ↦ subst Right (sym w.result-is) tt
    ]
