use Rattle.std.proofs.Common.{◌∙◌, subst, sym, List}
use Rattle.aq_base.specs.declared.office.OfficeRecord.{OfficeRecord}
use Rattle.aq_rules.specs.Office.Office.{IsOffice}
use Rattle.aq_registry.specs.Registry.{office_with}
use Rattle.aq_registry.proofs.EventLemmas.{stands-numbered}
use Rattle.aq_registry.proofs.registry.Registry.agreed.Goals as goal

pub returns-then-stands-clause-number : goal.returns-then-stands-clause-number
returns-then-stands-clause-number c = λ some.
    let valid : IsOffice (office_with c.args.self.now) = subst (λ (rows : List OfficeRecord). IsOffice (office_with rows)) c.self.view_is c.self.invariant.office in
    stands-numbered c.args.self.now c.args.number valid (sym c.stands.ensures ∙ c.if-stands.true)
