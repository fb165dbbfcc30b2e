use Rattle.std.proofs.Common.{◌∙◌, ap, sym, false, Option}
use Rattle.std.specs.Option.{option_map_or}
use Rattle.aq_base.specs.declared.office.OfficeRecord.{OfficeRecord}
use Rattle.aq_registry.specs.Registry.{agreement_in}
use Rattle.aq_registry.proofs.EntryLemmas.{places-rise}
use Rattle.aq_registry.proofs.ExclusionLemmas.{agreement_found}
use Rattle.aq_registry.proofs.records.Records.agree_to.Goals as goal

pub returns : goal.returns
returns c =
    c.agreement.ensures
    ∙ ap (λ (o : Option OfficeRecord). option_map_or agreement_in o false) c.get.ensures
    ∙ sym (agreement_found c.args.number c.args.self.now (places-rise c.self.inside.by_place.entries c.args.self.now c.self.invariant c.self.view_is))
