use Rattle.std.proofs.Common.{◌∙◌, ap}
use Rattle.std.specs.List.{list_any}
use Rattle.aq_rules.specs.Office.Exclusion.{excluded}
use Rattle.aq_registry.specs.Agreed.{leaves_out}
use Rattle.aq_registry.proofs.LeftOutLemmas.{left_out}
use Rattle.aq_registry.proofs.registry.Registry.excluded.Goals as goal

pub returns : goal.returns
returns c =
    let records = c.self.inside.records in
    let spans = c.self.inside.agreed.spans in
    c.any_leaves_out.ensures
    ∙ ap (λ codes. list_any (leaves_out spans c.args.key) codes) c.codes.ensures.value
    ∙ left_out records spans c.args.key c.args.quals.now c.self.invariant.agreed_held
    ∙ ap (λ rows. excluded rows c.args.key c.args.quals.now) c.self.view_is
