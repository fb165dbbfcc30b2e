use Rattle.std.proofs.Common.{◌∙◌, ap, sym}
use Rattle.aq_registry.specs.Agreed.{Held, has_number, renewed, with_span, without_number}
use Rattle.aq_registry.proofs.agreed.Agreed.renew.Goals as goal

pub forget-requires-clause-stands : goal.forget-requires-clause-stands
forget-requires-clause-stands c = λ none. ap (λ (held : Held). has_number c.args.number held.spans) c.self.view_is ∙ c.requires.stands none

pub returns-in-Some : goal.returns-in-Some
returns-in-Some c =
    c.put.ensures.spans ∙ ap (with_span c.in-Some.span) (c.forget.ensures.spans ∙ ap (λ (held : Held). without_number c.args.number held.spans) c.self.view_is)
    ∙ ap (λ o. renewed c.args.number o c.args.self.now.spans) (sym c.in-Some.is)

pub returns-in_default : goal.returns-in_default
returns-in_default c =
    c.forget.ensures.spans ∙ ap (λ (held : Held). without_number c.args.number held.spans) c.self.view_is
    ∙ ap (λ o. renewed c.args.number o c.args.self.now.spans) (sym c.in_default.is)
