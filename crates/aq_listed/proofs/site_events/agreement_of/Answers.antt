use Rattle.std.proofs.Common.{◌∙◌, ap, sym}
use Rattle.std.specs.Option.{option_and_then}
use Rattle.aq_listed.specs.EventWords.{agreement_in}
use Rattle.aq_listed.proofs.Agreements.{agreement_found}
use Rattle.aq_listed.proofs.site_events.agreement_of.Goals as goal

pub returns : goal.returns
returns c = c.agreement_in.ensures ∙ ap (option_and_then agreement_in) c.get.ensures ∙ sym (agreement_found c.args.registry.now c.args.number)
