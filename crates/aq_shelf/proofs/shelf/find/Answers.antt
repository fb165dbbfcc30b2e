use Rattle.std.proofs.Common.{◌∙◌, sym, Some, None}
use Rattle.aq_shelf.proofs.StretchLemmas.{content_at-found}
use Rattle.aq_shelf.proofs.shelf.find.Goals as goal

pub returns-in_err-get : goal.returns-in_err-get
returns-in_err-get c =
    c.from_residual.ensures ∙ sym (content_at-found c.args.key.now c.of.result c.of.ensures c.args.stretches.now.entries c.requires c.len.ensures.ordered None c.in_err-get.ensures.value)

pub returns : goal.returns
returns c =
    c.at.ensures ∙ sym (content_at-found c.args.key.now c.of.result c.of.ensures c.args.stretches.now.entries c.requires c.len.ensures.ordered (Some c.in_ok-get.field-0.now) c.in_ok-get.ensures.value)
