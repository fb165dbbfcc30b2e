use Rattle.std.proofs.Common.{rules, ◌∙◌, ◌==◌, not, ap}
use Rattle.std.proofs.lemmas.Fn.{filter_same}
use Rattle.aq_registry.specs.declared.agreed.Span.{Span}
use Rattle.aq_registry.specs.declared.agreed.Entry.{Entry}
use Rattle.aq_registry.specs.Agreed.{spans_of}
use Rattle.aq_registry.proofs.AgreedLemmas.{spans-filter}
use Rattle.aq_registry.proofs.agreed.take_away.Goals as goal

pub returns-clause-spans : goal.returns-clause-spans
returns-clause-spans c =
    ap spans_of (filter_same _ (λ (entry : Entry). not (entry.span.number == c.args.number)) _ (λ x b f k. search rules) c.args.entries.now.items c.retain.new.self.items c.retain.ensures.filtered)
    ∙ spans-filter (λ (span : Span). not (span.number == c.args.number)) c.args.entries.now.items
