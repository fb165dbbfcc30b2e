use Rattle.std.proofs.Common.{◌++◌, ◌∙◌, List, ℕ, ap}
use Rattle.aq_simulation.specs.Generator.Samples.{wanted}
use Rattle.aq_simulation.proofs.GeneratorLemmas.Written.{sample-written}
use Rattle.aq_simulation.proofs.generator.samples.Samples.add.Goals as goal

pub returns : goal.returns
returns c =
    sample-written (wanted c.args.site c.args.pollutant c.args.hour) c.args.self.now.draws.state _ _ _ _ _ _ _ _ _
    c.values_of-least.ensures.least c.values_of-least.ensures.count c.duration_of.ensures
    c.observation.ensures.content c.observation.ensures.state
    c.in_ok-text.ensures.canonical
    (c.in_ok-extend_from_slice.ensures.items ∙ ap (λ (text : List ℕ). c.args.self.now.text.items ++ text) c.deref.ensures.value)
    c.in_ok-push.ensures.items
