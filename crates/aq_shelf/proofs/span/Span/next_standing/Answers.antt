use Rattle.std.proofs.Common.{◌∙◌, ap, sym, List, ℕ, ◌++◌}
use Rattle.aq_base.specs.declared.observation.Observation.{Observation}
use Rattle.aq_shelf.specs.Stretches.{hours_between}
use Rattle.aq_shelf.proofs.StretchLemmas.{hours-begun}
use Rattle.aq_shelf.proofs.span.Span.next_standing.Goals as goal

pub loop-self-preserved : goal.loop-self-preserved
loop-self-preserved c =
    ap (λ (l : List (ℕ × Observation)). l ++ hours_between c.loop-self.self-inside.from c.loop-self.self-inside.end c.next_back.new.self) c.between-self-inside.ensures
    ∙ hours-begun c.loop-self.self-inside.from c.loop-self.self-inside.end c.loop-self.self-inside.hours.now _ c.loop-self.self-inside.behind c.next_back.new.self (c.in_ok-hours.field-0-0.now, c.in_ok-hours.hours.now)
    (sym c.is_empty.ensures ∙ c.loop-self-test.true) c.in_ok-hours.ensures.steps c.loop-self.invariant
