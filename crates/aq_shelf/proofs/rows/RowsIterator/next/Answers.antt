use Rattle.std.proofs.Common.{◌∙◌, ap, sym, List, ℕ, ◌++◌}
use Rattle.aq_base.specs.declared.observation.Observation.{Observation}
use Rattle.aq_shelf.specs.Stretches.{joined, rows_of}
use Rattle.aq_shelf.proofs.StretchLemmas.{rows-begun}
use Rattle.aq_shelf.proofs.rows.RowsIterator.next.Goals as goal

pub loop-self-preserved : goal.loop-self-preserved
loop-self-preserved c = record {
  left =
      ap (λ (l : List (ℕ × Observation)). rows_of c.in_ok-stretch.stretch.now.0.monitor l ++ joined c.next_back.new.self) c.as_slice-self-inside.ensures
      ∙ rows-begun c.loop-self.self-inside.monitor c.loop-self.self-inside.hours.now _ c.loop-self.self-inside.behind c.next_back.new.self (c.in_ok-stretch.stretch.now, c.in_ok-stretch.hours.now)
      (sym c.is_empty.ensures ∙ c.loop-self-test.true) c.in_ok-stretch.ensures.steps c.loop-self.invariant.left;
  none = tt;
}
