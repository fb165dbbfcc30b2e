use Rattle.std.proofs.Common.{[], refl, sym, ◌∙◌}
use Rattle.std.proofs.lemmas.Bool.{false≢true}
use Rattle.aq_series.proofs.day_hours.HourState.add.Goals as goal

pub returns-then-eq : goal.returns-then-eq
returns-then-eq c =
    let is = sym c.eq.ensures ∙ c.if-eq.true in
    record {
      eight = c.with-self.ensures.values;
      kept = refl;
      settled = λ settled. absurd (false≢true (sym c.if-self.false ∙ settled));
      found = λ open_ primary. refl;
      alone = λ open_ primary. c.with-self.ensures.tally [] c.args.poc c.new.ensures.tally;
      unsettled = λ open_ other. absurd (false≢true (sym other ∙ is));
      count = λ open_ other. absurd (false≢true (sym other ∙ is));
      more = λ open_ other. absurd (false≢true (sym other ∙ is));
    }
