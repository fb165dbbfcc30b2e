use Rattle.aq_cells.proofs.HourCosts.{no-line, one-day, one-hour}
use Rattle.aq_cells.proofs.laws.loads_of_ozone_hours_cost_no_more_than_this.Goals as goal

pub returns : goal.returns
returns c = record {
  none = λ old new number. no-line old new number;
  hour = λ old new key number. one-hour old new number key;
  day = λ old new monitor day number. one-day old new number monitor day;
}
