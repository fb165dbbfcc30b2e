use Rattle.std.proofs.Common.{refl}
use Rattle.aq_rules.proofs.questions.asking.questions_have_their_ranges.Goals as goal

pub returns : goal.returns
returns c = record { end_years = λ standard at list. refl; years = λ at pollutant. refl; windows = λ at. refl; numbers = refl; pair = λ at. refl; counties = λ standard. refl }
