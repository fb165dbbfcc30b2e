use Rattle.std.proofs.Common.{refl}
use Rattle.aq_rules.specs.Questions.Answer.{answer}
use Rattle.aq_rules.proofs.questions.answers.unregistered_sites_have_no_answer.Goals as goal

pub returns : goal.returns
unfolding answer
returns c = record {
  value = λ office standard at year none. rw none refl;
  export = λ office at pollutant year none. rw none refl;
  whatif = λ office standard at year list none. rw none refl;
  decisive = λ office standard at year none. rw none refl;
  combined = λ office standard at year none. rw none refl;
  windows = λ office at day none. rw none refl;
  days = λ office at year none. rw none refl;
  pm25 = λ office at year none. rw none refl;
  pm10 = λ office at year none. rw none refl;
  monitors = λ office at none. rw none refl;
  events = λ office at none. rw none refl;
  flags = λ office at pollutant year none. rw none refl;
  daily = λ office at pollutant year none. rw none refl;
  highest = λ office at pollutant year none. rw none refl;
  completeness = λ office at pollutant year none. rw none refl;
  lines = λ office at pollutant year none. rw none refl;
}
