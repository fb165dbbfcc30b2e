use Rattle.std.proofs.Common.{refl}
use Rattle.aq_rules.specs.Questions.Answer.{answer}
use Rattle.aq_rules.proofs.questions.answers.each_question_has_its_own_answer.Goals as goal

pub returns : goal.returns
unfolding answer
returns c = record {
  value = λ office standard at year here. rw here refl;
  export = λ office at pollutant year here. rw here refl;
  whatif = λ office standard at year list here known. rw (here, known) refl;
  decisive = λ office standard at year here. rw here refl;
  combined = λ office standard at year design here found. rw (here, found) refl;
  windows = λ office at day here. rw here refl;
  days = λ office at year here. rw here refl;
  pm25 = λ office at year here. rw here refl;
  pm10 = λ office at year here. rw here refl;
  monitors = λ office at here. rw here refl;
  events = λ office at here. rw here refl;
  flags = λ office at pollutant year here. rw here refl;
  daily = λ office at pollutant year here. rw here refl;
  highest = λ office at pollutant year here. rw here refl;
  completeness = λ office at pollutant year here. rw here refl;
  lines = λ office at pollutant year here. rw here refl;
}
