use Rattle.std.proofs.Common.{refl}
use Rattle.aq_base.specs.Calendar.{days_of_months, days_of_years}
use Rattle.aq_rules.specs.Lines.Spellings.{year_in}
use Rattle.aq_rules.specs.Questions.Spelling.{date_of, day_word, design_year}
use Rattle.aq_rules.proofs.questions.asking.questions_ask_for_their_parts.Goals as goal

pub returns : goal.returns
unfolding date_of day_word days_of_months days_of_years design_year year_in
returns c = record { parts = refl; end_years = refl; years = refl; days = refl; numbers = refl }
