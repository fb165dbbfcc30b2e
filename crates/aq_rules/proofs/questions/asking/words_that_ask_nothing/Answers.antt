use Rattle.std.proofs.Common.{refl}
use Rattle.aq_base.specs.Calendar.{days_of_months, days_of_years}
use Rattle.aq_rules.specs.Lines.Spellings.{site_in, year_in}
use Rattle.aq_rules.specs.Questions.Asking.{asked_in_words, question_of}
use Rattle.aq_rules.specs.Questions.Spelling.{area_word, assumed_in, assumed_list, combined_word, county_word, date_of, day_word, design_year, site_word, sites_word}
use Rattle.aq_rules.proofs.questions.asking.words_that_ask_nothing.Goals as goal

pub returns : goal.returns
unfolding area_word asked_in_words assumed_in assumed_list combined_word county_word date_of day_word days_of_months days_of_years design_year question_of site_in site_word sites_word year_in
returns c = record { none = refl; capital = refl; too_few = refl; too_many = refl; before = refl; after = refl; number = refl; zeros = refl; pm10_pair = refl }
