use Rattle.std.proofs.Common.{refl}
use Rattle.aq_base.specs.Calendar.{days_of_months, days_of_years}
use Rattle.aq_rules.specs.Lines.Spellings.{site_in, year_in}
use Rattle.aq_rules.specs.Questions.Asking.{asked_in_path, question_of}
use Rattle.aq_rules.specs.Questions.Spelling.{area_word, assumed_in, assumed_list, combined_word, county_word, date_of, day_word, design_year, site_word, sites_word}
use Rattle.aq_rules.proofs.questions.asking.paths_are_refused.Goals as goal

pub returns : goal.returns
unfolding area_word asked_in_path assumed_in assumed_list combined_word county_word date_of day_word days_of_months days_of_years design_year question_of site_in site_word sites_word year_in
returns c = record { found = refl; no_standard = refl; bad_site = refl; both = refl; no_parameter = refl; most_entries = refl; too_many_entries = refl; twice = refl; pm10_pair = refl; bad_pair = refl; number = refl; day = refl }
