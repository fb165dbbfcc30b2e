-- A question, as the words of a command and the parts of a path ask it (own).
use Rattle.std.specs.Prelude.{ℕ, Bool, true, false, ◌&&◌, ◌||◌, nat_le, if◌then◌else◌, Option, Some, None, is_none, Result, Ok, Err, List, [], ◌∷◌, find, bytes_eq}
use Rattle.aq_base.specs.Calendar.{is_year, is_design_year}
use Rattle.aq_base.specs.declared.area.Area.{Area}
use Rattle.aq_base.specs.declared.area.Area.TheVariants as areas
use Rattle.aq_base.specs.declared.standard.Standard.{Standard}
use Rattle.aq_base.specs.declared.standard.Standard.TheVariants.{Pm10Of1987}
use Rattle.aq_base.specs.declared.question.Question.{Question}
use Rattle.aq_base.specs.declared.question.Question.TheVariants.{Value, Report, Export, WhatIf, Decisive, Combined, Area as AreaQuestion, Reply, Windows, Days, Pm25, Pm10, Sites, Monitors, Events, Flags, Loads, Daily, Highest, Completeness, Reports, Records, Lines}
use Rattle.aq_base.specs.declared.question.Topic.{Topic}
use Rattle.aq_rules.specs.Limits.{LAST_LOAD_NUMBER}
use Rattle.aq_rules.specs.Lines.Spellings.{◌>>=◌, parameter_in, year_in}
use Rattle.aq_rules.specs.Office.Office.{is_day}
use Rattle.aq_rules.specs.Questions.Spelling.{standard_word, combined_word, site_word, day_word, number_to, design_year, assumed_list, area_word}
use Rattle.aq_rules.specs.Questions.Table.{Part, OfStandard, OfPairStandard, OfSite, OfParameter, OfYear, OfEndYear, OfDay, OfNumber, OfList, OfArea, Named, Wanting, row_of, parts_of, name_of}

-- ---- the parts

-- what a text names as a part
abbrev pub named_by : (part : Part) → List ℕ → Option (Named part)
named_by OfStandard text = standard_word text
named_by OfPairStandard text = combined_word text
named_by OfSite text = site_word text
named_by OfParameter text = parameter_in text
named_by OfYear text = year_in text
named_by OfEndYear text = design_year text
named_by OfDay text = day_word text
named_by OfNumber text = number_to LAST_LOAD_NUMBER text
named_by OfList text = assumed_list text
named_by OfArea text = area_word text

-- the question of these texts: one for each part, and none more
abbrev pub question_by : (parts : List Part) → Wanting parts → List (List ℕ) → Option Question
question_by [] question [] = Some question
question_by [] question (text ∷ texts) = None
question_by (part ∷ parts) wanting [] = None
question_by (part ∷ parts) wanting (text ∷ texts) = named_by part text >>= λ named. question_by parts (wanting named) texts

unfoldable pub question_of : Topic → List (List ℕ) → Option Question
question_of topic texts = question_by (parts_of topic) (row_of topic).question texts

-- ---- in words

abbrev pub topic_named : List Topic → List ℕ → Option Topic
topic_named topics name = find (λ topic. bytes_eq (name_of topic) name) topics

-- the words of one of these questions: its name, and a word for each part
unfoldable pub asked_in_words : List Topic → List (List ℕ) → Option Question
asked_in_words topics [] = None
asked_in_words topics (name ∷ texts) = topic_named topics name >>= λ topic. question_of topic texts

-- ---- in a path

-- a standard or parameter that there is not is not found; any other part is to be spelled
abbrev pub is_sought : Part → Bool
is_sought OfStandard = true
is_sought OfPairStandard = true
is_sought OfParameter = true
is_sought _ = false

abbrev pub is_misspelled : List Part → List (List ℕ) → Bool
is_misspelled (part ∷ parts) (text ∷ texts) =
    (if is_sought part then false else is_none (named_by part text)) || is_misspelled parts texts
is_misspelled parts texts = false

-- 400 if a part is not spelled as it should be, and else 404
abbrev pub refusal_of : List Part → List (List ℕ) → ℕ
refusal_of parts texts = if is_misspelled parts texts then 400 else 404

abbrev pub asked_or : ℕ → Option Question → Result Question ℕ
asked_or status None = Err status
asked_or status (Some question) = Ok question

-- what the texts in a path of the question ask
unfoldable pub asked_in_path : Topic → List (List ℕ) → Result Question ℕ
asked_in_path topic texts = asked_or (refusal_of (parts_of topic) texts) (question_of topic texts)

-- ---- what is in range

abbrev pub is_load_number : ℕ → Bool
is_load_number number = nat_le 1 number && nat_le number LAST_LOAD_NUMBER

abbrev pub is_area : Area → Bool
is_area (areas.County state county) = nat_le state 99 && nat_le county 999
is_area (areas.Sites sites) = true

abbrev pub has_combinations : Standard → Bool
has_combinations Pm10Of1987 = false
has_combinations standard = true

-- words and paths ask nothing else
abbrev pub is_asked : Question → Bool
is_asked (Value standard site year) = is_design_year year
is_asked (Report standard year) = is_design_year year
is_asked (Export site pollutant year) = is_year year
is_asked (WhatIf standard site year assumed) = is_design_year year
is_asked (Decisive standard site year) = is_design_year year
is_asked (Combined standard site year) = has_combinations standard && is_design_year year
is_asked (AreaQuestion standard area year) = is_area area && is_design_year year
is_asked (Reply number) = is_load_number number
is_asked (Windows site day) = is_day day
is_asked (Days site year) = is_year year
is_asked (Pm25 site year) = is_year year
is_asked (Pm10 site year) = is_year year
is_asked Sites = true
is_asked (Monitors site) = true
is_asked (Events site) = true
is_asked (Flags site pollutant year) = is_year year
is_asked Loads = true
is_asked (Daily site pollutant year) = is_year year
is_asked (Highest site pollutant year) = is_year year
is_asked (Completeness site pollutant year) = is_year year
is_asked (Reports year) = is_design_year year
is_asked Records = true
is_asked (Lines site pollutant year) = is_year year
