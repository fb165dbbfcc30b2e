-- A part of a question, as the table of questions has it.
use Rattle.std.specs.Prelude.{ℕ, Bool, not, ◌&&◌, is_some, List}
use Rattle.aq_rules.specs.Limits.{LAST_LOAD_NUMBER}
use Rattle.aq_rules.specs.Lines.Spellings.{parameter_in, year_in}
use Rattle.aq_rules.specs.Questions.Asking.{is_sought}
use Rattle.aq_rules.specs.Questions.Spelling.{area_word, assumed_list, combined_word, day_word, design_year, number_to, site_word, standard_word}
use Rattle.aq_rules.specs.Questions.Table as table
use Rattle.aq_words.specs.declared.parts.Part.{Part}
use Rattle.aq_words.specs.declared.parts.Part.TheVariants.{Standard, PairStandard, Site, Parameter, Year, EndYear, Day, Number, List as ListPart, Area}

abbrev pub part_of : Part → table.Part
part_of Standard = table.OfStandard
part_of PairStandard = table.OfPairStandard
part_of Site = table.OfSite
part_of Parameter = table.OfParameter
part_of Year = table.OfYear
part_of EndYear = table.OfEndYear
part_of Day = table.OfDay
part_of Number = table.OfNumber
part_of ListPart = table.OfList
part_of Area = table.OfArea

-- whether a text spells a part
abbrev pub is_spelled : table.Part → List ℕ → Bool
is_spelled table.OfStandard text = is_some (standard_word text)
is_spelled table.OfPairStandard text = is_some (combined_word text)
is_spelled table.OfSite text = is_some (site_word text)
is_spelled table.OfParameter text = is_some (parameter_in text)
is_spelled table.OfYear text = is_some (year_in text)
is_spelled table.OfEndYear text = is_some (design_year text)
is_spelled table.OfDay text = is_some (day_word text)
is_spelled table.OfNumber text = is_some (number_to LAST_LOAD_NUMBER text)
is_spelled table.OfList text = is_some (assumed_list text)
is_spelled table.OfArea text = is_some (area_word text)

-- a text that does not spell a part which is to be spelled
abbrev pub is_wrong : table.Part → List ℕ → Bool
is_wrong part text = not (is_sought part) && not (is_spelled part text)
