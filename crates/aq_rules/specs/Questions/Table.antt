-- The table of questions: of each its name, its path and what it asks for (own). Words, paths, the usage text and pages are readings of it, and nothing else lists the questions again.
use Rattle.std.specs.Prelude.{ℕ, List, [], ◌∷◌, ◌++◌, flat_map, map, codes}
use Rattle.aq_base.specs.Site.{Site}
use Rattle.aq_base.specs.declared.area.Area.{Area}
use Rattle.aq_base.specs.declared.assumed.Assumed.{Assumed}
use Rattle.aq_base.specs.declared.monitor.Pollutant.{Pollutant}
use Rattle.aq_base.specs.declared.standard.Standard.{Standard}
use Rattle.aq_base.specs.declared.question.Question.{Question}
use Rattle.aq_base.specs.declared.question.Question.TheVariants as question
use Rattle.aq_base.specs.declared.question.Topic.{Topic}
use Rattle.aq_base.specs.declared.question.Topic.TheVariants.{Value, Report, Export, WhatIf, Decisive, Combined, Area as AreaTopic, Reply, Windows, Days, Pm25, Pm10, Sites, Monitors, Events, Flags, Loads, Daily, Highest, Completeness, Reports, Records, Lines}
pub use Rattle.aq_base.specs.Questions.{topic_of, all_topics}

-- ---- the parts of a question

-- a standard, and one of whose pollutant sites are combined; a site; a parameter; a year, and one that ends three years; a day; a load's number; assumed concurrences; an area
pub data Part : Type 0 where
  OfStandard OfPairStandard OfSite OfParameter OfYear OfEndYear OfDay OfNumber OfList OfArea : Part

-- what a part names
abbrev pub Named : Part → Type 0
Named OfStandard = Standard
Named OfPairStandard = Standard
Named OfSite = Site
Named OfParameter = Pollutant
Named OfYear = ℕ
Named OfEndYear = ℕ
Named OfDay = ℕ
Named OfNumber = ℕ
Named OfList = List Assumed
Named OfArea = Area

-- the part in the usage text, and in the pattern of a path
abbrev pub usage_word : Part → List ℕ
usage_word OfStandard = codes "STANDARD"
usage_word OfPairStandard = codes "STANDARD"
usage_word OfSite = codes "SITE"
usage_word OfParameter = codes "PARAMETER"
usage_word OfYear = codes "YEAR"
usage_word OfEndYear = codes "YEAR"
usage_word OfDay = codes "DAY"
usage_word OfNumber = codes "NUMBER"
usage_word OfList = codes "LIST"
usage_word OfArea = codes "AREA"

abbrev pub pattern_word : Part → List ℕ
pattern_word OfStandard = codes "{standard}"
pattern_word OfPairStandard = codes "{standard}"
pattern_word OfSite = codes "{site}"
pattern_word OfParameter = codes "{parameter}"
pattern_word OfYear = codes "{year}"
pattern_word OfEndYear = codes "{year}"
pattern_word OfDay = codes "{day}"
pattern_word OfNumber = codes "{n}"
pattern_word OfList = codes "{list}"
pattern_word OfArea = codes "{area}"

-- ---- a row

-- a step of a path, after a slash: a word of its own, or a part
pub data Step : Type 0 where
  Word : (text : List ℕ) → Step
  Hole : (part : Part) → Step

-- the parts for which a path asks, in order; words ask for the same
abbrev pub parts_in : List Step → List Part
parts_in [] = []
parts_in (Word text ∷ steps) = parts_in steps
parts_in (Hole part ∷ steps) = part ∷ parts_in steps

-- a question, once all these parts are named
abbrev pub Wanting : List Part → Type 0
Wanting [] = Question
Wanting (part ∷ parts) = Named part → Wanting parts

pub record Row : Type 0 where
  pub name : List ℕ
  pub path : List Step
  pub question : Wanting (parts_in path)

abbrev pub row : (name : List ℕ) → (path : List Step) → Wanting (parts_in path) → Row
row name path question = record { name = name; path = path; question = question }

-- the questions of a site, a parameter and a year
abbrev pub series_path : List ℕ → List Step
series_path name = Word name ∷ Hole OfSite ∷ Hole OfParameter ∷ Hole OfYear ∷ []

-- the questions of a standard, a site and a year
abbrev pub standard_path : List ℕ → List Step
standard_path name = Word name ∷ Hole OfStandard ∷ Hole OfSite ∷ Hole OfEndYear ∷ []

-- ---- the table

abbrev pub row_of : Topic → Row
row_of Value = row (codes "show") (standard_path (codes "dv")) question.Value
row_of Report = row (codes "report") (Word (codes "report") ∷ Hole OfStandard ∷ Hole OfEndYear ∷ []) question.Report
row_of Export = row (codes "export") (series_path (codes "export")) question.Export
row_of WhatIf = row (codes "whatif") (Word (codes "whatif") ∷ Hole OfStandard ∷ Hole OfSite ∷ Hole OfEndYear ∷ Hole OfList ∷ []) question.WhatIf
row_of Decisive = row (codes "decisive") (standard_path (codes "decisive")) question.Decisive
row_of Combined = row (codes "combined") (Word (codes "combined") ∷ Hole OfPairStandard ∷ Hole OfSite ∷ Hole OfEndYear ∷ []) question.Combined
row_of AreaTopic = row (codes "area") (Word (codes "area") ∷ Hole OfStandard ∷ Hole OfArea ∷ Hole OfEndYear ∷ []) question.Area
row_of Reply = row (codes "reply") (Word (codes "loads") ∷ Hole OfNumber ∷ []) question.Reply
row_of Windows = row (codes "windows") (Word (codes "ozone") ∷ Hole OfSite ∷ Word (codes "windows") ∷ Hole OfDay ∷ []) question.Windows
row_of Days = row (codes "days") (Word (codes "ozone") ∷ Hole OfSite ∷ Word (codes "days") ∷ Hole OfYear ∷ []) question.Days
row_of Pm25 = row (codes "pm25") (Word (codes "pm25") ∷ Hole OfSite ∷ Word (codes "quarters") ∷ Hole OfYear ∷ []) question.Pm25
row_of Pm10 = row (codes "pm10") (Word (codes "pm10") ∷ Hole OfSite ∷ Word (codes "quarters") ∷ Hole OfYear ∷ []) question.Pm10
row_of Sites = row (codes "sites") (Word (codes "sites") ∷ []) question.Sites
row_of Monitors = row (codes "monitors") (Word (codes "monitors") ∷ Hole OfSite ∷ []) question.Monitors
row_of Events = row (codes "events") (Word (codes "events") ∷ Hole OfSite ∷ []) question.Events
row_of Flags = row (codes "flags") (series_path (codes "flags")) question.Flags
row_of Loads = row (codes "loads") (Word (codes "loads") ∷ []) question.Loads
row_of Daily = row (codes "daily") (series_path (codes "daily")) question.Daily
row_of Highest = row (codes "highest") (series_path (codes "highest")) question.Highest
row_of Completeness = row (codes "completeness") (series_path (codes "completeness")) question.Completeness
row_of Reports = row (codes "reports") (Word (codes "reports") ∷ Hole OfEndYear ∷ []) question.Reports
row_of Records = row (codes "records") (Word (codes "records") ∷ []) question.Records
row_of Lines = row (codes "lines") (series_path (codes "lines")) question.Lines

abbrev pub name_of : Topic → List ℕ
name_of topic = (row_of topic).name

abbrev pub parts_of : Topic → List Part
parts_of topic = parts_in (row_of topic).path

-- ---- its texts

-- a question in the usage text: its name, and the words for its parts
unfoldable pub usage_of : Topic → List (List ℕ)
usage_of topic = name_of topic ∷ map usage_word (parts_of topic)

abbrev pub step_pattern : Step → List ℕ
step_pattern (Word text) = text
step_pattern (Hole part) = pattern_word part

-- the pattern of a question's path, with each part in braces
unfoldable pub pattern_of : Topic → List ℕ
pattern_of topic = flat_map (λ step. codes "/" ++ step_pattern step) (row_of topic).path
