-- The path of a question, as the server reads it (own).
use Rattle.std.specs.Prelude.{ℕ, List, [], ◌∷◌, ◌++◌, codes, flat_map, pos}
use Rattle.aq_base.specs.Decimal.{fixed, last_digits}
use Rattle.aq_base.specs.Site.{Site}
use Rattle.aq_base.specs.Standard.{standard_name}
use Rattle.aq_base.specs.Text.{site_text, day_text}
use Rattle.aq_base.specs.declared.area.Area.{Area}
use Rattle.aq_base.specs.declared.area.Area.TheVariants.{County, Sites as OfSites}
use Rattle.aq_base.specs.declared.assumed.Assumed.{Assumed}
use Rattle.aq_base.specs.declared.monitor.Pollutant.{Pollutant}
use Rattle.aq_base.specs.declared.question.Question.{Question}
use Rattle.aq_base.specs.declared.question.Question.TheVariants.{Value, Report, Export, WhatIf, Decisive, Combined, Area as AreaQuestion, Reply, Windows, Days, Pm25, Pm10, Sites, Monitors, Events, Flags, Loads, Daily, Highest, Completeness, Reports, Records, Lines}
use Rattle.aq_base.specs.declared.standard.Standard.{Standard}
use Rattle.aq_rules.specs.Lines.Canonical.{parameter_text, truth_text}

-- a whole number, in digits
abbrev pub digits : ℕ → List ℕ
digits n = fixed (pos n) 0

abbrev pub year_text : ℕ → List ℕ
year_text year = last_digits 4 year

-- an event's number, and `Y` or `N`
abbrev pub assumed_text : Assumed → List ℕ
assumed_text entry = digits entry.number ++ truth_text entry.agreed

abbrev pub further_assumed : Assumed → List ℕ
further_assumed entry = codes "," ++ assumed_text entry

-- assumed concurrences, with commas between them
unfoldable pub list_text : List Assumed → List ℕ
list_text [] = []
list_text (entry ∷ entries) = assumed_text entry ++ flat_map further_assumed entries

abbrev pub further_site : Site → List ℕ
further_site site = codes "," ++ site_text site

-- sites, with commas between them
unfoldable pub sites_text : List Site → List ℕ
sites_text [] = []
sites_text (site ∷ sites) = site_text site ++ flat_map further_site sites

-- SS-CCC
unfoldable pub county_text : ℕ → ℕ → List ℕ
county_text state county = last_digits 2 state ++ (codes "-" ++ last_digits 3 county)

unfoldable pub area_text : Area → List ℕ
area_text (County state county) = county_text state county
area_text (OfSites sites) = sites_text sites

-- of a standard, a site and a year; of a site, a parameter and a year; of a site and a year
abbrev pub standard_texts : List ℕ → Standard → Site → ℕ → List (List ℕ)
standard_texts name standard site year = name ∷ standard_name standard ∷ site_text site ∷ year_text year ∷ []

abbrev pub series_texts : List ℕ → Site → Pollutant → ℕ → List (List ℕ)
series_texts name site pollutant year = name ∷ site_text site ∷ parameter_text pollutant ∷ year_text year ∷ []

abbrev pub site_texts : List ℕ → Site → List ℕ → List ℕ → List (List ℕ)
site_texts name site inner last = name ∷ site_text site ∷ inner ∷ last ∷ []

abbrev pub quarters_texts : List ℕ → Site → ℕ → List (List ℕ)
quarters_texts name site year = site_texts name site (codes "quarters") (year_text year)

abbrev pub whatif_texts : Standard → Site → ℕ → List Assumed → List (List ℕ)
whatif_texts standard site year assumed = codes "whatif" ∷ standard_name standard ∷ site_text site ∷ year_text year ∷ list_text assumed ∷ []

abbrev pub area_texts : Standard → Area → ℕ → List (List ℕ)
area_texts standard area year = codes "area" ∷ standard_name standard ∷ area_text area ∷ year_text year ∷ []

-- the parts of the path of a question
unfoldable pub path_texts : Question → List (List ℕ)
path_texts (Value standard site year) = standard_texts (codes "dv") standard site year
path_texts (Report standard year) = codes "report" ∷ standard_name standard ∷ year_text year ∷ []
path_texts (Export site pollutant year) = series_texts (codes "export") site pollutant year
path_texts (WhatIf standard site year assumed) = whatif_texts standard site year assumed
path_texts (Decisive standard site year) = standard_texts (codes "decisive") standard site year
path_texts (Combined standard site year) = standard_texts (codes "combined") standard site year
path_texts (AreaQuestion standard area year) = area_texts standard area year
path_texts (Reply number) = codes "loads" ∷ digits number ∷ []
path_texts (Windows site day) = site_texts (codes "ozone") site (codes "windows") (day_text day)
path_texts (Days site year) = site_texts (codes "ozone") site (codes "days") (year_text year)
path_texts (Pm25 site year) = quarters_texts (codes "pm25") site year
path_texts (Pm10 site year) = quarters_texts (codes "pm10") site year
path_texts Sites = codes "sites" ∷ []
path_texts (Monitors site) = codes "monitors" ∷ site_text site ∷ []
path_texts (Events site) = codes "events" ∷ site_text site ∷ []
path_texts (Flags site pollutant year) = series_texts (codes "flags") site pollutant year
path_texts Loads = codes "loads" ∷ []
path_texts (Daily site pollutant year) = series_texts (codes "daily") site pollutant year
path_texts (Highest site pollutant year) = series_texts (codes "highest") site pollutant year
path_texts (Completeness site pollutant year) = series_texts (codes "completeness") site pollutant year
path_texts (Reports year) = codes "reports" ∷ year_text year ∷ []
path_texts Records = codes "records" ∷ []
path_texts (Lines site pollutant year) = series_texts (codes "lines") site pollutant year

-- a part stands behind a slash
unfoldable pub after_slash : List ℕ → List ℕ
after_slash text = codes "/" ++ text

unfoldable pub path_of : Question → List ℕ
path_of question = flat_map after_slash (path_texts question)
