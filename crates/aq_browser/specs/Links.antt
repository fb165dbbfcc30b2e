-- Where a page leads: to the sites and the reports from everywhere, and to what stands beside or below its own question (own).
use Rattle.std.specs.Prelude.{ℕ, ◌+◌, ◌-◌, ◌&&◌, nat_lt, if◌then◌else◌, Option, Some, None, List, [], ◌++◌, codes, flat_map, option_map}
use Rattle.aq_base.specs.Calendar.{is_design_year, year_of}
use Rattle.aq_base.specs.Site.{Site}
use Rattle.aq_base.specs.Standard.{standards, standard_name, pollutant_of}
use Rattle.aq_base.specs.Text.{day_text}
use Rattle.aq_base.specs.declared.day.TheConstants.{FIRST_YEAR, FIRST_DESIGN_YEAR, LAST_YEAR, LAST_DAY}
use Rattle.aq_base.specs.declared.monitor.Pollutant.{Pollutant}
use Rattle.aq_base.specs.declared.monitor.Pollutant.TheVariants.{Ozone, Pm25 as FineParticles, Pm10 as Particles}
use Rattle.aq_base.specs.declared.question.Question.{Question}
use Rattle.aq_base.specs.declared.question.Question.TheVariants.{Value, Report, Export, WhatIf, Decisive, Combined, Area, Reply, Windows, Days, Pm25, Pm10, Sites, Monitors, Events, Flags, Loads, Daily, Highest, Completeness, Reports, Records, Lines}
use Rattle.aq_base.specs.declared.standard.Standard.{Standard}
use Rattle.aq_rules.specs.Office.Monitors.{is_same_pollutant}
use Rattle.aq_browser.specs.Paths.{path_of, year_text}
use Rattle.aq_browser.specs.Titles.{pollutant_words}
use Rattle.aq_browser.specs.declared.context.Context.{Context}

-- ---- a link

-- the end of a link's target, its words, and the end of its line
unfoldable pub labelled : List ℕ → List ℕ
labelled words = codes "\">" ++ (words ++ codes "</a>\n")

-- a link to the page of a question
unfoldable pub question_link : Question → List ℕ → List ℕ
question_link question words = codes "<a href=\"/page" ++ (path_of question ++ labelled words)

-- ---- the years before and after

-- the year in the path of a question
abbrev pub year_in : Question → Option ℕ
year_in (Value standard site year) = Some year
year_in (Report standard year) = Some year
year_in (Export site pollutant year) = Some year
year_in (WhatIf standard site year assumed) = Some year
year_in (Decisive standard site year) = Some year
year_in (Combined standard site year) = Some year
year_in (Area standard area year) = Some year
year_in (Reply number) = None
year_in (Windows site day) = None
year_in (Days site year) = Some year
year_in (Pm25 site year) = Some year
year_in (Pm10 site year) = Some year
year_in Sites = None
year_in (Monitors site) = None
year_in (Events site) = None
year_in (Flags site pollutant year) = Some year
year_in Loads = None
year_in (Daily site pollutant year) = Some year
year_in (Highest site pollutant year) = Some year
year_in (Completeness site pollutant year) = Some year
year_in (Reports year) = Some year
year_in Records = None
year_in (Lines site pollutant year) = Some year

-- the question with another year in its path
abbrev pub of_year : Question → ℕ → Question
of_year (Value standard site year) other = Value standard site other
of_year (Report standard year) other = Report standard other
of_year (Export site pollutant year) other = Export site pollutant other
of_year (WhatIf standard site year assumed) other = WhatIf standard site other assumed
of_year (Decisive standard site year) other = Decisive standard site other
of_year (Combined standard site year) other = Combined standard site other
of_year (Area standard area year) other = Area standard area other
of_year (Reply number) other = Reply number
of_year (Windows site day) other = Windows site day
of_year (Days site year) other = Days site other
of_year (Pm25 site year) other = Pm25 site other
of_year (Pm10 site year) other = Pm10 site other
of_year Sites other = Sites
of_year (Monitors site) other = Monitors site
of_year (Events site) other = Events site
of_year (Flags site pollutant year) other = Flags site pollutant other
of_year Loads other = Loads
of_year (Daily site pollutant year) other = Daily site pollutant other
of_year (Highest site pollutant year) other = Highest site pollutant other
of_year (Completeness site pollutant year) other = Completeness site pollutant other
of_year (Reports year) other = Reports other
of_year Records other = Records
of_year (Lines site pollutant year) other = Lines site pollutant other

-- the first year that the question can be asked for
abbrev pub first_year : Question → ℕ
first_year (Value standard site year) = FIRST_DESIGN_YEAR
first_year (Report standard year) = FIRST_DESIGN_YEAR
first_year (WhatIf standard site year assumed) = FIRST_DESIGN_YEAR
first_year (Decisive standard site year) = FIRST_DESIGN_YEAR
first_year (Combined standard site year) = FIRST_DESIGN_YEAR
first_year (Area standard area year) = FIRST_DESIGN_YEAR
first_year (Reports year) = FIRST_DESIGN_YEAR
first_year _ = FIRST_YEAR

unfoldable pub link_of_year : Question → ℕ → List ℕ
link_of_year question year = question_link (of_year question year) (year_text year)

unfoldable pub year_before : Question → ℕ → List ℕ
year_before question year = if nat_lt (first_year question) year then link_of_year question (year - 1) else []

unfoldable pub year_after : Question → ℕ → List ℕ
year_after question year = if nat_lt year LAST_YEAR then link_of_year question (year + 1) else []

unfoldable pub other_years : Question → ℕ → List ℕ
other_years question year = codes "other years:\n" ++ (year_before question year ++ year_after question year)

abbrev pub years_around : Question → Option ℕ → List ℕ
years_around question None = []
years_around question (Some year) = other_years question year

unfoldable pub years_beside : Question → List ℕ
years_beside question = years_around question (year_in question)

-- ---- from everywhere: the sites and the six reports

abbrev pub if_design_year : ℕ → Option ℕ
if_design_year year = if is_design_year year then Some year else None

abbrev pub design_year : Option ℕ → Option ℕ
design_year None = None
design_year (Some year) = if_design_year year

abbrev pub first_given : Option ℕ → Option ℕ → Option ℕ
first_given None other = other
first_given (Some year) other = Some year

-- the year of the path, or that of its day
abbrev pub year_asked : Question → Option ℕ
year_asked (Windows site day) = Some (year_of day)
year_asked question = year_in question

-- the year of the reports: the year that is asked for, if it has design values; else that of the last observation of the office
abbrev pub report_year : Option ℕ → Option ℕ → Option ℕ
report_year asked last = first_given (design_year asked) (design_year (option_map year_of last))

unfoldable pub report_link : ℕ → Standard → List ℕ
report_link year standard = question_link (Report standard year) (standard_name standard)

unfoldable pub reports_of : ℕ → List ℕ
reports_of year = codes "reports of " ++ (year_text year ++ (codes ":\n" ++ flat_map (report_link year) standards))

abbrev pub report_links : Option ℕ → List ℕ
report_links None = []
report_links (Some year) = reports_of year

unfoldable pub navigation : Option ℕ → List ℕ
navigation year = codes "<nav>\n<a href=\"/\">Sites</a>\n" ++ (report_links year ++ codes "</nav>\n")

-- ---- from the monitors of a site: the events, and for each parameter what its last year has

-- the design value by a standard of the pollutant, where the year ends three years of the profile
unfoldable pub value_link : Site → Pollutant → ℕ → Standard → List ℕ
value_link site pollutant year standard =
    if is_same_pollutant (pollutant_of standard) pollutant && is_design_year year
    then question_link (Value standard site year) (standard_name standard)
    else []

unfoldable pub value_links : Site → Pollutant → ℕ → List ℕ
value_links site pollutant year = flat_map (value_link site pollutant year) standards

-- the days of ozone, and the quarters of the particles
unfoldable pub year_link : Site → Pollutant → ℕ → List ℕ
year_link site Ozone year = question_link (Days site year) (codes "ozone days")
year_link site FineParticles year = question_link (Pm25 site year) (codes "quarters")
year_link site Particles year = question_link (Pm10 site year) (codes "quarters")

unfoldable pub series_head : Pollutant → ℕ → List ℕ
series_head pollutant year =
    codes "<p class=\"links\">" ++ (pollutant_words pollutant ++ (codes " in " ++ (year_text year ++ codes ":\n")))

-- the days, the quarters and what was ranked and counted of them
unfoldable pub day_links : Site → Pollutant → ℕ → List ℕ
day_links site pollutant year =
    question_link (Daily site pollutant year) (codes "daily values")
    ++ (year_link site pollutant year ++ question_link (Highest site pollutant year) (codes "highest days"))

unfoldable pub sample_links : Site → Pollutant → ℕ → List ℕ
sample_links site pollutant year =
    question_link (Completeness site pollutant year) (codes "completeness")
    ++ question_link (Flags site pollutant year) (codes "flags")

unfoldable pub series_links : Site → Pollutant → ℕ → List ℕ
series_links site pollutant year =
    series_head pollutant year
    ++ (value_links site pollutant year
    ++ (day_links site pollutant year
    ++ (sample_links site pollutant year ++ codes "</p>\n")))

-- those of the year of the last observation, if there is one
abbrev pub last_series : Site → Pollutant → Option ℕ → List ℕ
last_series site pollutant None = []
last_series site pollutant (Some day) = series_links site pollutant (year_of day)

unfoldable pub event_links : Site → List ℕ
event_links site = codes "<p class=\"links\">" ++ (question_link (Events site) (codes "events") ++ codes "</p>\n")

unfoldable pub monitor_links : Context → Site → List ℕ
monitor_links context site =
    event_links site
    ++ (last_series site Ozone context.ozone
    ++ (last_series site FineParticles context.pm25 ++ last_series site Particles context.pm10))

-- ---- from the other questions

-- the highest days of the year so many years back
unfoldable pub highest_link : Pollutant → Site → ℕ → List ℕ
highest_link pollutant site year = question_link (Highest site pollutant year) (year_text year)

unfoldable pub highest_links : Pollutant → Site → ℕ → List ℕ
highest_links pollutant site year =
    highest_link pollutant site (year - 2) ++ (highest_link pollutant site (year - 1) ++ highest_link pollutant site year)

-- from a design value: the events that decide, and the highest days of each of its years
unfoldable pub value_leads : Standard → Site → ℕ → List ℕ
value_leads standard site year =
    question_link (Decisive standard site year) (codes "events that decide")
    ++ (codes "highest days of:\n" ++ highest_links (pollutant_of standard) site year)

unfoldable pub day_link : Site → ℕ → List ℕ
day_link site day = question_link (Windows site day) (day_text day)

unfoldable pub day_before : Site → ℕ → List ℕ
day_before site day = if nat_lt 0 day then day_link site (day - 1) else []

unfoldable pub day_after : Site → ℕ → List ℕ
day_after site day = if nat_lt day LAST_DAY then day_link site (day + 1) else []

-- from a day of ozone: the days before and after, and those of the year
unfoldable pub window_leads : Site → ℕ → List ℕ
window_leads site day =
    day_before site day ++ (day_after site day ++ question_link (Days site (year_of day)) (codes "days of the year"))

-- the observations of a year, which are no page
unfoldable pub export_link : Site → Pollutant → ℕ → List ℕ
export_link site pollutant year = codes "<a href=\"" ++ (path_of (Export site pollutant year) ++ labelled (codes "observations as CSV"))

abbrev pub leads : Question → List ℕ
leads (Value standard site year) = value_leads standard site year
leads (WhatIf standard site year assumed) = value_leads standard site year
leads (Combined standard site year) = value_leads standard site year
leads (Windows site day) = window_leads site day
leads (Daily site pollutant year) = export_link site pollutant year
leads Sites = question_link Loads (codes "loads")
leads _ = []

unfoldable pub leads_line : Question → List ℕ
leads_line question = codes "<p class=\"links\">" ++ (leads question ++ (years_beside question ++ codes "</p>\n"))

-- what stands above the sheets of a page
abbrev pub leads_of : Context → Question → List ℕ
leads_of context (Monitors site) = monitor_links context site
leads_of context question = leads_line question
