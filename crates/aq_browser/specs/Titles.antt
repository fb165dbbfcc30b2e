-- The title of a page: its question in words (own).
use Rattle.std.specs.Prelude.{ℕ, Option, Some, None, List, [], ◌++◌, codes}
use Rattle.aq_base.specs.Site.{Site}
use Rattle.aq_base.specs.Standard.{standard_name}
use Rattle.aq_base.specs.Text.{site_text, day_text}
use Rattle.aq_base.specs.declared.assumed.Assumed.{Assumed}
use Rattle.aq_base.specs.declared.monitor.Pollutant.{Pollutant}
use Rattle.aq_base.specs.declared.monitor.Pollutant.TheVariants.{Ozone, Pm25 as FineParticles, Pm10 as Particles}
use Rattle.aq_base.specs.declared.question.Question.{Question}
use Rattle.aq_base.specs.declared.question.Question.TheVariants.{Value, Report, Export, WhatIf, Decisive, Combined, Area as AreaQuestion, Reply, Windows, Days, Pm25, Pm10, Sites, Monitors, Events, Flags, Loads, Daily, Highest, Completeness, Reports, Records, Lines}
use Rattle.aq_base.specs.declared.question.Topic.{Topic}
use Rattle.aq_base.specs.declared.question.Topic.TheVariants as topic
use Rattle.aq_base.specs.declared.standard.Standard.{Standard}
use Rattle.aq_base.specs.Questions.{topic_of}
use Rattle.aq_browser.specs.Paths.{area_text, digits, list_text, year_text}

-- ---- what is asked for

-- events that are assumed to be concurred in or not
unfoldable pub assumed_words : List Assumed → List ℕ
assumed_words assumed = codes "The design value of a site with " ++ (list_text assumed ++ codes " assumed, which is not what stands")

-- the site that is joined to another one, and from which day on
unfoldable pub joined_to : Site × ℕ → List ℕ
joined_to joined =
    codes "The design value of a site, to which " ++ (site_text joined.0 ++ (codes " is joined from " ++ (day_text joined.1 ++ codes " on")))

abbrev pub joined_words : Option (Site × ℕ) → List ℕ
joined_words None = codes "The design value of a site and the one that is joined to it"
joined_words (Some joined) = joined_to joined

unfoldable pub topic_words : Topic → List ℕ
topic_words topic.Value = codes "The design value of a site"
topic_words topic.Report = codes "The design values of all sites"
topic_words topic.Export = codes "The observations of a year"
topic_words topic.WhatIf = codes "The design value of a site with events assumed"
topic_words topic.Decisive = codes "The events that decide the verdict of a site"
topic_words topic.Combined = codes "The design value of a site and the one that is joined to it"
topic_words topic.Area = codes "The verdict of an area"
topic_words topic.Reply = codes "What a load did"
topic_words topic.Windows = codes "The 8-hour ozone averages of a day"
topic_words topic.Days = codes "The ozone days of a year"
topic_words topic.Pm25 = codes "The quarters of a year of PM2.5"
topic_words topic.Pm10 = codes "The quarters of a year of PM10"
topic_words topic.Sites = codes "The sites"
topic_words topic.Monitors = codes "The monitors of a site"
topic_words topic.Events = codes "The exceptional events of a site"
topic_words topic.Flags = codes "The flagged observations of a year"
topic_words topic.Loads = codes "The loads"
topic_words topic.Daily = codes "The days of a year"
topic_words topic.Highest = codes "The highest days of a year"
topic_words topic.Completeness = codes "How complete a year is"
topic_words topic.Reports = codes "The design values of all sites by all standards"
topic_words topic.Records = codes "The records of the office"
topic_words topic.Lines = codes "The observations of a year as lines"

abbrev pub title_words : Option (Site × ℕ) → Question → List ℕ
title_words joined (WhatIf standard site year assumed) = assumed_words assumed
title_words joined (Combined standard site year) = joined_words joined
title_words joined question = topic_words (topic_of question)

-- ---- of which standard, site, parameter, area, year or day

abbrev pub pollutant_words : Pollutant → List ℕ
pollutant_words Ozone = codes "ozone"
pollutant_words FineParticles = codes "PM2.5"
pollutant_words Particles = codes "PM10"

-- a part, behind a dot
unfoldable pub dotted : List ℕ → List ℕ
dotted part = codes " &#183; " ++ part

unfoldable pub of_standard : Standard → Site → ℕ → List ℕ
of_standard standard site year = dotted (standard_name standard) ++ (dotted (site_text site) ++ dotted (year_text year))

unfoldable pub of_series : Site → Pollutant → ℕ → List ℕ
of_series site pollutant year = dotted (site_text site) ++ (dotted (pollutant_words pollutant) ++ dotted (year_text year))

unfoldable pub of_site : Site → ℕ → List ℕ
of_site site year = dotted (site_text site) ++ dotted (year_text year)

unfoldable pub of_day : Site → ℕ → List ℕ
of_day site day = dotted (site_text site) ++ dotted (day_text day)

unfoldable pub of_report : Standard → ℕ → List ℕ
of_report standard year = dotted (standard_name standard) ++ dotted (year_text year)

unfoldable pub of_area : Standard → List ℕ → ℕ → List ℕ
of_area standard area year = dotted (standard_name standard) ++ (dotted area ++ dotted (year_text year))

abbrev pub title_parts : Question → List ℕ
title_parts (Value standard site year) = of_standard standard site year
title_parts (Report standard year) = of_report standard year
title_parts (Export site pollutant year) = of_series site pollutant year
title_parts (WhatIf standard site year assumed) = of_standard standard site year
title_parts (Decisive standard site year) = of_standard standard site year
title_parts (Combined standard site year) = of_standard standard site year
title_parts (AreaQuestion standard area year) = of_area standard (area_text area) year
title_parts (Reply number) = dotted (digits number)
title_parts (Windows site day) = of_day site day
title_parts (Days site year) = of_site site year
title_parts (Pm25 site year) = of_site site year
title_parts (Pm10 site year) = of_site site year
title_parts Sites = []
title_parts (Monitors site) = dotted (site_text site)
title_parts (Events site) = dotted (site_text site)
title_parts (Flags site pollutant year) = of_series site pollutant year
title_parts Loads = []
title_parts (Daily site pollutant year) = of_series site pollutant year
title_parts (Highest site pollutant year) = of_series site pollutant year
title_parts (Completeness site pollutant year) = of_series site pollutant year
title_parts (Reports year) = dotted (year_text year)
title_parts Records = []
title_parts (Lines site pollutant year) = of_series site pollutant year

abbrev pub title : Option (Site × ℕ) → Question → List ℕ
title joined question = title_words joined question ++ title_parts question
