-- The answer to each question about an office: sheets, a text, or what is missing (own).
use Rattle.std.specs.Prelude.{ℕ, Bool, if◌then◌else◌, List, [], ◌∷◌, map, flat_map, Option, Some, None}
use Rattle.std.specs.List.{list_any}
use Rattle.aq_base.specs.Site.{Site}
use Rattle.aq_base.specs.Standard.{standards}
use Rattle.aq_base.specs.declared.question.Question.{Question}
use Rattle.aq_base.specs.declared.question.Question.TheVariants.{Value, Report, Export, WhatIf, Decisive, Combined, Area as AreaQuestion, Reply, Windows, Days, Pm25, Pm10, Sites, Monitors, Events, Flags, Loads, Daily, Highest, Completeness, Reports, Records, Lines}
use Rattle.aq_rules.specs.Combined.Pair.{pair_value}
use Rattle.aq_rules.specs.DesignValues.{DesignValue}
use Rattle.aq_rules.specs.Office.Office.{Office, StoredLoad, load_at, sites_of}
use Rattle.aq_rules.specs.Office.Monitors.{is_same_site}
use Rattle.aq_rules.specs.WhatIf.Assumed.{unknown_event}
use Rattle.aq_rules.specs.Listed.Completeness.{completeness_answer}
use Rattle.aq_rules.specs.Listed.Daily.{daily_answer}
use Rattle.aq_rules.specs.Listed.Events.{events_answer}
use Rattle.aq_rules.specs.Listed.Flags.{flags_answer}
use Rattle.aq_rules.specs.Listed.Highest.{highest_answer}
use Rattle.aq_rules.specs.Listed.Loads.{loads_answer}
use Rattle.aq_rules.specs.Listed.Monitors.{monitors_answer}
use Rattle.aq_rules.specs.Listed.ObservationLines.{lines_answer}
use Rattle.aq_rules.specs.Listed.Records.{records_answer}
use Rattle.aq_rules.specs.Listed.Sites.{sites_answer}
use Rattle.aq_rules.specs.Shown.AreaSheets.{area_answer, area_sites, area_sites_answer, decisive_answer, what_if_answer}
use Rattle.aq_rules.specs.Shown.Export.{export_answer}
use Rattle.aq_rules.specs.Shown.Json.{json_list, json_of}
use Rattle.aq_rules.specs.Shown.OtherSheets.{report_answer, value_answer, value_sheet}
use Rattle.aq_rules.specs.Shown.ParticleSheets.{pm25_answer, pm10_answer}
use Rattle.aq_rules.specs.Shown.Sheet.{Sheet, text_of}
use Rattle.aq_rules.specs.Shown.Sheets.{load_sheet, windows_answer, days_answer}

-- what is not there: a registered monitor of the site; an event of the number; a site that is joined to the site for the standard's pollutant; a registered site of the area that measures it; a load of the number
pub data Lack : Type 0 where
  NoSite : (site : Site) → Lack
  NoEvent : (number : ℕ) → Lack
  NoCombination : (site : Site) → Lack
  NoSiteInArea : Lack
  NoLoad : (number : ℕ) → Lack

pub data Answer : Type 0 where
  OfSheets : (sheets : List Sheet) → Answer
  OfText : (text : List ℕ) → Answer
  Lacks : (what : Lack) → Answer

abbrev pub of_sheet : Sheet → Answer
of_sheet sheet = OfSheets (sheet ∷ [])

-- ---- what must be there

abbrev pub is_registered : Office → Site → Bool
is_registered office site = list_any (is_same_site site) (sites_of office.records)

-- of a site that is registered, also without a monitor of the pollutant
abbrev pub of_site : Office → Site → Answer → Answer
of_site office site answer = if is_registered office site then answer else Lacks (NoSite site)

-- with the first number of a list that no event has, if there is one
abbrev pub of_events : Option ℕ → Answer → Answer
of_events None answer = answer
of_events (Some number) answer = Lacks (NoEvent number)

abbrev pub of_pair : Site → (DesignValue → Answer) → Option DesignValue → Answer
of_pair site answer None = Lacks (NoCombination site)
of_pair site answer (Some value) = answer value

abbrev pub of_area : List Site → Answer → Answer
of_area [] answer = Lacks NoSiteInArea
of_area (site ∷ sites) answer = answer

abbrev pub of_load : ℕ → Option StoredLoad → Answer
of_load number None = Lacks (NoLoad number)
of_load number (Some load) = of_sheet (load_sheet load.reply)

-- ---- what is answered

unfoldable pub answer : Office → Question → Answer
answer office (Value standard site year) = of_site office site (of_sheet (value_answer standard office site year))
answer office (Report standard year) = of_sheet (report_answer standard office year)
answer office (Export site pollutant year) = of_site office site (OfText (export_answer office site pollutant year))
answer office (WhatIf standard site year assumed) =
    of_site office site (of_events (unknown_event office assumed) (of_sheet (what_if_answer standard office assumed site year)))
answer office (Decisive standard site year) = of_site office site (of_sheet (decisive_answer standard office site year))
answer office (Combined standard site year) =
    of_site office site (of_pair site (λ value. of_sheet (value_sheet standard site year value)) (pair_value standard office site year))
answer office (AreaQuestion standard area year) =
    of_area (area_sites standard office area)
    (OfSheets (area_answer standard office area year ∷ area_sites_answer standard office area year ∷ []))
answer office (Reply number) = of_load number (load_at office number)
answer office (Windows site day) = of_site office site (of_sheet (windows_answer office site day))
answer office (Days site year) = of_site office site (of_sheet (days_answer office site year))
answer office (Pm25 site year) = of_site office site (of_sheet (pm25_answer office site year))
answer office (Pm10 site year) = of_site office site (of_sheet (pm10_answer office site year))
answer office Sites = of_sheet (sites_answer office)
answer office (Monitors site) = of_site office site (of_sheet (monitors_answer office site))
answer office (Events site) = of_site office site (of_sheet (events_answer office site))
answer office (Flags site pollutant year) = of_site office site (of_sheet (flags_answer office site pollutant year))
answer office Loads = of_sheet (loads_answer office)
answer office (Daily site pollutant year) = of_site office site (of_sheet (daily_answer office site pollutant year))
answer office (Highest site pollutant year) = of_site office site (of_sheet (highest_answer office site pollutant year))
answer office (Completeness site pollutant year) = of_site office site (of_sheet (completeness_answer office site pollutant year))
answer office (Reports year) = OfSheets (map (λ standard. report_answer standard office year) standards)
answer office Records = OfText (records_answer office)
answer office (Lines site pollutant year) = of_site office site (OfText (lines_answer office site pollutant year))

-- ---- as it is shown

-- the texts of sheets, one after the other
abbrev pub texts_of : List Sheet → List ℕ
texts_of sheets = flat_map text_of sheets

-- one sheet is one object, and several are an array of theirs
abbrev pub json_of_sheets : List Sheet → List ℕ
json_of_sheets (sheet ∷ []) = json_of sheet
json_of_sheets sheets = json_list (map json_of sheets)
