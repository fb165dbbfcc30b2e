-- The exceptional events of a site (40 CFR 50.14), what the Administrator said of each, and how many observations it flags (own).
use Rattle.std.specs.Prelude.{ℕ, Bool, ◌&&◌, ◌==◌, if◌then◌else◌, List, [], ◌∷◌, ◌++◌, map, filter_map, count_by, codes, Option, Some, None}
use Rattle.aq_base.specs.Calendar.{day_of_hour, hour_of_day}
use Rattle.aq_base.specs.Site.{Site}
use Rattle.aq_base.specs.declared.code.Code.{Code}
use Rattle.aq_base.specs.declared.monitor.Pollutant.{Pollutant}
use Rattle.aq_base.specs.declared.observation.ObsKey.{ObsKey}
use Rattle.aq_base.specs.declared.observation.Observation.{Observation}
use Rattle.aq_base.specs.declared.office.OfficeRecord.{OfficeRecord}
use Rattle.aq_base.specs.declared.office.OfficeRecord.TheVariants.{Event, Concurrence}
use Rattle.aq_rules.specs.Lines.Canonical.{parameter_text, code_text}
use Rattle.aq_rules.specs.Office.Office.{Office}
use Rattle.aq_rules.specs.Office.Monitors.{is_same_site}
use Rattle.aq_rules.specs.Office.Exclusion.{is_within}
use Rattle.aq_rules.specs.Office.Questions.{first_given}
use Rattle.aq_rules.specs.Listed.Places.{carries}
use Rattle.aq_rules.specs.Shown.Sheet.{SheetCell, Sheet, head_of, count_cell, site_text, day_text, hour_text, truth_text}
use Rattle.aq_rules.specs.Shown.Sheet.SheetCell.{Text, Missing}

-- an event as it stands, from its first hour to its last
pub record StandingEvent : Type 0 where
  pub number : ℕ
  pub site : Site
  pub pollutant : Pollutant
  pub first : ℕ
  pub last : ℕ
  pub code : Code

abbrev pub event_by : Site → OfficeRecord → Option StandingEvent
event_by site (Event number other pollutant first last code) =
    if is_same_site other site
    then Some (record { number = number; site = other; pollutant = pollutant; first = first; last = last; code = code })
    else None
event_by site _ = None

-- by number
unfoldable pub events_of : Office → Site → List StandingEvent
events_of office site = filter_map (event_by site) office.records

abbrev pub agreement_by : ℕ → OfficeRecord → Option Bool
agreement_by number (Concurrence other agreed) = if other == number then Some agreed else None
agreement_by number _ = None

-- what the Administrator said of the event, if anything
unfoldable pub agreement_of : Office → ℕ → Option Bool
agreement_of office number = first_given (agreement_by number) office.records

-- whether an observation of the event's site and pollutant lies in its span and carries its code
abbrev pub is_flagged_by : StandingEvent → (ObsKey × Observation) → Bool
is_flagged_by event row = is_within event.site event.pollutant event.first event.last row.0 && carries event.code row

-- an event, what was said of it, and the number of standing observations that it flags
pub record ListedEvent : Type 0 where
  pub event : StandingEvent
  pub agreed : Option Bool
  pub flagged : ℕ

abbrev pub listed_event : Office → StandingEvent → ListedEvent
listed_event office event = record {
  event = event;
  agreed = agreement_of office event.number;
  flagged = count_by (is_flagged_by event) office.observations;
}

unfoldable pub listed_events : Office → Site → List ListedEvent
listed_events office site = map (listed_event office) (events_of office site)

-- YYYY-MM-DDTHH:00
abbrev pub moment_text : ℕ → List ℕ
moment_text hour = day_text (day_of_hour hour) ++ codes "T" ++ hour_text (hour_of_day hour)

abbrev pub truth_cell : Option Bool → SheetCell
truth_cell None = Missing
truth_cell (Some truth) = Text (truth_text truth)

abbrev pub event_cells : ListedEvent → List SheetCell
event_cells row =
    count_cell row.event.number ∷ Text (parameter_text row.event.pollutant) ∷ Text (moment_text row.event.first)
    ∷ Text (moment_text row.event.last) ∷ Text (code_text row.event.code) ∷ truth_cell row.agreed ∷ count_cell row.flagged ∷ []

unfoldable pub events_sheet : Site → List ListedEvent → Sheet
events_sheet site rows = record {
  heads = head_of (codes "site") (Text (site_text site)) ∷ [];
  columns = codes "event" ∷ codes "parameter" ∷ codes "first" ∷ codes "last" ∷ codes "code" ∷ codes "agreed" ∷ codes "flagged" ∷ [];
  rows = map event_cells rows;
}

unfoldable pub events_answer : Office → Site → Sheet
events_answer office site = events_sheet site (listed_events office site)
