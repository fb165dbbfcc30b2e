-- The design value and verdict with assumed concurrences in place of those on record, and the events that decide a verdict alone (own).
use Rattle.std.specs.Prelude.{ℕ, Bool, not, ◌&&◌, if◌then◌else◌, Option, Some, None, List, [], ◌∷◌, map, find, filter_map, fold}
use Rattle.std.specs.List.{list_any}
use Rattle.aq_base.specs.Site.{Site}
use Rattle.aq_base.specs.declared.assumed.Assumed.{Assumed}
use Rattle.aq_base.specs.declared.assumed.DecisiveEvent.{DecisiveEvent}
use Rattle.aq_base.specs.declared.monitor.Pollutant.{Pollutant}
use Rattle.aq_base.specs.declared.office.OfficeRecord.{OfficeRecord}
use Rattle.aq_base.specs.declared.office.OfficeRecord.TheVariants.{Event, Concurrence}
use Rattle.aq_base.specs.declared.standard.Standard.{Standard}
use Rattle.aq_base.specs.declared.standard.Verdict.{Verdict}
use Rattle.aq_rules.specs.Standards.{pollutant_of}
use Rattle.aq_rules.specs.Office.Office.{Office, event_stands}
use Rattle.aq_rules.specs.Office.Monitors.{is_same_site, is_same_pollutant}
use Rattle.aq_rules.specs.Office.Exclusion.{agrees_to}
use Rattle.aq_rules.specs.Office.Load.{with_record}
use Rattle.aq_rules.specs.DesignValues.{DesignValue, design_value, verdict_in, is_same_verdict}

-- ---- an office as if

abbrev pub assume_one : Office → Assumed → Office
assume_one office entry = with_record (Concurrence entry.number entry.agreed) office

-- each entry's concurrence takes the place of the one that stands, or is added, one entry after the other: so the last entry of a number counts
abbrev pub assume : Office → List Assumed → Office
assume office list = fold assume_one office list

-- the design value as if
unfoldable pub what_if : Standard → Office → List Assumed → Site → ℕ → DesignValue
what_if standard office list site year = design_value standard (assume office list) site year

abbrev pub number_of : Assumed → ℕ
number_of entry = entry.number

-- the first number of the list that no event has
abbrev pub unknown_event : Office → List Assumed → Option ℕ
unknown_event office list = find (λ number. not (event_stands office number)) (map number_of list)

-- ---- decisive events

abbrev pub event_at : Site → Pollutant → OfficeRecord → Option ℕ
event_at site pollutant (Event number other other_pollutant first last code) =
    if is_same_site other site && is_same_pollutant other_pollutant pollutant then Some number else None
event_at site pollutant _ = None

-- the numbers of the events of a site and pollutant, which rise as the records do
abbrev pub events_at : Office → Site → Pollutant → List ℕ
events_at office site pollutant = filter_map (event_at site pollutant) office.records

-- whether a concurrence `Y` stands in the event of this number
abbrev pub is_agreed : Office → ℕ → Bool
is_agreed office number = list_any (agrees_to number) office.records

-- the event turned round: no concurrence or `N` becomes `Y`, and `Y` becomes `N`
abbrev pub turned_round : Office → ℕ → Assumed
turned_round office number = record { number = number; agreed = not (is_agreed office number) }

-- the verdict with this event alone turned round
abbrev pub verdict_turned : Standard → Office → Site → ℕ → ℕ → Verdict
verdict_turned standard office site year number =
    verdict_in (what_if standard office (turned_round office number ∷ []) site year)

abbrev pub decisive_if : Verdict → Verdict → ℕ → Option DecisiveEvent
decisive_if now then_ number = if is_same_verdict now then_ then None else Some (record { number = number; verdict = then_ })

-- the events of the site and the standard's pollutant whose turning round alone changes the verdict, with the verdict then
unfoldable pub decisive : Standard → Office → Site → ℕ → List DecisiveEvent
decisive standard office site year =
    filter_map
    (λ number. decisive_if (verdict_in (design_value standard office site year)) (verdict_turned standard office site year number) number)
    (events_at office site (pollutant_of standard))
