-- The observations of a site, pollutant and year as CSV (RFC 4180 with LF; the columns are (own)).
use Rattle.std.specs.Prelude.{ℕ, Bool, not, ◌&&◌, ◌||◌, ◌==◌, List, [], ◌∷◌, ◌++◌, map, filter, flat_map, codes, decimal, Option, Some, None}
use Rattle.std.specs.List.{join_with_byte, list_all}
use Rattle.aq_base.specs.Calendar.{year_of, day_of_hour, hour_of_day}
use Rattle.aq_base.specs.Decimal.{last_digits}
use Rattle.aq_base.specs.Site.{Site}
pub use Rattle.aq_base.specs.declared.shown.Shown.{Shown}
use Rattle.aq_base.specs.declared.code.Code.{Code}
use Rattle.aq_base.specs.declared.monitor.Pollutant.{Pollutant}
use Rattle.aq_base.specs.declared.observation.ObsKey.{ObsKey}
use Rattle.aq_base.specs.declared.observation.Observation.{Observation}
use Rattle.aq_rules.specs.Office.Office.{Office}
use Rattle.aq_rules.specs.Office.Monitors.{is_same_site, is_same_pollutant}
use Rattle.aq_rules.specs.Office.Exclusion.{excluded}
use Rattle.aq_rules.specs.Shown.Sheet.{site_text, day_text, truth_text}
use Rattle.aq_rules.specs.Lines.Canonical.{parameter_text, value_text, code_text}

-- a field needs no quotes without a comma (44), a quote (34) and the end of a line (10, 13). None of an export does
abbrev pub is_unquoted_byte : ℕ → Bool
is_unquoted_byte byte = not ((byte == 44) || (byte == 34) || (byte == 10) || (byte == 13))

abbrev pub needs_no_quotes : List ℕ → Bool
needs_no_quotes field = list_all is_unquoted_byte field

abbrev pub csv_record : List (List ℕ) → List ℕ
csv_record fields = join_with_byte 44 fields ++ codes "\n"

abbrev pub null_text : Option Code → List ℕ
null_text None = []
null_text (Some null) = code_text null

-- qualifiers joined by single spaces
abbrev pub codes_text : List Code → List ℕ
codes_text qualifiers = join_with_byte 32 (map code_text qualifiers)

abbrev pub shown_fields : Shown → List (List ℕ)
shown_fields s =
    site_text s.key.monitor.site ∷ parameter_text s.key.monitor.pollutant ∷ decimal s.key.monitor.poc
    ∷ day_text (day_of_hour s.key.hour) ∷ last_digits 2 (hour_of_day s.key.hour)
    ∷ value_text s.key.monitor.pollutant s.content.value ∷ null_text s.content.null ∷ codes_text s.content.quals
    ∷ truth_text s.excluded ∷ []

abbrev pub export_header : List ℕ
export_header = codes "site,parameter,poc,date,hour,value,null,qualifiers,excluded\n"

unfoldable pub export_of : List Shown → List ℕ
export_of rows = export_header ++ flat_map (λ s. csv_record (shown_fields s)) rows

abbrev pub is_of_year : Site → Pollutant → ℕ → (ObsKey × Observation) → Bool
is_of_year site pollutant year entry =
    is_same_site entry.0.monitor.site site && is_same_pollutant entry.0.monitor.pollutant pollutant
    && (year_of (day_of_hour entry.0.hour) == year)

-- in order of POC and hour, which is the order in which observations stand
unfoldable pub shown_of : Office → Site → Pollutant → ℕ → List Shown
shown_of office site pollutant year =
    map (λ entry. record { key = entry.0; content = entry.1; excluded = excluded office.records entry.0 entry.1.quals })
    (filter (is_of_year site pollutant year) office.observations)

unfoldable pub export_answer : Office → Site → Pollutant → ℕ → List ℕ
export_answer office site pollutant year = export_of (shown_of office site pollutant year)
