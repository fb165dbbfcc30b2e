-- The observations of a site, pollutant and year that ask to be left out (a code from RA to RZ), and for how many of them an event stands (own).
use Rattle.std.specs.Prelude.{ℕ, Bool, false, ◌&&◌, nat_lt, List, [], ◌∷◌, length, map, filter, flat_map, count_by, codes}
use Rattle.std.specs.List.{list_any, range_with_len}
use Rattle.aq_base.specs.Quals.{is_same_code}
use Rattle.aq_base.specs.Site.{Site}
use Rattle.aq_base.specs.declared.code.Code.{Code}
use Rattle.aq_base.specs.declared.monitor.Pollutant.{Pollutant}
use Rattle.aq_base.specs.declared.observation.ObsKey.{ObsKey}
use Rattle.aq_base.specs.declared.observation.Observation.{Observation}
use Rattle.aq_base.specs.declared.office.OfficeRecord.{OfficeRecord}
use Rattle.aq_base.specs.declared.office.OfficeRecord.TheVariants.{Event}
use Rattle.aq_rules.specs.Lines.Canonical.{parameter_text, code_text}
use Rattle.aq_rules.specs.Office.Office.{Office}
use Rattle.aq_rules.specs.Office.Exclusion.{agrees_to, is_within}
use Rattle.aq_rules.specs.Ozone.OzoneYear.{days_of}
use Rattle.aq_rules.specs.Listed.Places.{standing_of, is_on_day, carries}
use Rattle.aq_rules.specs.Shown.Sheet.{SheetCell, Sheet, head_of, count_cell, site_text, day_text}
use Rattle.aq_rules.specs.Shown.Sheet.SheetCell.{Text}

-- RA to RZ (82 is R, and 65 to 90 are A to Z)
abbrev pub FLAG_CODES : List Code
FLAG_CODES = map (λ second. record { first = 82; second = second }) (range_with_len 65 26)

-- whether the record is an event of this code whose site and pollutant the key has and whose span holds its hour
abbrev pub covers_with : Code → ObsKey → OfficeRecord → Bool
covers_with code key (Event number site pollutant first last other) =
    is_same_code other code && is_within site pollutant first last key
covers_with code key _ = false

-- and in which the Administrator concurred
abbrev pub excludes_with : List OfficeRecord → Code → ObsKey → OfficeRecord → Bool
excludes_with records code key (Event number site pollutant first last other) =
    covers_with code key (Event number site pollutant first last other) && list_any (agrees_to number) records
excludes_with records code key _ = false

-- a day and a code, how many observations carry it then, for how many of them an event of the code stands, and for how many one with a concurrence
pub record ListedFlag : Type 0 where
  pub day : ℕ
  pub code : Code
  pub flagged : ℕ
  pub covered : ℕ
  pub excluded : ℕ

-- of the observations that carry a code on a day
abbrev pub listed_among : List OfficeRecord → ℕ → Code → List (ObsKey × Observation) → ListedFlag
listed_among records day code rows = record {
  day = day;
  code = code;
  flagged = length rows;
  covered = count_by (λ (row : ObsKey × Observation). list_any (covers_with code row.0) records) rows;
  excluded = count_by (λ (row : ObsKey × Observation). list_any (excludes_with records code row.0) records) rows;
}

-- the observations of the site and pollutant that carry the code on the day
abbrev pub carrying : Office → Site → Pollutant → ℕ → Code → List (ObsKey × Observation)
carrying office site pollutant day code =
    filter (λ row. is_on_day day row && carries code row) (standing_of office site pollutant)

abbrev pub listed_flag : Office → Site → Pollutant → ℕ → Code → ListedFlag
listed_flag office site pollutant day code = listed_among office.records day code (carrying office site pollutant day code)

abbrev pub flags_on : Office → Site → Pollutant → ℕ → List ListedFlag
flags_on office site pollutant day = map (listed_flag office site pollutant day) FLAG_CODES

-- the days of the year and the codes that an observation carries, by day and then by code
unfoldable pub listed_flags : Office → Site → Pollutant → ℕ → List ListedFlag
listed_flags office site pollutant year =
    filter (λ (row : ListedFlag). nat_lt 0 row.flagged) (flat_map (flags_on office site pollutant) (days_of year))

abbrev pub flag_cells : ListedFlag → List SheetCell
flag_cells row =
    Text (day_text row.day) ∷ Text (code_text row.code) ∷ count_cell row.flagged ∷ count_cell row.covered ∷ count_cell row.excluded ∷ []

unfoldable pub flags_sheet : Site → Pollutant → ℕ → List ListedFlag → Sheet
flags_sheet site pollutant year rows = record {
  heads =
      head_of (codes "site") (Text (site_text site))
      ∷ head_of (codes "parameter") (Text (parameter_text pollutant))
      ∷ head_of (codes "year") (count_cell year)
      ∷ [];
  columns = codes "day" ∷ codes "code" ∷ codes "flagged" ∷ codes "covered" ∷ codes "excluded" ∷ [];
  rows = map flag_cells rows;
}

unfoldable pub flags_answer : Office → Site → Pollutant → ℕ → Sheet
flags_answer office site pollutant year = flags_sheet site pollutant year (listed_flags office site pollutant year)
