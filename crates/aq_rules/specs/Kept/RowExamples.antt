-- Rows as a keeper may hand them out, on which the laws of rows work their examples out.
use Rattle.std.specs.Prelude.{ℕ, ℤ, pos, true, Option, Some, None, List, [], ◌∷◌, ◌++◌, replicate, codes}
use Rattle.aq_base.specs.declared.monitor.Duration.TheVariants.{Day}
use Rattle.aq_base.specs.declared.office.OfficeRecord.TheVariants.{Monitor}
use Rattle.aq_base.specs.declared.reply.ListedLine.{ListedLine}
use Rattle.aq_base.specs.declared.reply.RestRule.{RestRule}
use Rattle.aq_rules.specs.Lines.LineExamples.{many_monitors, particle_monitor}
use Rattle.aq_rules.specs.Office.Office.{Office, StoredLoad}
use Rattle.aq_rules.specs.Kept.Rows.{Row, ObsRow, OfOfficeRow, OfLoadRow, OfSecondRow}

-- the row of load 7 with these lines and accepted ones, listed lines, and rest
abbrev pub load_with : ℤ → ℤ → List ℕ → List ℕ → Row
load_with lines accepted listed rest =
    OfLoadRow (record { number = pos 7; digest = replicate 32 9; lines = lines; accepted = accepted; listed = listed; rest = rest })

-- a load without lines, with this number and digest
abbrev pub load_of : ℤ → List ℕ → Row
load_of number digest = OfLoadRow (record { number = number; digest = digest; lines = pos 0; accepted = pos 0; listed = []; rest = [] })

-- a load with these lines, accepted and refused ones, listed lines and rest
abbrev pub kept_load : ℕ → ℕ → ℕ → List ListedLine → List RestRule → StoredLoad
kept_load lines accepted refused listed rest = record {
  number = 7;
  digest = replicate 32 9;
  reply = record { number = 7; lines = lines; accepted = accepted; refused = refused; listed = listed; rest = rest };
}

-- a monitor's row with this kind, key and line
abbrev pub record_with : ℤ → List ℕ → List ℕ → Row
record_with kind key line = OfOfficeRow (record { kind = kind; key = key; line = line })

-- the row of a PM2.5 monitor of 24 hours
abbrev pub monitor_row : Row
monitor_row = record_with (pos 1) (codes "06|037|1103|88101|01") (codes "XM|I|06|037|1103|88101|1|7|Y")

-- the row of one at the site beside it
abbrev pub neighbor_row : Row
neighbor_row = record_with (pos 1) (codes "06|037|1104|88101|01") (codes "XM|I|06|037|1104|88101|1|7|Y")

-- the row that combines two sites, of these numbers, for PM2.5 from 2 July 2024
abbrev pub combination_row : List ℕ → List ℕ → Row
combination_row site joined =
    record_with (pos 9) (codes "06|037|" ++ site ++ codes "|88101") (codes "XB|I|06|037|" ++ site ++ codes "|88101|20240702|06|037|" ++ joined)

-- the row of its sample of 7 January 2024 with this value, null code and qualifiers
abbrev pub sample_with : Option ℤ → List ℕ → List ℕ → Row
sample_with value null quals =
    OfSecondRow (record { site = pos 60371103; pollutant = pos 2; poc = pos 1; hour = pos 210528; value = value; method = None; null = null; quals = quals })

-- the row of its sample of that day with this method
abbrev pub sample_by : Option ℤ → Row
sample_by method =
    OfSecondRow (record { site = pos 60371103; pollutant = pos 2; poc = pos 1; hour = pos 210528; value = Some (pos 120); method = method; null = []; quals = [] })

-- the row of an ozone monitor, and of its hour with this stored number
abbrev pub ozone_row : Row
ozone_row = record_with (pos 1) (codes "06|037|1103|44201|01") (codes "XM|I|06|037|1103|44201|1|1|Y")

abbrev pub ozone_at : ℤ → Row
ozone_at stored =
    OfSecondRow (record { site = pos 60371103; pollutant = pos 1; poc = pos 1; hour = stored; value = Some (pos 71); method = None; null = []; quals = [] })

-- the sample of 7 January 2024 as version 1 kept it
abbrev pub old_day : ObsRow
old_day = record { site = pos 60371103; pollutant = pos 2; poc = pos 1; hour = pos 210528; value = Some (pos 120); null = []; quals = [] }

-- the ozone hour 10:00 of 1 July 2024 as version 1 kept it
abbrev pub old_hour : ObsRow
old_hour = record { site = pos 60371103; pollutant = pos 1; poc = pos 1; hour = pos 214762; value = Some (pos 71); null = []; quals = [] }

-- the hour after it
abbrev pub next_old_hour : ObsRow
next_old_hour = record old_hour { hour = pos 214763; value = Some (pos 73) }

-- eight ozone monitors of a site, and one of PM2.5
abbrev pub nine_monitors : Office
nine_monitors = record (many_monitors 8) { records = (many_monitors 8).records ++ Monitor particle_monitor Day true ∷ [] }
