-- Data left out for an exceptional event in which the Administrator concurred, as 40 CFR 50.14 has it. The whole rule, by codes, spans and records, is (own).
use Rattle.std.specs.Prelude.{ℕ, Bool, false, ◌&&◌, ◌==◌, nat_le, List}
use Rattle.std.specs.List.{list_any}
use Rattle.aq_base.specs.Quals.{has_code}
use Rattle.aq_base.specs.Site.{Site}
use Rattle.aq_base.specs.declared.code.Code.{Code}
use Rattle.aq_base.specs.declared.monitor.Pollutant.{Pollutant}
use Rattle.aq_base.specs.declared.observation.ObsKey.{ObsKey}
use Rattle.aq_base.specs.declared.office.OfficeRecord.{OfficeRecord}
use Rattle.aq_base.specs.declared.office.OfficeRecord.TheVariants.{Event, Concurrence}
use Rattle.aq_rules.specs.Office.Monitors.{is_same_site, is_same_pollutant}

-- a code from RA to RZ, by which an agency asks for an exclusion (82 is R, 65 A and 90 Z)
abbrev pub asks_exclusion : Code → Bool
asks_exclusion code = (code.first == 82) && nat_le 65 code.second && nat_le code.second 90

-- whether the record is a concurrence `Y` in the event of this number
abbrev pub agrees_to : ℕ → OfficeRecord → Bool
agrees_to number (Concurrence other agreed) = (other == number) && agreed
agrees_to number _ = false

-- whether the code is one that asks for an exclusion, and one of an observation's codes
abbrev pub is_flagged : Code → List Code → Bool
is_flagged code codes = asks_exclusion code && has_code code codes

-- whether an observation's key is of this site and pollutant, and in the hours from first to last
abbrev pub is_within : Site → Pollutant → ℕ → ℕ → ObsKey → Bool
is_within site pollutant first last key =
    is_same_site key.monitor.site site && is_same_pollutant key.monitor.pollutant pollutant
    && nat_le first key.hour && nat_le key.hour last

-- whether the record is an event that takes out the observation with this key and these codes
abbrev pub takes_out : List OfficeRecord → ObsKey → List Code → OfficeRecord → Bool
takes_out records key codes (Event number site pollutant first last code) =
    is_flagged code codes && is_within site pollutant first last key && list_any (agrees_to number) records
takes_out records key codes _ = false

-- whether the observation with this key and these codes is excluded (own)
unfoldable pub excluded : List OfficeRecord → ObsKey → List Code → Bool
excluded records key codes = list_any (takes_out records key codes) records
