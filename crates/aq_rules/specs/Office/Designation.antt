-- The primary monitor of a site and pollutant on a day (40 CFR Part 50, Appendix U, 2(b), and Appendix N, 3.0). That designations go by start dates is (own).
use Rattle.std.specs.Prelude.{ℕ, ◌&&◌, ◌==◌, nat_le, if◌then◌else◌, List, filter_map, Option, Some, None, option_and_then}
use Rattle.aq_base.specs.Site.{Site}
use Rattle.aq_base.specs.declared.monitor.Pollutant.{Pollutant}
use Rattle.aq_base.specs.declared.office.OfficeRecord.{OfficeRecord}
use Rattle.aq_base.specs.declared.office.OfficeRecord.TheVariants.{Primary}
use Rattle.aq_rules.specs.Lists.{latest}
use Rattle.aq_rules.specs.Office.Monitors.{is_same_site, is_same_pollutant}

-- from a day on this POC is the primary; POC 0 means that none is
pub record Designation : Type 0 where
  pub from : ℕ
  pub poc : ℕ

-- the designation of the site and pollutant that the record makes, if it begins by the day
abbrev pub designation_by : Site → Pollutant → ℕ → OfficeRecord → Option Designation
designation_by site pollutant day (Primary other_site other_pollutant from poc) =
    if is_same_site other_site site && is_same_pollutant other_pollutant pollutant && nat_le from day
    then Some (record { from = from; poc = poc })
    else None
designation_by site pollutant day _ = None

abbrev pub designated_poc : Designation → Option ℕ
designated_poc designation = if designation.poc == 0 then None else Some designation.poc

-- the POC of the designation with the greatest start date not after the day, or none
unfoldable pub primary_on : List OfficeRecord → Site → Pollutant → ℕ → Option ℕ
primary_on records site pollutant day =
    option_and_then designated_poc (latest (λ (d : Designation). d.from) (filter_map (designation_by site pollutant day) records))
