-- The ozone value of a site for one hour (40 CFR Part 50, Appendix U, 2(b)): the primary monitor's, else the mean of the others'.
use Rattle.std.specs.Prelude.{ℕ, Bool, false, ◌&&◌, ◌==◌, if◌then◌else◌, List, [], ◌∷◌, length, map, filter_map, find, Option, Some, None, option_map, ℤ, pos}
use Rattle.std.specs.List.{list_any}
use Rattle.std.specs.Option.{option_map_or}
use Rattle.aq_base.specs.Calendar.{day_of_hour}
use Rattle.aq_base.specs.Decimal.{truncated}
use Rattle.aq_base.specs.Site.{Site}
use Rattle.aq_base.specs.declared.monitor.Pollutant.TheVariants.{Ozone}
use Rattle.aq_base.specs.declared.observation.ObsKey.{ObsKey}
use Rattle.aq_base.specs.declared.observation.Observation.{Observation}
use Rattle.aq_rules.specs.Office.Office.{Office}
use Rattle.aq_rules.specs.Lists.{total}
use Rattle.aq_rules.specs.Office.Monitors.{is_same_site, is_same_pollutant, is_eligible}
use Rattle.aq_rules.specs.Office.Exclusion.{excluded}
use Rattle.aq_rules.specs.Office.Designation.{primary_on}

-- a value, in thousandths of a ppm for ozone and in tenths of a µg/m3 for particles, and whether it is excluded
pub record Cell : Type 0 where
  pub value : ℤ
  pub excluded : Bool

-- one monitor's cell, by its POC
pub record Sample : Type 0 where
  pub poc : ℕ
  pub cell : Cell

-- whether the key is one of ozone at the site and hour
abbrev pub is_ozone_at : Site → ℕ → ObsKey → Bool
is_ozone_at site hour key =
    is_same_pollutant key.monitor.pollutant Ozone && is_same_site key.monitor.site site && (key.hour == hour)

-- the sample that an observation gives: nothing without a value
abbrev pub sample_of : Office → Site → ℕ → (ObsKey × Observation) → Option Sample
sample_of office site hour entry =
    if is_ozone_at site hour entry.0 && is_eligible office.records entry.0.monitor
    then option_map (λ value. record { poc = entry.0.monitor.poc; cell = record { value = value; excluded = excluded office.records entry.0 entry.1.quals } }) entry.1.value
    else None

-- what the eligible monitors of the site have for the hour
abbrev pub samples_at : Office → Site → ℕ → List Sample
samples_at office site hour = filter_map (sample_of office site hour) office.observations

-- the mean of the samples, truncated, and excluded if one of them is
abbrev pub mean_of : List Sample → Option Cell
mean_of [] = None
mean_of (first ∷ others) =
    Some (record {
      value = truncated (total (map (λ (s : Sample). s.cell.value) (first ∷ others))) (pos (length (first ∷ others)));
      excluded = list_any (λ (s : Sample). s.cell.excluded) (first ∷ others);
    })

abbrev pub is_of_poc : Option ℕ → Sample → Bool
is_of_poc poc sample = option_map_or (λ primary. sample.poc == primary) poc false

-- the primary's sample if it has one, else the mean of what the others have
abbrev pub chosen : Option Sample → List Sample → Option Cell
chosen (Some primary) others = Some primary.cell
chosen None others = mean_of others

-- without a designation, all eligible monitors count as secondary (own)
unfoldable pub site_hour : Office → Site → ℕ → Option Cell
site_hour office site hour =
    chosen (find (is_of_poc (primary_on office.records site Ozone (day_of_hour hour))) (samples_at office site hour)) (samples_at office site hour)
