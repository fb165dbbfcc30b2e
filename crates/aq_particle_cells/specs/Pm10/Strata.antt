-- The strata of PM10 that are kept of sites: how many of their samples exceed, and how many they have.
use Rattle.std.specs.Prelude.{ℕ, ◌==◌, Bool, false, List, [], ◌∷◌, filter, filter_map, Option, Some, None, ℤ}
use Rattle.std.specs.Option.{option_map_or}
use Rattle.aq_base.specs.Calendar.{quarter_of}
use Rattle.aq_base.specs.Site.{Site}
use Rattle.aq_base.specs.declared.office.OfficeRecord.{OfficeRecord}
use Rattle.aq_agg.specs.StratumSums.{stratum_with}
use Rattle.aq_rules.specs.Particles.QuarterCounts.{days_of_quarter}
use Rattle.aq_rules.specs.Particles.Strata.{stratum_by}
use Rattle.aq_particle_cells.specs.Days.SiteTimes.{found_at}
use Rattle.aq_particle_cells.specs.declared.days.site_time.SiteTime.{SiteTime}

-- what is kept of the strata of sites, by their first days
abbrev pub Strata : Type 0
Strata = List (SiteTime × (ℕ × ℕ))

unfoldable pub stratum_at : Strata → Site → ℕ → Option (ℕ × ℕ)
stratum_at strata site first = found_at strata site first

-- whether a day lies in the stratum that starts on the first one
abbrev pub is_in_stratum : List OfficeRecord → Site → ℕ → ℕ → Bool
is_in_stratum records site first day = option_map_or (λ start. start == first) (stratum_by records site day) false

-- its days, none if no stratum starts there
abbrev pub days_of_stratum : List OfficeRecord → Site → ℕ → List ℕ
days_of_stratum records site first = filter (is_in_stratum records site first) (days_of_quarter (quarter_of first))

-- what is kept of a stratum with these samples, nothing if it has none
abbrev pub stratum_of_samples : List ℤ → Option (ℕ × ℕ)
stratum_of_samples [] = None
stratum_of_samples (value ∷ values) = Some (stratum_with (value ∷ values))

-- what is kept of the stratum that starts on a day, by the values of days that are not excluded
abbrev pub stratum_by_net : List OfficeRecord → Site → (ℕ → Option ℤ) → ℕ → Option (ℕ × ℕ)
stratum_by_net records site net first = stratum_of_samples (filter_map net (days_of_stratum records site first))
