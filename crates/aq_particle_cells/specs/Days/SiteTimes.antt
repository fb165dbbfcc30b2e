-- A day, a quarter or a year of a site, as the key of a map.
use Rattle.std.specs.BTreeMap.{is_at}
use Rattle.std.specs.Map.{lookup}
use Rattle.std.specs.Ordering.{nat_cmp, ordering_then}
use Rattle.std.specs.declared.cmp.Ordering.{Ordering}
use Rattle.std.specs.Prelude.{ℕ, List, Option}
use Rattle.aq_base.specs.Site.{Site}
use Rattle.aq_particle_cells.specs.declared.days.site_time.SiteTime.{SiteTime}

abbrev pub site_time : Site → ℕ → SiteTime
site_time site time = record { state = site.state; county = site.county; number = site.number; time = time }

-- their order
abbrev pub time_cmp : SiteTime → SiteTime → Ordering
time_cmp a b =
    ordering_then (nat_cmp a.state b.state) (ordering_then (nat_cmp a.county b.county)
    (ordering_then (nat_cmp a.number b.number) (nat_cmp a.time b.time)))

-- what a map has for a day, a quarter or a year of a site
abbrev pub found_at : {D : Type 0} → List (SiteTime × D) → Site → ℕ → Option D
found_at entries site time = lookup (is_at (time_cmp (site_time site time))) entries
