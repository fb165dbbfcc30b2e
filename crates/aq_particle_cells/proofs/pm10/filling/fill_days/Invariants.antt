use Rattle.std.proofs.Common.{◌≡◌, ◌⊎◌, ℕ, true}
use Rattle.std.specs.Prelude.{IfSome}
use Rattle.std.specs.List.{list_any}
use Rattle.aq_base.specs.Site.{Site}
use Rattle.aq_base.specs.declared.monitor.Pollutant.TheVariants.{Pm10}
use Rattle.aq_series.specs.OfficeView.{office_of}
use Rattle.aq_particle_cells.specs.Days.Observed.{observes}
use Rattle.aq_particle_cells.specs.Pm10.Pm10Levels.{AreFilling, HasValueOf}
use Rattle.aq_particle_cells.specs.Pm10.Strata.{stratum_at}
use Rattle.aq_particle_cells.specs.declared.days.observed.SiteDay.{SiteDay}
use Rattle.aq_particle_cells.proofs.pm10.filling.fill_days.Given as goal

-- an observation of a day is still to come, or the day has its value
abbrev pub invariant-loop-key : goal.invariant-loop-key
invariant-loop-key g l = record {
  each : AreFilling (office_of l.registry l.shelf) l.cells;
  last : IfSome l.last (λ (last : SiteDay). HasValueOf (office_of l.registry l.shelf) l.cells last.site last.day);
  filled : (site : Site) (day : ℕ) → list_any (observes Pm10 site day) l.shelf ≡ true → (list_any (observes Pm10 site day) l.key-iterator ≡ true) ⊎ HasValueOf (office_of l.registry l.shelf) l.cells site day;
  strata : (site : Site) (first : ℕ) → stratum_at l.cells.strata site first ≡ stratum_at l.fn.cells.strata site first;
}
