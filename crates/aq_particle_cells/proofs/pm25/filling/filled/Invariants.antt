use Rattle.std.proofs.Common.{◌≡◌, ◌⊎◌, ℕ, true}
use Rattle.std.specs.Prelude.{IfSome}
use Rattle.std.specs.List.{list_any}
use Rattle.aq_base.specs.Site.{Site}
use Rattle.aq_base.specs.declared.monitor.Pollutant.TheVariants.{Pm25}
use Rattle.aq_series.specs.OfficeView.{office_of}
use Rattle.aq_particle_cells.specs.Days.Observed.{observes}
use Rattle.aq_particle_cells.specs.Pm25.Pm25Levels.{AreFilling, HasValueOf}
use Rattle.aq_particle_cells.specs.declared.days.observed.SiteDay.{SiteDay}
use Rattle.aq_particle_cells.proofs.pm25.filling.filled.Given as goal

-- an observation of a day is still to come, or the day has its value
abbrev pub invariant-loop-key : goal.invariant-loop-key
invariant-loop-key g l = record {
  each : AreFilling (office_of l.registry l.shelf) l.cells;
  last : IfSome l.last (λ (last : SiteDay). HasValueOf (office_of l.registry l.shelf) l.cells last.site last.day);
  filled : (site : Site) (day : ℕ) → list_any (observes Pm25 site day) l.shelf ≡ true → (list_any (observes Pm25 site day) l.key-iterator ≡ true) ⊎ HasValueOf (office_of l.registry l.shelf) l.cells site day;
}
