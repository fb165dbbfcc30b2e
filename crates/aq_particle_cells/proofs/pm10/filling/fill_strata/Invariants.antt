use Rattle.std.proofs.Common.{◌≡◌, ◌⊎◌, ℕ, true}
use Rattle.std.specs.Prelude.{Some}
use Rattle.std.specs.List.{list_any}
use Rattle.aq_base.specs.Site.{Site}
use Rattle.aq_base.specs.declared.monitor.Pollutant.TheVariants.{Pm10}
use Rattle.aq_rules.specs.Particles.Strata.{stratum_by}
use Rattle.aq_series.specs.OfficeView.{office_of}
use Rattle.aq_particle_cells.specs.Days.KeptDays.{cell_at, sample_at}
use Rattle.aq_particle_cells.specs.Days.Observed.{observes}
use Rattle.aq_particle_cells.specs.Pm10.Pm10Levels.{AreStrataSoFar, HasStratumOf}
use Rattle.aq_particle_cells.proofs.pm10.filling.fill_strata.Given as goal

-- an observation of a day is still to come, or the stratum that holds the day is the office's
abbrev pub invariant-loop-key : goal.invariant-loop-key
invariant-loop-key g l = record {
  so_far : AreStrataSoFar (office_of l.registry l.shelf) l.cells l.last;
  filled : (site : Site) (day first : ℕ) → list_any (observes Pm10 site day) l.shelf ≡ true → stratum_by l.registry site day ≡ Some first
      → (list_any (observes Pm10 site day) l.key-iterator ≡ true) ⊎ HasStratumOf (office_of l.registry l.shelf) l.cells site first;
  cells : (site : Site) (day : ℕ) → cell_at l.cells.days site day ≡ cell_at l.fn.cells.days site day;
  samples : (site : Site) (day : ℕ) → sample_at l.cells.days site day ≡ sample_at l.fn.cells.days site day;
}
