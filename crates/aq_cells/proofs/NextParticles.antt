-- The cell of particles that is next, and those that wait behind it.
use Rattle.std.proofs.Common.{◌≡◌, ℕ, Bool, true, false, ◌&&◌, not, List, [], ◌∷◌, refl, ap, sym, subst, ◌∙◌, arith}
use Rattle.std.specs.Prelude.{Option, Some, None}
use Rattle.std.proofs.lemmas.Bool.{false≢true}
use Rattle.aq_base.specs.Site.{Site}
use Rattle.aq_base.specs.declared.monitor.Pollutant.TheVariants.{Pm25, Pm10}
use Rattle.aq_dirty.specs.Marked.{first_or, named}
use Rattle.aq_dirty.specs.Particles.{day_cell, holds_particle, next_in, MarkedParticles}
use Rattle.aq_dirty.specs.Spans.{holds}
use Rattle.aq_dirty.specs.declared.cell_name.CellName.{CellName}
use Rattle.aq_dirty.specs.declared.cell_name.CellName.TheVariants.{Hour, Window, OzoneDay, OzoneYear, PmDay, Stratum, Quarter, PmYear}
use Rattle.aq_dirty.specs.declared.spans.Span.{Span}
use Rattle.aq_particle_cells.specs.Pm10.Pm10Cells.{Pm10Kept}
use Rattle.aq_particle_cells.specs.Pm10.Pm10Levels as pm10_cells
use Rattle.aq_particle_cells.specs.Pm10.Pm10Levels.{AreBelow, AreValuesOf, IsCellOf}
use Rattle.aq_particle_cells.specs.Pm25.Pm25Levels as pm25_cells
use Rattle.aq_particle_cells.specs.Days.KeptDays.{Days}
use Rattle.aq_rules.proofs.CellsOnce.{cell-same}
use Rattle.aq_rules.specs.Kept.Cells.{CellName as Cell, PmDayCell, StratumCell, is_same_cell}
use Rattle.aq_rules.specs.Office.Office.{Office}

-- the level of a cell: days, strata, and those above
abbrev level : Cell → ℕ
level (PmDayCell site pollutant day) = 0
level (StratumCell site first) = 1
level cell = 2

abbrev level_or : Option Cell → ℕ
level_or (Some cell) = level cell
level_or None = 2

-- if the next cell is of another level, none of this one waits
first-none : (f : Site → ℕ → Cell) (spans : List Span) (other : Option Cell) (cell : Cell) → Some cell ≡ first_or f spans other
    → ((site : Site) (number : ℕ) → level (f site number) ≡ level cell → ⊥) → (spans ≡ []) × (Some cell ≡ other)
first-none f [] other cell is apart = (refl, is)
first-none f (span ∷ spans) other cell is apart = absurd (apart span.site span.first (sym (ap level_or is)))

module _ (office : Office) (kept : Pm10Kept) (marked : MarkedParticles) (others : (cell : Cell) → holds_particle marked cell ≡ false → IsCellOf office kept cell) where
  values-are : marked.pm10_days ≡ [] → (site : Site) → AreValuesOf office kept site
  unfolding IsCellOf AreValuesOf
  values-are none site day = others (PmDayCell site Pm10 day) (ap (holds site day) none)

  -- the cells below the next one are the office's
  pub below-next : (cell : CellName) → Some (named cell) ≡ next_in marked → AreBelow office kept (named cell)
  unfolding AreBelow
  below-next (Hour site hour) is = tt
  below-next (Window site start) is = tt
  below-next (OzoneDay site day) is = tt
  below-next (OzoneYear site year) is = tt
  below-next (PmDay site pollutant day) is = tt
  below-next (Stratum site first) is =
      let later = (first-none (day_cell Pm25) marked.pm25_days _ (StratumCell site first) is (λ s n e. omega (arith, e))).1 in
      values-are (first-none (day_cell Pm10) marked.pm10_days _ (StratumCell site first) later (λ s n e. omega (arith, e))).0 site
  below-next (Quarter site pollutant quarter) is = tt
  below-next (PmYear site year) is = tt

-- without the next one, once it is the office's
others-next : (Of After : Cell → Type 0) (marked left : MarkedParticles) (cell : Cell)
    → ((other : Cell) → holds_particle marked other ≡ false → Of other)
    → ((other : Cell) → Of other → After other) → After cell
    → ((other : Cell) → holds_particle left other ≡ (holds_particle marked other && not (is_same_cell cell other)))
    → (other : Cell) → holds_particle left other ≡ false → After other
others-next Of After marked left cell others stay now drops other free = by (holds_particle marked other) (is_same_cell cell other) refl refl (sym (drops other) ∙ free)
  where
    by : (h s : Bool) → holds_particle marked other ≡ h → is_same_cell cell other ≡ s → (h && not s) ≡ false → After other
    by false s held same none = stay other (others other held)
    by true true held same none = subst After (cell-same cell other same) now
    by true false held same none = absurd (false≢true (sym none))

module _ (office : Office) (marked left : MarkedParticles) (cell : Cell)
    (drops : (other : Cell) → holds_particle left other ≡ (holds_particle marked other && not (is_same_cell cell other))) where
  pub pm25-next : (before after : Days) → ((other : Cell) → holds_particle marked other ≡ false → pm25_cells.IsCellOf office before other)
      → pm25_cells.CellsStay office before after → pm25_cells.IsCellOf office after cell → (other : Cell) → holds_particle left other ≡ false → pm25_cells.IsCellOf office after other
  unfolding pm25_cells.CellsStay
  pm25-next before after others stay now = others-next (pm25_cells.IsCellOf office before) (pm25_cells.IsCellOf office after) marked left cell others stay now drops

  pub pm10-next : (before after : Pm10Kept) → ((other : Cell) → holds_particle marked other ≡ false → pm10_cells.IsCellOf office before other)
      → pm10_cells.CellsStay office before after → pm10_cells.IsCellOf office after cell → (other : Cell) → holds_particle left other ≡ false → pm10_cells.IsCellOf office after other
  unfolding pm10_cells.CellsStay
  pm10-next before after others stay now = others-next (pm10_cells.IsCellOf office before) (pm10_cells.IsCellOf office after) marked left cell others stay now drops
