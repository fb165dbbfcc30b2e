-- The cells that two sets hold, those of ozone and those of particles, each counted once: if they hold just what is in reach, their steps are those of the cells in reach.
use Rattle.std.proofs.Common.{◌≡◌, ℕ, ◌+◌, ◌*◌, Bool, true, false, cond, ◌||◌, List, [], ◌∷◌, ◌++◌, length, refl, ap, sym, ◌∙◌, arith}
use Rattle.std.specs.Prelude.{flat_map, sum_by}
use Rattle.std.proofs.Math.Bool.{or-true}
use Rattle.std.proofs.lemmas.Bool.{false≢true}
use Rattle.std.proofs.lemmas.List.Folds.{list_any-append}
use Rattle.std.proofs.lemmas.List.Sums.{sum_by-cons}
use Rattle.aq_dirty.proofs.Members.{held_cells}
use Rattle.aq_dirty.proofs.ParticleMembers.{held_particles}
use Rattle.aq_dirty.specs.Marked.{cells_of, holds_cell, Marked}
use Rattle.aq_dirty.specs.Particles.{holds_particle, particle_cells_of, MarkedParticles}
use Rattle.aq_ozone_cells.specs.Bound.{steps_for}
use Rattle.aq_rules.proofs.CellsOnce.{cell-itself, member, member-once, weight, weight-same}
use Rattle.aq_rules.specs.Kept.Cells.{CellName, HourCell, WindowCell, OzoneDayCell, OzoneYearCell, PmDayCell, StratumCell, QuarterCell, PmYearCell, is_same_cell}
use Rattle.aq_rules.specs.Kept.Reach.{cells_reading, changed_rows, cost, cost_of, each_once, reach}
use Rattle.aq_rules.specs.Office.Office.{Office}
use Rattle.aq_cells.specs.Allowed.{allowed, steps_for_both, HoldReach}
use Rattle.aq_cells.specs.Bound as particle_bound

-- ---- lists that have no cell in common

or-off : (a b : Bool) → b ≡ false → (a || b) ≡ a
or-off true b off = refl
or-off false b off = off

module _ (f : CellName → ℕ) where
  one-more : (cell : CellName) (cells : List CellName) → weight f (cell ∷ cells) ≡ cond (member cell cells) (weight f cells) (f cell + weight f cells)
  unfolding each_once
  one-more cell cells = ap (λ b. sum_by f (cond b (each_once cells) (cell ∷ each_once cells))) (member-once cell cells) ∙ by (member cell cells)
    where
      by : (b : Bool) → sum_by f (cond b (each_once cells) (cell ∷ each_once cells)) ≡ cond b (weight f cells) (f cell + weight f cells)
      by true = refl
      by false = sum_by-cons f cell (each_once cells)

  joined : (xs ys : List CellName) → ((cell : CellName) → member cell xs ≡ true → member cell ys ≡ false) → weight f (xs ++ ys) ≡ weight f xs + weight f ys
  unfolding each_once
  joined [] ys apart = omega arith
  joined (x ∷ xs) ys apart =
      let off : member x ys ≡ false = apart x (rw (cell-itself x) refl) in
      let there : member x (xs ++ ys) ≡ member x xs = list_any-append (is_same_cell x) xs ys ∙ or-off (member x xs) (member x ys) off in
      let rest = joined xs ys (λ cell has. apart cell (rw has (or-true (is_same_cell cell x)))) in
      one-more x (xs ++ ys) ∙ ap (λ b. cond b (weight f (xs ++ ys)) (f x + weight f (xs ++ ys))) there ∙ by (member x xs) rest
      ∙ ap (λ n. n + weight f ys) (sym (one-more x xs))
    where
      by : (b : Bool) → weight f (xs ++ ys) ≡ weight f xs + weight f ys
          → cond b (weight f (xs ++ ys)) (f x + weight f (xs ++ ys)) ≡ cond b (weight f xs) (f x + weight f xs) + weight f ys
      by true rest = rest
      by false rest = omega (arith, rest)

-- ---- no cell is of both sets

apart-held : (marked : Marked) (particles : MarkedParticles) (cell : CellName) → holds_cell marked cell ≡ true → holds_particle particles cell ≡ false
apart-held marked particles (HourCell site hour) held = refl
apart-held marked particles (WindowCell site start) held = refl
apart-held marked particles (OzoneDayCell site day) held = refl
apart-held marked particles (OzoneYearCell site year) held = refl
apart-held marked particles (PmDayCell site pollutant day) held = absurd (false≢true held)
apart-held marked particles (StratumCell site first) held = absurd (false≢true held)
apart-held marked particles (QuarterCell site pollutant quarter) held = absurd (false≢true held)
apart-held marked particles (PmYearCell site year) held = absurd (false≢true held)

-- ---- what they cost

module _ (old new : Office) (marked : Marked) (particles : MarkedParticles) (held : HoldReach old new marked particles) where
  abbrev steps : CellName → ℕ
  steps = allowed old new

  abbrev reading : List CellName
  reading = flat_map (cells_reading old.records) (changed_rows old new) ++ flat_map (cells_reading new.records) (changed_rows old new)

  members : (cell : CellName) → member cell (cells_of marked ++ particle_cells_of particles) ≡ member cell reading
  unfolding reach
  members cell =
      list_any-append (is_same_cell cell) (cells_of marked) (particle_cells_of particles)
      ∙ (λ i. held_cells marked cell i || held_particles particles cell i) ∙ held cell ∙ member-once cell reading

  pub held-cost : 16 * length (changed_rows old new) + steps_for_both steps marked particles ≡ cost old new
  unfolding cost cost_of steps_for particle_bound.steps_for
  held-cost =
      let apart = joined steps (cells_of marked) (particle_cells_of particles)
      (λ cell has. held_particles particles cell ∙ apart-held marked particles cell (sym (held_cells marked cell) ∙ has)) in
      let same = weight-same steps (cells_of marked ++ particle_cells_of particles) reading members in
      omega (arith, apart, same)
