use Rattle.std.proofs.Common.{◌≡◌, ◌∙◌, ◌||◌, Bool, ap, sym, subst, OnOk}
use Rattle.aq_rules.specs.Kept.Cells.{CellName as Cell}
use Rattle.aq_dirty.specs.declared.particle_reach.ParticleReach.{ParticleReach}
use Rattle.aq_dirty.specs.ParticleReach.{adds, marks_particle, IsReach}
use Rattle.aq_dirty.specs.Particles.{holds_particle}
use Rattle.aq_dirty.proofs.ParticleMarks.{marks_particle-adds}
use Rattle.aq_dirty.proofs.particles.DirtyParticles.mark.Goals as goal

pub returns-clause-cells : goal.returns-clause-cells
returns-clause-cells c =
    let records = c.args.registry.now in
    let within = subst IsReach c.particle_reach_of-reach.ensures.value c.particle_reach_of-reach.ensures.within in
    let same : (cell : Cell) → adds records c.particle_reach_of-reach.result cell ≡ marks_particle records c.args.change.now cell = λ cell.
    ap (λ (reach : ParticleReach). adds records reach cell) c.particle_reach_of-reach.ensures.value ∙ sym (marks_particle-adds records cell c.args.change.now within) in
    subst (λ (f : Cell → Bool). OnOk c.add.result ((cell : Cell) → holds_particle c.add.new.self cell ≡ (holds_particle c.args.self.now cell || f cell))) (λ i cell. same cell i) c.add.ensures.cells
