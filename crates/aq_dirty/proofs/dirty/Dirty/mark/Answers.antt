use Rattle.std.proofs.Common.{◌≡◌, ◌∙◌, ◌||◌, Bool, ap, sym, subst, OnOk}
use Rattle.aq_rules.specs.Kept.Cells.{CellName as Cell}
use Rattle.aq_dirty.specs.declared.reach.Reach.{Reach}
use Rattle.aq_dirty.specs.Marked.{holds_cell}
use Rattle.aq_dirty.specs.Reach.{adds, marks, IsReach}
use Rattle.aq_dirty.proofs.Marks.{marks-adds}
use Rattle.aq_dirty.proofs.dirty.Dirty.mark.Goals as goal

pub returns-clause-cells : goal.returns-clause-cells
returns-clause-cells c =
    let records = c.args.registry.now in
    let within = subst IsReach c.reach_of-reach.ensures.value c.reach_of-reach.ensures.within in
    let same : (cell : Cell) → adds c.reach_of-reach.result cell ≡ marks records c.args.change.now cell = λ cell.
    ap (λ (reach : Reach). adds reach cell) c.reach_of-reach.ensures.value ∙ sym (marks-adds records c.args.change.now cell within) in
    subst (λ (f : Cell → Bool). OnOk c.add.result ((cell : Cell) → holds_cell c.add.new.self cell ≡ (holds_cell c.args.self.now cell || f cell))) (λ i cell. same cell i) c.add.ensures.cells
