use Rattle.std.proofs.Common.{◌≡◌, ◌∙◌, ◌∷◌, ◌++◌, ap, sym, List, length, arith}
use Rattle.std.specs.Prelude.{reverse}
use Rattle.std.specs.Vec.Iter.{into_iter_items}
use Rattle.aq_rules.specs.Kept.Rows.{Row}
use Rattle.aq_rules.specs.Kept.RowChanges.{RowChange, with_row_change, with_row_changes}
use Rattle.aq_keeper.proofs.tables.make_all.Goals as goal

pub loop-change-preserved : goal.loop-change-preserved
loop-change-preserved c =
    let at = c.loop-change in
    let inv = at.invariant in
    let change = c.in-Some.change in
    let rest = into_iter_items c.next.new.self in
    let steps : into_iter_items at.change-iterator ≡ change ∷ rest = c.in-Some.ensures.steps.0 in
    let fewer = c.in-Some.ensures.steps.1 in
    let cut = c.cut_at.ensures in
    let made = c.make.ensures in
    record {
      whole =
          ap (λ (rows : List Row). with_row_changes rows rest) (made.made ∙ ap (λ (rows : List Row). with_row_change rows change) cut.whole)
          ∙ ap (λ (changes : List RowChange). with_row_changes (at.rows.items ++ reverse at.later.items) changes) (sym steps)
          ∙ inv.whole;
      rise = made.rise;
      count = omega (arith, fewer, inv.count, ap length steps);
      room = omega (arith, fewer, inv.room, cut.count, cut.capacity, made.count, made.capacity);
      later_room = omega (arith, fewer, inv.later_room, cut.count, cut.later_capacity, made.count, made.later_capacity);
    }
