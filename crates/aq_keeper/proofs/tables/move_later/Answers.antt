use Rattle.std.proofs.Common.{◌≡◌, ◌∙◌, ◌∷◌, ◌++◌, [], ap, sym, subst, List, append_assoc, arith}
use Rattle.std.specs.Prelude.{reverse}
use Rattle.aq_rules.specs.Kept.Rows.{Row}
use Rattle.aq_keeper.specs.KeyView.{key_seen}
use Rattle.aq_keeper.specs.Rising.{Rise, keys_of_rows}
use Rattle.aq_keeper.proofs.RisingLemmas.{reverse-more, rise-front, one-more-moved}
use Rattle.aq_keeper.proofs.tables.move_later.Goals as goal

pub loop-preserved : goal.loop-preserved
loop-preserved c =
    let at = c.loop in
    let inv = at.invariant in
    let row = c.in-Some.row in
    let front = c.next_later.new.rows.items in
    let back = reverse at.later.items in
    let taken : at.rows.items ≡ front ++ row ∷ [] = c.in-Some.ensures.some.0 in
    let cut = one-more-moved (key_seen c.args.key) c.args.rows.now.items at.rows.items front row inv.front taken c.in-Some.ensures.some.1 in
    let fewer = c.in-Some.ensures.count in
    record {
      whole =
          ap (λ (rows : List Row). front ++ reverse rows) c.push.ensures.items
          ∙ ap (λ (rows : List Row). front ++ rows) (reverse-more at.later.items row)
          ∙ sym (append_assoc front (row ∷ []) back)
          ∙ ap (λ (rows : List Row). rows ++ back) (sym taken)
          ∙ inv.whole;
      rise = rise-front front (row ∷ []) (subst (λ (rows : List Row). Rise (keys_of_rows rows)) taken inv.rise);
      front = cut.0;
      moved = cut.1;
      count = omega arith;
      capacity = omega arith;
      later_capacity = omega arith;
      left = omega arith;
    }
