use Rattle.std.proofs.Common.{◌≡◌, ◌∙◌, ap, sym, true, refl, ◌-◌, List, length, Some}
use Rattle.std.specs.Prelude.{slice_get}
use Rattle.aq_rules.specs.Kept.Rows.{Row}
use Rattle.aq_rules.specs.Kept.RowChanges.{row_key, key_before}
use Rattle.aq_keeper.specs.KeyView.{key_seen}
use Rattle.aq_keeper.proofs.RisingLemmas.{before-last}
use Rattle.aq_keeper.proofs.tables.next_later.Goals as goal

pub returns-then-is_earlier-clause-none : goal.returns-then-is_earlier-clause-none
returns-then-is_earlier-clause-none c =
    let key = key_seen c.args.key in
    let rows = c.args.rows.now.items in
    let row = c.in_ok-last.field-0.now in
    let before : key_before (row_key row) key ≡ true = ap (λ k. key_before k key) (sym c.key.ensures) ∙ sym c.comes_before-is_earlier.ensures ∙ c.if-is_earlier.true in
    let found : slice_get rows (length rows - 1) ≡ Some row = ap (λ (l : List Row). slice_get l (length l - 1)) (sym c.deref.ensures.value) ∙ sym c.in_ok-last.ensures.value in
    (refl, before-last key rows row found c.requires before)
