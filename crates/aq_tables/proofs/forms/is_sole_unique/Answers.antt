use Rattle.std.proofs.Common.{◌≡◌, ◌∷◌, [], ap, sym, ◌∙◌, length, rules}
use Rattle.aq_tables.proofs.Fitting.{one_is, same_first}
use Rattle.aq_tables.proofs.forms.is_sole_unique.Goals as goal

pub returns : goal.returns
returns c =
    let len : length c.as_slice.result.now ≡ 1 = search rules in
    let one : c.args.table.now.uniques ≡ c.as_slice-2.result.now ∷ [] = sym c.as_slice.ensures ∙ one_is c.as_slice.result.now c.unique-item.result len ∙ ap (λ x. x ∷ []) (sym c.unique-item.is ∙ sym c.as_slice-2.ensures) in
    (λ same. one ∙ ap (λ x. x ∷ []) (c.are_same.ensures.0 same), λ is. c.are_same.ensures.1 (same_first _ _ (sym one ∙ is)))
