use Rattle.std.proofs.Common.{◌≡◌, [], ◌∷◌, codes}
use Rattle.aq_rules.specs.Listed.Completeness as book
use Rattle.aq_listed.proofs.completeness_sheet.sheet_of.Goals as goal

pub returns : goal.returns
unfolding book.completeness_sheet
returns c =
    let columns : c.in_ok-columns.columns ≡ codes "poc" ∷ codes "month" ∷ codes "due" ∷ codes "valued" ∷ codes "null" ∷ codes "missing" ∷ codes "extra" ∷ codes "percent" ∷ [] = c.in_ok-columns.ensures in
    cc (c.new.ensures, c.in_ok-heads.ensures, c.in_ok-rows.ensures, columns)
