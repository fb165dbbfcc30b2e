use Rattle.std.proofs.Common.{◌≡◌, [], ◌∷◌, codes}
use Rattle.std.proofs.lemmas.List.{length-map}
use Rattle.aq_rules.specs.Listed.Loads as listed
use Rattle.aq_office.proofs.loads.loads_sheet.Goals as goal

pub returns : goal.returns
unfolding listed.loads_sheet
returns c =
    let columns : c.in_ok-columns.columns ≡ codes "load" ∷ codes "lines" ∷ codes "accepted" ∷ codes "refused" ∷ codes "digest" ∷ [] = c.in_ok-columns.ensures in
    cc (c.new-2.ensures, c.in_ok-heads.ensures, c.in_ok-number.ensures, c.number_of.ensures, c.from_vec.ensures, c.in_ok-rows.ensures, length-map c.args.loads.now listed.load_cells, columns)
