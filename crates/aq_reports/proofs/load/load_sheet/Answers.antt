use Rattle.std.proofs.Common.{◌≡◌, [], ◌∷◌, ◌++◌, map, codes}
use Rattle.aq_rules.specs.Shown.Sheets as sheets
use Rattle.aq_reports.proofs.Parts.{two_parts}
use Rattle.aq_reports.proofs.load.load_sheet.Goals as goal

pub returns : goal.returns
unfolding sheets.load_sheet
returns c =
    let reply = c.args.reply.now in
    let listed : c.add_listed.new.rows ≡ c.new-rows.result ++ map sheets.listed_row reply.listed = cc (c.in_ok-add_listed.ensures, c.as_slice.ensures) in
    let rest : c.add_rest.new.rows ≡ c.add_listed.new.rows ++ map sheets.rest_row reply.rest = cc (c.in_ok-add_rest.ensures, c.as_slice-2.ensures) in
    let rows : c.add_rest.new.rows ≡ map sheets.listed_row reply.listed ++ map sheets.rest_row reply.rest = two_parts _ _ _ _ _ c.new-rows.ensures listed rest in
    let columns : c.in_ok-columns.columns ≡ codes "line" ∷ codes "rule" ∷ codes "name" ∷ codes "count" ∷ [] = c.in_ok-columns.ensures in
    cc (c.new-5.ensures, c.in_ok-heads.ensures, c.in_ok-number.ensures, c.in_ok-lines.ensures, c.in_ok-accepted.ensures, c.in_ok-refused.ensures, c.count.ensures, c.count-2.ensures, c.count-3.ensures, c.count-4.ensures, columns, rows)
