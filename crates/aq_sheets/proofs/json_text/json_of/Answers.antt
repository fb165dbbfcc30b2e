use Rattle.std.proofs.Common.{rules, ◌≡◌, ◌∙◌, ap, []}
use Rattle.serde_json.specs.Data.{object}
use Rattle.aq_rules.specs.Shown.Sheet.{Sheet}
use Rattle.aq_sheets.specs.JsonView.{are_cells, tokens_of, with_heads, with_table}
use Rattle.aq_sheets.specs.PartView.{parts_data}
use Rattle.aq_sheets.proofs.SheetJson.{cells-of, members_in, written-text}
use Rattle.aq_sheets.proofs.json_text.json_of.Goals as goal

pub put_table-requires-clause-rows : goal.put_table-requires-clause-rows
put_table-requires-clause-rows c =
    let sheet = c.args.sheet.now in
    ap are_cells (c.as_slice-3.ensures ∙ ap (λ (s : Sheet). s.rows) c.sheet.view_is) ∙ cells-of sheet.columns sheet.rows c.requires.rows

pub returns : goal.returns
returns c =
    let sheet = c.args.sheet.now in
    let heads : c.as_slice.result.now ≡ sheet.heads = c.as_slice.ensures ∙ ap (λ (s : Sheet). s.heads) c.sheet.view_is in
    let columns : c.as_slice-2.result.now ≡ sheet.columns = c.as_slice-2.ensures ∙ ap (λ (s : Sheet). s.columns) c.sheet.view_is in
    let rows : c.as_slice-3.result.now ≡ sheet.rows = c.as_slice-3.ensures ∙ ap (λ (s : Sheet). s.rows) c.sheet.view_is in
    let all : object (parts_data c.put_table.new.parts.entries) ≡ object (members_in sheet) =
    ap object (c.in_ok-put_table.ensures.members
    ∙ (λ i. with_table (columns i) (rows i) (parts_data c.put_heads.new.parts.entries))
    ∙ ap (with_table sheet.columns sheet.rows) (c.in_ok-put_heads.ensures.members
    ∙ (λ i. with_heads (heads i) (parts_data (c.new-parts.ensures.empty i))))) in
    let before : c.write_parts.new.out.before ≡ [] = search rules in
    let tokens : c.write_parts.new.out.tokens ≡ tokens_of (object (parts_data c.put_table.new.parts.entries)) = search rules in
    written-text sheet (object (parts_data c.put_table.new.parts.entries)) c.write_parts.new.out.before _ c.write_parts.new.out.tokens c.requires
    (search rules) before tokens all
