use Rattle.std.proofs.Common.{◌∙◌, ap}
use Rattle.aq_sheets.specs.PartView.{are_parts, parts_data}
use Rattle.aq_sheets.proofs.Sending.{parts-kept, parts-put}
use Rattle.aq_sheets.proofs.json_text.put_part.Goals as goal

pub returns-clause-members : goal.returns-clause-members
returns-clause-members c = ap parts_data c.in_ok-insert.ensures.entries ∙ parts-put c.args.parts.now.entries c.args.name c.args.part

pub returns-clause-parts : goal.returns-clause-parts
returns-clause-parts c =
    ap are_parts c.in_ok-insert.ensures.entries
    ∙ parts-kept c.args.parts.now.entries c.args.name c.args.part c.requires.name c.requires.part c.requires.parts
