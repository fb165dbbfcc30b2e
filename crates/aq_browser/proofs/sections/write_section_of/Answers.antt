use Rattle.std.specs.Prelude.{codes}
use Rattle.aq_browser.specs.Pages.{heads_and_picture, rows_and_links, section_head, section_of}
use Rattle.aq_pages.proofs.Pieces.{pieces5}
use Rattle.aq_browser.proofs.sections.write_section_of.Goals as goal

pub returns : goal.returns
unfolding section_of
returns c =
    pieces5 c.args.out.now.items
    (codes "<section>\n") (section_head c.args.several c.args.title.now c.args.sheet.now) (heads_and_picture c.args.picture c.args.heads.now c.args.sheet.now) (rows_and_links c.args.words.now c.args.question.now c.args.sheet.now) (codes "</section>\n")
    c.in_ok-extend_from_slice.ensures.items c.in_ok-write_section_head.ensures c.in_ok-write_heads_and_picture.ensures c.in_ok-write_rows_and_links.ensures c.in_ok-extend_from_slice-2.ensures.items
