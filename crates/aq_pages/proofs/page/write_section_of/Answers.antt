use Rattle.std.specs.Prelude.{codes}
use Rattle.aq_pages.specs.Page.{section_of, opening, picture_of, rows_and_words}
use Rattle.aq_pages.specs.Subject.{heading}
use Rattle.aq_pages.proofs.Pieces.{pieces5}
use Rattle.aq_pages.proofs.page.write_section_of.Goals as goal

pub returns : goal.returns
unfolding section_of
returns c =
    pieces5 c.args.out.now.items
    (heading c.args.title.now c.args.heads.now) (opening c.args.picture c.args.heads.now) (picture_of c.args.picture c.args.heads.now c.args.rows.now) (rows_and_words c.args.columns.now c.args.rows.now c.args.words.now) (codes "</section>\n")
    c.in_ok-write_heading.ensures c.in_ok-write_opening.ensures c.in_ok-write_picture.ensures c.in_ok-write_rows_and_words.ensures c.in_ok-extend_from_slice.ensures.items
