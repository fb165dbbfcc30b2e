use Rattle.std.specs.Prelude.{codes}
use Rattle.aq_pages.specs.Page.{paragraph}
use Rattle.aq_pages.proofs.Pieces.{pieces3}
use Rattle.aq_pages.proofs.page.write_paragraph.Goals as goal

pub returns : goal.returns
unfolding paragraph
returns c =
    pieces3 c.args.out.now.items
    (codes "<p class=\"words\">") c.args.words.now (codes "</p>\n")
    c.in_ok-extend_from_slice.ensures.items c.in_ok-extend_from_slice-2.ensures.items c.in_ok-extend_from_slice-3.ensures.items
