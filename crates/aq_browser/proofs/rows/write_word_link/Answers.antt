use Rattle.std.specs.Prelude.{codes}
use Rattle.aq_browser.specs.Rows.{word_link}
use Rattle.aq_pages.proofs.Pieces.{pieces5}
use Rattle.aq_browser.proofs.rows.write_word_link.Goals as goal

pub returns : goal.returns
unfolding word_link
returns c =
    pieces5 c.args.out.now.items
    c.args.before.now c.args.word.now c.args.behind.now c.args.word.now (codes "</a>\n")
    c.in_ok-extend_from_slice.ensures.items c.in_ok-extend_from_slice-2.ensures.items c.in_ok-extend_from_slice-3.ensures.items c.in_ok-extend_from_slice-4.ensures.items c.in_ok-extend_from_slice-5.ensures.items
