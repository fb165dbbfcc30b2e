use Rattle.std.specs.Prelude.{codes}
use Rattle.aq_browser.specs.Paths.{path_of}
use Rattle.aq_browser.specs.Links.{labelled, question_link}
use Rattle.aq_pages.proofs.Pieces.{pieces3}
use Rattle.aq_browser.proofs.links.write_question_link.Goals as goal

pub returns : goal.returns
unfolding question_link
returns c =
    pieces3 c.args.out.now.items
    (codes "<a href=\"/page") (path_of c.args.question.now) (labelled c.args.words.now)
    c.in_ok-extend_from_slice.ensures.items c.in_ok-write_path.ensures c.in_ok-write_labelled.ensures
