use Rattle.std.specs.Prelude.{codes}
use Rattle.aq_base.specs.declared.question.Question.TheVariants.{Export}
use Rattle.aq_browser.specs.Paths.{path_of}
use Rattle.aq_browser.specs.Links.{export_link, labelled}
use Rattle.aq_pages.proofs.Pieces.{pieces3}
use Rattle.aq_browser.proofs.links.write_export_link.Goals as goal

pub returns : goal.returns
unfolding export_link
returns c =
    pieces3 c.args.out.now.items
    (codes "<a href=\"") (path_of (Export c.args.site c.args.pollutant c.args.year)) (labelled (codes "observations as CSV"))
    c.in_ok-extend_from_slice.ensures.items c.in_ok-write_path.ensures c.in_ok-write_labelled.ensures
