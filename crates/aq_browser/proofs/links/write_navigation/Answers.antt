use Rattle.std.specs.Prelude.{codes}
use Rattle.aq_browser.specs.Links.{navigation, report_links}
use Rattle.aq_pages.proofs.Pieces.{pieces3}
use Rattle.aq_browser.proofs.links.write_navigation.Goals as goal

pub returns : goal.returns
unfolding navigation
returns c =
    pieces3 c.args.out.now.items
    (codes "<nav>\n<a href=\"/\">Sites</a>\n") (report_links c.args.year) (codes "</nav>\n")
    c.in_ok-extend_from_slice.ensures.items c.in_ok-write_report_links.ensures c.in_ok-extend_from_slice-2.ensures.items
