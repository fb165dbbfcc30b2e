use Rattle.std.specs.Prelude.{codes}
use Rattle.aq_pages.specs.Html.{number, svg_start}
use Rattle.aq_pages.proofs.Pieces.{pieces5}
use Rattle.aq_pages.proofs.html.write_svg_start.Goals as goal

pub returns : goal.returns
unfolding svg_start
returns c =
    pieces5 c.args.out.now.items
    (codes "<svg viewBox=\"0 0 ") (number c.args.width) (codes " ") (number c.args.height) (codes "\">\n")
    c.in_ok-extend_from_slice.ensures.items c.in_ok-write_number.ensures c.in_ok-push.ensures.items c.in_ok-write_number-2.ensures c.in_ok-extend_from_slice-2.ensures.items
