use Rattle.std.specs.Prelude.{codes}
use Rattle.aq_browser.specs.Pages.{made_from}
use Rattle.aq_browser.specs.Paths.{digits}
use Rattle.aq_pages.proofs.Pieces.{pieces5}
use Rattle.aq_browser.proofs.pages.write_made_from.Goals as goal

pub returns : goal.returns
unfolding made_from
returns c =
    pieces5 c.args.out.now.items
    (codes "<p class=\"note\">Made from what stands now. Loads: ") (digits c.args.loads) (codes ". Observations: ") (digits c.args.observations) (codes ".</p>\n")
    c.in_ok-extend_from_slice.ensures.items c.in_ok-write_digits.ensures c.in_ok-extend_from_slice-2.ensures.items c.in_ok-write_digits-2.ensures c.in_ok-extend_from_slice-3.ensures.items
