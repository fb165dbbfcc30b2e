use Rattle.std.specs.Prelude.{codes}
use Rattle.aq_browser.specs.Links.{other_years, year_after, year_before}
use Rattle.aq_pages.proofs.Pieces.{pieces3}
use Rattle.aq_browser.proofs.links.write_other_years.Goals as goal

pub returns : goal.returns
unfolding other_years
returns c =
    pieces3 c.args.out.now.items
    (codes "other years:\n") (year_before c.args.question.now c.args.year) (year_after c.args.question.now c.args.year)
    c.in_ok-extend_from_slice.ensures.items c.in_ok-write_year_before.ensures c.in_ok-write_year_after.ensures
