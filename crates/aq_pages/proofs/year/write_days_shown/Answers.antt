use Rattle.std.specs.Prelude.{codes, flat_map}
use Rattle.aq_pages.specs.Year.{days_from, days_shown, highest_mark, year_legend}
use Rattle.aq_pages.proofs.Pieces.{pieces5}
use Rattle.aq_pages.proofs.year.write_days_shown.Goals as goal

pub returns : goal.returns
unfolding days_shown
returns c =
    pieces5 c.args.out.now.items
    (codes "<g class=\"days\">\n") (days_from c.args.pollutant c.args.top 0 c.args.lines.now) (codes "</g>\n<g class=\"dots\">") (flat_map (highest_mark c.args.top) c.args.highest.now) year_legend
    c.in_ok-extend_from_slice.ensures.items c.in_ok-write_days.ensures c.in_ok-extend_from_slice-2.ensures.items c.in_ok-write_highest_marks.ensures c.in_ok-write_year_legend.ensures
