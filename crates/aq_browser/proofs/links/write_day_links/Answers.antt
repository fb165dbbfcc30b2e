use Rattle.std.specs.Prelude.{codes}
use Rattle.aq_base.specs.declared.question.Question.TheVariants.{Daily, Highest}
use Rattle.aq_browser.specs.Links.{day_links, question_link, year_link}
use Rattle.aq_pages.proofs.Pieces.{pieces3}
use Rattle.aq_browser.proofs.links.write_day_links.Goals as goal

pub returns : goal.returns
unfolding day_links
returns c =
    pieces3 c.args.out.now.items
    (question_link (Daily c.args.site c.args.pollutant c.args.year) (codes "daily values")) (year_link c.args.site c.args.pollutant c.args.year) (question_link (Highest c.args.site c.args.pollutant c.args.year) (codes "highest days"))
    c.in_ok-write_question_link.ensures c.in_ok-write_year_link.ensures c.in_ok-write_question_link-2.ensures
