use Rattle.std.proofs.Common.{ap, ◌∙◌, ◌++◌}
use Rattle.std.specs.Prelude.{codes}
use Rattle.aq_base.specs.declared.question.Question.TheVariants.{Decisive}
use Rattle.aq_browser.specs.Links.{highest_links, question_link, value_leads}
use Rattle.aq_pages.proofs.Pieces.{pieces3}
use Rattle.aq_browser.proofs.links.write_value_leads.Goals as goal

pub returns : goal.returns
unfolding value_leads
returns c =
    let decisive = question_link (Decisive c.args.standard c.args.site c.args.year) (codes "events that decide") in
    pieces3 c.args.out.now.items
    decisive (codes "highest days of:\n") (highest_links c.pollutant.result c.args.site c.args.year)
    c.in_ok-write_question_link.ensures c.in_ok-extend_from_slice.ensures.items c.in_ok-write_highest_links.ensures
    ∙ ap (λ pollutant. c.args.out.now.items ++ (decisive ++ (codes "highest days of:\n" ++ highest_links pollutant c.args.site c.args.year))) c.pollutant.ensures
