use Rattle.std.proofs.Common.{ap, ◌∙◌, ◌++◌}
use Rattle.std.specs.Prelude.{codes}
use Rattle.aq_base.specs.declared.question.Question.TheVariants.{Days}
use Rattle.aq_browser.specs.Links.{day_after, day_before, question_link, window_leads}
use Rattle.aq_pages.proofs.Pieces.{pieces3}
use Rattle.aq_browser.proofs.links.write_window_leads.Goals as goal

pub returns : goal.returns
unfolding window_leads
returns c =
    pieces3 c.args.out.now.items
    (day_before c.args.site c.args.day) (day_after c.args.site c.args.day) (question_link (Days c.args.site c.year_of.result) (codes "days of the year"))
    c.in_ok-write_day_before.ensures c.in_ok-write_day_after.ensures c.in_ok-write_question_link.ensures
    ∙ ap (λ year. c.args.out.now.items ++ (day_before c.args.site c.args.day ++ (day_after c.args.site c.args.day ++ question_link (Days c.args.site year) (codes "days of the year")))) c.year_of.ensures
