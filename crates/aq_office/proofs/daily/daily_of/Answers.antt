use Rattle.std.proofs.Common.{◌≡◌, sym, subst}
use Rattle.std.specs.Prelude.{IfOk}
use Rattle.aq_base.specs.declared.monitor.Pollutant.{Pollutant}
use Rattle.aq_base.specs.declared.question.Question.TheVariants.{Daily}
use Rattle.aq_rules.specs.Listed.Daily.{daily_answer}
use Rattle.aq_rules.specs.Questions.Answer.{answer}
use Rattle.aq_office.specs.Answers.{seen}
use Rattle.aq_office.proofs.daily.daily_of.Goals as goal

pub returns-in-Ozone : goal.returns-in-Ozone
unfolding answer daily_answer
returns-in-Ozone g c =
    subst (λ (p : Pollutant). IfOk c.days_of.result (λ found. answer c.args.book.now (Daily c.args.site p c.args.year) ≡ seen found)) (sym c.in-Ozone.is) c.days_of.ensures
