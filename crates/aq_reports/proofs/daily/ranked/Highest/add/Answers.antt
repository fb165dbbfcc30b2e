use Rattle.std.proofs.Common.{◌+◌, ◌∙◌, ap, refl, rules, take, w32, FitsSigned}
use Rattle.std.specs.Prelude.{ℤ}
use Rattle.std.proofs.lemmas.Int.{to_z-of_z}
use Rattle.aq_rules.specs.Listed.Highest.{TEN, day_ranked_in}
use Rattle.aq_reports.proofs.DailyLemmas.Ranks.{adds-day}
use Rattle.aq_reports.proofs.daily.ranked.Highest.add.Goals as goal

pub returns-clause-days : goal.returns-clause-days
returns-clause-days c rows held =
    let fits : FitsSigned w32 c.in-Some.value = search rules in
    adds-day c.args.day c.args.value c.in-Some.value rows c.args.self.now (record { ranked = c.args.self.now.ranked + 1; days = c.rank_in.new.days }) c.in-Some.is held refl
    (c.in_ok-rank_in.ensures ∙ ap (λ (v : ℤ). take TEN (day_ranked_in (record { day = c.args.day; value = v }) c.args.self.now.days.items)) (to_z-of_z w32 c.in-Some.value fits))
