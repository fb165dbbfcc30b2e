use Rattle.std.proofs.Common.{◌∙◌, ap, rules, take, w32, FitsSigned}
use Rattle.std.specs.Prelude.{ℤ}
use Rattle.std.proofs.lemmas.Int.{to_z-of_z}
use Rattle.aq_rules.specs.Listed.Highest.{TEN, day_ranked_in}
use Rattle.aq_pages.proofs.Ranks.{adds-day}
use Rattle.aq_pages.proofs.ranked.add.Goals as goal

pub returns : goal.returns
returns c rows held =
    let fits : FitsSigned w32 c.in-Some.value = search rules in
    adds-day c.args.day c.args.value c.in-Some.value rows c.args.days.now.items c.rank_in.new.days.items c.in-Some.is held
    (c.in_ok-rank_in.ensures ∙ ap (λ (v : ℤ). take TEN (day_ranked_in (record { day = c.args.day; value = v }) c.args.days.now.items)) (to_z-of_z w32 c.in-Some.value fits))
