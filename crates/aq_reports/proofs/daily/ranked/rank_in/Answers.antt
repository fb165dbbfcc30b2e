use Rattle.std.proofs.Common.{ap, take, ◌∙◌}
use Rattle.std.specs.List.{insert}
use Rattle.aq_rules.specs.Listed.Highest.{TEN}
use Rattle.aq_reports.specs.Daily.Ranked.{place_in}
use Rattle.aq_reports.proofs.DailyLemmas.Ranks.{placed}
use Rattle.aq_reports.proofs.daily.ranked.rank_in.Goals as goal

pub returns : goal.returns
returns c =
    c.truncate.ensures.items
    ∙ ap (take TEN) (
    c.in_ok-insert.ensures.items
    ∙ (λ i. insert c.args.days.now.items ((c.place_of-place.ensures.place ∙ ap (place_in c.args.row.value) c.as_slice.ensures.value) i) c.args.row)
    ∙ placed c.args.row c.args.days.now.items
    )
