use Rattle.std.proofs.Common.{sym, ◌∙◌}
use Rattle.aq_reports.proofs.DailyLemmas.Credits.{none-credited, one-credited}
use Rattle.aq_reports.proofs.daily.credit.is_credited.Goals as goal

pub returns-in_default : goal.returns-in_default
returns-in_default g c =
    none-credited (g.S.Years.office c.args.source.now) c.records-records.result.now c.records-records.ensures c.args.site c.args.day c.next_poc.ensures.valid (sym c.in_default.is ∙ c.missed_of.ensures)

pub returns : goal.returns
returns g c =
    c.gives_credit.ensures
    ∙ one-credited (g.S.Years.office c.args.source.now) c.records-records.result.now c.records-records.ensures c.args.site c.args.day c.next_poc.ensures.valid c.in-Some.missed (sym c.in-Some.is ∙ c.missed_of.ensures)
