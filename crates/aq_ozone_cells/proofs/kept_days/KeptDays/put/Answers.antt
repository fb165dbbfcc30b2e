use Rattle.std.proofs.Common.{subst}
use Rattle.aq_ozone_cells.specs.declared.site_key.SiteKey.{SiteKey}
use Rattle.aq_ozone_cells.proofs.KeptDayLemmas.{day-put, Changes}
use Rattle.aq_ozone_cells.proofs.kept_days.KeptDays.put.Goals as goal

pub returns-in-Ok-clause-ok : goal.returns-in-Ok-clause-ok
returns-in-Ok-clause-ok c other number =
    let es = c.args.self.now.days.entries in
    let fs = c.insert.new.self.entries in
    day-put c.args.site c.args.day c.args.cells es fs
    (subst (λ (key : SiteKey). Changes es fs c.args.cells key) c.new.ensures c.in-Ok.ensures.updates.0) other number
