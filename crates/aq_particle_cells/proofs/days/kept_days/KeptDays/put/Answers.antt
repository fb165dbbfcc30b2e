use Rattle.std.proofs.Common.{◌∙◌, ◌&&◌, ap, subst}
use Rattle.std.specs.Prelude.{◌==◌, Option, Some, unwrap_or}
use Rattle.aq_rules.specs.Office.Monitors.{is_same_site}
use Rattle.aq_particle_cells.specs.Days.KeptDays.{no_day}
use Rattle.aq_particle_cells.specs.Days.SiteTimes.{found_at, site_time}
use Rattle.aq_particle_cells.specs.declared.days.kept_days.KeptDay.{KeptDay}
use Rattle.aq_particle_cells.specs.declared.days.site_time.SiteTime.{SiteTime}
use Rattle.aq_particle_cells.proofs.DaysLemmas.TimeLemmas.{found-put, or-other, Changes}
use Rattle.aq_particle_cells.proofs.days.kept_days.KeptDays.put.Goals as goal

pub returns-in-Ok-clause-ok : goal.returns-in-Ok-clause-ok
returns-in-Ok-clause-ok c other number =
    let es = c.args.self.now.days.entries in
    let fs = c.insert.new.self.entries in
    let key = c.new.ensures ∙ ap (site_time c.args.site) c.number.ensures.value in
    ap (λ (o : Option KeptDay). unwrap_or o no_day)
    (found-put c.args.site c.args.day (Some c.args.kept.now) es fs (subst (λ (k : SiteTime). Changes es fs (Some c.args.kept.now) k) key c.in-Ok.ensures.updates.0) other number)
    ∙ or-other (is_same_site c.args.site other && (c.args.day == number)) c.args.kept.now (found_at es other number) no_day
