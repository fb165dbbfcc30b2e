use Rattle.std.proofs.Common.{◌∙◌, ◌&&◌, ℕ, cond, ap, sym, subst}
use Rattle.std.specs.Prelude.{◌==◌, Option, Some, None}
use Rattle.aq_rules.specs.Office.Monitors.{is_same_site}
use Rattle.aq_particle_cells.specs.Days.SiteTimes.{found_at, site_time}
use Rattle.aq_particle_cells.specs.Pm10.Strata.{stratum_at}
use Rattle.aq_particle_cells.specs.declared.days.site_time.SiteTime.{SiteTime}
use Rattle.aq_particle_cells.proofs.DaysLemmas.TimeLemmas.{found-put, Changes}
use Rattle.aq_particle_cells.proofs.pm10.kept_strata.KeptStrata.put.Goals as goal

pub returns-in_default-clause-ok : goal.returns-in_default-clause-ok
unfolding stratum_at
returns-in_default-clause-ok c other number =
    let es = c.args.self.now.strata.entries in
    let fs = c.remove.new.self.entries in
    let key = c.new-key.ensures ∙ ap (site_time c.args.site) c.number.ensures.value in
    found-put c.args.site c.args.first None es fs (subst (λ (k : SiteTime). Changes es fs None k) key c.remove.ensures.updates.0) other number
    ∙ ap (λ (o : Option (ℕ × ℕ)). cond (is_same_site c.args.site other && (c.args.first == number)) o (found_at es other number)) (sym c.in_default.is)

pub returns-in-Ok-clause-ok : goal.returns-in-Ok-clause-ok
unfolding stratum_at
returns-in-Ok-clause-ok c other number =
    let es = c.args.self.now.strata.entries in
    let fs = c.insert.new.self.entries in
    let key = c.new-key.ensures ∙ ap (site_time c.args.site) c.number.ensures.value in
    found-put c.args.site c.args.first (Some c.in-Some.stratum) es fs (subst (λ (k : SiteTime). Changes es fs (Some c.in-Some.stratum) k) key c.in-Ok.ensures.updates.0) other number
    ∙ ap (λ (o : Option (ℕ × ℕ)). cond (is_same_site c.args.site other && (c.args.first == number)) o (found_at es other number)) (sym c.in-Some.is)
