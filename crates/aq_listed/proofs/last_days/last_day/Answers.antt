use Rattle.std.proofs.Common.{Some, List, length, flat_map, ap, sym, ◌∙◌, arith}
use Rattle.aq_base.specs.Site.{Site}
use Rattle.aq_rules.specs.Listed.Monitors.{listed_monitors}
use Rattle.aq_series.specs.OfficeView.{office_of}
use Rattle.aq_listed.specs.LastDay.{last_day, later, latest}
use Rattle.aq_listed.proofs.LatestDays.{later-none, later_site}
use Rattle.aq_listed.proofs.ListedSites.{none_left}
use Rattle.aq_series.proofs.SiteWalk.{sites-all, sites-next, sites_above}
use Rattle.aq_listed.proofs.last_days.last_day.Goals as goal

pub loop-site-init : goal.loop-site-init
loop-site-init g c =
    let rows = listed_monitors (office_of c.args.registry.now c.args.shelf.now) in
    record {
      day = ap (λ (l : List Site). latest (flat_map rows l)) (sites-all c.args.registry.now);
      valid = tt;
    }

pub loop-site-smaller : goal.loop-site-smaller
loop-site-smaller g c =
    let fewer = ap length (sites-next c.args.registry.now c.loop-site.after c.in-Some.site c.last_of_site.ensures.valid.keys_rise.records (sym c.next_site.ensures ∙ c.in-Some.is)) in
    omega (arith, fewer)

pub loop-site-preserved : goal.loop-site-preserved
loop-site-preserved g c =
    let records = c.args.registry.now in
    let site = c.in-Some.site in
    let next = sites-next records c.loop-site.after site c.last_of_site.ensures.valid.keys_rise.records (sym c.next_site.ensures ∙ c.in-Some.is) in
    record {
      day =
          later_site (listed_monitors (office_of records c.args.shelf.now)) c.loop-site.day c.last_of_site.result c.later-day.result site (sites_above records c.loop-site.after) (sites_above records (Some site)) c.later-day.ensures c.last_of_site.ensures.day next
          ∙ c.loop-site.invariant.day;
      valid = c.last_of_site.ensures.valid;
    }

pub returns : goal.returns
unfolding last_day
returns g c =
    let records = c.args.registry.now in
    let none = none_left records c.loop-site.after c.loop-site.invariant.valid (sym c.next_site.ensures ∙ c.in_default.is) in
    sym (later-none c.loop-site.day)
    ∙ ap (λ (l : List Site). later c.loop-site.day (latest (flat_map (listed_monitors (office_of records c.args.shelf.now)) l))) (sym none)
    ∙ c.loop-site.invariant.day
