use Rattle.std.proofs.Common.{Some, None, List, ◌++◌, length, map, ap, sym, ◌∙◌, arith}
use Rattle.std.proofs.lemmas.List.{append-nil, length-map}
use Rattle.aq_base.specs.Site.{Site}
use Rattle.aq_registry.specs.Registry.{office_with}
use Rattle.aq_rules.specs.Listed.Sites as listed
use Rattle.aq_rules.specs.Office.Office.{sites_of}
use Rattle.aq_rules.specs.Shown.OtherSheets.{rising_sites}
use Rattle.aq_listed.proofs.ListedSites.{few_in_all, none_left}
use Rattle.aq_listed.proofs.ListRows.{one_more}
use Rattle.aq_series.proofs.SiteWalk.{sites-all, sites-next, sites_above}
use Rattle.aq_listed.proofs.site_list.listed_sites.Goals as goal

pub loop-site-init : goal.loop-site-init
loop-site-init c =
    let records = c.args.registry.now in
    let row = listed.listed_site (office_with records) in
    record {
      rows = ap (λ (l : List listed.ListedSite). l ++ map row (sites_above records None)) c.new-rows.ensures ∙ ap (map row) (sites-all records);
      valid = tt;
    }

pub loop-site-smaller : goal.loop-site-smaller
loop-site-smaller c =
    let fewer = ap length (sites-next c.args.registry.now c.loop-site.after c.in-Some.site c.listed_site.ensures.valid.keys_rise.records (sym c.next_site.ensures ∙ c.in-Some.is)) in
    omega (arith, fewer)

pub loop-site-preserved : goal.loop-site-preserved
loop-site-preserved c =
    let records = c.args.registry.now in
    let site = c.in-Some.site in
    let next = sites-next records c.loop-site.after site c.listed_site.ensures.valid.keys_rise.records (sym c.next_site.ensures ∙ c.in-Some.is) in
    record {
      rows =
          one_more (listed.listed_site (office_with records)) c.loop-site.rows c.push.new.self site c.listed_site.result (sites_above records c.loop-site.after) (sites_above records (Some site)) c.in_ok-push.ensures.ok c.listed_site.ensures.row next
          ∙ c.loop-site.invariant.rows;
      valid = c.listed_site.ensures.valid;
    }

pub returns-clause-rows : goal.returns-clause-rows
unfolding listed.listed_sites
returns-clause-rows c =
    let records = c.args.registry.now in
    let none = none_left records c.loop-site.after c.loop-site.invariant.valid (sym c.next_site.ensures ∙ c.in_default.is) in
    sym (append-nil c.loop-site.rows)
    ∙ ap (λ (l : List Site). c.loop-site.rows ++ map (listed.listed_site (office_with records)) l) (sym none)
    ∙ c.loop-site.invariant.rows

pub returns-clause-few : goal.returns-clause-few
unfolding listed.listed_sites
returns-clause-few c =
    let records = c.args.registry.now in
    let few = few_in_all records c.loop-site.after c.loop-site.invariant.valid (sym c.next_site.ensures ∙ c.in_default.is) in
    let same = ap length (returns-clause-rows c) in
    let there = length-map (rising_sites (sites_of records)) (listed.listed_site (office_with records)) in
    omega (arith, few, same, there)
