use Rattle.std.proofs.Common.{◌≡◌, ◌∙◌, ◌-◌, ap, sym, Some}
use Rattle.aq_base.specs.declared.office.OfficeKey.TheVariants.{Primary as PrimaryKey}
use Rattle.aq_rules.specs.Kept.Reach.{last_day_before}
use Rattle.aq_rules.specs.Office.Questions.{following}
use Rattle.aq_dirty.specs.Reach.{start_in}
use Rattle.aq_dirty.proofs.NextStart.{last_designated}
use Rattle.aq_dirty.proofs.reach.last_day_designated.Goals as goal

pub returns-in-Some : goal.returns-in-Some
returns-in-Some c =
    let found : c.start_in.result ≡ start_in c.args.site c.args.pollutant (following c.args.registry.now (Some (PrimaryKey c.args.site c.args.pollutant c.args.from))) =
    c.start_in.ensures ∙ ap (start_in c.args.site c.args.pollutant) c.following.ensures in
    let next : c.new.result ≡ last_day_before (Some c.in-Some.next) = c.new.ensures ∙ c.saturating_sub.ensures ∙ ap (λ n. n - 1) c.number.ensures.value in
    next ∙ ap last_day_before (sym c.in-Some.is ∙ found) ∙ last_designated c.args.site c.args.pollutant c.args.from c.args.registry.now c.next_poc.ensures.valid.keys_rise.records

pub returns-in-None : goal.returns-in-None
returns-in-None c =
    let found : c.start_in.result ≡ start_in c.args.site c.args.pollutant (following c.args.registry.now (Some (PrimaryKey c.args.site c.args.pollutant c.args.from))) =
    c.start_in.ensures ∙ ap (start_in c.args.site c.args.pollutant) c.following.ensures in
    c.new-in-None.ensures ∙ ap last_day_before (sym c.in-None.is ∙ found) ∙ last_designated c.args.site c.args.pollutant c.args.from c.args.registry.now c.next_poc.ensures.valid.keys_rise.records
