use Rattle.std.proofs.Common.{◌≡◌, Some, None, cond, List, [], ◌∷◌, ◌++◌, length, map, refl, ap, sym, subst, ◌∙◌, arith}
use Rattle.std.proofs.lemmas.List.{append-nil, length-map}
use Rattle.aq_base.specs.Site.{Site}
use Rattle.aq_rules.specs.Office.Office.{IsOffice, Office, has_monitor}
use Rattle.aq_rules.specs.Office.Questions.{next_site}
use Rattle.aq_rules.specs.Shown.OtherSheets.{sites_with}
use Rattle.aq_rules.specs.Standards.{pollutant_of}
use Rattle.aq_verdict.specs.declared.design_value.DesignValue.{DesignValue}
use Rattle.aq_book.specs.Questions.{valued, valued_in}
use Rattle.aq_book.proofs.ReportLemmas.{valued-more}
use Rattle.aq_book.proofs.RisingSites.{few_with, with_all, with_monitor, with_next, with_none}
use Rattle.aq_series.proofs.SiteWalk.{sites-next, sites_above}
use Rattle.aq_book.proofs.book.Book.report.Goals as goal
use Rattle.aq_book.proofs.book.Book.report.Goals.{then-measures+in_ok-push, else-measures}

pub loop-site-init : goal.loop-site-init
loop-site-init g c =
    let office = c.args.self.now in
    let pollutant = pollutant_of c.args.standard in
    record {
      values =
          ap (λ (l : List (Site × DesignValue)). map valued_in l ++ map (valued c.args.standard office c.args.year) (with_monitor office pollutant (sites_above office.records None))) c.new-values.ensures
          ∙ ap (map (valued c.args.standard office c.args.year)) (with_all office pollutant);
      steps = omega arith;
    }

pub returns-in_err-push-clause-steps : goal.returns-in_err-push-clause-steps
returns-in_err-push-clause-steps g c = omega (arith, c.design_value-value.ensures.kept refl, c.loop-site.invariant.steps)

pub loop-site-smaller : goal.loop-site-smaller
loop-site-smaller g c =
    let office = c.args.self.now in
    let next = ap (λ (o : Office). next_site o.records c.loop-site.after) (sym c.self.view_is) ∙ sym c.next_site.ensures ∙ c.in-Some.is in
    let fewer = ap length (sites-next office.records c.loop-site.after c.in-Some.site (subst IsOffice c.self.view_is c.self.invariant.office).keys_rise.records next) in
    omega (arith, fewer)

pub loop-site-preserved : goal.loop-site-preserved
loop-site-preserved g c =
    let office = c.args.self.now in
    let pollutant = pollutant_of c.args.standard in
    let site = c.in-Some.site in
    let value_of = valued c.args.standard office c.args.year in
    let behind = with_monitor office pollutant (sites_above office.records (Some site)) in
    let next = ap (λ (o : Office). next_site o.records c.loop-site.after) (sym c.self.view_is) ∙ sym c.next_site.ensures ∙ c.in-Some.is in
    let there = c.measures.ensures ∙ ap (has_monitor office site) c.pollutant.ensures in
    let walk = with_next office pollutant c.loop-site.after site (subst IsOffice c.self.view_is c.self.invariant.office) next c.measures.result there in
    elim c.if-measures.branch [
      | then-measures+in_ok-push w ↦
          let here : with_monitor office pollutant (sites_above office.records c.loop-site.after) ≡ site ∷ behind = walk ∙ ap (λ b. cond b (site ∷ behind) behind) w.if-measures.true in
          let values : c.if-measures.values ≡ c.loop-site.values ++ (site, w.design_value-value.result) ∷ [] = w.values-is ∙ w.in_ok-push.ensures.ok in
          let steps : c.if-measures.steps ≡ w.design_value-value.new.steps = w.steps-is in
          record {
            values =
                ap (λ (l : List (Site × DesignValue)). map valued_in l ++ map value_of behind) values
                ∙ valued-more c.args.standard office c.args.year c.loop-site.values site w.design_value-value.result behind w.design_value-value.ensures.value
                ∙ ap (λ (l : List Site). map valued_in c.loop-site.values ++ map value_of l) (sym here)
                ∙ c.loop-site.invariant.values;
            steps = omega (arith, steps, w.design_value-value.ensures.kept refl, c.loop-site.invariant.steps);
          }
      | else-measures w ↦
          let here : with_monitor office pollutant (sites_above office.records c.loop-site.after) ≡ behind = walk ∙ ap (λ b. cond b (site ∷ behind) behind) w.if-measures.false in
          let values : c.if-measures.values ≡ c.loop-site.values = w.values-is in
          let steps : c.if-measures.steps ≡ c.loop-site.steps = w.steps-is in
          record {
            values =
                ap (λ (l : List (Site × DesignValue)). map valued_in l ++ map value_of behind) values
                ∙ ap (λ (l : List Site). map valued_in c.loop-site.values ++ map value_of l) (sym here)
                ∙ c.loop-site.invariant.values;
            steps = omega (arith, steps, c.loop-site.invariant.steps);
          }
    ]

pub returns-clause-values : goal.returns-clause-values
returns-clause-values g c =
    let office = c.args.self.now in
    let pollutant = pollutant_of c.args.standard in
    let last = ap (λ (o : Office). next_site o.records c.loop-site.after) (sym c.self.view_is) ∙ sym c.next_site.ensures ∙ c.in_default.is in
    sym (append-nil (map valued_in c.loop-site.values))
    ∙ ap (λ (l : List Site). map valued_in c.loop-site.values ++ map (valued c.args.standard office c.args.year) l) (sym (with_none office pollutant c.loop-site.after (subst IsOffice c.self.view_is c.self.invariant.office) last))
    ∙ c.loop-site.invariant.values

pub returns-clause-few : goal.returns-clause-few
returns-clause-few g c =
    let office = c.args.self.now in
    let pollutant = pollutant_of c.args.standard in
    let here = length-map c.loop-site.values valued_in in
    let same = ap length (returns-clause-values g c) in
    let there = length-map (sites_with office pollutant) (valued c.args.standard office c.args.year) in
    omega (arith, here, same, there, few_with office pollutant (subst IsOffice c.self.view_is c.self.invariant.office))
