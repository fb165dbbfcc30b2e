use Rattle.std.proofs.Common.{◌+◌, ◌∷◌, ◌++◌, [], List, Option, drop, true, false, sym, ap, ◌∙◌, append_assoc, rules}
use Rattle.std.specs.Prelude.{ℤ}
use Rattle.aq_base.specs.Site.{Site}
use Rattle.aq_base.specs.declared.standard.Verdict.{Verdict}
use Rattle.aq_office.proofs.Areas.{rows_for, site-step}
use Rattle.aq_office.proofs.area.site_rows.Goals.{then-holds+in_ok-push, else-holds}
use Rattle.aq_office.proofs.area.site_rows.Goals as goal

pub loop-site-preserved : goal.loop-site-preserved
loop-site-preserved c =
    let values = c.args.values.now in
    let place = c.loop-site.site-index in
    let item = c.loop-site-item.result in
    let rows = c.loop-site.rows.items in
    let rest = rows_for c.args.standard c.args.area.now (drop (place + 1) values) in
    elim c.if-holds.branch [
      | then-holds+in_ok-push w ↦
          rw w.rows-is
          (ap (λ (l : List (Site × Option ℤ × Verdict × Option ℤ)). l ++ rest) w.in_ok-push.ensures.items
          ∙ append_assoc rows (_ ∷ []) rest
          ∙ (λ k. rows ++ (item.0, w.value.ensures k, w.verdict.ensures k, w.critical-critical.ensures.value k) ∷ rest)
          ∙ ap (λ (l : List (Site × Option ℤ × Verdict × Option ℤ)). rows ++ l)
          (sym (site-step c.args.standard c.args.area.now values place item true (search rules) c.loop-site-item.is (sym w.if-holds.true ∙ c.holds.ensures)))
          ∙ c.loop-site.invariant)
      | else-holds w ↦
          rw w.rows-is
          (ap (λ (l : List (Site × Option ℤ × Verdict × Option ℤ)). rows ++ l)
          (sym (site-step c.args.standard c.args.area.now values place item false (search rules) c.loop-site-item.is (sym w.if-holds.false ∙ c.holds.ensures)))
          ∙ c.loop-site.invariant)
    ]
