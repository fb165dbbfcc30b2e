use Rattle.std.proofs.Common.{ℕ, ◌+◌, ◌∷◌, ◌++◌, [], List, Option, drop, sym, ap, ◌∙◌, append_assoc, arith}
use Rattle.std.specs.Prelude.{ℤ}
use Rattle.std.proofs.lemmas.List.{append-nil}
use Rattle.aq_base.specs.declared.standard.Verdict.{Verdict}
use Rattle.aq_rules.specs.Shown.AreaSheets.{first_end_year, rows_from}
use Rattle.aq_office.proofs.Areas.{numbered, rows-end, rows-step}
use Rattle.aq_office.proofs.area.rows_from.Goals as goal

pub loop-place-preserved : goal.loop-place-preserved
loop-place-preserved c =
    let years = c.args.years.now in
    let place = c.loop-place.place in
    let rest = drop (place + 1) (numbered years) in
    ap (λ (rows : List (ℕ × Verdict × Option ℤ)). rows ++ rest) c.in_ok-push.ensures.items
    ∙ append_assoc c.loop-place.rows.items (_ ∷ []) rest
    ∙ (λ k. c.loop-place.rows.items ++ (first_end_year + place, (c.year.view_is k).verdict, (c.year.view_is k).value) ∷ rest)
    ∙ ap (λ (rows : List (ℕ × Verdict × Option ℤ)). c.loop-place.rows.items ++ rows) (sym (rows-step years place c.index-years-place.result c.loop-place-test.true (sym c.index-years-place.is)))
    ∙ c.loop-place.invariant

pub returns : goal.returns
returns c =
    let years = c.args.years.now in
    let last = rows-end years c.loop-place.place (omega (arith, c.loop-place-test.false)) in
    sym (append-nil c.loop-place.rows.items)
    ∙ ap (λ (rows : List (ℕ × Verdict × Option ℤ)). c.loop-place.rows.items ++ rows) (sym last)
    ∙ c.loop-place.invariant
    ∙ ap (λ (first : Option ℕ). rows_from first years) (sym c.in-Some.is)
