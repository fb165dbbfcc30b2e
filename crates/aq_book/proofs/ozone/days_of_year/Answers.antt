use Rattle.std.proofs.Common.{◌≡◌, ℕ, ◌+◌, List, [], ◌∷◌, ◌++◌, ap, refl, sym, subst, ◌∙◌, arith}
use Rattle.aq_base.specs.Calendar.{year_first}
use Rattle.aq_rules.specs.Ozone.OzoneDay.{OzoneDay}
use Rattle.aq_series.specs.OfficeView.{office_of}
use Rattle.aq_ozone.specs.DaySpans.{IsAt}
use Rattle.aq_book.proofs.OzoneLemmas.{day-is, days-more, days-all}
use Rattle.aq_book.proofs.ozone.days_of_year.Goals as goal

pub loop-i-preserved : goal.loop-i-preserved
loop-i-preserved g c =
    let office = office_of c.args.registry.now c.args.shelf.now in
    let here = c.loop-i.invariant.at.day_is in
    let after : c.loop-i.walk.day + 1 ≡ year_first c.args.year + (c.loop-i._i + 1) = omega (arith, here) in
    let day = day-is office c.args.site c.loop-i.walk.day c.next.result c.day_of_windows.result c.day_of_windows.ensures c.next.ensures.windows in
    record {
      days =
          c.in_ok-push.ensures.ok
          ∙ ap (λ (days : List OzoneDay). days ++ c.day_of_windows.result ∷ []) c.loop-i.invariant.days
          ∙ days-more office c.args.site (year_first c.args.year) c.loop-i._i c.loop-i.walk.day c.day_of_windows.result (sym here) day;
      at = subst (λ (n : ℕ). IsAt office c.args.site n c.next.new.self) after c.next.ensures.at;
      steps = omega (arith, c.loop-i.invariant.steps, c.next.ensures.steps);
    }

pub returns-clause-days : goal.returns-clause-days
returns-clause-days g c =
    let all : c.loop-i._i ≡ c.year_span-first.result.1 = omega (arith, c.loop-i-test.false, c.loop-i.auto._i-end) in
    c.loop-i.invariant.days
    ∙ days-all (office_of c.args.registry.now c.args.shelf.now) c.args.site c.args.year (year_first c.args.year) c.loop-i._i
    refl (all ∙ c.year_span-first.ensures.days)
