use Rattle.std.proofs.Common.{◌≡◌, ◌+◌, Bool, List, [], ◌∷◌, ◌++◌, ap, ◌∙◌, arith}
use Rattle.aq_office.proofs.Asked.{approvals-all, approvals-more}
use Rattle.aq_office.proofs.days.approved_days.Goals as goal

pub loop-i-preserved : goal.loop-i-preserved
loop-i-preserved c =
    let at : c.year_span-first.result.0 + c.loop-i.i ≡ c.new.result = omega (arith, c.new.ensures, c.number.ensures.value) in
    c.in_ok-push.ensures.ok
    ∙ ap (λ (l : List Bool). l ++ c.in_ok-counts.counts ∷ []) c.loop-i.invariant
    ∙ approvals-more c.args.book.now c.args.site c.year_span-first.result.0 c.loop-i.i c.new.result c.in_ok-counts.counts at c.in_ok-counts.ensures.approved

pub returns-clause-approved : goal.returns-clause-approved
returns-clause-approved c =
    let all : c.loop-i.i ≡ c.year_span-first.result.1 = omega (arith, c.loop-i-test.false, c.loop-i.auto.i-end) in
    c.loop-i.invariant
    ∙ approvals-all c.args.book.now c.args.site c.args.year c.year_span-first.result.0 c.loop-i.i c.year_span-first.ensures.first (all ∙ c.year_span-first.ensures.days)
