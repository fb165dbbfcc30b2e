use Rattle.std.proofs.Common.{sym, subst, rules, FitsSigned}
use Rattle.std.specs.Int.{w32}
use Rattle.std.specs.Option.{IfSome}
use Rattle.std.proofs.lemmas.Int.{to_z-of_z}
use Rattle.std.proofs.lemmas.Option.{IfSome_then}
use Rattle.aq_verdict.specs.Designs.{design_of}
use Rattle.aq_area.proofs.Exact.{IsExactFor, critical-exact, is-critical}
use Rattle.aq_area.proofs.critical_value.critical.Goals as goal

pub returns-clause-value : goal.returns-clause-value
returns-clause-value c =
    let fits : FitsSigned w32 c.level_of.result = search rules in
    is-critical c.args.standard (design_of c.args.value.now) c.level_of.result c.left_by_two.result c.level_of.ensures.value (simp (to_z-of_z, fits) at c.left_by_two.ensures)

pub returns-clause-kept : goal.returns-clause-kept
returns-clause-kept c =
    let exact = critical-exact c.args.standard (design_of c.args.value.now) c.has_quarters.ensures in
    IfSome_then c.left_by_two.result (subst (λ o. IfSome o (IsExactFor c.args.standard (design_of c.args.value.now))) (sym (returns-clause-value c)) exact) (λ next is. is.0)

pub returns-clause-greatest : goal.returns-clause-greatest
returns-clause-greatest c =
    let exact = critical-exact c.args.standard (design_of c.args.value.now) c.has_quarters.ensures in
    IfSome_then c.left_by_two.result (subst (λ o. IfSome o (IsExactFor c.args.standard (design_of c.args.value.now))) (sym (returns-clause-value c)) exact) (λ next is. is.1)
