use Rattle.std.proofs.Common.{sym, ap, subst, ◌∙◌, Option}
use Rattle.std.specs.Iterator.{YieldsFirst}
use Rattle.std.specs.Ordering.{is_eq, is_lt}
use Rattle.aq_base.specs.declared.observation.ObsKey.{ObsKey}
use Rattle.aq_staging.specs.Keys.{either_keys}
use Rattle.aq_rules.specs.Office.Office.{observation_numbers}
use Rattle.aq_staging.proofs.EitherLemmas.{both_taken, first_taken, none_left, only_second, second_taken}
use Rattle.aq_shelf.proofs.Order.{before_rank, same_rank-cmp}
use Rattle.aq_staging.proofs.keys.take_first.Goals as goal

pub returns-in_err-key-clause-first : goal.returns-in_err-key-clause-first
returns-in_err-key-clause-first c =
    let keys = either_keys c.args.first.now c.args.second.now in
    let none = none_left observation_numbers c.args.first.now c.args.second.now (sym c.first.ensures ∙ c.in_default.is) (sym c.first-in_default.ensures ∙ c.in_err-key.was) in
    subst (λ (o : Option ObsKey). YieldsFirst (λ keys. keys) keys o keys) (sym c.from_residual.ensures) (none, none)

pub returns-in_default-clause-first : goal.returns-in_default-clause-first
returns-in_default-clause-first c =
    only_second observation_numbers c.args.first.now c.args.second.now c.requires c.in_ok-key.key (sym c.first-in_default.ensures ∙ c.in_ok-key.was)
    (sym c.first.ensures ∙ c.in_default.is) c.skip.new.self c.skip.ensures

pub returns-in-Less-clause-first : goal.returns-in-Less-clause-first
returns-in-Less-clause-first c =
    first_taken observation_numbers c.args.first.now c.args.second.now c.requires c.in-Some-first.other (sym c.first-2.ensures ∙ c.in-Some-first.is) c.in-Some.one (sym c.first.ensures ∙ c.in-Some.is)
    (before_rank c.in-Some.one c.in-Some-first.other ∙ ap is_lt (sym c.cmp.ensures ∙ c.in-Less.is)) c.skip-in-Less.new.self c.skip-in-Less.ensures

pub returns-in-Equal-clause-first : goal.returns-in-Equal-clause-first
returns-in-Equal-clause-first c =
    both_taken observation_numbers c.args.first.now c.args.second.now c.requires c.in-Some-first.other (sym c.first-2.ensures ∙ c.in-Some-first.is) c.in-Some.one (sym c.first.ensures ∙ c.in-Some.is)
    (before_rank c.in-Some.one c.in-Some-first.other ∙ ap is_lt (sym c.cmp.ensures ∙ c.in-Equal.is)) (same_rank-cmp c.in-Some.one c.in-Some-first.other ∙ ap is_eq (sym c.cmp.ensures ∙ c.in-Equal.is))
    c.skip-in-Equal.new.self c.skip-in-Equal-2.new.self c.skip-in-Equal.ensures c.skip-in-Equal-2.ensures

pub returns-in-Greater-clause-first : goal.returns-in-Greater-clause-first
returns-in-Greater-clause-first c =
    second_taken observation_numbers c.args.first.now c.args.second.now c.requires c.in-Some-first.other (sym c.first-2.ensures ∙ c.in-Some-first.is) c.in-Some.one (sym c.first.ensures ∙ c.in-Some.is)
    (before_rank c.in-Some.one c.in-Some-first.other ∙ ap is_lt (sym c.cmp.ensures ∙ c.in-Greater.is)) (same_rank-cmp c.in-Some.one c.in-Some-first.other ∙ ap is_eq (sym c.cmp.ensures ∙ c.in-Greater.is))
    c.skip-in-Greater.new.self c.skip-in-Greater.ensures
