use Rattle.std.proofs.Common.{◌∙◌, sym, refl, Some, None}
use Rattle.std.proofs.lemmas.Result.{err_from_is_err_and}
use Rattle.aq_rows.specs.Walking.{standing}
use Rattle.aq_rows.proofs.Following.{observation-unsaid, observation-can_stand, observation-not-next, observation-not-kept, observation-refused, observation-follows}
use Rattle.aq_rows.proofs.walk.Walk.take_observation.Goals as goal

pub returns-in_default-clause-refused : goal.returns-in_default-clause-refused
returns-in_default-clause-refused c =
    observation-unsaid (standing c.args.self.now) c.args.row.now c.observation_of.result c.observation_of.ensures c.in_default.is

pub returns-then-not-is_next_observation-clause-refused : goal.returns-then-not-is_next_observation-clause-refused
returns-then-not-is_next_observation-clause-refused c =
    observation-not-next (standing c.args.self.now) c.args.row.now c.observation_of.result (c.in-Some.key, c.in-Some.content) c.observation_of.ensures c.in-Some.is
    (sym c.if-not-is_next_observation.true ∙ c.is_next_observation.ensures c.in-Some.content)

pub returns-in_default-duration_of-clause-refused : goal.returns-in_default-duration_of-clause-refused
returns-in_default-duration_of-clause-refused c =
    observation-not-kept (standing c.args.self.now) c.args.row.now c.observation_of.result (c.in-Some.key, c.in-Some.content) c.observation_of.ensures c.in-Some.is
    None (sym c.in_default-duration_of.is ∙ c.duration_of.ensures) refl

pub returns-then-not-is_kept_hour-clause-refused : goal.returns-then-not-is_kept_hour-clause-refused
returns-then-not-is_kept_hour-clause-refused c =
    observation-not-kept (standing c.args.self.now) c.args.row.now c.observation_of.result (c.in-Some.key, c.in-Some.content) c.observation_of.ensures c.in-Some.is
    (Some c.in-Some-duration_of.duration) (sym c.in-Some-duration_of.is ∙ c.duration_of.ensures) (sym c.is_kept_hour.ensures ∙ c.if-not-is_kept_hour.true)

pub put_observation-requires-clause-stands : goal.put_observation-requires-clause-stands
put_observation-requires-clause-stands c =
    observation-can_stand (standing c.args.self.now) c.args.row.now c.observation_of.result (c.in-Some.key, c.in-Some.content) c.observation_of.ensures c.in-Some.is

pub put_observation-requires-clause-rising : goal.put_observation-requires-clause-rising
put_observation-requires-clause-rising c =
    sym (c.is_next_observation.ensures c.in-Some.content) ∙ c.if-not-is_next_observation.false

pub returns-in_err-put_observation-clause-refused : goal.returns-in_err-put_observation-clause-refused
returns-in_err-put_observation-clause-refused c =
    let p = err_from_is_err_and c.from_residual.result c.from_residual.ensures.1 in
    rw (p.1, p.2)
    (observation-refused (standing c.args.self.now) c.args.row.now c.observation_of.result (c.in-Some.key, c.in-Some.content) c.observation_of.ensures c.in-Some.is
    c.in_err-put_observation.field-0.0 c.in_err-put_observation.ensures.refused)

pub returns-clause-taken : goal.returns-clause-taken
returns-clause-taken c =
    observation-follows c.args.self.now c.args.row.now c.observation_of.result c.in-Some.key c.in-Some.content c.in-Some-duration_of.duration c.put_observation.new.shelf
    c.requires c.observation_of.ensures c.in-Some.is (sym c.if-not-is_next_observation.false ∙ c.is_next_observation.ensures c.in-Some.content)
    (sym c.in-Some-duration_of.is ∙ c.duration_of.ensures) (sym c.is_kept_hour.ensures ∙ c.if-not-is_kept_hour.false) c.in_ok-put_observation.ensures.room c.in_ok-put_observation.ensures.ok
