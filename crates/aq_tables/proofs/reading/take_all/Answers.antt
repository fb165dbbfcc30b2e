use Rattle.std.proofs.Common.{◌≡◌, inl, subst, [], ◌∷◌, ◌++◌, map, refl, sym, ap, ◌∙◌, rules, arith, append-nil, append_assoc}
use Rattle.std.proofs.lemmas.List.{map-append}
use Rattle.sqlite.specs.State.{HasCleanDisk, Survives, CommitsShowing, FailsToQuery}
use Rattle.sqlite.specs.Held.{state}
use Rattle.sqlite.proofs.Callers.{unchanged_then}
use Rattle.aq_tables.specs.Queries.{shown_by}
use Rattle.aq_tables.proofs.Steps.{survives_both}
use Rattle.aq_tables.proofs.Answered.{commits_nothing, refused_keeps, begun_here, shown_from}
use Rattle.aq_tables.proofs.ReadRefused.{end_caused, next_caused, one_more, query_caused, row_caused}
use Rattle.std.proofs.lemmas.Result.{err_from_is_err_and}
use Rattle.aq_tables.proofs.ReadRefused.{begins_since}
use Rattle.sqlite.specs.declared.error.ErrorCode.TheVariants.{TooBig}
use Rattle.sqlite.specs.declared.error.Error.TheVariants.{SqliteFailure}
use Rattle.aq_tables.specs.Why.{IsCaused, RefusesAnswer}
use Rattle.aq_tables.proofs.reading.take_all.Goals as goal

pub returns-in_err-rows-clause-crash : goal.returns-in_err-rows-clause-crash
returns-in_err-rows-clause-crash g c =
    let old = state g.S.Store c.args.conn.now in
    let new = state g.S.Store c.query.follows.lender-at-none in
    let held = c.query.follows.holds-at-none in
    let kept : Survives old new (CommitsShowing c.args.text.now [] old) = search rules in
    commits_nothing c.args.text.now c.requires old new kept

pub returns-in_err-rows-clause-kept : goal.returns-in_err-rows-clause-kept
returns-in_err-rows-clause-kept g c clean =
    let old = state g.S.Store c.args.conn.now in
    let new = state g.S.Store c.query.follows.lender-at-none in
    let failed : FailsToQuery c.args.text.now [] old new c.in_err-rows.field-0.0 = search rules in
    refused_keeps c.args.text.now c.requires old new _ failed

pub rows-init : goal.rows-init
rows-init g c =
    let made = c.in_ok-rows.ensures in
    (refl, commits_nothing c.args.text.now c.requires _ _ made.survives, made.mode, λ clean. let begun = begun_here c.args.text.now c.requires g.S.Store c.args.conn.now c.in_ok-rows.rows.conn.now (made.begun clean) in ([], begun.0, begun.1, sym (append-nil _), refl))

pub returns-in_default-clause-rows : goal.returns-in_default-clause-rows
returns-in_default-clause-rows g c clean =
    let moved = c.next.follows.holds-at-none in
    let now = c.next.follows.lender-at-none.conn.now in
    let late : HasCleanDisk (state g.S.Store now) = search rules in
    let was = c.rows.invariant.3 (omega (arith, moved.survives.clean)) in
    let shown = (rw (c.in_ok-row.was, c.in_default.is) at (moved.ok late)) c.args.text.now [] was.0 was.1 in
    (was.0, shown_from c.args.text.now c.requires (state g.S.Store c.args.conn.now) (state g.S.Store c.rows.rows.conn.now) (state g.S.Store now) was.0 was.2 shown, was.3)

pub rows-preserved : goal.rows-preserved
rows-preserved g c =
    let moved = c.next.follows.holds-at-none in
    let old = state g.S.Store c.args.conn.now in
    let mid = state g.S.Store c.rows.rows.conn.now in
    let now = c.next.follows.lender-at-none.conn.now in (
      moved.same_reference ∙ c.rows.invariant.0,
      survives_both old mid (state g.S.Store now) c.rows.invariant.1 moved.survives,
      λ h. moved.mode (c.rows.invariant.2 h),
      λ clean.
          let was = c.rows.invariant.3 (omega (arith, moved.survives.clean)) in
          let gives = (rw (c.in_ok-row.was, c.in-Some.is) at (moved.ok clean)) c.args.text.now [] was.0 was.1 in
          let same = rw c.in_ok-row.was at (moved.same clean) in (
            was.0 ++ c.in-Some.row.now ∷ [],
            gives,
            unchanged_then old mid (state g.S.Store now) was.2 same,
            rw (c.in_ok-push.ensures.items, was.3, c.in_ok-row_in.ensures.found) (append_assoc c.args.found.now.items (map (shown_by c.args.table) was.0) (shown_by c.args.table c.in-Some.row.now ∷ []) ∙ ap (λ l. c.args.found.now.items ++ l) (sym (map-append (shown_by c.args.table) was.0 (c.in-Some.row.now ∷ [])))),
            one_more was.0 c.in-Some.row.now c.rows._taken was.4,
          ),
    )

pub returns-in_err-rows-clause-why : goal.returns-in_err-rows-clause-why
returns-in_err-rows-clause-why g c clean =
    let old = state g.S.Store c.args.conn.now in
    let new = state g.S.Store c.query.follows.lender-at-none in
    let refused : FailsToQuery c.args.text.now [] old new c.in_err-rows.field-0.0 = search rules in
    let p = err_from_is_err_and c.from_residual.result c.from_residual.ensures.1 in
    rw (p.1, p.2) (query_caused c.args.text.now c.requires (RefusesAnswer c.args.table c.args.text.now old) old new c.in_err-rows.field-0.0 (λ why. inl why) refused)

pub returns-in_err-row-clause-why : goal.returns-in_err-row-clause-why
returns-in_err-row-clause-why g c clean =
    let moved = c.next.follows.holds-at-none in
    let old = state g.S.Store c.args.conn.now in
    let mid = state g.S.Store c.rows.rows.conn.now in
    let new = state g.S.Store c.next.follows.lender-at-none.conn.now in
    let late : HasCleanDisk new = search rules in
    let before : HasCleanDisk mid = omega (arith, moved.survives.clean) in
    let was = c.rows.invariant.3 before in
    let refused : FailsToQuery c.args.text.now [] mid new c.in_err-row.field-0.0 = (rw c.in_err-row.was at (moved.err late)) c.args.text.now [] was.0 was.1 in
    let same : c.next.follows.lender-at-none.conn.now ≡ c.conn-in_err-row-1.given.0 = search rules in
    let p = err_from_is_err_and c.from_residual-in_err-row.result c.from_residual-in_err-row.ensures.1 in
    rw (p.1, p.2) (subst (λ h. IsCaused (RefusesAnswer c.args.table c.args.text.now old) old (state g.S.Store h) c.in_err-row.field-0.0) same (next_caused c.args.text.now c.requires (RefusesAnswer c.args.table c.args.text.now old) old mid new (λ _. ⊥) c.in_err-row.field-0.0 c.rows.invariant.1 before moved.survives.counts was.2 (λ why. inl why) refused))

pub returns-in_err-row_in-clause-why : goal.returns-in_err-row_in-clause-why
returns-in_err-row_in-clause-why g c clean =
    let moved = c.next.follows.holds-at-none in
    let old = state g.S.Store c.args.conn.now in
    let mid = state g.S.Store c.rows.rows.conn.now in
    let now = c.next.follows.lender-at-none.conn.now in
    let new = state g.S.Store now in
    let late : HasCleanDisk new = search rules in
    let was = c.rows.invariant.3 (omega (arith, moved.survives.clean)) in
    let gives = (rw (c.in_ok-row.was, c.in-Some.is) at (moved.ok late)) c.args.text.now [] was.0 was.1 in
    let same = unchanged_then old mid new was.2 (rw c.in_ok-row.was at (moved.same late)) in
    let p = err_from_is_err_and c.from_residual-in_err-row_in.result c.from_residual-in_err-row_in.ensures.1 in
    rw (p.1, p.2) (row_caused c.args.table c.args.text.now old (state g.S.Store c.conn-in_err-row_in-1.given.0) was.0 c.in-Some.row.now c.in_err-row_in.field-0.0 (begins_since c.args.text.now c.requires g.S.Store old now (was.0 ++ c.in-Some.row.now ∷ []) same gives) c.in_err-row_in.ensures.why)

pub returns-clause-why : goal.returns-clause-why
returns-clause-why g c clean =
    let old = state g.S.Store c.args.conn.now in
    let now = c.rows.rows.conn.now in
    let late : HasCleanDisk (state g.S.Store now) = search rules in
    let was = c.rows.invariant.3 late in
    end_caused c.args.table c.args.text.now old (state g.S.Store c.conn-2-1.given.0) was.0 (SqliteFailure TooBig) (begins_since c.args.text.now c.requires g.S.Store old now was.0 was.2 was.1) (omega (arith, was.4))
