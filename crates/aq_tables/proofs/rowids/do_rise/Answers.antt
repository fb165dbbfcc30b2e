use Rattle.std.proofs.Common.{◌≡◌, inl, subst, [], ◌∷◌, ◌++◌, refl, sym, ap, ◌∙◌, rules, arith, w64, to_z, of_z, FitsSigned, to_z-of_z}
use Rattle.std.proofs.lemmas.Bool.{and_parts}
use Rattle.sqlite.specs.declared.types.Value.TheVariants.{Int}
use Rattle.sqlite.specs.State.{HasCleanDisk, Survives, CommitsShowing, FailsToQuery}
use Rattle.sqlite.specs.Held.{state}
use Rattle.sqlite.proofs.Callers.{unchanged_then}
use Rattle.aq_tables.specs.Rowids.{is_after}
use Rattle.aq_tables.proofs.Steps.{survives_both}
use Rattle.aq_tables.proofs.Answered.{commits_nothing, refused_keeps, begun_here, shown_from}
use Rattle.sqlite_sql.specs.Numeral.{fits_i64}
use Rattle.aq_tables.proofs.RowidsApart.{fits_column, rise_more}
use Rattle.std.proofs.lemmas.Result.{err_from_is_err_and}
use Rattle.aq_tables.proofs.ReadRefused.{begins_since}
use Rattle.sqlite.specs.declared.error.ErrorCode.TheVariants.{TooBig}
use Rattle.sqlite.specs.declared.error.Error.TheVariants.{SqliteFailure}
use Rattle.std.proofs.lemmas.Bool.{false≢true}
use Rattle.aq_tables.specs.Why.{IsCaused}
use Rattle.aq_tables.specs.WhyMade.{RefusesRowids}
use Rattle.aq_tables.proofs.RowidsFall.{falls_next, last_now}
use Rattle.aq_tables.proofs.ReadRefused.{next_caused, one_more, query_caused, rowid_caused, rowids_end}
use Rattle.aq_tables.proofs.rowids.do_rise.Goals as goal

pub returns-in_err-rows-clause-crash : goal.returns-in_err-rows-clause-crash
returns-in_err-rows-clause-crash g c =
    let old = state g.S.Store c.args.conn.now in
    let new = state g.S.Store c.query.follows.lender-at-none in
    let held = c.query.follows.holds-at-none in
    let kept : Survives old new (CommitsShowing c.args.text.now [] old) = search rules in
    commits_nothing c.args.text.now c.requires old new kept

pub returns-in_err-rows-clause-kept : goal.returns-in_err-rows-clause-kept
returns-in_err-rows-clause-kept g c clean =
    let old = state g.S.Store c.args.conn.now in
    let new = state g.S.Store c.query.follows.lender-at-none in
    let failed : FailsToQuery c.args.text.now [] old new c.in_err-rows.field-0.0 = search rules in
    refused_keeps c.args.text.now c.requires old new _ failed

pub rows-init : goal.rows-init
rows-init g c =
    let made = c.in_ok-rows.ensures in
    (refl, commits_nothing c.args.text.now c.requires _ _ made.survives, made.mode, λ clean. let begun = begun_here c.args.text.now c.requires g.S.Store c.args.conn.now c.in_ok-rows.rows.conn.now (made.begun clean) in ([], begun.0, begun.1, λ _. ((tt, tt), λ _ _. tt), refl, tt, λ fell. absurd (false≢true (sym fell))))

pub returns-in_default-clause-rise : goal.returns-in_default-clause-rise
returns-in_default-clause-rise g c clean rise =
    let moved = c.next.follows.holds-at-none in
    let now = c.next.follows.lender-at-none.conn.now in
    let late : HasCleanDisk (state g.S.Store now) = search rules in
    let was = c.rows.invariant.3 (omega (arith, moved.survives.clean)) in
    let shown = (rw (c.in_ok-row.was, c.in_default.is) at (moved.ok late)) c.args.text.now [] was.0 was.1 in
    (was.0, shown_from c.args.text.now c.requires (state g.S.Store c.args.conn.now) (state g.S.Store c.rows.rows.conn.now) (state g.S.Store now) was.0 was.2 shown, (was.3 rise).0)

pub rows-preserved : goal.rows-preserved
rows-preserved g c =
    let moved = c.next.follows.holds-at-none in
    let old = state g.S.Store c.args.conn.now in
    let mid = state g.S.Store c.rows.rows.conn.now in
    let now = c.next.follows.lender-at-none.conn.now in (
      moved.same_reference ∙ c.rows.invariant.0,
      survives_both old mid (state g.S.Store now) c.rows.invariant.1 moved.survives,
      λ h. moved.mode (c.rows.invariant.2 h),
      λ clean.
          let was = c.rows.invariant.3 (omega (arith, moved.survives.clean)) in
          let gives = (rw (c.in_ok-row.was, c.in-Some.is) at (moved.ok clean)) c.args.text.now [] was.0 was.1 in
          let same = rw c.in_ok-row.was at (moved.same clean) in
          let number = to_z w64 (of_z w64 c.in_ok-number.number) in
          let fits : FitsSigned w64 c.in_ok-number.number = search rules in
          let its = c.in_ok-number.ensures.found ∙ ap Int (sym (to_z-of_z fits)) in (
            was.0 ++ c.in-Some.row.now ∷ [],
            gives,
            unchanged_then old mid (state g.S.Store now) was.2 same,
            λ rise.
                let both = and_parts c.rows.rise (is_after c.rows.last number) (sym c.still_rise-rise.ensures ∙ rise) in
                rise_more c.rows.last was.0 c.in-Some.row.now number its (ap fits_i64 (to_z-of_z fits) ∙ fits_column _ fits) both.1 (was.3 both.0),
            one_more was.0 c.in-Some.row.now c.rows._taken was.4,
            last_now was.0 c.in-Some.row.now number its,
            λ fell. falls_next c.args.text.now old.now c.rows.rise c.rows.last c.still_rise-rise.result was.0 c.in-Some.row.now number its c.still_rise-rise.ensures fell was.5
                (begins_since c.args.text.now c.requires g.S.Store old now (was.0 ++ c.in-Some.row.now ∷ []) (unchanged_then old mid (state g.S.Store now) was.2 same) gives) was.6,
          ),
    )

pub returns-in_err-rows-clause-why : goal.returns-in_err-rows-clause-why
returns-in_err-rows-clause-why g c clean =
    let old = state g.S.Store c.args.conn.now in
    let new = state g.S.Store c.query.follows.lender-at-none in
    let refused : FailsToQuery c.args.text.now [] old new c.in_err-rows.field-0.0 = search rules in
    let p = err_from_is_err_and c.from_residual.result c.from_residual.ensures.1 in
    rw (p.1, p.2) (query_caused c.args.text.now c.requires (RefusesRowids c.args.text.now old) old new c.in_err-rows.field-0.0 (λ why. inl why) refused)

pub returns-in_err-row-clause-why : goal.returns-in_err-row-clause-why
returns-in_err-row-clause-why g c clean =
    let moved = c.next.follows.holds-at-none in
    let old = state g.S.Store c.args.conn.now in
    let mid = state g.S.Store c.rows.rows.conn.now in
    let new = state g.S.Store c.next.follows.lender-at-none.conn.now in
    let late : HasCleanDisk new = search rules in
    let before : HasCleanDisk mid = omega (arith, moved.survives.clean) in
    let was = c.rows.invariant.3 before in
    let refused : FailsToQuery c.args.text.now [] mid new c.in_err-row.field-0.0 = (rw c.in_err-row.was at (moved.err late)) c.args.text.now [] was.0 was.1 in
    let same : c.next.follows.lender-at-none.conn.now ≡ c.conn-in_err-row-1.given.0 = search rules in
    let p = err_from_is_err_and c.from_residual-in_err-row.result c.from_residual-in_err-row.ensures.1 in
    rw (p.1, p.2) (subst (λ h. IsCaused (RefusesRowids c.args.text.now old) old (state g.S.Store h) c.in_err-row.field-0.0) same (next_caused c.args.text.now c.requires (RefusesRowids c.args.text.now old) old mid new (λ _. ⊥) c.in_err-row.field-0.0 c.rows.invariant.1 before moved.survives.counts was.2 (λ why. inl why) refused))

pub returns-in_err-number-clause-why : goal.returns-in_err-number-clause-why
returns-in_err-number-clause-why g c clean =
    let moved = c.next.follows.holds-at-none in
    let old = state g.S.Store c.args.conn.now in
    let mid = state g.S.Store c.rows.rows.conn.now in
    let now = c.next.follows.lender-at-none.conn.now in
    let new = state g.S.Store now in
    let late : HasCleanDisk new = search rules in
    let was = c.rows.invariant.3 (omega (arith, moved.survives.clean)) in
    let gives = (rw (c.in_ok-row.was, c.in-Some.is) at (moved.ok late)) c.args.text.now [] was.0 was.1 in
    let same = unchanged_then old mid new was.2 (rw c.in_ok-row.was at (moved.same late)) in
    let p = err_from_is_err_and c.from_residual-in_err-number.result c.from_residual-in_err-number.ensures.1 in
    rw (p.1, p.2) (rowid_caused c.args.text.now old (state g.S.Store c.conn-in_err-number-1.given.0) was.0 c.in-Some.row.now c.in_err-number.field-0.0 (begins_since c.args.text.now c.requires g.S.Store old now (was.0 ++ c.in-Some.row.now ∷ []) same gives) c.in_err-number.ensures.why)

pub returns-clause-why : goal.returns-clause-why
returns-clause-why g c clean =
    let old = state g.S.Store c.args.conn.now in
    let now = c.rows.rows.conn.now in
    let late : HasCleanDisk (state g.S.Store now) = search rules in
    let was = c.rows.invariant.3 late in
    rowids_end c.args.text.now old (state g.S.Store c.conn-2-1.given.0) was.0 (SqliteFailure TooBig) (begins_since c.args.text.now c.requires g.S.Store old now was.0 was.2 was.1) (omega (arith, was.4))

pub returns-in_default-clause-falls : goal.returns-in_default-clause-falls
returns-in_default-clause-falls g c clean fell =
    let moved = c.next.follows.holds-at-none in
    let late : HasCleanDisk (state g.S.Store c.next.follows.lender-at-none.conn.now) = search rules in
    (c.rows.invariant.3 (omega (arith, moved.survives.clean))).6 fell
