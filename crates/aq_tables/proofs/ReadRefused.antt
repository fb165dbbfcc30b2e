-- What a read is refused for.
use Rattle.std.proofs.Common.{◌≡◌, ◌⊎◌, ◌^◌, ◌-◌, ◌≤◌, inl, inr, ℕ, zero, suc, ◌+◌, List, [], ◌∷◌, ◌++◌, Bool, slice_get, Option, Some, None, IsTrue, length, subst, arith}
use Rattle.sqlite_resolve.specs.declared.compiled.Compiled.{Compiled}
use Rattle.sqlite.specs.declared.error.Error.{Error}
use Rattle.sqlite.specs.declared.error.Error.TheVariants.{SqliteFailure}
use Rattle.sqlite.specs.declared.error.ErrorCode.TheVariants.{OutOfMemory}
use Rattle.sqlite.specs.declared.types.Value.{Value}
use Rattle.sqlite.specs.Order.{Row}
use Rattle.sqlite.specs.Tree.{Trees}
use Rattle.sqlite.specs.Clock.{timed}
use Rattle.sqlite.specs.Effect.{Database, ReadsFirst}
use Rattle.sqlite.specs.State.{State, FailsToQuery, FailsToShow, HasCleanDisk, IsNoStatement, IsNotRun, IsUnchanged, Survives}
use Rattle.sqlite.specs.State as kit
use Rattle.sqlite.specs.Given.{HasGiven}
use Rattle.sqlite.specs.Held.{Held, state}
use Rattle.sqlite.proofs.Callers.{given_begin}
use Rattle.sqlite_trees.specs.declared.store.Store.{Ghosts}
use Rattle.sqlite_trees.specs.View.{is_int}
use Rattle.aq_tables.specs.WhyMade.{RefusesRowids}
use Rattle.aq_tables.specs.Queries.{IsBareText}
use Rattle.aq_tables.specs.declared.reading.Table.{Table as Which}
use Rattle.aq_tables.specs.Texts.{read_text}
use Rattle.aq_tables.specs.Why.{Begins, IsCaused, IsEndless, IsOther, IsUnfit, OrBegun, RefusesAnswer, RefusesRead, RefusesRows, ShowsOther, is_read, kinds_of}
use Rattle.aq_tables.proofs.Causes.{caused_as, caused_later, failed}

-- what is refused in a state that sees the same is refused in this one
pub answer_since : (table : Which) (text : List ℕ) (s mid : State) (e : Error) → mid.now ≡ s.now → mid.step_limit ≡ s.step_limit → RefusesAnswer table text mid e → RefusesAnswer table text s e
answer_since table text s mid e now limit h =
    subst (λ (l : Option ℕ). RefusesRead text l s.now e ⊎ (ShowsOther table text s.now ⊎ IsEndless text s.now)) limit
    (subst (λ (db : Database). RefusesRead text mid.step_limit db e ⊎ (ShowsOther table text db ⊎ IsEndless text db)) now h)

-- one of the tables is not read
pub rows_refused : (table : Which) (s new : State) (e : Error) → IsTrue (is_read s.now.schema table) → IsCaused (RefusesAnswer table (read_text table) s) s new e → IsCaused (RefusesRows s) s new e
rows_refused table s new e there h = caused_as (RefusesAnswer table (read_text table) s) (RefusesRows s) s new e (λ why. (table, there, why)) h

-- the same behind others that were
pub rows_since : (s mid new : State) (X : Trees → Type 0) (e : Error) → Survives s mid X → HasCleanDisk mid → mid.faults ≤ new.faults → mid.now ≡ s.now
    → IsCaused (RefusesRows mid) mid new e → IsCaused (OrBegun s (RefusesRows s)) s new e
rows_since s mid new X e kept clean up now h =
    caused_later (RefusesRows mid) (OrBegun s (RefusesRows s)) s mid new X e kept clean up (λ why.
    inr (why.0, subst (λ (db : Database). IsTrue (is_read db.schema why.0)) now why.1, answer_since why.0 (read_text why.0) s mid e now kept.limit why.2)) h

-- a column of an answer is of another kind than its table's
pub unfit_at : (table : Which) (at : ℕ) (fits : Value → Bool) (row : Row) (e : Error) → slice_get (kinds_of table) at ≡ Some fits → (e ≡ SqliteFailure OutOfMemory) ⊎ IsUnfit fits row at → (e ≡ SqliteFailure OutOfMemory) ⊎ IsOther table row
unfit_at table at fits row e is (inl memory) = inl memory
unfit_at table at fits row e is (inr unfit) = inr (at, fits, is, unfit)

pub one_more : {X : Type 0} (xs : List X) (x : X) (count : ℕ) → length xs ≡ count → length (xs ++ x ∷ []) ≡ count + 1
one_more [] x count is = omega (arith, is)
one_more (y ∷ xs) x zero is = absurd (omega (arith, is))
one_more (y ∷ xs) x (suc count) is = let less : length xs ≡ count = omega (arith, is) in let more = one_more xs x count less in omega (arith, more)

module _ (text : List ℕ) (bare : IsBareText text) where
  not_read : (s : State) (e : Error) → IsNoStatement s text [] e → RefusesRead text s.step_limit s.now e
  not_read s e (inl none) = inl (none.0, none.1)
  not_read s e (inr (c, is, inl long)) = inr (c, is, inl long.0)
  not_read s e (inr (c, is, inr (inl many))) = inr (c, is, inr (inl many.0))
  not_read s e (inr (c, is, inr (inr times))) = absurd (times.0 (bare s.now.schema c is).1)

  not_shown : (old new : State) (e : Error) (c : Compiled) (it : kit.IsStatement old text [] c) → FailsToShow old new text c (timed [] c.formats it.now) e c.returning → RefusesRead text old.step_limit old.now e
  not_shown old new e c it h =
      let plain = bare old.now.schema c it.is in
      let shown = subst (λ fs. FailsToShow old new text c (timed [] fs it.now) e None) plain.1 (subst (FailsToShow old new text c (timed [] c.formats it.now) e) plain.0 h) in
      inr (c, it.is, inr (inr (shown.0, shown.1, shown.2)))

  -- a query is refused
  pub query_caused : (Q : Error → Type 0) (old new : State) (e : Error) → (RefusesRead text old.step_limit old.now e → Q e) → FailsToQuery text [] old new e → IsCaused Q old new e
  unfolding FailsToQuery IsNotRun
  query_caused Q old new e f (inl (inl none)) = inr (inr (inr (f (not_read old e none.0))))
  query_caused Q old new e f (inl (inr fails)) = failed Q old new ⊥ e (λ none. absurd none) fails
  query_caused Q old new e f (inr h) = inr (inr (inr (f (not_shown old new e h.0 h.1 h.2))))

  -- the next row is refused
  pub next_caused : (Q : Error → Type 0) (s mid new : State) (X : Trees → Type 0) (e : Error) → Survives s mid X → HasCleanDisk mid → mid.faults ≤ new.faults → IsUnchanged s mid → (RefusesRead text s.step_limit s.now e → Q e)
      → FailsToQuery text [] mid new e → IsCaused Q s new e
  next_caused Q s mid new X e kept clean up same f h =
      caused_later (RefusesRead text s.step_limit s.now) Q s mid new X e kept clean up f
      (query_caused (RefusesRead text s.step_limit s.now) mid new e (λ why. subst (λ (l : Option ℕ). RefusesRead text l s.now e) kept.limit (subst (λ (db : Database). RefusesRead text mid.step_limit db e) same.0.now_is why)) h)

  begins_in : (s : State) (rows : List Row) → kit.Begins text [] s rows → Begins text s.now rows
  unfolding kit.Begins
  begins_in s rows (c, it, none, db, source, first) =
      (c, it.is, db, source, subst (λ fs. ReadsFirst c.command db (timed [] fs it.now) rows) (bare s.now.schema c it.is).1 first)

  -- rows that are given begin an answer of what stood at the beginning
  pub begins_since : {S : Type 0} (g : Ghosts S) (s : State) (mid : Held S) (rows : List Row) → IsUnchanged s (state g mid) → HasGiven g text [] mid rows → Begins text s.now rows
  begins_since g s mid rows same given = subst (λ (db : Database). Begins text db rows) same.0.now_is (begins_in (state g mid) rows (given_begin g text [] mid rows given))

-- a row is shown that is none of the table's, or memory is wanting
pub row_caused : (table : Which) (text : List ℕ) (s new : State) (given : List Row) (row : Row) (e : Error) → Begins text s.now (given ++ row ∷ []) → (e ≡ SqliteFailure OutOfMemory) ⊎ IsOther table row → IsCaused (RefusesAnswer table text s) s new e
row_caused table text s new given row e begun (inl is) = inl is
row_caused table text s new given row e begun (inr other) = inr (inr (inr (inr (inl (given, row, begun, other)))))

-- the rows do not end
pub end_caused : (table : Which) (text : List ℕ) (s new : State) (given : List Row) (e : Error) → Begins text s.now given → length given ≡ 2 ^ 64 - 1 → IsCaused (RefusesAnswer table text s) s new e
end_caused table text s new given e begun many = inr (inr (inr (inr (inr (given, begun, many)))))

-- ---- rowids

pub rowid_caused : (text : List ℕ) (s new : State) (given : List Row) (row : Row) (e : Error) → Begins text s.now (given ++ row ∷ []) → (e ≡ SqliteFailure OutOfMemory) ⊎ IsUnfit is_int row 0 → IsCaused (RefusesRowids text s) s new e
rowid_caused text s new given row e begun (inl is) = inl is
rowid_caused text s new given row e begun (inr unfit) = inr (inr (inr (inr (inl (given, row, begun, unfit)))))

pub rowids_end : (text : List ℕ) (s new : State) (given : List Row) (e : Error) → Begins text s.now given → length given ≡ 2 ^ 64 - 1 → IsCaused (RefusesRowids text s) s new e
rowids_end text s new given e begun many = inr (inr (inr (inr (inr (inl (given, begun, many))))))
