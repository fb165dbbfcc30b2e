-- Why a database is not prepared.
use Rattle.std.specs.Prelude.{◌≡◌, ◌⊎◌, Bool, true, false, ℕ, List, [], ◌∷◌, ◌++◌, Some, map}
use Rattle.sqlite_trees.specs.declared.store.Store.{Ghosts}
use Rattle.sqlite_trees.specs.View.{is_int}
use Rattle.sqlite_value.specs.Order.{column}
use Rattle.sqlite_rules.specs.Edit.{id_in}
use Rattle.sqlite.specs.declared.error.Error.{Error}
use Rattle.sqlite.specs.Order.{Row}
use Rattle.sqlite.specs.Effect.{Database}
use Rattle.sqlite.specs.State.{State}
use Rattle.sqlite.specs.Held.{Held, state}
use Rattle.aq_rules.specs.Kept.Rows as the_rows
use Rattle.aq_rules.specs.Kept.Rows.{ObsRow2, OfSecondRow}
use Rattle.aq_tables.specs.declared.missing.Missing.{Missing}
use Rattle.aq_tables.specs.declared.reading.Table.{Table as Which}
use Rattle.aq_tables.specs.declared.reading.Table.TheVariants.{Records, Observations, Loads, Second, Third}
use Rattle.aq_tables.specs.Told.{Runs, second}
use Rattle.aq_tables.specs.Texts.{drop_second_text, make_loads_text, make_records_text, make_third_text, read_text, rowids_text, view_text}
use Rattle.aq_tables.specs.Rowids.{is_after}
use Rattle.aq_tables.specs.All.{rows_in}
use Rattle.aq_tables.specs.Made.{AreMissing, IsOffice}
use Rattle.aq_tables.specs.Moves.{DropsSecond, MakesFirst}
use Rattle.aq_tables.specs.Sixteen.{AreNumbered, MovesAll}
use Rattle.aq_tables.specs.Why.{Begins, IsEndless, IsUnfit, Refuses, RefusesAnswer, RefusesPut, RefusesPuts, RefusesRead}

-- ---- the rowids of a table

-- an answer shows a row that begins with no number
abbrev pub ShowsNoRowid : List ℕ → Database → Type 0
ShowsNoRowid text db = (rows : List Row) × (row : Row) × Begins text db (rows ++ row ∷ []) × IsUnfit is_int row 0

-- it shows a row whose number is not above that of the row before
abbrev pub DoesNotRise : List ℕ → Database → Type 0
DoesNotRise text db = (rows : List Row) × (last : Row) × (next : Row) × Begins text db ((rows ++ last ∷ []) ++ next ∷ []) × (is_after (Some (id_in (column last 0))) (id_in (column next 0)) ≡ false)

-- the rowids of a table are not read, or do not rise
abbrev pub RefusesRowids : List ℕ → State → Error → Type 0
RefusesRowids text s e = RefusesRead text s.step_limit s.now e ⊎ (ShowsNoRowid text s.now ⊎ (IsEndless text s.now ⊎ DoesNotRise text s.now))

-- ---- rows are moved

-- a row is no observation, or is not put
abbrev pub RefusesMove : the_rows.Row → State → Error → Type 0
RefusesMove row s e = ((it : ObsRow2) → row ≡ OfSecondRow it → ⊥) ⊎ ((it : ObsRow2) × (row ≡ OfSecondRow it) × RefusesPut true (OfSecondRow it) s e)

-- one row, or sixteen
abbrev pub RefusesSomeMoved : List the_rows.Row → State → Error → Type 0
RefusesSomeMoved some s e =
    ((found : List ObsRow2) × (some ≡ map OfSecondRow found) × AreNumbered found × RefusesPuts found s e)
    ⊎ ((row : the_rows.Row) × (some ≡ row ∷ []) × RefusesMove row s e)

abbrev pub is_missing_in : Missing → Which → Bool
is_missing_in missing Records = missing.records
is_missing_in missing Observations = missing.observations
is_missing_in missing Loads = missing.loads
is_missing_in missing Second = missing.second
is_missing_in missing Third = missing.third

module _ {S : Type 0} (g : Ghosts S) where
  -- the rows before were moved, and these are refused
  pub record RefusesMoves (rows : List the_rows.Row) (old : Held S) (e : Error) : Type 0 where
    pub before : List the_rows.Row
    pub some : List the_rows.Row
    pub after : List the_rows.Row
    pub are : before ++ some ++ after ≡ rows
    pub mid : Held S
    pub limit : mid.step_limit ≡ old.step_limit
    pub made : MovesAll before (state g old) (state g mid)
    pub refused : RefusesSomeMoved some (state g mid) e

  -- ---- tables are made: a statement is refused, behind those that were run

  abbrev pub RefusesFirst : Held S → Error → Type 0
  RefusesFirst old e =
      Refuses make_records_text [] (state g old) e
      ⊎ ((mid : Held S) × (mid.step_limit ≡ old.step_limit) × Runs make_records_text [] (state g old) (state g mid) × Refuses make_loads_text [] (state g mid) e)

  abbrev pub RefusesView : Bool → Held S → Error → Type 0
  RefusesView is_missing old e =
      ((is_missing ≡ false) × Refuses drop_second_text [] (state g old) e)
      ⊎ ((mid : Held S) × (mid.step_limit ≡ old.step_limit) × DropsSecond is_missing (state g old) (state g mid) × Refuses view_text [] (state g mid) e)

  abbrev pub RefusesThird : Bool → List the_rows.Row → Held S → Error → Type 0
  RefusesThird is_missing rows old e =
      RefusesMoves rows old e
      ⊎ ((mid : Held S) × (mid.step_limit ≡ old.step_limit) × MovesAll rows (state g old) (state g mid) × RefusesView is_missing mid e)

  abbrev pub RefusesMaking : Missing → List the_rows.Row → Held S → Error → Type 0
  RefusesMaking missing rows old e =
      ((missing.records ≡ true) × RefusesFirst old e)
      ⊎ ((one : Held S) × (one.step_limit ≡ old.step_limit) × MakesFirst missing.records (state g old) (state g one)
      × (Refuses make_third_text [] (state g one) e
      ⊎ ((two : Held S) × (two.step_limit ≡ one.step_limit) × Runs make_third_text [] (state g one) (state g two) × RefusesThird missing.second rows two e)))

  -- of the tables that stand one is not read, or those that are missing are not made
  abbrev pub RefusesOffice : Missing → Held S → Error → Type 0
  RefusesOffice missing old e =
      ((table : Which) × (is_missing_in missing table ≡ false) × RefusesRowids (rowids_text table) (state g old) e)
      ⊎ (((missing.second ≡ false) × RefusesAnswer Second (read_text Second) (state g old) e)
      ⊎ ((missing.third ≡ true) × (rows : List the_rows.Row) × (mid : Held S) × (mid.step_limit ≡ old.step_limit) × ((state g mid).now ≡ (state g old).now)
      × (rows ≡ rows_in second (state g mid).now) × RefusesMaking missing rows (record mid { in_transaction = true }) e))

  -- the database is neither an office's nor nobody's, or it is refused as an office's
  abbrev pub RefusesFile : Held S → Error → Type 0
  RefusesFile old e = (IsOffice old.schema → ⊥) ⊎ ((missing : Missing) × AreMissing missing old.schema × RefusesOffice missing old e)
