-- How expressions over one table of a schema are read, whatever else the schema has.
use Rattle.std.proofs.Common.{◌≡◌, ℕ, suc, ◌-◌, ◌^◌, List, [], ◌∷◌, Bool, true, false, nat_lt, Some, None, Ok, slice_get}
use Rattle.sqlite_value.specs.declared.keys.Collation.{Collation}
use Rattle.sqlite_sql.specs.declared.ops.BinaryOp.TheVariants.{Compare}
use Rattle.sqlite_sql.specs.declared.ops.BinaryOp.TheVariants as by
use Rattle.sqlite_sql.specs.declared.ops.CompareOp.TheVariants.{Eq}
use Rattle.sqlite_sql.specs.Term.{Term, col, op2}
use Rattle.sqlite_schema.specs.declared.schema.Schema.{Schema}
use Rattle.sqlite_schema.specs.declared.schema.Table.{Table}
use Rattle.sqlite_schema.specs.declared.schema.Column.{Column as Column'}
use Rattle.sqlite_schema.specs.Names.{column_named, place_of}
use Rattle.sqlite_ast.specs.declared.Expr.{Expr, out-Expr}
use Rattle.sqlite_ast.specs.declared.Expr.TheOpen.{Expr-F}
use Rattle.sqlite_ast.specs.declared.Binary.TheVariants as binary
use Rattle.sqlite_resolve.specs.declared.state.State.{State}
use Rattle.sqlite_resolve.specs.declared.state.Carried.{Carried}
use Rattle.sqlite_resolve.specs.declared.scope.Output.{Output}
use Rattle.sqlite_resolve.specs.declared.scope.Level.{Level}
use Rattle.sqlite_resolve.specs.Lowering.{begin, finish, spend, either, nothing, chosen, written_or}
use Rattle.sqlite_resolve.specs.Scope.{Name, Context, column, find as sought, in_level, only, hit, column_in, rowid_in, is_rowid, term_of, column_at, declared, is_among}
use Rattle.sqlite_resolve.specs.Compare.{compared}
use Rattle.sqlite_resolve.specs.Expr.{lower_to, node, opened, passes, operation, both, combine, wanted_truth, tests_truth, tests_alias}

-- what an expression leaves, after a step of the budget
abbrev pub after : State → Carried → State
after s last = record s { budget = s.budget - 1; written = either s.written None; last = last }

-- what a name finds in a table: a column, or the rowid
abbrev pub IsFoundAs : Bool → Table → Name → ℕ → Column' → Type 0
IsFoundAs false table name k c = (column_named table name ≡ Some k) × (slice_get table.columns k ≡ Some c)
IsFoundAs true table name k c = (column_named table name ≡ None) × (is_rowid name ≡ true) × (nat_lt table.tree (2 ^ 31) ≡ true)

abbrev pub term_as : Bool → Table → ℕ → Term
term_as false table k = col 1 (place_of table k)
term_as true table k = col 1 0

abbrev pub carried_as : Bool → Table → ℕ → Column' → Carried
carried_as false table k c = declared table k c
carried_as true table k c = nothing

module _ (schema : Schema) (at : ℕ) (table : Table) (stands : slice_get schema.tables at ≡ Some table) (owner : Name) (shown : List Output) (may_aggregate may_alias : Bool) where
  abbrev pub level : Level
  level = record { tables = record { name = owner; table = at; slot = 1; shared = [] } ∷ []; shown = shown }

  abbrev pub over : Context
  over = record { schema = schema; levels = level ∷ []; may_aggregate = may_aggregate; may_alias = may_alias }

  column_is : (name : Name) (k : ℕ) (c : Column') → column_named table name ≡ Some k → slice_get table.columns k ≡ Some c → (s : State)
      → column over None name s ≡ Ok (col 1 (place_of table k), record s { last = declared table k c })
  unfolding column sought in_level only hit column_in term_of column_at is_among
  column_is name k c named there s = rw (stands, named, stands, there)

  rowid_is : (name : Name) → column_named table name ≡ None → is_rowid name ≡ true → nat_lt table.tree (2 ^ 31) ≡ true → (s : State) → column over None name s ≡ Ok (col 1 0, record s { last = nothing })
  unfolding column sought in_level only hit column_in rowid_in term_of is_among
  rowid_is name unnamed is low s = rw (stands, unnamed, is, low)

  -- a column, or the rowid if no column has its name
  found_is : (by_rowid : Bool) (name : Name) (k : ℕ) (c : Column') → IsFoundAs by_rowid table name k c → (s : State) → column over None name s ≡ Ok (term_as by_rowid table k, record s { last = carried_as by_rowid table k c })
  found_is false name k c h s = column_is name k c h.0 h.1 s
  found_is true name k c h s = rowid_is name h.0 h.1 h.2 s

  pub found_lowered : (e : Expr) (by_rowid : Bool) (name : Name) (k : ℕ) (c : Column') → out-Expr e ≡ Expr-F.Column None name → IsFoundAs by_rowid table name k c
      → (depth : ℕ) (s : State) → nat_lt 1 s.budget ≡ true → lower_to (suc depth) over e s ≡ Ok (term_as by_rowid table k, after s (carried_as by_rowid table k c))
  unfolding lower_to node opened passes begin finish spend
  found_lowered e by_rowid name k c is found depth s left = rw (left, is, found_is by_rowid name k c found (record s { budget = s.budget - 1; written = None; last = nothing }))

  pub column_lowered : (e : Expr) (name : Name) (k : ℕ) (c : Column') → out-Expr e ≡ Expr-F.Column None name → column_named table name ≡ Some k → slice_get table.columns k ≡ Some c
      → (depth : ℕ) (s : State) → nat_lt 1 s.budget ≡ true → lower_to (suc depth) over e s ≡ Ok (col 1 (place_of table k), after s (declared table k c))
  unfolding lower_to node opened passes begin finish spend
  column_lowered e name k c is named there depth s left = rw (left, is, column_is name k c named there)

  pub parameter_lowered : (e : Expr) (n : ℕ) → out-Expr e ≡ Expr-F.Parameter n → (depth : ℕ) (s : State) → nat_lt 1 s.budget ≡ true
      → lower_to (suc depth) over e s ≡ Ok (col 0 (n - 1), after s nothing)
  unfolding lower_to node opened passes begin finish spend
  parameter_lowered e n is depth s left = rw (left, is)

  -- a column equals a parameter, to which its type does nothing
  pub equality_lowered : (e a b : Expr) (name : Name) (k n : ℕ) (c : Column') (how : Collation) → out-Expr e ≡ Expr-F.Binary binary.Eq a b → out-Expr a ≡ Expr-F.Column None name → out-Expr b ≡ Expr-F.Parameter n
      → column_named table name ≡ Some k → slice_get table.columns k ≡ Some c → chosen (declared table k c) nothing ≡ how
      → compared over (Compare Eq how) (col 1 (place_of table k)) (col 0 (n - 1)) ≡ op2 (Compare Eq how) (col 1 (place_of table k)) (col 0 (n - 1))
      → (depth : ℕ) (s : State) → nat_lt 1 s.budget ≡ true → nat_lt 1 (s.budget - 1) ≡ true → nat_lt 1 (s.budget - 1 - 1) ≡ true
      → lower_to (suc (suc depth)) over e s ≡ Ok (op2 (Compare Eq how) (col 1 (place_of table k)) (col 0 (n - 1)), record s { budget = s.budget - 1 - 1 - 1; written = either s.written None; last = nothing })
  unfolding lower_to node opened passes begin finish spend operation both combine wanted_truth tests_truth tests_alias
  equality_lowered e a b name k n c how is left right named there by plain depth s one two three =
      rw (
        one,
        is,
        column_lowered a name k c left named there depth (record s { budget = s.budget - 1; written = None; last = nothing }) two,
        parameter_lowered b n right depth (record s { budget = s.budget - 1 - 1; written = None; last = declared table k c }) three,
        by,
        plain,
      )

  -- both of two tests
  pub both_lowered : (e a b : Expr) (x y : Term) (s first next : State) → out-Expr e ≡ Expr-F.Binary binary.And a b → (depth : ℕ) → nat_lt 1 s.budget ≡ true
      → lower_to depth over a (record s { budget = s.budget - 1; written = None; last = nothing }) ≡ Ok (x, first) → lower_to depth over b first ≡ Ok (y, next)
      → lower_to (suc depth) over e s ≡ Ok (op2 by.And x y, record next { written = either s.written next.written; last = written_or next.written nothing })
  unfolding lower_to node opened passes begin finish spend operation both combine wanted_truth tests_truth tests_alias
  both_lowered e a b x y s first next is depth left one two = rw (left, is, one, two)
