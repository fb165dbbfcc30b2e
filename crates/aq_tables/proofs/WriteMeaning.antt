-- What a DELETE by the columns of a key and an INSERT of one row mean under any schema that has the table.
use Rattle.std.proofs.Common.{◌≡◌, ℕ, suc, ◌+◌, ◌-◌, List, [], ◌∷◌, true, false, nat_lt, Some, None, Ok, refl, subst, slice_get}
use Rattle.sqlite.specs.Collation.TheVariants.{Binary}
use Rattle.sqlite.specs.Command.TheVariants.{Insert, Delete}
use Rattle.sqlite.specs.Schema.{Schema}
use Rattle.sqlite.specs.Source.TheVariants.{Values}
use Rattle.sqlite.specs.Table.{Table}
use Rattle.sqlite.specs.Term.{Term, col, op2}
use Rattle.sqlite_sql.specs.declared.ops.BinaryOp.TheVariants.{Compare}
use Rattle.sqlite_sql.specs.declared.ops.BinaryOp.TheVariants as by
use Rattle.sqlite_sql.specs.declared.ops.CompareOp.TheVariants.{Eq}
use Rattle.sqlite_ast.specs.declared.Binary.{Binary as Joint}
use Rattle.sqlite_ast.specs.declared.Binary.TheVariants as binary
use Rattle.sqlite_ast.specs.declared.Conflict.TheVariants as conflict
use Rattle.sqlite_ast.specs.declared.Expr.{Expr, out-Expr}
use Rattle.sqlite_ast.specs.declared.Expr.TheOpen.{Expr-F}
use Rattle.sqlite_ast.specs.declared.Expr.TheVariants as written_as
use Rattle.sqlite_ast.specs.declared.Statement.TheVariants as written
use Rattle.sqlite_schema.specs.Names.{column_named, place_of}
use Rattle.sqlite_schema.specs.declared.schema.Column.{Column}
use Rattle.sqlite_syntax.specs.declared.statement.Parsed.{Parsed}
use Rattle.sqlite_resolve.specs.declared.state.State.{State}
use Rattle.sqlite_resolve.specs.Body.{tests}
use Rattle.sqlite_resolve.specs.Compare.{compared}
use Rattle.sqlite_resolve.specs.Compile.{first, new_rows, small}
use Rattle.sqlite_resolve.specs.Expr.{lower, lower_to}
use Rattle.sqlite_resolve.specs.Lowering.{fresh, max_budget, nothing, chosen}
use Rattle.sqlite_resolve.specs.Program.{program}
use Rattle.sqlite_resolve.specs.Scope.{Context, declared}
use Rattle.sqlite_resolve.specs.Terms.{conjuncts}
use Rattle.sqlite_resolve.specs.Write.{deleted, picked}
use Rattle.sqlite_draft.specs.declared.query.Draft.{Draft}
use Rattle.sqlite_tied.specs.Compute.{everything}
use Rattle.aq_tables.specs.Forms.{Form, table_of}
use Rattle.aq_tables.specs.Standing.{Stands}
use Rattle.aq_tables.proofs.Lowered.{equality_lowered, both_lowered, over}
use Rattle.aq_tables.proofs.ReadMeaning.{scan_draft}
use Rattle.aq_tables.proofs.Parsing.{or_empty, columns_in, rows_in, Means, means}
use Rattle.aq_tables.proofs.Resolving.{insert_compiled, delete_compiled}
use Rattle.aq_tables.proofs.Scans.{scan}

-- a column that a parameter equals
pub record Tested : Type 0 where
  pub at : ℕ
  pub parameter : ℕ
  pub column : Column

abbrev column_of : Tested → Expr
column_of k = written_as.Column None k.column.name

abbrev parameter_of : Tested → Expr
parameter_of k = written_as.Parameter k.parameter

abbrev test_on : Tested → Expr
test_on k = written_as.Binary binary.Eq (column_of k) (parameter_of k)

-- a test and those before it: AND leans left
abbrev test_of : Tested → List Tested → Expr
test_of k [] = test_on k
test_of k (j ∷ js) = written_as.Binary binary.And (test_of j js) (test_on k)

abbrev term_on : Table → Tested → Term
term_on table k = op2 (Compare Eq Binary) (col 1 (place_of table k.at)) (col 0 (k.parameter - 1))

abbrev term_of : Table → Tested → List Tested → Term
term_of table k [] = term_on table k
term_of table k (j ∷ js) = op2 by.And (term_of table j js) (term_on table k)

-- what is left of the budget, and that it is enough
abbrev spent : List Tested → ℕ → ℕ
spent [] b = b - 1 - 1 - 1
spent (j ∷ js) b = spent js (b - 1) - 1 - 1 - 1

abbrev MayTest : ℕ → Type 0
MayTest b = (nat_lt 1 b ≡ true) × (nat_lt 1 (b - 1) ≡ true) × (nat_lt 1 (b - 1 - 1) ≡ true)

abbrev MaySpend : List Tested → ℕ → Type 0
MaySpend [] b = MayTest b
MaySpend (j ∷ js) b = (nat_lt 1 b ≡ true) × MaySpend js (b - 1) × MayTest (spent js (b - 1))

abbrev deeper : List Tested → ℕ → ℕ
deeper [] depth = depth
deeper (j ∷ js) depth = suc (deeper js depth)

pub record IsTested (table : Table) (k : Tested) : Type 0 where
  pub named : column_named table k.column.name ≡ Some k.at
  pub there : slice_get table.columns k.at ≡ Some k.column
  pub binary : chosen (declared table k.at k.column) nothing ≡ Binary

abbrev pub AreTested : Table → List Tested → Type 0
AreTested table [] = Unit {0}
AreTested table (k ∷ ks) = IsTested table k × AreTested table ks

both_parts : (op : Joint) (a b : Expr) → out-Expr (written_as.Binary op a b) ≡ Expr-F.Binary op a b
unfolding everything
both_parts op a b = refl

column_parts : (k : Tested) → out-Expr (column_of k) ≡ Expr-F.Column None k.column.name
unfolding everything
column_parts k = refl

parameter_parts : (k : Tested) → out-Expr (parameter_of k) ≡ Expr-F.Parameter k.parameter
unfolding everything
parameter_parts k = refl

module _ (schema : Schema) (at : ℕ) (form : Form) (tree : ℕ) (stands : slice_get schema.tables at ≡ Some (table_of form tree)) where
  abbrev table : Table
  table = table_of form tree

  abbrev cx : Context
  cx = over schema at table stands form.name [] false true

  -- each column is compared as it is
  abbrev pub ArePlain : List Tested → Type 0
  ArePlain [] = Unit {0}
  ArePlain (k ∷ ks) = (compared cx (Compare Eq Binary) (col 1 (place_of table k.at)) (col 0 (k.parameter - 1)) ≡ term_on table k) × ArePlain ks

  abbrev with : State → ℕ → State
  with s b = record s { budget = b; written = None; last = nothing }

  one_lowered : (k : Tested) → IsTested table k → ArePlain (k ∷ []) → (depth b : ℕ) (s : State) → MayTest b → lower_to (suc (suc depth)) cx (test_on k) (with s b) ≡ Ok (term_on table k, with s (spent [] b))
  one_lowered k is plain depth b s may =
      equality_lowered schema at table stands form.name [] false true (test_on k) (column_of k) (parameter_of k) k.column.name k.at k.parameter k.column Binary (both_parts binary.Eq (column_of k) (parameter_of k)) (column_parts k) (parameter_parts k)
      is.named is.there is.binary plain.0 depth (with s b) may.0 may.1 may.2

  tests_lowered : (k : Tested) (ks : List Tested) → AreTested table (k ∷ ks) → ArePlain (k ∷ ks) → (depth b : ℕ) (s : State) → MaySpend ks b
      → lower_to (suc (suc (deeper ks depth))) cx (test_of k ks) (with s b) ≡ Ok (term_of table k ks, with s (spent ks b))
  tests_lowered k [] are plain depth b s may = one_lowered k are.0 (plain.0, tt) depth b s may
  tests_lowered k (j ∷ js) are plain depth b s may =
      both_lowered schema at table stands form.name [] false true (test_of k (j ∷ js)) (test_of j js) (test_on k) (term_of table j js) (term_on table k) (with s b) (with s (spent js (b - 1))) (with s (spent (j ∷ js) b)) (both_parts binary.And (test_of j js) (test_on k))
      (suc (suc (deeper js depth))) may.0 (tests_lowered j js are.1 plain.1 depth (b - 1) s may.1) (one_lowered k are.0 (plain.0, tt) (deeper js depth) (spent js (b - 1)) s may.2)

-- ---- DELETE

module _ (form : Form) (text : List ℕ) (k : Tested) (ks : List Tested) (terms : List Term) where
  abbrev drop_parsed : Parsed
  drop_parsed = or_empty (first text)

  abbrev drop_draft : ℕ → Draft
  drop_draft tree = scan_draft tree terms (col 1 0 ∷ []) []

  -- a text drops the rows of a table with these values in those columns, the last of which is k
  pub record IsDropText : Type 0 where
    pub reads : first text ≡ Ok drop_parsed
    pub statement : drop_parsed.statement ≡ written.Delete form.name (Some (test_of k ks)) []
    pub formats : drop_parsed.formats ≡ []
    pub depth : ℕ
    pub deep : suc (suc (deeper ks depth)) ≡ 700
    pub may : MaySpend ks max_budget
    pub tested : (tree : ℕ) → AreTested (table_of form tree) (k ∷ ks)
    pub splits : (tree : ℕ) → conjuncts (term_of (table_of form tree) k ks) ≡ terms

  module _ (is : IsDropText) (schema : Schema) (at tree : ℕ) (stands : Stands schema form at tree) (plain : ArePlain schema at form tree stands.has.stands (k ∷ ks))
      (typed : program schema [] (drop_draft tree) ≡ Ok (record { lets = []; body = scan tree terms (col 1 0 ∷ []) [] })) where
    lowered : lower (over schema at (table_of form tree) stands.has.stands form.name [] false true) (test_of k ks) (fresh 2 max_budget) ≡ Ok (term_of (table_of form tree) k ks, record (fresh 2 max_budget) { budget = spent ks max_budget })
    lowered =
        subst (λ n. lower_to n (over schema at (table_of form tree) stands.has.stands form.name [] false true) (test_of k ks) (fresh 2 max_budget) ≡ Ok (term_of (table_of form tree) k ks, record (fresh 2 max_budget) { budget = spent ks max_budget })) is.deep
        (tests_lowered schema at form tree stands.has.stands k ks (is.tested tree) plain is.depth max_budget (fresh 2 max_budget) is.may)

    drafted : deleted schema at (table_of form tree) (Some (test_of k ks)) ≡ Ok (drop_draft tree)
    unfolding deleted picked tests
    drafted = rw (lowered, is.splits tree)

    pub drop_means : Means schema text (Delete at (record { lets = []; body = scan tree terms (col 1 0 ∷ []) [] }))
    drop_means =
        means schema text drop_parsed _ (delete_compiled schema form.name at (table_of form tree) stands.has text drop_parsed (Some (test_of k ks)) (drop_draft tree) _ is.reads is.statement is.formats drafted typed)

-- ---- INSERT

module _ (form : Form) (text : List ℕ) (terms : List Term) (width : ℕ) where
  abbrev put_parsed : Parsed
  put_parsed = or_empty (first text)

  -- a text puts these values into a table
  pub record IsPutText : Type 0 where
    pub reads : first text ≡ Ok put_parsed
    pub statement : put_parsed.statement ≡ written.Insert conflict.Abort form.name (columns_in put_parsed.statement) (rows_in put_parsed.statement) [] []
    pub formats : put_parsed.formats ≡ []
    pub new : (schema : Schema) (tree : ℕ) → new_rows schema (table_of form tree) (small put_parsed.names + 0) (columns_in put_parsed.statement) (rows_in put_parsed.statement) ≡ Ok (Values terms width)

  pub put_means : IsPutText → (schema : Schema) (at tree : ℕ) → Stands schema form at tree → Means schema text (Insert at (Values terms width))
  put_means is schema at tree stands = means schema text put_parsed _ (insert_compiled schema form.name at (table_of form tree) stands.has text put_parsed _ _ _ is.reads is.statement is.formats (is.new schema tree))
