-- What a DELETE and an INSERT make of the trees, each as one edit of the table.
use Rattle.std.proofs.Common.{◌≡◌, ◌⊎◌, inl, inr, ℕ, List, [], Some, None, Ok, Err, Result, ap, ◌∙◌, slice_get}
use Rattle.sqlite.specs.Order.{Row}
use Rattle.sqlite.specs.Table.{Table}
use Rattle.sqlite.specs.Tree.{Trees}
use Rattle.sqlite.specs.Source.{Source}
use Rattle.sqlite.specs.Command.TheVariants.{Insert, Delete}
use Rattle.sqlite_schema.specs.declared.program.Program.{Program}
use Rattle.sqlite_schema.specs.declared.schema.Keys.TheVariants.{Enforced}
use Rattle.sqlite.specs.Rowids.TheVariants.{Chosen, Given}
use Rattle.sqlite_rules.specs.Edit.{edit_of}
use Rattle.sqlite_rules.specs.Action as action
use Rattle.sqlite_rules.specs.Calls.{ids_of}
use Rattle.sqlite.specs.Effect.{Database, Answers, IsSource}
use Rattle.sqlite.specs.Does.{Tally}
use Rattle.sqlite.specs.Rows.{Written, stamped}
use Rattle.sqlite.specs.State.{State, Writes}
use Rattle.aq_tables.specs.Forms.{Form, table_of}

pub same_value : {B E : Type 0} {a b : B} → ◌≡◌ {A = Result B E} (Ok a) (Ok b) → a ≡ b
same_value e = cc

pub went : {B E R : Type 0} {b : B} {Stops : E → Type 0} → ((stop : E) × Stops stop × (Ok b ≡ Err stop)) ⊎ R → R
went (inl stopped) = absurd (let e = stopped.2 in cc)
went (inr on) = on

-- what a DELETE is: the rows that it reads are taken out by one edit
pub record Deleted (db : Database) (table : Table) (q : Program) (params : Row) (after : Database) : Type 0 where
  pub rows : List Row
  pub read : Answers db q params rows
  pub next : Trees
  pub written : action.Writes db.schema Enforced db.trees (edit_of db.trees table (ids_of rows) Given 0 []) (Ok next)
  pub is : after ≡ record { schema = db.schema; trees = next }

pub deleted_by : (old new : State) (at : ℕ) (table : Table) (q : Program) (text : List ℕ) (params : Row) (count : ℕ) → slice_get old.now.schema.tables at ≡ Some table
    → Writes old new None (Delete at q) text params count → Deleted old.now table q params new.now
deleted_by old new at table q text params count stands w =
    let done = went (rw stands at w.changed) in
    let read = went done.1 in
    let edited = went read.2 in
    let ends = went (went done.2).2 in
    let now = ap (λ (p : Tally × Database). p.1) (same_value ends.2) in
    let trees = ap (λ (it : Written). it.trees) (same_value edited.2) in
    record { rows = read.0; read = read.1; next = edited.0; written = edited.1; is = now ∙ ap (λ t. record { schema = old.now.schema; trees = t }) trees }

-- what an INSERT of values is: one row is put in by one edit
pub record Inserted (db : Database) (table : Table) (source : Source) (params : Row) (after : Database) : Type 0 where
  pub rows : List Row
  pub read : IsSource db (stamped table params) source rows
  pub next : Trees
  pub written : action.Writes db.schema Enforced db.trees (edit_of db.trees table [] Chosen 0 rows) (Ok next)
  pub is : after ≡ record { schema = db.schema; trees = next }

pub inserted_by : (old new : State) (at : ℕ) (form : Form) (tree : ℕ) (source : Source) (text : List ℕ) (params : Row) (count : ℕ) → slice_get old.now.schema.tables at ≡ Some (table_of form tree)
    → Writes old new None (Insert at source) text params count → Inserted old.now (table_of form tree) source params new.now
inserted_by old new at form tree source text params count stands w =
    let done = went (rw stands at w.changed) in
    let read = went done.1 in
    let counter = went read.2 in
    let edited = went counter.2 in
    let counted = went edited.2 in
    let ends = went (went done.2).2 in
    let now = ap (λ (p : Tally × Database). p.1) (same_value ends.2) in
    let trees = ap (λ (it : Written). it.trees) (same_value counted.2) ∙ same_value counted.1 in
    record { rows = read.0; read = read.1; next = edited.0; written = edited.1; is = now ∙ ap (λ t. record { schema = old.now.schema; trees = t }) trees }
