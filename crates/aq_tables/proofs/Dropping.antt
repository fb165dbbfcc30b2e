-- What DROP TABLE does to a database: the table of before is gone, and each other one keeps its rows.
use Rattle.std.proofs.Common.{◌≡◌, ◌≢◌, ◌==◌, ne_eqb, not, ℕ, List, [], filter, Bool, true, false, if◌then◌else◌, Option, None, Some, is_some, MatchBool, Result, Ok, Err, refl, sym, ap, subst, ◌∙◌, slice_get}
use Rattle.std.specs.List.{AllByRecursion}
use Rattle.std.proofs.lemmas.Bool.{false≢true}
use Rattle.sqlite.specs.Schema.{Schema}
use Rattle.sqlite.specs.Table.{Table}
use Rattle.sqlite.specs.Tree.{Trees}
use Rattle.sqlite.specs.Command.{Command}
use Rattle.sqlite.specs.Effect.{Database}
use Rattle.sqlite.specs.Does.{Tally, is_acted_on}
use Rattle.sqlite.specs.Rows.{Edited, Gives}
use Rattle.sqlite.specs.Listing.{understood, reads_listing, if_select, is_select, listing_schema}
use Rattle.sqlite.specs.State.{State, Executes, ExecutesIn, Writes, text_of}
use Rattle.sqlite.proofs.Callers.{command_of, statement_of, IsPlain, runs_as}
use Rattle.sqlite_schema.specs.declared.command.Command.TheVariants as commands
use Rattle.sqlite_schema.specs.declared.schema.Keys.TheVariants.{Enforced}
use Rattle.sqlite_schema.specs.Names.{table_named, view_named}
use Rattle.sqlite_rules.specs.declared.error.Rowids.TheVariants.{Given}
use Rattle.sqlite_rules.specs.Edit.{edit_of}
use Rattle.sqlite_rules.specs.Calls.{ids_of}
use Rattle.sqlite_rules.specs.Lists.{Has as Holds}
use Rattle.sqlite_rules.proofs.ListLemmas.{all_has, has_kept}
use Rattle.sqlite_catalog.specs.Change.{KeepsRows}
use Rattle.sqlite_catalog.proofs.AlterLemmas.{place_has}
use Rattle.sqlite_ast.specs.declared.Statement.TheVariants as written
use Rattle.sqlite_syntax.specs.declared.statement.Parsed.{Parsed}
use Rattle.sqlite_resolve.specs.declared.compiled.Compiled.{Compiled}
use Rattle.sqlite_resolve.specs.declared.error.CompileError.{CompileError}
use Rattle.sqlite_resolve.specs.declared.error.CompileError.TheVariants.{NoSuchTable, Misuse}
use Rattle.sqlite_resolve.specs.Lowering.{Checked, and_then}
use Rattle.sqlite_resolve.specs.Scope.{Name}
use Rattle.sqlite_resolve.specs.Compile.{compiled, first, planned, meaning, timed, returning, command, drop_table, dropped, is_reserved, with_command}
use Rattle.sqlite_tied.specs.Compute.{everything}
use Rattle.aq_tables.specs.Forms.{second_form, table_of}
use Rattle.aq_tables.specs.Moves.{Loses, LosesSecond}
use Rattle.aq_tables.specs.Standing.{IsChildless, Stands}
use Rattle.aq_tables.specs.Texts.{drop_second_text}
use Rattle.aq_tables.proofs.Actions.{others_keep}
use Rattle.aq_tables.proofs.Parsing.{or_empty}
use Rattle.aq_tables.proofs.Statements.{same_value, went}

-- ---- what the text means

-- a table that a name stands for is dropped
record DropsAt (schema : Schema) (name : Name) (k : Command) : Type 0 where
  at : ℕ
  named : table_named schema name ≡ Some at
  is : k ≡ commands.DropTable at

module _ (text : List ℕ) (p : Parsed) (name : Name) (reads : first text ≡ Ok p) (statement : p.statement ≡ written.DropTable false name) (formats : p.formats ≡ []) where
  abbrev pub code : Command → Compiled
  code k = with_command p ([], (k, None))

  drops_at : (schema : Schema) (k : Command) → drop_table schema false name ≡ Ok k → DropsAt schema name k
  unfolding drop_table
  drops_at schema k h = go (is_reserved name) (is_some (view_named schema name)) (table_named schema name) refl h
    where
      go : (b v : Bool) (o : Option ℕ) → table_named schema name ≡ o → ◌≡◌ {A = Checked Command} (if b then Err Misuse else (if v then Err Misuse else dropped commands.DropTable NoSuchTable false o)) (Ok k) → DropsAt schema name k
      go true v o named h = absurd cc
      go false true o named h = absurd cc
      go false false None named h = absurd cc
      go false false (Some at) named h = record { at = at; named = named; is = cc }

  record IsCode (schema : Schema) (c : Compiled) : Type 0 where
    k : Command
    drops : DropsAt schema name k
    same : c ≡ code k

  code_from : (schema : Schema) (r : Checked Command) (c : Compiled) → ((k : Command) → r ≡ Ok k → DropsAt schema name k)
      → and_then (and_then (and_then r (λ k. Ok (k, None))) (λ found. Ok ([], found))) (λ plan. Ok (with_command p plan)) ≡ Ok c → IsCode schema c
  code_from schema (Ok k) c only h = let same : with_command p ([], (k, None)) ≡ c = cc in record { k = k; drops = only k refl; same = sym same }
  code_from schema (Err e) c only h = absurd cc

  compiled_so : (schema : Schema) (c : Compiled) → compiled schema text ≡ Ok c → IsCode schema c
  unfolding compiled planned meaning timed returning command
  compiled_so schema c h = code_from schema _ c (drops_at schema) (rw (reads, statement, formats) at h)

  -- it is no SELECT
  selected_none : {X : Type 0} (schema : Schema) (r : Result Compiled CompileError) → ((c : Compiled) → r ≡ Ok c → IsCode schema c) → (c : Compiled) → if_select r ≡ Ok c → X
  selected_none schema (Err e) all c h = absurd cc
  selected_none schema (Ok d) all c h =
      let it = all d refl in
      let other : is_select d.command ≡ false = ap (λ (x : Compiled). is_select x.command) it.same ∙ ap is_select it.drops.is in
      absurd (let e = rw other at h in cc)

  understood_so : (schema : Schema) (c : Compiled) → understood schema text ≡ Ok c → IsCode schema c
  unfolding understood
  understood_so schema c h = go (reads_listing schema text) h
    where
      go : (b : Bool) → ◌≡◌ {A = Result Compiled CompileError} (if b then if_select (compiled listing_schema text) else compiled schema text) (Ok c) → IsCode schema c
      go true h = selected_none listing_schema (compiled listing_schema text) (compiled_so listing_schema) c h
      go false h = compiled_so schema c h

  -- what it did if it ran, where the name stands for a table
  pub drops_by : (old new : State) (count at : ℕ) → text_of text (code (commands.DropTable at)) ≡ text → table_named old.now.schema name ≡ Some at → Executes text [] old new (Ok count) → Writes old new None (commands.DropTable at) text [] count
  unfolding ExecutesIn
  drops_by old new count at whole named h =
      let it = understood_so old.now.schema h.0 h.1.is in
      let place : it.drops.at ≡ at = same_place (sym it.drops.named ∙ named) in
      let known : understood old.now.schema text ≡ Ok (code (commands.DropTable at)) = h.1.is ∙ ap Ok (it.same ∙ ap code (it.drops.is ∙ ap commands.DropTable place)) in
      subst (λ t. Writes old new None (commands.DropTable at) t [] count) (ap (statement_of text) known ∙ whole)
      (runs_as text [] old new old.now.schema refl (commands.DropTable at) (ap command_of known) (subst IsPlain (sym known) (refl, refl)) count h)
    where
      same_place : {X : Type 0} {x y : X} → Some x ≡ Some y → x ≡ y
      same_place h = cc

-- ---- what dropping it does

not_emptied : (Empties : Type 0) (trees emptied : Trees) (b : Bool) → MatchBool b Empties (Gives trees (Ok emptied)) → b ≡ false → emptied ≡ trees
not_emptied Empties trees emptied true h calm = absurd (false≢true (sym calm))
not_emptied Empties trees emptied false h calm = same_value h

module _ (old new : State) (at tree : ℕ) (stands : Stands old.now.schema second_form at tree) where
  abbrev table : Table
  table = table_of second_form tree

  -- first the rows are taken out, where that sets off an action of a foreign key
  emptied_keeps : (emptied : Trees) (b : Bool) → MatchBool b (Edited old.now.schema Enforced old.now.trees (edit_of old.now.trees table (ids_of (old.now.trees tree)) Given 0 []) (Ok emptied)) (Gives old.now.trees (Ok emptied))
      → (place : ℕ) (t : Table) → slice_get old.now.schema.tables place ≡ Some t → t.tree ≢ tree → AllByRecursion (IsChildless t.tree) old.now.schema.tables → emptied t.tree ≡ old.now.trees t.tree
  emptied_keeps emptied true h place t here apart alone = others_keep t.tree old.now.schema Enforced alone place t here refl old.now.trees emptied _ (λ same. apart (sym same)) h
  emptied_keeps emptied false h place t here apart alone = ap (λ (trees : Trees). trees t.tree) (same_value h)

  abbrev others : List Table
  others = filter (λ (t : Table). not (t.tree == tree)) old.now.schema.tables

  loses : (text : List ℕ) (count : ℕ) → Writes old new None (commands.DropTable at) text [] count → Loses tree old.now new.now
  loses text count w =
      let done = rw stands.has.stands at w.changed in
      let emptied = went done in
      let uncounted = went emptied.2 in
      let tested = went uncounted.2 in
      let left = went tested.2 in
      let ends : left.0 ≡ new.now = sym (ap (λ (p : Tally × Database). p.1) (same_value left.2)) in
      let schema = sym (ap (λ (db : Database). db.schema) ends) ∙ left.1.0 in
      record {
        tables = ap (λ (s : Schema). s.tables) schema;
        indexes = ap (λ (s : Schema). s.indexes) schema;
        spared = λ calm.
            let whole = not_emptied _ old.now.trees emptied.0 (is_acted_on old.now.schema Enforced table) emptied.1 calm in
            subst (λ (trees : Trees). KeepsRows others old.now.trees trees) (ap (λ (db : Database). db.trees) ends) (subst (λ (trees : Trees). KeepsRows others trees left.0.trees) (same_value uncounted.1 ∙ whole) left.1.1);
        views = ap (λ (s : Schema). s.views) schema;
        others = λ place t here apart alone.
            let kept : Holds (filter (λ (u : Table). not (u.tree == tree)) old.now.schema.tables) t = has_kept _ old.now.schema.tables t (place_has old.now.schema.tables place t here) (ap not (ne_eqb t.tree tree apart)) in
            ap (λ (db : Database). db.trees t.tree) (sym ends)
            ∙ all_has (λ (u : Table). left.0.trees u.tree ≡ uncounted.0 u.tree) _ t left.1.1 kept
            ∙ ap (λ (trees : Trees). trees t.tree) (same_value uncounted.1)
            ∙ emptied_keeps emptied.0 (is_acted_on old.now.schema Enforced table) emptied.1 place t here apart alone;
      }

-- ---- `observations2`

abbrev parsed : Parsed
parsed = or_empty (first drop_second_text)

-- what is known of the text
record IsDropSecond : Type 0 where
  reads : first drop_second_text ≡ Ok parsed
  statement : parsed.statement ≡ written.DropTable false second_form.name
  formats : parsed.formats ≡ []
  whole : (at : ℕ) → text_of drop_second_text (with_command parsed ([], (commands.DropTable at, None))) ≡ drop_second_text

is_drop_second : IsDropSecond
unfolding everything
is_drop_second = record { reads = refl; statement = refl; formats = refl; whole = λ at. refl }

pub loses_second : (old new : State) (count : ℕ) → Executes drop_second_text [] old new (Ok count) → LosesSecond old.now new.now
loses_second old new count h at tree stands =
    let it = is_drop_second in
    loses old new at tree stands drop_second_text count (drops_by drop_second_text parsed second_form.name it.reads it.statement it.formats old new count at (it.whole at) stands.has.named h)
