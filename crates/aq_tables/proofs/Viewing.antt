-- What CREATE VIEW does to a database: its tables stay, with their rows.
use Rattle.std.proofs.Common.{◌≡◌, ℕ, List, [], Bool, true, false, if◌then◌else◌, None, Result, Ok, Err, refl, sym, ap, subst, ◌∙◌}
use Rattle.std.specs.Option.{option_or}
use Rattle.std.proofs.lemmas.Bool.{false≢true}
use Rattle.sqlite.specs.Schema.{Schema}
use Rattle.sqlite.specs.Command.{Command}
use Rattle.sqlite.specs.Effect.{Database}
use Rattle.sqlite.specs.Does.{Tally}
use Rattle.sqlite.specs.Listing.{understood, reads_listing, if_select, is_select, listing_schema}
use Rattle.sqlite.specs.State.{State, Executes, ExecutesIn, Writes, text_of}
use Rattle.sqlite.proofs.Callers.{command_of, statement_of, IsPlain, runs_as}
use Rattle.sqlite_schema.specs.declared.command.Command.TheVariants as commands
use Rattle.sqlite_schema.specs.Names.{table_named, view_named, index_named}
use Rattle.sqlite_catalog.specs.Change.{KeepsRows, is_used, next_tree}
use Rattle.sqlite_catalog.proofs.StepLemmas.{no_table}
use Rattle.sqlite_ast.specs.declared.Select.{Select}
use Rattle.sqlite_ast.specs.declared.Statement.{Statement}
use Rattle.sqlite_ast.specs.declared.Statement.TheVariants as written
use Rattle.sqlite_syntax.specs.declared.statement.Parsed.{Parsed}
use Rattle.sqlite_resolve.specs.declared.compiled.Compiled.{Compiled}
use Rattle.sqlite_resolve.specs.declared.error.CompileError.{CompileError}
use Rattle.sqlite_resolve.specs.declared.error.CompileError.TheVariants.{Unsupported, NoSuchTable}
use Rattle.sqlite_resolve.specs.Lowering.{Checked, and_then}
use Rattle.sqlite_resolve.specs.Scope.{Name}
use Rattle.sqlite_resolve.specs.Compile.{compiled, first, planned, meaning, timed, returning, command, create_view, creates, is_attached, read, view_defined_by, with_command}
use Rattle.sqlite_tied.specs.Compute.{everything}
use Rattle.aq_tables.specs.Forms.{second_form}
use Rattle.aq_tables.specs.Moves.{AddsView}
use Rattle.aq_tables.specs.Texts.{view_text}
use Rattle.aq_tables.proofs.Creating.{new_name}
use Rattle.aq_tables.proofs.Parsing.{or_empty, select_in}
use Rattle.aq_tables.proofs.Statements.{same_value, went}

abbrev name_in : Statement → Name
name_in (written.CreateView if_missing name columns s) = name
name_in _ = []

abbrev columns_of : Statement → List Name
columns_of (written.CreateView if_missing name columns s) = columns
columns_of _ = []

abbrev select_of : Statement → Select
select_of (written.CreateView if_missing name columns s) = s
select_of s = select_in s

module _ (text : List ℕ) (p : Parsed) (name : Name) (columns : List Name) (s : Select) (reads : first text ≡ Ok p) (statement : p.statement ≡ written.CreateView false name columns s) (formats : p.formats ≡ []) where
  abbrev pub code : Compiled
  code = with_command p ([], (commands.CreateView, None))

  made_if : {X : Type 0} (is_new : Checked Bool) (q : Checked X) (k : Command) → ((b : Bool) → is_new ≡ Ok b → b ≡ true) → and_then is_new (λ b. if b then and_then q (λ _. Ok commands.CreateView) else Ok commands.Nothing) ≡ Ok k → k ≡ commands.CreateView
  made_if (Err e) q k new h = absurd cc
  made_if (Ok false) q k new h = absurd (false≢true (new false refl))
  made_if (Ok true) (Err e) k new h = absurd cc
  made_if (Ok true) (Ok x) k new h = cc

  commanded : (schema : Schema) (k : Command) → create_view schema false name columns s ≡ Ok k → k ≡ commands.CreateView
  unfolding create_view
  commanded schema k h = go (is_attached schema name) h
    where
      go : (b : Bool) → ◌≡◌ {A = Checked Command} (if b then Err Unsupported else and_then (creates false name (option_or (table_named schema name) (view_named schema name)) (index_named schema name)) (λ is_new. if is_new then and_then (read schema s) (λ _. Ok commands.CreateView) else Ok commands.Nothing)) (Ok k) → k ≡ commands.CreateView
      go true h = absurd cc
      go false h = made_if (creates false name (option_or (table_named schema name) (view_named schema name)) (index_named schema name)) (read schema s) k (λ b. new_name false name (option_or (table_named schema name) (view_named schema name)) (index_named schema name) b refl) h

  code_from : (r : Checked Command) (c : Compiled) → ((k : Command) → r ≡ Ok k → k ≡ commands.CreateView)
      → and_then (and_then (and_then r (λ k. Ok (k, None))) (λ found. Ok ([], found))) (λ plan. Ok (with_command p plan)) ≡ Ok c → c ≡ code
  code_from (Ok k) c only h = let same : with_command p ([], (k, None)) ≡ c = cc in sym same ∙ ap (λ k. with_command p ([], (k, None))) (only k refl)
  code_from (Err e) c only h = absurd cc

  -- (`untimed` with no formats hands the command on)
  compiled_so : (schema : Schema) (c : Compiled) → compiled schema text ≡ Ok c → c ≡ code
  unfolding compiled planned meaning timed returning command
  compiled_so schema c h = code_from _ c (commanded schema) (rw (reads, statement, formats) at h)

  selected_so : (r : Result Compiled CompileError) → ((c : Compiled) → r ≡ Ok c → c ≡ code) → (c : Compiled) → if_select r ≡ Ok c → c ≡ code
  selected_so (Err e) all c h = absurd cc
  selected_so (Ok d) all c h = go (is_select d.command) h
    where
      go : (b : Bool) → ◌≡◌ {A = Result Compiled CompileError} (if b then Ok d else Err NoSuchTable) (Ok c) → c ≡ code
      go true h = let same : d ≡ c = cc in sym same ∙ all d refl
      go false h = absurd cc

  understood_so : (schema : Schema) (c : Compiled) → understood schema text ≡ Ok c → c ≡ code
  unfolding understood
  understood_so schema c h = go (reads_listing schema text) h
    where
      go : (b : Bool) → ◌≡◌ {A = Result Compiled CompileError} (if b then if_select (compiled listing_schema text) else compiled schema text) (Ok c) → c ≡ code
      go true h = selected_so (compiled listing_schema text) (compiled_so listing_schema) c h
      go false h = compiled_so schema c h

  pub views_by : (old new : State) (count : ℕ) → text_of text code ≡ text → Executes text [] old new (Ok count) → Writes old new None commands.CreateView text [] count
  unfolding ExecutesIn
  views_by old new count whole h =
      let known : understood old.now.schema text ≡ Ok code = h.1.is ∙ ap Ok (understood_so old.now.schema h.0 h.1.is) in
      subst (λ t. Writes old new None commands.CreateView t [] count) (ap (statement_of text) known ∙ whole)
      (runs_as text [] old new old.now.schema refl commands.CreateView (ap command_of known) (subst IsPlain (sym known) (refl, refl)) count h)

-- what it does, if it makes a view of the name that the table of before had
adds_view : (old new : State) (text : List ℕ) (count : ℕ) → text ≡ view_text → view_defined_by text ≡ Ok second_form.name → Writes old new None commands.CreateView text [] count → AddsView old.now new.now
adds_view old new text count ours defined w =
    let made = went w.changed in
    let ends : made.0 ≡ new.now = sym (ap (λ (p : Tally × Database). p.1) (same_value made.2)) in
    let named : made.1.name ≡ second_form.name = same_value (sym made.1.defined ∙ defined) in
    record {
      free = no_table old.now.schema second_form.name (subst (λ name. is_used old.now.schema name ≡ false) named made.1.free);
      tables = sym (ap (λ (db : Database). db.schema.tables) ends) ∙ ap (λ (s : Schema). s.tables) made.1.is;
      indexes = sym (ap (λ (db : Database). db.schema.indexes) ends) ∙ ap (λ (s : Schema). s.indexes) made.1.is;
      view = record { name = made.1.name; tree = next_tree old.now.schema; sql = text; foreign = None; binds = false; is_bound = false };
      ours = (named, ours, refl);
      views = sym (ap (λ (db : Database). db.schema.views) ends) ∙ ap (λ (s : Schema). s.views) made.1.is;
      rows = subst (λ (db : Database). KeepsRows old.now.schema.tables old.now.trees db.trees) ends made.1.rows;
      sound = w.sound;
    }

-- ---- the view of `observations2`

abbrev parsed : Parsed
parsed = or_empty (first view_text)

record IsView : Type 0 where
  reads : first view_text ≡ Ok parsed
  statement : parsed.statement ≡ written.CreateView false (name_in parsed.statement) (columns_of parsed.statement) (select_of parsed.statement)
  formats : parsed.formats ≡ []
  whole : text_of view_text (with_command parsed ([], (commands.CreateView, None))) ≡ view_text
  defined : view_defined_by view_text ≡ Ok second_form.name

is_view : IsView
unfolding everything
is_view = record { reads = refl; statement = refl; formats = refl; whole = refl; defined = refl }

pub adds_the_view : (old new : State) (count : ℕ) → Executes view_text [] old new (Ok count) → AddsView old.now new.now
adds_the_view old new count h =
    let it = is_view in
    adds_view old new view_text count refl it.defined (views_by view_text parsed (name_in parsed.statement) (columns_of parsed.statement) (select_of parsed.statement) it.reads it.statement it.formats old new count it.whole h)
