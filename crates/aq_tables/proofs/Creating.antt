-- What a CREATE TABLE without IF NOT EXISTS means, whatever the schema is.
use Rattle.std.proofs.Common.{◌≡◌, ◌==◌, ◌&&◌, not, length, ℕ, List, [], Bool, true, false, if◌then◌else◌, Option, None, is_some, Result, Ok, Err, refl, sym, ap, subst, ◌∙◌}
use Rattle.std.specs.Option.{option_or}
use Rattle.std.proofs.lemmas.Bool.{false≢true}
use Rattle.sqlite.specs.Schema.{Schema}
use Rattle.sqlite.specs.Table.{Table}
use Rattle.sqlite.specs.Command.{Command}
use Rattle.sqlite.specs.Listing.{understood, reads_listing, if_select, is_select, listing_schema}
use Rattle.sqlite.specs.State.{State, Executes, ExecutesIn, Writes, text_of}
use Rattle.sqlite.proofs.Callers.{command_of, statement_of, IsPlain, runs_as}
use Rattle.sqlite_schema.specs.declared.command.Command.TheVariants as commands
use Rattle.sqlite_schema.specs.Names.{table_named, view_named, index_named}
use Rattle.sqlite_resolve.specs.Define as define
use Rattle.sqlite_ast.specs.declared.CreateTable.{CreateTable}
use Rattle.sqlite_ast.specs.declared.Statement.{Statement}
use Rattle.sqlite_ast.specs.declared.Statement.TheVariants as written
use Rattle.sqlite_syntax.specs.declared.statement.Parsed.{Parsed}
use Rattle.sqlite_resolve.specs.declared.compiled.Compiled.{Compiled}
use Rattle.sqlite_resolve.specs.declared.error.CompileError.{CompileError}
use Rattle.sqlite_resolve.specs.declared.error.CompileError.TheVariants.{Unsupported, NoSuchTable, Misuse, Exists}
use Rattle.sqlite_resolve.specs.Lowering.{Checked, and_then}
use Rattle.sqlite_resolve.specs.Scope.{Name}
use Rattle.sqlite_resolve.specs.Compile.{compiled, first, planned, meaning, timed, returning, command, create_table, creates, is_attached, is_reserved, with_command}

-- the statement of a text, if it makes a table
abbrev pub definition_in : Statement → CreateTable
definition_in (written.CreateTable def) = def
definition_in _ = record { if_missing = false; name = []; body = record { columns = []; rules = [] }; is_strict = false; resolves = false }

-- a name is new where nothing has it
pub new_name : (if_missing : Bool) (name : Name) (same other : Option ℕ) (b : Bool) → if_missing ≡ false → creates if_missing name same other ≡ Ok b → b ≡ true
unfolding creates
new_name true name same other b anew h = absurd (false≢true (sym anew))
new_name false name same other b anew h = go (is_reserved name) (is_some other) (is_some same) h
  where
    go : (x y z : Bool) → ◌≡◌ {A = Checked Bool} (if x then Err Misuse else (if y then Err Exists else (if z then Err Exists else Ok true))) (Ok b) → b ≡ true
    go true y z h = absurd cc
    go false true z h = absurd cc
    go false false true h = absurd cc
    go false false false h = cc

module _ (text : List ℕ) (p : Parsed) (def : CreateTable) (reads : first text ≡ Ok p) (statement : p.statement ≡ written.CreateTable def) (formats : p.formats ≡ []) (anew : def.if_missing ≡ false) where
  abbrev pub code : Compiled
  code = with_command p ([], (commands.CreateTable, None))

  made_if : (is_new : Checked Bool) (table : Checked Table) (whole : Table → Bool) (k : Command) → ((b : Bool) → is_new ≡ Ok b → b ≡ true)
      → and_then is_new (λ b. if b then and_then table (λ t. if whole t then Ok commands.CreateTable else Err Unsupported) else Ok commands.Nothing) ≡ Ok k → k ≡ commands.CreateTable
  made_if (Err e) table whole k new h = absurd cc
  made_if (Ok false) table whole k new h = absurd (false≢true (new false refl))
  made_if (Ok true) (Err e) whole k new h = absurd cc
  made_if (Ok true) (Ok t) whole k new h = go (whole t) h
    where
      go : (b : Bool) → ◌≡◌ {A = Checked Command} (if b then Ok commands.CreateTable else Err Unsupported) (Ok k) → k ≡ commands.CreateTable
      go true h = cc
      go false h = absurd cc

  commanded : (schema : Schema) (k : Command) → create_table schema [] def ≡ Ok k → k ≡ commands.CreateTable
  unfolding create_table
  commanded schema k h = go (is_attached schema def.name) h
    where
      go : (b : Bool) → ◌≡◌ {A = Checked Command} (if b then Err Unsupported else and_then (creates def.if_missing def.name (option_or (table_named schema def.name) (view_named schema def.name)) (index_named schema def.name))
          (λ is_new. if is_new then and_then (define.table [] def) (λ t. if (length t.computed == length t.stamps.places) && not def.resolves then Ok commands.CreateTable else Err Unsupported) else Ok commands.Nothing)) (Ok k) → k ≡ commands.CreateTable
      go true h = absurd cc
      go false h = made_if (creates def.if_missing def.name (option_or (table_named schema def.name) (view_named schema def.name)) (index_named schema def.name)) (define.table [] def) (λ t. (length t.computed == length t.stamps.places) && not def.resolves) k (λ b. new_name def.if_missing def.name (option_or (table_named schema def.name) (view_named schema def.name)) (index_named schema def.name) b anew) h

  code_from : (r : Checked Command) (c : Compiled) → ((k : Command) → r ≡ Ok k → k ≡ commands.CreateTable)
      → and_then (and_then (and_then r (λ k. Ok (k, None))) (λ found. Ok ([], found))) (λ plan. Ok (with_command p plan)) ≡ Ok c → c ≡ code
  code_from (Ok k) c only h = let same : with_command p ([], (k, None)) ≡ c = cc in sym same ∙ ap (λ k. with_command p ([], (k, None))) (only k refl)
  code_from (Err e) c only h = absurd cc

  compiled_so : (schema : Schema) (c : Compiled) → compiled schema text ≡ Ok c → c ≡ code
  unfolding compiled planned meaning timed returning command
  compiled_so schema c h = code_from _ c (commanded schema) (rw (reads, statement, formats) at h)

  selected_so : (r : Result Compiled CompileError) → ((c : Compiled) → r ≡ Ok c → c ≡ code) → (c : Compiled) → if_select r ≡ Ok c → c ≡ code
  selected_so (Err e) all c h = absurd cc
  selected_so (Ok d) all c h = go (is_select d.command) h
    where
      go : (b : Bool) → ◌≡◌ {A = Result Compiled CompileError} (if b then Ok d else Err NoSuchTable) (Ok c) → c ≡ code
      go true h = let same : d ≡ c = cc in sym same ∙ all d refl
      go false h = absurd cc

  understood_so : (schema : Schema) (c : Compiled) → understood schema text ≡ Ok c → c ≡ code
  unfolding understood
  understood_so schema c h = go (reads_listing schema text) h
    where
      go : (b : Bool) → ◌≡◌ {A = Result Compiled CompileError} (if b then if_select (compiled listing_schema text) else compiled schema text) (Ok c) → c ≡ code
      go true h = selected_so (compiled listing_schema text) (compiled_so listing_schema) c h
      go false h = compiled_so schema c h

  -- what it did if it ran
  pub creates_by : (old new : State) (count : ℕ) → text_of text code ≡ text → Executes text [] old new (Ok count) → Writes old new None commands.CreateTable text [] count
  unfolding ExecutesIn
  creates_by old new count whole h =
      let known : understood old.now.schema text ≡ Ok code = h.1.is ∙ ap Ok (understood_so old.now.schema h.0 h.1.is) in
      subst (λ t. Writes old new None commands.CreateTable t [] count) (ap (statement_of text) known ∙ whole)
      (runs_as text [] old new old.now.schema refl commands.CreateTable (ap command_of known) (subst IsPlain (sym known) (refl, refl)) count h)
