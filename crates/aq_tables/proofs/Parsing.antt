-- What a text is once it is parsed, and what it then means.
use Rattle.std.proofs.Common.{◌≡◌, ℕ, ◌+◌, List, [], ◌∷◌, Bool, true, false, if◌then◌else◌, None, Result, Ok, Err, refl, ap, subst}
use Rattle.sqlite.specs.Schema.{Schema}
use Rattle.sqlite_ast.specs.declared.Rows.{Rows}
use Rattle.sqlite_ast.specs.declared.Rows.TheVariants as rows
use Rattle.sqlite_ast.specs.declared.Statement.{Statement}
use Rattle.sqlite_ast.specs.declared.Statement.TheVariants as written
use Rattle.sqlite_syntax.specs.declared.statement.Parsed.{Parsed}
use Rattle.sqlite_resolve.specs.Lowering.{Checked}
use Rattle.sqlite_resolve.specs.declared.compiled.Compiled.{Compiled}
use Rattle.sqlite_resolve.specs.Scope.{Name}
use Rattle.sqlite_resolve.specs.Compile.{compiled, planned, meaning, timed, returning, first, with_command}
use Rattle.sqlite.proofs.Callers.{command_of, IsPlain}
use Rattle.aq_tables.proofs.Resolving.{understood_is}
use Rattle.sqlite_ast.specs.declared.Expr.TheVariants as written_as
use Rattle.sqlite.specs.Listing.{understood, reads_listing, if_select, is_select, listing_schema}
use Rattle.sqlite_resolve.specs.Lowering.{and_then}
use Rattle.sqlite.specs.Command.{Command}
use Rattle.sqlite_resolve.specs.declared.error.CompileError.{CompileError}
use Rattle.sqlite_resolve.specs.declared.error.CompileError.TheVariants.{NoSuchTable}
use Rattle.sqlite_ast.specs.declared.Expr.TheOpen.{Shown-F}
use Rattle.sqlite_ast.specs.Layer.{ShownLayer}
use Rattle.sqlite_ast.specs.declared.Shown.{Shown, out-Shown}
use Rattle.sqlite_ast.specs.declared.Origin.TheVariants as origin
use Rattle.sqlite_ast.specs.declared.Source.{Source, roll-Source}
use Rattle.sqlite_ast.specs.declared.Core.{roll-Core}
use Rattle.sqlite_ast.specs.declared.Sort.{Sort, out-Sort}
use Rattle.sqlite_ast.specs.declared.Select.{Select, roll-Select}
use Rattle.sqlite_schema.specs.declared.schema.Column.{Column}
use Rattle.aq_tables.proofs.Selecting.{Picked}

abbrev empty_parsed : Parsed
empty_parsed = record { statement = written.Empty; names = []; formats = []; start = 0; end = 0; tail = 0 }

abbrev pub or_empty : Checked Parsed → Parsed
or_empty (Ok p) = p
or_empty (Err e) = empty_parsed

abbrev pub columns_in : Statement → List Name
columns_in (written.Insert how name columns rows clauses shown) = columns
columns_in _ = []

abbrev pub rows_in : Statement → Rows
rows_in (written.Insert how name columns rows clauses shown) = rows
rows_in _ = rows.Defaults

-- ---- SELECT

abbrev no_select : Select
no_select = roll-Select (record { with = []; first = roll-Core (record { distinct = false; shown = []; from = []; filter = None; group = []; having = None }); others = []; order = []; limit = None; offset = None })

abbrev pub select_in : Statement → Select
select_in (written.Select s) = s
select_in _ = no_select

abbrev pub no_source : Source
no_source = roll-Source (record { is_left = false; origin = origin.Table []; alias = None; on = None; using = [] })

abbrev picked_at : ℕ → Column → ShownLayer → Picked
picked_at at c (Shown-F.One e alias text) = record { expr = e; text = text; name = c.name; by_rowid = false; at = at; column = c }
picked_at at c _ = record { expr = written_as.Null; text = []; name = c.name; by_rowid = false; at = at; column = c }

abbrev pub picks : ℕ → List Column → List Shown → List Picked
picks at [] shs = []
picks at (c ∷ cs) [] = []
picks at (c ∷ cs) (sh ∷ shs) = picked_at at c (out-Shown sh) ∷ picks (at + 1) cs shs

abbrev pub keys_of : ℕ → List Column → List Sort → List Picked
keys_of at [] sos = []
keys_of at (c ∷ cs) [] = []
keys_of at (c ∷ cs) (so ∷ sos) = record { expr = (out-Sort so).key; text = []; name = c.name; by_rowid = false; at = at; column = c } ∷ keys_of (at + 1) cs sos

-- ---- meaning

-- a text is this command, which returns no rows and does not read the time
pub record Means (schema : Schema) (text : List ℕ) (command : Command) : Type 0 where
  pub is : command_of (understood schema text) ≡ command
  pub plain : IsPlain (understood schema text)

pub means : (schema : Schema) (text : List ℕ) (p : Parsed) (command : Command) → compiled schema text ≡ Ok (with_command p ([], (command, None))) → Means schema text command
means schema text p command is =
    let known = understood_is schema text _ is in
    record { is = ap command_of known; plain = rw known (refl, refl) }

-- whatever the schema is, a SELECT has no RETURNING, and does not read the time
abbrev IsBare : Compiled → Type 0
IsBare c = (c.returning ≡ None) × (c.formats ≡ [])

module _ (text : List ℕ) (p : Parsed) (s : Select) (reads : first text ≡ Ok p) (statement : p.statement ≡ written.Select s) (formats : p.formats ≡ []) where
  bare_from : (r : Checked Command) (c : Compiled) → and_then (and_then (and_then r (λ k. Ok (k, None))) (λ found. Ok ([], found))) (λ plan. Ok (with_command p plan)) ≡ Ok c → IsBare c
  bare_from (Ok k) c h = let same : with_command p ([], (k, None)) ≡ c = cc in subst IsBare same (refl, refl)
  bare_from (Err e) c h = absurd cc

  compiled_bare : (schema : Schema) (c : Compiled) → compiled schema text ≡ Ok c → IsBare c
  unfolding compiled planned meaning timed returning
  compiled_bare schema c h = bare_from _ c (rw (reads, statement, formats) at h)

  selected_bare : (r : Result Compiled CompileError) → ((c : Compiled) → r ≡ Ok c → IsBare c) → (c : Compiled) → if_select r ≡ Ok c → IsBare c
  selected_bare (Err e) all c h = absurd cc
  selected_bare (Ok d) all c h = go (is_select d.command) h
    where
      go : (b : Bool) → (if b then Ok d else Err NoSuchTable) ≡ Ok c → IsBare c
      go true h = let same : d ≡ c = cc in subst IsBare same (all d refl)
      go false h = absurd cc

  pub read_bare : (schema : Schema) (c : Compiled) → understood schema text ≡ Ok c → IsBare c
  unfolding understood
  read_bare schema c h = go (reads_listing schema text) h
    where
      go : (b : Bool) → (if b then if_select (compiled listing_schema text) else compiled schema text) ≡ Ok c → IsBare c
      go true h = selected_bare (compiled listing_schema text) (λ d. compiled_bare listing_schema d) c h
      go false h = compiled_bare schema c h
