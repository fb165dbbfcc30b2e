-- How a schema resolves a statement on a table that it names, whatever else it has.
use Rattle.std.proofs.Common.{◌≡◌, ℕ, ◌+◌, List, [], false, Option, None, Ok}
use Rattle.sqlite_schema.specs.declared.schema.Schema.{Schema}
use Rattle.sqlite_schema.specs.declared.schema.Table.{Table}
use Rattle.sqlite_schema.specs.declared.command.Source.{Source}
use Rattle.sqlite_schema.specs.declared.command.Command.TheVariants.{Insert, Delete}
use Rattle.sqlite_ast.specs.declared.Expr.{Expr}
use Rattle.sqlite_ast.specs.declared.Rows.{Rows}
use Rattle.sqlite_ast.specs.declared.Conflict.TheVariants as conflict
use Rattle.sqlite_ast.specs.declared.Statement.TheVariants as written
use Rattle.sqlite_syntax.specs.declared.statement.Parsed.{Parsed}
use Rattle.sqlite_draft.specs.declared.query.Draft.{Draft}
use Rattle.sqlite_resolve.specs.declared.compiled.Compiled.{Compiled}
use Rattle.sqlite_resolve.specs.Scope.{Name}
use Rattle.sqlite_resolve.specs.Compile.{compiled, first, planned, meaning, timed, returning, shows, command, insert, insert_or_abort, delete, new_rows, small, with_command}
use Rattle.sqlite_resolve.specs.Write.{deleted}
use Rattle.sqlite_resolve.specs.Program.{program}
use Rattle.sqlite_schema.specs.declared.program.Program.{Program}
use Rattle.aq_tables.specs.Standing.{Has}
use Rattle.sqlite.specs.Listing.{understood, reads_listing}

-- a text that is compiled is understood so
pub understood_is : (schema : Schema) (text : List ℕ) (c : Compiled) → compiled schema text ≡ Ok c → understood schema text ≡ Ok c
unfolding understood
understood_is schema text c is = rw is

pub lists_nothing : (schema : Schema) (text : List ℕ) (c : Compiled) → compiled schema text ≡ Ok c → reads_listing schema text ≡ false
lists_nothing schema text c is = rw is

module _ (schema : Schema) (name : Name) (at : ℕ) (table : Table) (has : Has schema name at table) where
  inserts : (base : ℕ) (columns : List Name) (rows : Rows) (source : Source) → new_rows schema table base columns rows ≡ Ok source → insert schema base name columns rows ≡ Ok (Insert at source)
  unfolding insert
  inserts base columns rows source is = rw (has.named, has.stands, is)

  deletes : (test : Option Expr) (draft : Draft) (p : Program) → deleted schema at table test ≡ Ok draft → program schema [] draft ≡ Ok p → delete schema name test ≡ Ok (Delete at p)
  unfolding delete
  deletes test draft p is typed = rw (has.named, has.stands, is, typed)

  pub insert_compiled : (text : List ℕ) (p : Parsed) (columns : List Name) (rows : Rows) (source : Source) → first text ≡ Ok p → p.statement ≡ written.Insert conflict.Abort name columns rows [] [] → p.formats ≡ []
      → new_rows schema table (small p.names + 0) columns rows ≡ Ok source → compiled schema text ≡ Ok (with_command p ([], (Insert at source, None)))
  unfolding compiled planned meaning timed returning shows command insert_or_abort
  insert_compiled text p columns rows source is statement formats new = rw (is, statement, formats, has.named, has.stands, has.untimed, inserts (small p.names + 0) columns rows source new)

  pub delete_compiled : (text : List ℕ) (p : Parsed) (test : Option Expr) (draft : Draft) (program' : Program) → first text ≡ Ok p → p.statement ≡ written.Delete name test [] → p.formats ≡ []
      → deleted schema at table test ≡ Ok draft → program schema [] draft ≡ Ok program' → compiled schema text ≡ Ok (with_command p ([], (Delete at program', None)))
  unfolding compiled planned meaning timed returning shows command
  delete_compiled text p test draft program' is statement formats reads typed = rw (is, statement, formats, deletes test draft program' reads typed)
