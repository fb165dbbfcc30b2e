-- The CREATE of each table that is made: what it is once it is parsed, and what it defines.
use Rattle.std.proofs.Common.{◌≡◌, ℕ, List, [], false, Ok, refl}
use Rattle.sqlite.specs.State.{State, Executes, text_of}
use Rattle.sqlite_ast.specs.declared.Statement.TheVariants as written
use Rattle.sqlite_ast.specs.declared.CreateTable.{CreateTable}
use Rattle.sqlite_syntax.specs.declared.statement.Parsed.{Parsed}
use Rattle.sqlite_resolve.specs.Compile.{first, table_defined_by}
use Rattle.sqlite_tied.specs.Compute.{everything}
use Rattle.aq_tables.specs.declared.reading.Table.{Table}
use Rattle.aq_tables.specs.declared.reading.Table.TheVariants.{Records, Loads, Third}
use Rattle.aq_tables.specs.Forms.{Form, table_of, records_form, loads_form, third_form}
use Rattle.aq_tables.specs.Made.{form_of}
use Rattle.aq_tables.specs.Moves.{MakesForm}
use Rattle.aq_tables.specs.Texts.{make_records_text, make_loads_text, make_third_text}
use Rattle.aq_tables.proofs.Parsing.{or_empty}
use Rattle.aq_tables.proofs.Creating.{definition_in, code, creates_by}
use Rattle.aq_tables.proofs.NewTable.{makes_form}

-- what is known of a text that makes a table of a form
record IsMakeText (text : List ℕ) (form : Form) : Type 0 where
  parsed : Parsed
  definition : CreateTable
  reads : first text ≡ Ok parsed
  statement : parsed.statement ≡ written.CreateTable definition
  formats : parsed.formats ≡ []
  anew : definition.if_missing ≡ false
  whole : text_of text (code text parsed definition reads statement formats anew) ≡ text
  defined : table_defined_by text ≡ Ok (table_of form 0)

abbrev parsed_of : List ℕ → Parsed
parsed_of text = or_empty (first text)

abbrev defined_by : List ℕ → CreateTable
defined_by text = definition_in (parsed_of text).statement

is_records : IsMakeText make_records_text records_form
unfolding everything
is_records = record { parsed = parsed_of make_records_text; definition = defined_by make_records_text; reads = refl; statement = refl; formats = refl; anew = refl; whole = refl; defined = refl }

is_loads : IsMakeText make_loads_text loads_form
unfolding everything
is_loads = record { parsed = parsed_of make_loads_text; definition = defined_by make_loads_text; reads = refl; statement = refl; formats = refl; anew = refl; whole = refl; defined = refl }

is_third : IsMakeText make_third_text third_form
unfolding everything
is_third = record { parsed = parsed_of make_third_text; definition = defined_by make_third_text; reads = refl; statement = refl; formats = refl; anew = refl; whole = refl; defined = refl }

makes : (t : Table) (text : List ℕ) → IsMakeText text (form_of t) → (old new : State) (count : ℕ) → Executes text [] old new (Ok count) → MakesForm (form_of t) old.now new.now
makes t text it old new count h = makes_form t text it.defined old new count (creates_by text it.parsed it.definition it.reads it.statement it.formats it.anew old new count it.whole h)

pub makes_records : (old new : State) (count : ℕ) → Executes make_records_text [] old new (Ok count) → MakesForm records_form old.now new.now
makes_records = makes Records make_records_text is_records

pub makes_loads : (old new : State) (count : ℕ) → Executes make_loads_text [] old new (Ok count) → MakesForm loads_form old.now new.now
makes_loads = makes Loads make_loads_text is_loads

pub makes_third : (old new : State) (count : ℕ) → Executes make_third_text [] old new (Ok count) → MakesForm third_form old.now new.now
makes_third = makes Third make_third_text is_third
