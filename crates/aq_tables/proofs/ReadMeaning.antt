-- What a SELECT of all columns of a table, or of its rowids, means under any schema that has the table.
use Rattle.std.proofs.Common.{◌≡◌, ◌^◌, ℕ, ◌+◌, negsuc, List, [], ◌∷◌, map, true, false, nat_lt, None, Some, Ok, refl, sym, subst, arith, slice_get, unwrap_or}
use Rattle.std.specs.Prelude.{nat_le}
use Rattle.std.proofs.lemmas.Bool.Decides.{nat_tests}
use Rattle.sqlite.specs.declared.types.Value.TheVariants.{Int}
use Rattle.sqlite.specs.Collation.TheVariants.{Binary}
use Rattle.sqlite.specs.Command.TheVariants.{Select as Reads}
use Rattle.sqlite.specs.Listing.{reads_listing}
use Rattle.sqlite.specs.Query.{Query}
use Rattle.sqlite.specs.Schema.{Schema}
use Rattle.sqlite.specs.Term.{Term, lit, col}
use Rattle.sqlite_value.specs.declared.keys.Key.{Key}
use Rattle.sqlite_ast.specs.declared.Expr.TheVariants as written_as
use Rattle.sqlite_ast.specs.declared.Origin.TheVariants as origin
use Rattle.sqlite_ast.specs.declared.Source.{Source, out-Source}
use Rattle.sqlite_ast.specs.declared.Core.{Core, out-Core}
use Rattle.sqlite_ast.specs.declared.Select.{Select, out-Select}
use Rattle.sqlite_ast.specs.declared.Statement.TheVariants as written
use Rattle.sqlite_schema.specs.declared.schema.Column.{Column}
use Rattle.sqlite_schema.specs.declared.schema.Table.{Table}
use Rattle.sqlite_syntax.specs.declared.statement.Parsed.{Parsed}
use Rattle.sqlite_resolve.specs.Compile.{compiled, first, with_command}
use Rattle.sqlite_resolve.specs.Lowering.{fresh, max_budget}
use Rattle.sqlite_resolve.specs.Program.{program}
use Rattle.sqlite_resolve.specs.Scope.{Name}
use Rattle.sqlite_resolve.specs.Terms.{number}
use Rattle.sqlite_resolve.specs.declared.scope.Output.{Output}
use Rattle.sqlite_draft.specs.declared.query.Draft.{Draft}
use Rattle.sqlite_draft.specs.declared.join.Step.TheVariants.{Inner}
use Rattle.sqlite_draft.specs.Join.{chain}
use Rattle.aq_tables.specs.Forms.{Form, table_of}
use Rattle.aq_tables.specs.Standing.{Stands}
use Rattle.aq_tables.specs.Queries.{IsBareText}
use Rattle.aq_tables.proofs.Parsing.{or_empty, select_in, no_source, Means, means, read_bare}
use Rattle.aq_tables.proofs.Resolving.{lists_nothing}
use Rattle.aq_tables.proofs.Scans.{scan}
use Rattle.aq_tables.proofs.Selecting.{IsPlainSelect, Picked, AreShown, AreSorts, MayTake, left, output_of, key_of, the_draft, select_compiled}

abbrev pub rising : ℕ → Term × Key
rising at = (col 1 at, record { collation = Binary; descending = false })

-- columns as they are shown and sorted by
abbrev pub picks : ℕ → List Column → List Picked
picks at [] = []
picks at (c ∷ cs) = record { expr = written_as.Column None c.name; text = c.name; name = c.name; by_rowid = false; at = at; column = c } ∷ picks (at + 1) cs

-- a scan of one table, before it is typed
abbrev pub scan_draft : ℕ → List Term → List Term → List (Term × Key) → Draft
scan_draft tree filter project order = record { from = chain (Inner tree ∷ []); filter = filter; group = None; project = project; distinct = false; collations = []; order = order; limit = lit (Int (negsuc 0)); offset = number 0 }

low_below : (tree : ℕ) → nat_le (2 ^ 31) tree ≡ false → nat_lt tree (2 ^ 31) ≡ true
low_below tree low = grind (arith, nat_tests)

module _ (form : Form) (text : List ℕ) (shown keys : List Picked) (project : List Term) (order : List (Term × Key)) where
  abbrev parsed : Parsed
  parsed = or_empty (first text)

  abbrev select : Select
  select = select_in parsed.statement

  abbrev core : Core
  core = (out-Select select).first

  abbrev source : Source
  source = unwrap_or (slice_get (out-Core core).from 0) no_source

  abbrev query : ℕ → Query
  query tree = scan tree [] project order

  abbrev draft : ℕ → Draft
  draft tree = scan_draft tree [] project order

  abbrev outputs : ℕ → List Output
  outputs tree = map (output_of (table_of form tree)) shown

  abbrev pub read_names : ℕ → List Name
  read_names tree = map (λ (o : Output). o.name) (outputs tree)

  -- a text shows these columns of a table and sorts by those
  pub record IsReadText : Type 0 where
    pub reads : first text ≡ Ok parsed
    pub statement : parsed.statement ≡ written.Select select
    pub formats : parsed.formats ≡ []
    pub select_is : out-Select select ≡ record { with = []; first = core; others = []; order = (out-Select select).order; limit = None; offset = None }
    pub core_is : out-Core core ≡ record { distinct = false; shown = (out-Core core).shown; from = source ∷ []; filter = None; group = []; having = None }
    pub source_is : out-Source source ≡ record { is_left = false; origin = origin.Table form.name; alias = None; on = None; using = [] }
    pub shows : (tree : ℕ) → nat_lt tree (2 ^ 31) ≡ true → AreShown (table_of form tree) (out-Core core).shown shown
    pub may_show : MayTake shown max_budget
    pub sorts : (schema : Schema) (at tree : ℕ) (stands : slice_get schema.tables at ≡ Some (table_of form tree)) → nat_lt tree (2 ^ 31) ≡ true → AreSorts schema at (table_of form tree) stands form.name (out-Select select).order keys
    pub may_sort : (tree : ℕ) → MayTake keys (left (table_of form tree) (fresh 2 max_budget) shown).budget
    pub projects : (tree : ℕ) → map (λ (o : Output). o.term) (outputs tree) ≡ project
    pub orders : (schema : Schema) (at tree : ℕ) (stands : slice_get schema.tables at ≡ Some (table_of form tree)) → map (key_of schema at (table_of form tree) stands form.name) keys ≡ order

  module _ (is : IsReadText) (schema : Schema) (at tree : ℕ) (stands : Stands schema form at tree) (typed : program schema [] (draft tree) ≡ Ok (record { lets = []; body = query tree })) where
    abbrev table : Table
    table = table_of form tree

    plain : IsPlainSelect select form.name core source
    plain = record { with = rw is.select_is; first = refl; others = rw is.select_is; limit = rw is.select_is; offset = rw is.select_is; from = rw is.core_is; distinct = rw is.core_is; filter = rw is.core_is; group = rw is.core_is; having = rw is.core_is; origin = rw is.source_is; alias = rw is.source_is; using = rw is.source_is; on = rw is.source_is; is_left = rw is.source_is }

    low : nat_lt tree (2 ^ 31) ≡ true
    low = low_below tree stands.low

    shows : AreShown table (out-Core core).shown shown
    shows = is.shows tree low

    sorts : AreSorts schema at table stands.has.stands form.name (out-Select select).order keys
    sorts = is.sorts schema at tree stands.has.stands low

    drafted : the_draft schema at table form.name stands.has.named stands.has.stands select core source plain (out-Core core).shown refl shown shows is.may_show (out-Select select).order refl keys sorts (is.may_sort tree) ≡ draft tree
    drafted = λ i. record (draft tree) { project = is.projects tree i; order = is.orders schema at tree stands.has.stands i }

    pub read_compiled : compiled schema text ≡ Ok (with_command parsed ([], (Reads (record { lets = []; body = query tree }) (read_names tree), None)))
    read_compiled =
        select_compiled schema at table form.name stands.has.named stands.has.stands select core source plain (out-Core core).shown refl shown shows is.may_show (out-Select select).order refl keys sorts (is.may_sort tree)
        text parsed (record { lets = []; body = query tree }) is.reads is.statement is.formats (subst (λ d. program schema [] d ≡ Ok (record { lets = []; body = query tree })) (sym drafted) typed)

    pub read_means : Means schema text (Reads (record { lets = []; body = query tree }) (read_names tree))
    read_means = means schema text parsed _ read_compiled

    pub reads_no_listing : reads_listing schema text ≡ false
    reads_no_listing = lists_nothing schema text _ read_compiled

  pub bare : IsReadText → IsBareText text
  bare is = read_bare text parsed select is.reads is.statement is.formats
