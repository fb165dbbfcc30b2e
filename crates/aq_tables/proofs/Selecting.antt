-- How a plain SELECT of columns from one table is read, whatever else the schema has.
use Rattle.std.proofs.Common.{◌≡◌, ℕ, ◌+◌, ◌-◌, negsuc, List, [], ◌∷◌, ◌++◌, map, codes, unwrap_or, option_map, Bool, true, false, ◌&&◌, nat_lt, Option, Some, None, Ok, refl, sym, ap, ◌∙◌, slice_get, append-nil, append_assoc}
use Rattle.sqlite.specs.declared.types.Value.TheVariants.{Int}
use Rattle.sqlite_value.specs.declared.keys.Collation.{Collation}
use Rattle.sqlite_value.specs.declared.keys.Key.{Key}
use Rattle.sqlite_sql.specs.Term.{Term, lit, reads_below}
use Rattle.sqlite_schema.specs.declared.schema.Schema.{Schema}
use Rattle.sqlite_schema.specs.declared.schema.Table.{Table}
use Rattle.sqlite_schema.specs.declared.schema.Column.{Column as Column'}
use Rattle.sqlite_schema.specs.Names.{table_named}
use Rattle.sqlite_ast.specs.declared.Expr.{Expr, out-Expr}
use Rattle.sqlite_ast.specs.declared.Expr.TheOpen.{Expr-F, Shown-F}
use Rattle.sqlite_ast.specs.declared.Shown as ast_shown
use Rattle.sqlite_ast.specs.declared.Origin.TheVariants as origin
use Rattle.sqlite_ast.specs.declared.Source.{Source, out-Source}
use Rattle.sqlite_ast.specs.declared.Core.{Core, out-Core}
use Rattle.sqlite_ast.specs.declared.Sort.{Sort, out-Sort}
use Rattle.sqlite_ast.specs.declared.Select.{Select, out-Select}
use Rattle.sqlite_draft.specs.declared.query.Draft.{Draft}
use Rattle.sqlite_draft.specs.declared.join.Step.TheVariants.{Inner}
use Rattle.sqlite_draft.specs.Join.{chain}
use Rattle.sqlite_resolve.specs.Lowering.{fresh, max_budget}
use Rattle.sqlite_resolve.specs.Scope.{Name}
use Rattle.sqlite_resolve.specs.Terms.{number}
use Rattle.sqlite_resolve.specs.Select.{named, paging, constant_or}
use Rattle.sqlite_resolve.specs.Program as program
use Rattle.sqlite_resolve.specs.declared.state.State.{State}
use Rattle.sqlite_resolve.specs.declared.scope.Bound.{Bound}
use Rattle.sqlite_resolve.specs.declared.scope.Output.{Output}
use Rattle.sqlite_resolve.specs.Scope.{Context, find as sought, in_level, only, hit, column_in, rowid_in, is_among}
use Rattle.sqlite_resolve.specs.declared.state.Carried.{Carried}
use Rattle.sqlite_resolve.specs.declared.body.Body.{Body as Body'}
use Rattle.sqlite_resolve.specs.declared.select.Clauses.{Clauses}
use Rattle.sqlite_resolve.specs.Lowering.{take_slot}
use Rattle.sqlite_resolve.specs.Select.{parts, having, assembled, ungrouped, outermost}
use Rattle.sqlite_ast.specs.declared.Statement.TheVariants as written
use Rattle.sqlite_syntax.specs.declared.statement.Parsed.{Parsed}
use Rattle.sqlite_schema.specs.declared.program.Program.{Program}
use Rattle.sqlite_schema.specs.declared.command.Command.TheVariants as commands
use Rattle.sqlite_resolve.specs.Compile.{compiled, first, planned, meaning, timed, returning, command, read, with_command}
use Rattle.sqlite_resolve.specs.Order as Order
use Rattle.sqlite_resolve.specs.Order.{peeled, alias_in, is_numeral, written_on, collation_of, placed}
use Rattle.sqlite_resolve.specs.Lowering.{alone}
use Rattle.std.specs.Prelude.{option_and_then}
use Rattle.std.specs.List.{position_from}
use Rattle.sqlite_schema.specs.Names.{same_name}
use Rattle.sqlite_resolve.specs.Body as Body
use Rattle.sqlite_resolve.specs.Body.{heading, is_column}
use Rattle.sqlite_resolve.specs.Expr.{lower}
use Rattle.aq_tables.proofs.Lowered.{after, over, found_lowered, IsFoundAs, term_as, carried_as}

-- columns of one table, with nothing else but ORDER BY
pub record IsPlainSelect (s : Select) (name : Name) (core : Core) (source : Source) : Type 0 where
  pub with : (out-Select s).with ≡ []
  pub first : (out-Select s).first ≡ core
  pub others : (out-Select s).others ≡ []
  pub limit : (out-Select s).limit ≡ None
  pub offset : (out-Select s).offset ≡ None
  pub from : (out-Core core).from ≡ source ∷ []
  pub distinct : (out-Core core).distinct ≡ false
  pub filter : (out-Core core).filter ≡ None
  pub group : (out-Core core).group ≡ []
  pub having : (out-Core core).having ≡ None
  pub origin : (out-Source source).origin ≡ origin.Table name
  pub alias : (out-Source source).alias ≡ None
  pub using : (out-Source source).using ≡ []
  pub on : (out-Source source).on ≡ None
  pub is_left : (out-Source source).is_left ≡ false

module _ (schema : Schema) (s : Select) (name : Name) (core : Core) (source : Source) (plain : IsPlainSelect s name core source) where
  pub plain_query : (shown : Draft × List Name × List (Option Collation)) → named schema core (out-Select s).order (lit (Int (negsuc 0)), number 0) ≡ Ok shown → program.query schema s ≡ Ok (shown, [])
  unfolding program.query program.query_to program.level program.with program.whole paging constant_or program.alone program.single program.sources program.source program.viewing
  plain_query shown is = rw (plain.with, plain.others, plain.limit, plain.offset, plain.first, plain.from, plain.origin, is)

-- a column of the result, or the rowid
pub record Picked : Type 0 where
  pub expr : Expr
  pub text : Name
  pub name : Name
  pub by_rowid : Bool
  pub at : ℕ
  pub column : Column'

-- the rowid has the name of the column that it is
abbrev pub heading_as : Bool → Table → Column' → Name
heading_as false t c = c.name
heading_as true t c = unwrap_or (option_and_then (λ k. option_map (λ (d : Column'). d.name) (slice_get t.columns k)) t.key) (codes "rowid")

abbrev pub term_for : Table → Picked → Term
term_for table p = term_as p.by_rowid table p.at

abbrev pub carried_for : Table → Picked → Carried
carried_for table p = carried_as p.by_rowid table p.at p.column

pub record IsPicked (table : Table) (e : Expr) (p : Picked) : Type 0 where
  pub is : out-Expr e ≡ Expr-F.Column None p.name
  pub found : IsFoundAs p.by_rowid table p.name p.at p.column

pub record IsShown (table : Table) (sh : ast_shown.Shown) (p : Picked) : Type 0 where
  pub shows : ast_shown.out-Shown sh ≡ Shown-F.One p.expr None p.text
  pub picked : IsPicked table p.expr p

abbrev pub AreShown : Table → List ast_shown.Shown → List Picked → Type 0
AreShown table [] [] = Unit {0}
AreShown table [] (p ∷ ps) = ⊥
AreShown table (sh ∷ shs) [] = ⊥
AreShown table (sh ∷ shs) (p ∷ ps) = IsShown table sh p × AreShown table shs ps

-- so many steps are left in the budget
abbrev pub MayTake : List Picked → ℕ → Type 0
MayTake [] budget = Unit {0}
MayTake (p ∷ ps) budget = (nat_lt 1 budget ≡ true) × MayTake ps (budget - 1)

abbrev pub output_of : Table → Picked → Output
output_of table p = record { name = heading_as p.by_rowid table p.column; is_alias = false; is_column = true; term = term_for table p; carried = carried_for table p }

abbrev pub left : Table → State → List Picked → State
left table s [] = s
left table s (p ∷ ps) = left table (after s (carried_for table p)) ps

module _ (schema : Schema) (at : ℕ) (table : Table) (stands : slice_get schema.tables at ≡ Some table) (owner : Name) where
  abbrev pub bound_to : Bound
  bound_to = record { name = owner; table = at; slot = 1; shared = [] }

  abbrev pub cx : List Output → Bool → Context
  cx shown may_aggregate = over schema at table stands owner shown may_aggregate true

  heading_found : (shown : List Output) (agg by_rowid : Bool) (e : Expr) (text name : Name) (k : ℕ) (c : Column') → out-Expr e ≡ Expr-F.Column None name → IsFoundAs by_rowid table name k c → heading (cx shown agg) e text ≡ heading_as by_rowid table c
  unfolding heading Body.declared sought in_level only hit column_in rowid_in is_among
  heading_found shown agg false e text name k c is h = rw (is, stands, h.0, stands, h.1)
  heading_found shown agg true e text name k c is h = rw (is, stands, h.0, h.1, h.2, stands)

  heading_is : (shown : List Output) (agg : Bool) (e : Expr) (text : Name) (p : Picked) → IsPicked table e p → heading (cx shown agg) e text ≡ heading_as p.by_rowid table p.column
  heading_is shown agg e text p h = heading_found shown agg p.by_rowid e text p.name p.at p.column h.is h.found

  is_column_is : (e : Expr) (p : Picked) → IsPicked table e p → is_column e ≡ true
  unfolding is_column
  is_column_is e p h = rw h.is

  shown_lowered : (agg : Bool) (done : List Output) (sh : ast_shown.Shown) (p : Picked) → IsShown table sh p → (s : State) → nat_lt 1 s.budget ≡ true
      → Body.shown lower (cx [] agg) (bound_to ∷ []) done sh s ≡ Ok (done ++ output_of table p ∷ [], after s (carried_for table p))
  unfolding Body.shown
  shown_lowered agg done sh p h s budget =
      rw (
        h.shows,
        found_lowered schema at table stands owner [] agg true p.expr p.by_rowid p.name p.at p.column h.picked.is h.picked.found 699 s budget,
        heading_is [] agg p.expr p.text p h.picked,
        is_column_is p.expr p h.picked,
      )

  outputs_lowered : (agg : Bool) (shs : List ast_shown.Shown) (ps : List Picked) → AreShown table shs ps → (done : List Output) (s : State) → MayTake ps s.budget
      → Body.outputs_from lower (cx [] agg) (bound_to ∷ []) done shs s ≡ Ok (done ++ map (output_of table) ps, left table s ps)
  outputs_lowered agg [] [] h done s budget = ap (λ l. Ok (l, s)) (sym (append-nil done))
  outputs_lowered agg (sh ∷ shs) (p ∷ ps) h done s budget =
      rw (shown_lowered agg done sh p h.0 s budget.0) (outputs_lowered agg shs ps h.1 (done ++ output_of table p ∷ []) (after s (carried_for table p)) budget.1 ∙ ap (λ l. Ok (l, left table (after s (carried_for table p)) ps)) (append_assoc done (output_of table p ∷ []) (map (output_of table) ps)))
  outputs_lowered agg [] (p ∷ ps) h done s budget = elim h [ ]
  outputs_lowered agg (sh ∷ shs) [] h done s budget = elim h [ ]

  -- no column of the result has a name of its own
  no_alias : (name : Name) (from : ℕ) (ps : List Picked) → position_from (λ o. o.is_alias && same_name o.name name) from (map (output_of table) ps) ≡ None
  no_alias name from [] = refl
  no_alias name from (p ∷ ps) = no_alias name (from + 1) ps

  pub record IsSort (so : Sort) (p : Picked) : Type 0 where
    pub key : (out-Sort so).key ≡ p.expr
    pub rises : (out-Sort so).descending ≡ false
    pub plain : (out-Sort so).nulls_first ≡ None
    pub picked : IsPicked table p.expr p

  abbrev pub AreSorts : List Sort → List Picked → Type 0
  AreSorts [] [] = Unit {0}
  AreSorts [] (p ∷ ps) = ⊥
  AreSorts (so ∷ sos) [] = ⊥
  AreSorts (so ∷ sos) (p ∷ ps) = IsSort so p × AreSorts sos ps

  abbrev pub key_of : Picked → Term × Key
  key_of p = (term_for table p, record { collation = alone (carried_for table p); descending = false })

  peeled_is : (e : Expr) (p : Picked) → IsPicked table e p → peeled e ≡ e
  unfolding peeled
  peeled_is e p h = rw h.is

  alias_is : (e : Expr) (p : Picked) (ps : List Picked) → IsPicked table e p → alias_in (map (output_of table) ps) e ≡ None
  unfolding alias_in
  alias_is e p ps h = rw h.is (no_alias p.name 0 ps)

  numeral_is : (e : Expr) (p : Picked) → IsPicked table e p → is_numeral e ≡ false
  unfolding is_numeral
  numeral_is e p h = rw h.is

  written_is : (e : Expr) (p : Picked) → IsPicked table e p → written_on e ≡ None
  unfolding written_on
  written_is e p h = rw h.is

  reads_below_none : (by_rowid : Bool) (t : Table) (k : ℕ) → reads_below 1 (term_as by_rowid t k) ≡ false
  reads_below_none false t k = refl
  reads_below_none true t k = refl

  sort_lowered : (ps : List Picked) (done : List (Term × Key)) (so : Sort) (p : Picked) → IsSort so p → (s : State) → nat_lt 1 s.budget ≡ true
      → Order.sort lower (cx (map (output_of table) ps) false) (map (output_of table) ps) done so s ≡ Ok (done ++ key_of p ∷ [], after s (carried_for table p))
  unfolding Order.sort Order.key collation_of placed
  sort_lowered ps done so p h s budget =
      rw (
        h.key,
        h.rises,
        h.plain,
        peeled_is p.expr p h.picked,
        alias_is p.expr p ps h.picked,
        found_lowered schema at table stands owner (map (output_of table) ps) false true p.expr p.by_rowid p.name p.at p.column h.picked.is h.picked.found 699 s budget,
        numeral_is p.expr p h.picked,
        written_is p.expr p h.picked,
        reads_below_none p.by_rowid table p.at,
      )

  sorts_lowered : (ps : List Picked) (sos : List Sort) (qs : List Picked) → AreSorts sos qs → (done : List (Term × Key)) (s : State) → MayTake qs s.budget
      → Order.sorts_from lower (cx (map (output_of table) ps) false) (map (output_of table) ps) done sos s ≡ Ok (done ++ map key_of qs, left table s qs)
  sorts_lowered ps [] [] h done s budget = ap (λ l. Ok (l, s)) (sym (append-nil done))
  sorts_lowered ps (so ∷ sos) (q ∷ qs) h done s budget =
      rw (sort_lowered ps done so q h.0 s budget.0) (sorts_lowered ps sos qs h.1 (done ++ key_of q ∷ []) (after s (carried_for table q)) budget.1 ∙ ap (λ l. Ok (l, left table (after s (carried_for table q)) qs)) (append_assoc done (key_of q ∷ []) (map key_of qs)))
  sorts_lowered ps [] (q ∷ qs) h done s budget = elim h [ ]
  sorts_lowered ps (so ∷ sos) [] h done s budget = elim h [ ]

left_aggregates : (table : Table) (s : State) (ps : List Picked) → (left table s ps).aggregates ≡ s.aggregates
left_aggregates table s [] = refl
left_aggregates table s (p ∷ ps) = left_aggregates table (after s (carried_for table p)) ps

left_steps : (table : Table) (s : State) (ps : List Picked) → (left table s ps).steps ≡ s.steps
left_steps table s [] = refl
left_steps table s (p ∷ ps) = left_steps table (after s (carried_for table p)) ps

module _ (schema : Schema) (at : ℕ) (table : Table) (name : Name) (here : table_named schema name ≡ Some at) (stands : slice_get schema.tables at ≡ Some table)
    (s : Select) (core : Core) (source : Source) (plain : IsPlainSelect s name core source)
    (shs : List ast_shown.Shown) (shown_is : (out-Core core).shown ≡ shs) (ps : List Picked) (shows : AreShown table shs ps) (may_show : MayTake ps max_budget) where
  abbrev bound_here : Bound
  bound_here = bound_to schema at table stands name

  abbrev outputs : List Output
  outputs = map (output_of table) ps

  bounds_is : Body.bounds schema (source ∷ []) (fresh 1 max_budget) ≡ Ok (bound_here ∷ [], fresh 2 max_budget)
  unfolding Body.bounds Body.bound Body.table_in take_slot
  bounds_is = rw (plain.origin, plain.alias, plain.using, here)

  abbrev the_body : Body'
  the_body = record { level = record { tables = bound_here ∷ []; shown = outputs }; steps = Inner table.tree ∷ []; filter = [] }

  body_is : Body.body lower (outermost schema) core (fresh 1 max_budget) ≡ Ok (the_body, left table (fresh 2 max_budget) ps)
  unfolding Body.body Body.result Body.outputs Body.matching Body.joins Body.join Body.shared Body.inner_join Body.tests
  body_is = rw (plain.from, bounds_is, shown_is, outputs_lowered schema at table stands name true shs ps shows [] (fresh 2 max_budget) may_show, plain.on, plain.using, stands, plain.is_left, plain.filter)

  module _ (sos : List Sort) (order_is : (out-Select s).order ≡ sos) (qs : List Picked) (sorts : AreSorts schema at table stands name sos qs) (may_sort : MayTake qs (left table (fresh 2 max_budget) ps).budget) where
    abbrev order : List (Term × Key)
    order = map (key_of schema at table stands name) qs

    abbrev the_clauses : Clauses
    the_clauses = record { body = the_body; is_grouped = false; keys = []; collations = []; having = []; order = order }

    parts_is : parts schema core sos (fresh 1 max_budget) ≡ Ok (the_clauses, left table (left table (fresh 2 max_budget) ps) qs)
    unfolding parts Order.keys having Order.sorts Body.tests
    parts_is = rw (body_is, plain.group, left_aggregates table (fresh 2 max_budget) ps, plain.having, sorts_lowered schema at table stands name ps sos qs sorts [] (left table (fresh 2 max_budget) ps) may_sort)

    abbrev pub the_draft : Draft
    the_draft = record { from = chain (Inner table.tree ∷ []); filter = []; group = None; project = map (λ (o : Output). o.term) outputs; distinct = false; collations = []; order = order; limit = lit (Int (negsuc 0)); offset = number 0 }

    abbrev pub the_names : List Name
    the_names = map (λ (o : Output). o.name) outputs

    named_is : named schema core sos (lit (Int (negsuc 0)), number 0) ≡ Ok (the_draft, the_names, map (λ (o : Output). o.carried.collation) outputs)
    unfolding named assembled ungrouped
    named_is = rw (parts_is, plain.distinct, left_steps table (left table (fresh 2 max_budget) ps) qs, left_steps table (fresh 2 max_budget) ps)

    pub select_compiled : (text : List ℕ) (p : Parsed) (program' : Program) → first text ≡ Ok p → p.statement ≡ written.Select s → p.formats ≡ [] → program.program schema [] the_draft ≡ Ok program'
        → compiled schema text ≡ Ok (with_command p ([], (commands.Select program' the_names, None)))
    unfolding compiled planned meaning timed returning command read
    select_compiled text p program' is statement formats typed =
        rw (is, statement, formats, plain_query schema s name core source plain (the_draft, the_names, map (λ (o : Output). o.carried.collation) outputs) (rw order_is named_is), typed)
