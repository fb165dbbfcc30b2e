-- What a CREATE of ours makes of a database: one table more, without rows.
use Rattle.std.proofs.Common.{◌≡◌, inl, inr, ◌^◌, ◌+◌, codes, eqb, nat_le, ℕ, List, [], ◌∷◌, ◌++◌, length, Bool, true, false, Some, None, find, slice_get, MatchBool, Ok, Err, refl, sym, ap, subst, ◌∙◌, arith}
use Rattle.std.specs.List.{AllByRecursion, position_from}
use Rattle.std.proofs.lemmas.Bool.Decides.{nat_tests}
use Rattle.std.proofs.lemmas.List.Folds.{find-append}
use Rattle.sqlite.specs.Table.{Table}
use Rattle.sqlite.specs.Effect.{Database, IsDatabase}
use Rattle.sqlite.specs.Does.{Tally, MakesTable, sequence_text, lacks_sequence}
use Rattle.sqlite.specs.Rows.{Gives}
use Rattle.sqlite.specs.State.{State, Writes}
use Rattle.sqlite_keyed.proofs.ListLemmas.{all-append}
use Rattle.sqlite_schema.specs.Names.{table_named, same_name}
use Rattle.sqlite_schema.specs.declared.schema.Reference.{Reference}
use Rattle.sqlite_schema.specs.declared.command.Command.TheVariants as commands
use Rattle.sqlite_rules.proofs.ListLemmas.{all_has, all_from}
use Rattle.sqlite_resolve.specs.Lowering.{Checked}
use Rattle.sqlite_resolve.specs.Compile.{table_defined_by}
use Rattle.sqlite_catalog.specs.Calls.{CreatesTable}
use Rattle.sqlite_catalog.specs.Change.{next_tree, automatics, is_used}
use Rattle.sqlite_catalog.proofs.StepLemmas.{same_itself, no_table, table_below}
use Rattle.sqlite_catalog.proofs.AlterLemmas.{place_has}
use Rattle.sqlite_tied.specs.Compute.{everything}
use Rattle.aq_tables.specs.declared.reading.Table.{Table as Which}
use Rattle.aq_tables.specs.Forms.{Form, table_of}
use Rattle.aq_tables.specs.Standing.{IsChildless, Stands}
use Rattle.aq_tables.specs.Made.{HasForm, IsAdded, form_of}
use Rattle.aq_tables.specs.Moves.{Extends, MakesForm}
use Rattle.aq_tables.proofs.Statements.{went, same_value}
use Rattle.aq_tables.proofs.Extending.{position_behind, position_nowhere, place_before, place_behind, none_found, low_of, extends_here, extends_then, still_formed}

-- ---- any table

creates_extends : (old new : Database) (text : List ℕ) (c : CreatesTable old.schema text old.trees new.schema new.trees) → IsAdded (record c.table { tree = next_tree old.schema }) → Extends old new
creates_extends old new text c one = record {
  more = record c.table { tree = next_tree old.schema } ∷ [];
  tables = ap (λ s. s.tables) c.is;
  added = (one, tt);
  further = automatics (record c.table { tree = next_tree old.schema }) 0 (next_tree old.schema + 1) c.table.uniques;
  indexes = ap (λ s. s.indexes) c.is;
  views = ap (λ s. s.views) c.is;
  rows = c.others;
}

-- the table that counts for tables with AUTOINCREMENT
abbrev name_in : Checked Table → List ℕ
name_in (Ok t) = t.name
name_in (Err e) = []

abbrev references_in : Checked Table → List Reference
references_in (Ok t) = t.references
references_in (Err e) = []

counts : (name_in (table_defined_by sequence_text) ≡ codes "sqlite_sequence") × (references_in (table_defined_by sequence_text) ≡ [])
unfolding everything
counts = (refl, refl)

sequence_extends : (mid after : Database) (b : Bool) → MatchBool b (MakesTable sequence_text mid (Ok after)) (Gives mid (Ok after)) → Extends mid after
sequence_extends mid after true h = creates_extends mid after sequence_text h (inr (sym (ap name_in h.defined) ∙ counts.0, sym (ap references_in h.defined) ∙ counts.1))
sequence_extends mid after false h = subst (Extends mid) (sym (same_value h)) (extends_here mid)

-- another name is free still, also where the table that counts is made
free_over : (mid after : Database) (b : Bool) → MatchBool b (MakesTable sequence_text mid (Ok after)) (Gives mid (Ok after)) → (name : List ℕ) → same_name (codes "sqlite_sequence") name ≡ false → table_named mid.schema name ≡ None → table_named after.schema name ≡ None
free_over mid after true h name other none =
    let q = λ (t : Table). same_name t.name name in
    let t = record h.table { tree = next_tree mid.schema } in
    let named : h.table.name ≡ codes "sqlite_sequence" = sym (ap name_in h.defined) ∙ counts.0 in
    ap (λ s. position_from q 0 s.tables) h.is ∙ position_nowhere q 0 mid.schema.tables t none (subst (λ n. same_name n name ≡ false) (sym named) other)
free_over mid after false h name other none = subst (λ (db : Database). table_named db.schema name ≡ None) (sym (same_value h)) none

-- ---- a table of ours

module _ (which : Which) (text : List ℕ) (defined : table_defined_by text ≡ Ok (table_of (form_of which) 0)) where
  abbrev form : Form
  form = form_of which

  module _ (old mid : Database) (c : CreatesTable old.schema text old.trees mid.schema mid.trees) where
    abbrev tables : List Table
    tables = old.schema.tables

    abbrev tree : ℕ
    tree = next_tree old.schema

    abbrev table : Table
    table = table_of form tree

    same : c.table ≡ table_of form 0
    same = same_value (sym c.defined ∙ defined)

    adds : Extends old mid
    adds = creates_extends old mid text c (inl (which, ap (λ (t : Table). record t { tree = tree }) same))

    unnamed : table_named old.schema form.name ≡ None
    unnamed = no_table old.schema form.name (subst (λ (t : Table). is_used old.schema t.name ≡ false) same c.free)

    one_more : mid.schema.tables ≡ tables ++ table ∷ []
    one_more = ap (λ s. s.tables) c.is ∙ ap (λ (t : Table). tables ++ record t { tree = tree } ∷ []) same

    other_tree : AllByRecursion (λ (t : Table). eqb t.tree tree ≡ false) tables
    other_tree = all_from _ tables (λ t h. let below = table_below old.schema t h in grind (arith, nat_tests))

    stands : nat_le (2 ^ 31) tree ≡ false → Stands mid.schema form (length tables) tree
    stands low = record {
      has = record {
        named = ap (position_from (λ (t : Table). same_name t.name form.name) 0) one_more ∙ position_behind _ 0 tables table unnamed (same_itself form.name) ∙ ap Some (omega arith);
        stands = ap (λ l. slice_get l (length tables)) one_more ∙ place_behind tables table;
        untimed = refl;
      };
      sole = ap (find (λ (t : Table). eqb t.tree tree)) one_more ∙ find-append _ tables (table ∷ []) ∙ rw (none_found _ tables other_tree) hit;
      low = low;
      childless = subst (AllByRecursion (IsChildless tree)) (sym one_more)
          (all-append _ tables (table ∷ []) (all_from (IsChildless tree) tables (λ t h is. absurd (let below = table_below old.schema t h in omega (arith, is)))) ((λ is. refl), tt));
    }
      where
        hit : find (λ (t : Table). eqb t.tree tree) (table ∷ []) ≡ Some table
        hit = let e : eqb tree tree ≡ true = grind (arith, nat_tests) in rw e

  pub makes_form : (old new : State) (count : ℕ) → Writes old new None commands.CreateTable text [] count → MakesForm form old.now new.now
  makes_form old new count w = made
    where
      made : MakesForm form old.now new.now
      made =
          let done = went w.changed in
          let makes = went done.1 in
          let mid = makes.0 in
          let after = done.0 in
          let c = makes.1 in
          let now : new.now ≡ after = ap (λ (p : Tally × Database). p.1) (same_value done.2) in
          let rest = sequence_extends mid after (lacks_sequence mid.schema) makes.2 in
          let t = table_of form (next_tree old.now.schema) in
          let at = length old.now.schema.tables in
          let here : slice_get after.schema.tables at ≡ Some t = ap (λ l. slice_get l at) rest.tables ∙ place_before mid.schema.tables rest.more at t (ap (λ l. slice_get l at) (one_more old.now mid c) ∙ place_behind old.now.schema.tables t) in
          let low = low_of after.schema after.trees t (subst IsDatabase now w.sound) (place_has after.schema.tables at t here) in
          let formed : HasForm mid.schema form = record { at = at; tree = t.tree; stands = stands old.now mid c low } in
          subst (MakesForm form old.now) (sym now) (record {
            missing = unnamed old.now mid c;
            extends = extends_then old.now mid after (adds old.now mid c) rest;
            formed = still_formed mid after form rest formed;
            free = λ name own counted none. free_over mid after (lacks_sequence mid.schema) makes.2 name counted
                (ap (position_from (λ (u : Table). same_name u.name name) 0) (one_more old.now mid c) ∙ position_nowhere _ 0 old.now.schema.tables t none own);
            empty = all_has (λ (u : Table). after.trees u.tree ≡ mid.trees u.tree) mid.schema.tables t rest.rows (place_has mid.schema.tables at t formed.stands.has.stands) ∙ c.empty;
          })
