-- What a query over one table answers: the rows that pass its test, shown, in an order that its ORDER BY allows.
use Rattle.std.proofs.Common.{◌≡◌, ◌^◌, ℕ, pos, negsuc, List, [], ◌∷◌, ◌++◌, map, filter, Bool, true, false, if◌then◌else◌, None, refl, ap, subst, ◌∙◌, IsPermutation}
use Rattle.std.specs.Prelude.{nat_le, IsSorted}
use Rattle.std.specs.List.{list_all, AllByRecursion}
use Rattle.std.specs.Prelude.{flat_map}
use Rattle.sqlite_keyed.proofs.ListLemmas.{map-map}
use Rattle.sqlite.specs.declared.types.Value.TheVariants.{Null, Int}
use Rattle.sqlite_value.specs.declared.keys.Key.{Key}
use Rattle.sqlite.specs.Order.{Row}
use Rattle.sqlite.specs.Tree.{Trees}
use Rattle.sqlite.specs.Term.{Term, lit, holds, Env}
use Rattle.sqlite.specs.Query.{Query, Output, inner, end, output, output_cmp}
use Rattle.sqlite.specs.Program.{IsProgramAnswer}

-- a scan of one table
abbrev pub scan : ℕ → List Term → List Term → List (Term × Key) → Query
scan tree filter project order = record {
  from = inner tree end;
  filter = filter;
  group = None;
  project = project;
  distinct = false;
  collations = [];
  order = order;
  limit = lit (Int (negsuc 0));
  offset = lit (Int (pos 0));
}

module _ (tree : ℕ) (low : nat_le (2 ^ 31) tree ≡ false) (test : List Term) (project : List Term) (order : List (Term × Key)) (params : Row) where
  abbrev pub query : Query
  query = scan tree test project order

  abbrev pub shown : Row → Output
  shown r = output query (params ∷ r ∷ [])

  passing : (p : Row → Bool) (rows : List Row) → AllByRecursion (λ r. list_all (holds (params ∷ r ∷ [])) test ≡ p r) rows
      → flat_map (λ r. if list_all (holds (params ∷ r ∷ [])) test then (params ∷ r ∷ []) ∷ [] else []) rows ≡ map (λ r. params ∷ r ∷ []) (filter p rows)
  passing p [] all = refl
  passing p (r ∷ rows) all = rw all.0 (one (p r) (filter p rows) (passing p rows all.1))
    where
      one : (b : Bool) {a : List Env} (c : List Row) → a ≡ map (λ r. params ∷ r ∷ []) c → (if b then (params ∷ r ∷ []) ∷ [] else []) ++ a ≡ map (λ r. params ∷ r ∷ []) (if b then r ∷ c else c)
      one true c more = ap (λ l. (params ∷ r ∷ []) ∷ l) more
      one false c more = more

  -- the rows that pass, each with what it is sorted by, in some order; and what is shown of them
  pub record Scanned (p : Row → Bool) (stored rows : List Row) : Type 0 where
    pub ordered : List Output
    pub same : IsPermutation (map shown (filter p stored)) ordered
    pub sorted : IsSorted (output_cmp query) ordered
    pub is : rows ≡ map (λ (o : Output). o.1) ordered

  pub scanned : (p : Row → Bool) (db : Trees) (rows : List Row) → AllByRecursion (λ r. list_all (holds (params ∷ r ∷ [])) test ≡ p r) (db tree)
      → IsProgramAnswer [] query db params rows → Scanned p (db tree) rows
  scanned p db rows tests all =
      let a = all Null in
      let staged = (rw low at a.grouped) ∙ passing p (db tree) tests in
      record { ordered = a.ordered; same = subst (λ l. IsPermutation l a.ordered) (a.distinct ∙ ap (map (output query)) staged ∙ map-map _ _ _) a.same; sorted = a.sorted; is = a.shown }
