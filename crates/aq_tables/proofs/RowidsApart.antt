-- A SELECT of the rowids of a table, in their order: if they rise, no two rows have one rowid.
use Rattle.std.proofs.Common.{◌≡◌, ℕ, ℤ, pos, negsuc, w64, FitsSigned, arith, List, [], ◌∷◌, ◌++◌, map, filter, Bool, true, false, Option, Some, Result, Ok, Err, IfOk, refl, sym, ap, subst, ◌∙◌, IsPermutation, Less, is_eq}
use Rattle.std.specs.List.{AllByRecursion}
use Rattle.std.proofs.lemmas.Bool.Decides.{nat_tests}
use Rattle.std.proofs.lemmas.List.Sorted.{IsPermutation-sym, IsPermutation-map, All-permutation}
use Rattle.std.proofs.lemmas.List.Elements.{recursion_from_All, All-from_recursion}
use Rattle.sqlite_value.proofs.OrderLemmas.{value_cmp-Int, value_cmp_total}
use Rattle.aq_tables.specs.Rowids.{IsRowid, Rise, ShowsRising, AreApart, is_after}
use Rattle.sqlite.specs.declared.types.Value.TheVariants.{Int}
use Rattle.sqlite.specs.declared.error.Error.{Error}
use Rattle.sqlite.specs.Order.{Row}
use Rattle.sqlite.specs.Query.{Query, Output}
use Rattle.sqlite.specs.Effect.{Database}
use Rattle.sqlite.specs.Term.{col}
use Rattle.sqlite.specs.Tree.{rowid}
use Rattle.sqlite_value.specs.Order.{value_cmp, column}
use Rattle.sqlite_trees.specs.Tree.{IsAscending}
use Rattle.sqlite_trees.specs.View.{is_int}
use Rattle.sqlite_sql.specs.Numeral.{fits_i64}
use Rattle.sqlite_rules.specs.Edit.{id_in}
use Rattle.sqlite_keyed.proofs.ListLemmas.{map-map, along_permutation, all_of, all_weaker, ascending_weaker, ascending_from_map, ascending-append}
use Rattle.sqlite_resolve.specs.Program.{program}
use Rattle.aq_tables.specs.Standing.{Stands, HaveOtherRowids}
use Rattle.aq_tables.proofs.Resolving.{understood_is, lists_nothing}
use Rattle.aq_tables.proofs.Scans.{scan, scanned}
use Rattle.aq_tables.proofs.Taking.{other_rowids}
use Rattle.aq_tables.specs.declared.reading.Table.{Table}
use Rattle.aq_tables.specs.Texts.{rowids_text}
use Rattle.aq_tables.proofs.ReadMeaning.{rising, scan_draft, read_compiled}
use Rattle.aq_tables.proofs.TextsMeaning.{form_of, rowids, is_rowids}

-- ---- rowids that rise

-- what holds of each two, in either order, holds in any order of all
module _ {X : Type 0} (S : X → X → Type 0) (turn : (a b : X) → S a b → S b a) where
  abbrev Carries : List X → List X → Type 0
  Carries xs ys = ((x : X) → AllByRecursion (S x) xs → AllByRecursion (S x) ys) × (IsAscending S xs → IsAscending S ys)

  pub pairs-permutation : (xs ys : List X) → IsPermutation xs ys → IsAscending S xs → IsAscending S ys
  pairs-permutation xs ys same =
      (along_permutation Carries (λ xs. (λ x all. all, λ up. up)) (λ x xs ys more. (λ z all. (all.0, more.0 z all.1), λ up. (more.0 x up.0, more.1 up.1)))
      (λ x y xs. (λ z all. (all.1.0, (all.0, all.1.1)), λ up. ((turn x y up.0.0, up.1.0), (up.0.1, up.1.1))))
      (λ xs ys zs first more. (λ x all. more.0 x (first.0 x all), λ up. more.1 (first.1 up))) xs ys same).1

abbrev Other : Row → Row → Type 0
Other a b = is_eq (value_cmp (column a 0) (column b 0)) ≡ false

turn : (a b : Row) → Other a b → Other b a
turn a b h = other_rowids a b h

all_pass : (rows : List Row) → filter (λ r. true) rows ≡ rows
all_pass [] = refl
all_pass (r ∷ rows) = ap (λ l. r ∷ l) (all_pass rows)

-- once the rowids that a query shows rise, no two rows of the table have one rowid
module _ (t : Table) (db : Database) (at tree : ℕ) (stands : Stands db.schema (form_of t) at tree) where
  abbrev shows_rowids : Query
  shows_rowids = scan tree [] (col 1 0 ∷ []) (rising 0 ∷ [])

  typed : program db.schema [] (scan_draft tree [] (col 1 0 ∷ []) (rising 0 ∷ [])) ≡ Ok (record { lets = []; body = shows_rowids })
  unfolding program
  typed = rw (stands.low, stands.sole)

  pub rowids_apart : ShowsRising (rowids_text t) db → IsAscending HaveOtherRowids (db.trees tree) × AllByRecursion (λ r. IsRowid (rowid r)) (db.trees tree)
  rowids_apart h =
      let rows = db.trees tree in
      let alone = λ (r : Row). rowid r ∷ [] in
      let compiled = read_compiled (form_of t) (rowids_text t) rowids rowids (col 1 0 ∷ []) (rising 0 ∷ []) (is_rowids t) db.schema at tree stands typed in
      let answer = h.1 _ (understood_is db.schema (rowids_text t) _ compiled) (lists_nothing db.schema (rowids_text t) _ compiled) in
      let seen = scanned tree stands.low [] (col 1 0 ∷ []) (rising 0 ∷ []) [] (λ r. true) db.trees h.0 (all_of _ (λ r. refl) rows) answer.answer in
      let every : IsPermutation (map alone (filter (λ r. true) rows)) h.0 =
      subst (IsPermutation _) (sym seen.is) (subst (λ l. IsPermutation l (map (λ (o : Output). o.1) seen.ordered)) (map-map _ _ _) (IsPermutation-map (λ (o : Output). o.1) _ _ seen.same)) in
      let same = IsPermutation-sym _ _ (subst (λ l. IsPermutation (map alone l) h.0) (all_pass rows) every) in
      let apart = pairs-permutation Other turn h.0 (map alone rows) same (ascending_weaker _ Other (λ c d less. ap is_eq less) h.0 h.2.0) in
      let int = λ (r : Row). IsRowid (column r 0) in
      let ints = recursion_from_All int (map alone rows) (All-permutation int h.0 (map alone rows) same (All-from_recursion int h.0 h.2.1)) in
      (ascending_from_map Other alone rows apart, from_map int alone rows ints)
    where
      from_map : (P : Row → Type 0) (f : Row → Row) (xs : List Row) → AllByRecursion P (map f xs) → AllByRecursion (λ r. P (f r)) xs
      from_map P f [] all = tt
      from_map P f (r ∷ xs) all = (all.0, from_map P f xs all.1)

pub apart : (t : Table) (rise : Result Bool Error) (db : Database) → IfOk rise (λ rise. rise ≡ true → ShowsRising (rowids_text t) db) → IfOk rise (λ rise. rise ≡ true → AreApart (form_of t) db)
apart t (Ok rise) db h = λ is_true at tree stands. rowids_apart t db at tree stands (h is_true)
apart t (Err e) db h = h

-- ---- one more

-- what fits 64 bits, as a column tests it
pub fits_column : (n : ℤ) → FitsSigned w64 n → fits_i64 n ≡ true
fits_column (pos n) h = grind (arith, nat_tests)
fits_column (negsuc n) h = grind (arith, nat_tests)

-- they rise, and each number that comes after the last of them comes after all
abbrev pub RiseTo : Option ℤ → List Row → Type 0
RiseTo last rows = Rise rows × ((number : ℤ) → is_after last number ≡ true → AllByRecursion (λ r. value_cmp (column r 0) (Int number) ≡ Less) rows)

pub rise_more : (last : Option ℤ) (rows : List Row) (row : Row) (number : ℤ) → column row 0 ≡ Int number → fits_i64 number ≡ true → is_after last number ≡ true → RiseTo last rows → RiseTo (Some number) (rows ++ row ∷ [])
rise_more last rows row number is fits after (rise, above) =
    let below = above number after in
    let less = λ (a b : Row). value_cmp (column a 0) (column b 0) ≡ Less in (
      (ascending-append less rows (row ∷ []) rise.0 (tt, tt) (all_weaker _ (λ r. AllByRecursion (less r) (row ∷ [])) (λ r h. (ap (value_cmp (column r 0)) is ∙ h, tt)) rows below), append_all _ rows row rise.1 (ap is_int is, ap (λ v. fits_i64 (id_in v)) is ∙ fits)),
      λ next later.
          let step : value_cmp (Int number) (Int next) ≡ Less = value_cmp-Int number next ∙ (rw later refl) in
          append_all _ rows row (all_weaker _ (λ r. value_cmp (column r 0) (Int next) ≡ Less) (λ r h. value_cmp_total.trans (column r 0) (Int number) (Int next) h step) rows below) (ap (λ v. value_cmp v (Int next)) is ∙ step),
    )
  where
    append_all : (P : Row → Type 0) (xs : List Row) (x : Row) → AllByRecursion P xs → P x → AllByRecursion P (xs ++ x ∷ [])
    append_all P [] x all h = (h, tt)
    append_all P (y ∷ xs) x all h = (all.0, append_all P xs x all.1 h)
