-- The map of loads and the list of them.
use Rattle.std.proofs.Common.{◌≡◌, ℕ, Bool, true, false, cond, Some, List, [], ◌∷◌, refl, ap, sym, ◌∙◌, arith}
use Rattle.std.specs.Prelude.{Option, option_map}
use Rattle.std.specs.declared.cmp.Ordering.{Ordering}
use Rattle.std.specs.declared.cmp.Ordering.TheVariants.{Less, Equal, Greater}
use Rattle.std.specs.Ordering.{is_eq, is_lt, match_ordering, nat_cmp}
use Rattle.std.specs.Map.{lookup}
use Rattle.std.specs.BTreeMap.{insert_entry, is_at}
use Rattle.std.proofs.lemmas.Bool.Decides.{nat_tests}
use Rattle.aq_rules.specs.Office.Office.{StoredLoad, comes_before, is_same, load_rank, row_at, with_row}
use Rattle.aq_rows.specs.declared.kept_loads.KeptLoad.{KeptLoad}
use Rattle.aq_rows.specs.KeptLoads.{stored_entry, stored_in}

same_number : (number other : ℕ) → is_same (other ∷ []) (number ∷ []) ≡ is_eq (nat_cmp number other)
same_number number other = grind (arith, nat_tests)

same_rank : (number other : ℕ) → is_same (number ∷ []) (other ∷ []) ≡ is_eq (nat_cmp number other)
same_rank number other = grind (arith, nat_tests)

before_rank : (number other : ℕ) → comes_before (number ∷ []) (other ∷ []) ≡ is_lt (nat_cmp number other)
before_rank number other = grind (arith, nat_tests)

equal_number : (number other : ℕ) → is_eq (nat_cmp number other) ≡ true → number ≡ other
equal_number number other h = grind (arith, nat_tests)

-- a search of the map finds what the list has
found_in : {X : Type 0} (of_kept : KeptLoad → X) (of_load : StoredLoad → X) → ((entry : ℕ × KeptLoad) → of_kept entry.1 ≡ of_load (stored_entry entry))
    → (number : ℕ) (entries : List (ℕ × KeptLoad)) → option_map of_kept (lookup (is_at (nat_cmp number)) entries) ≡ option_map of_load (row_at load_rank (number ∷ []) (stored_in entries))
found_in of_kept of_load is number [] = refl
found_in {X} of_kept of_load is number (entry ∷ entries) =
    let rest = found_in of_kept of_load is number entries in
    let by : (b : Bool) → option_map of_kept (cond b (Some entry.1) (lookup (is_at (nat_cmp number)) entries)) ≡ option_map of_load (cond b (Some (stored_entry entry)) (row_at load_rank (number ∷ []) (stored_in entries))) =
    elim [ true ↦ ap (λ (x : X). Some x) (is entry) | false ↦ rest ]
    in
    by (is_eq (nat_cmp number entry.0))
    ∙ ap (λ b. option_map of_load (cond b (Some (stored_entry entry)) (row_at load_rank (number ∷ []) (stored_in entries)))) (sym (same_number number entry.0))

-- what is kept of the load with a number is what the list of loads says of it
pub kept_of : {X : Type 0} (of_kept : KeptLoad → X) (of_load : StoredLoad → X) → ((entry : ℕ × KeptLoad) → of_kept entry.1 ≡ of_load (stored_entry entry))
    → (number : ℕ) (entries : List (ℕ × KeptLoad)) (loads : List StoredLoad) (kept : Option KeptLoad) → stored_in entries ≡ loads → kept ≡ lookup (is_at (nat_cmp number)) entries
    → option_map of_kept kept ≡ option_map of_load (row_at load_rank (number ∷ []) loads)
kept_of of_kept of_load is number entries loads kept are found =
    ap (option_map of_kept) found
    ∙ found_in of_kept of_load is number entries
    ∙ ap (λ (all : List StoredLoad). option_map of_load (row_at load_rank (number ∷ []) all)) are

pub put_in : (number : ℕ) (kept : KeptLoad) (entries : List (ℕ × KeptLoad)) → stored_in (insert_entry nat_cmp entries number kept) ≡ with_row load_rank (stored_entry (number, kept)) (stored_in entries)
put_in number kept [] = refl
put_in number kept (entry ∷ entries) =
    let row : StoredLoad = stored_entry (number, kept) in
    let first : StoredLoad = stored_entry entry in
    let rows : List StoredLoad = stored_in entries in
    let at : (o : Ordering) → nat_cmp number entry.0 ≡ o → stored_in (match_ordering o ((number, kept) ∷ entry ∷ entries) ((entry.0, kept) ∷ entries) (entry ∷ insert_entry nat_cmp entries number kept)) ≡ cond (is_lt o) (row ∷ first ∷ rows) (cond (is_eq o) (row ∷ rows) (first ∷ with_row load_rank row rows)) =
    elim [
      | Less ↦ λ _. refl
      | Equal ↦ λ same. ap (λ (n : ℕ). stored_entry (n, kept) ∷ rows) (sym (equal_number number entry.0 (ap is_eq same)))
      | Greater ↦ λ _. ap (λ (l : List StoredLoad). first ∷ l) (put_in number kept entries)
    ]
    in
    at (nat_cmp number entry.0) refl
    ∙ ap (λ b. cond b (row ∷ first ∷ rows) (cond (is_eq (nat_cmp number entry.0)) (row ∷ rows) (first ∷ with_row load_rank row rows))) (sym (before_rank number entry.0))
    ∙ ap (λ b. cond (comes_before (load_rank row) (load_rank first)) (row ∷ first ∷ rows) (cond b (row ∷ rows) (first ∷ with_row load_rank row rows))) (sym (same_rank number entry.0))
