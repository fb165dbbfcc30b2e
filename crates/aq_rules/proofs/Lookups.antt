-- What is found under a key after a row is put or dropped; and two lists in rising order in which the same is found are one list.
use Rattle.std.proofs.Common.{◌≡◌, ℕ, Bool, true, false, cond, not, List, [], ◌∷◌, refl, sym, ap, ◌∙◌, inl, inr, subst}
use Rattle.std.specs.Prelude.{Option, Some, None}
use Rattle.std.proofs.lemmas.Bool.{false≢true, and_parts, cases_Bool}
use Rattle.std.proofs.lemmas.Slice.Eq.{bytes_eq-Decides}
use Rattle.aq_rules.specs.Office.RowOrder.{before-total, before-trans}
use Rattle.aq_rules.proofs.Spans.{before-itself}
use Rattle.aq_rules.specs.Office.Office.{is_same, comes_before, rises_from, rises, row_at, with_row, without_row}

pub same-itself : (key : List ℕ) → is_same key key ≡ true
same-itself key = (bytes_eq-Decides key key).1 refl

pub same-is : (a b : List ℕ) → is_same a b ≡ true → a ≡ b
same-is a b h = (bytes_eq-Decides a b).0 h

pub before-other : (a b : List ℕ) → comes_before a b ≡ true → is_same a b ≡ false
before-other a b before =
    elim (cases_Bool (is_same a b)) [
      | inl same ↦ absurd (before-itself b (subst (λ l. comes_before l b ≡ true) (same-is a b same) before))
      | inr other ↦ other
    ]

pub before-other_way : (a b : List ℕ) → comes_before a b ≡ true → is_same b a ≡ false
before-other_way a b before =
    elim (cases_Bool (is_same b a)) [
      | inl same ↦ absurd (before-itself b (subst (λ l. comes_before l b ≡ true) (sym (same-is b a same)) before))
      | inr other ↦ other
    ]

-- what comes before another does not come after it
pub before-back : (a b : List ℕ) → comes_before a b ≡ true → comes_before b a ≡ false
before-back a b before =
    elim (cases_Bool (comes_before b a)) [
      | inl back ↦ absurd (before-itself a (before-trans a b a before back))
      | inr forth ↦ forth
    ]

pub same-flip : (a b : List ℕ) → is_same a b ≡ is_same b a
same-flip a b =
    elim (cases_Bool (is_same b a)) [
      | inl same ↦ (bytes_eq-Decides a b).1 (sym (same-is b a same)) ∙ sym same
      | inr other ↦ elim (cases_Bool (is_same a b)) [
        | inl same ↦ absurd (false≢true (sym other ∙ (bytes_eq-Decides b a).1 (sym (same-is a b same))))
        | inr too ↦ too ∙ sym other
      ]
    ]

-- two tests of which one at most holds may be made in either order
either_order : {X : Type 0} (f r : Bool) (a b : X) (rest : X) → (f ≡ true → r ≡ true → ⊥) → cond f a (cond r b rest) ≡ cond r b (cond f a rest)
either_order true true a b rest never = absurd (never refl refl)
either_order true false a b rest never = refl
either_order false true a b rest never = refl
either_order false false a b rest never = refl

module _ {X : Type 0} (rank : X → List ℕ) where
  abbrev At : List ℕ → List X → Option X
  At key rows = row_at rank key rows

  pub found-with : (key : List ℕ) (row : X) (rows : List X) → At key (with_row rank row rows) ≡ cond (is_same (rank row) key) (Some row) (At key rows)
  found-with key row [] = refl
  found-with key row (first ∷ rows) = by_tests (comes_before (rank row) (rank first)) (is_same (rank row) (rank first)) refl (found-with key row rows)
    where
      replaced : is_same (rank row) (rank first) ≡ true → (r : Bool) → is_same (rank row) key ≡ r
          → cond r (Some row) (At key rows) ≡ cond r (Some row) (cond (is_same (rank first) key) (Some first) (At key rows))
      replaced same true e = refl
      replaced same false e =
          let first_too : is_same (rank first) key ≡ false = ap (λ l. is_same l key) (sym (same-is (rank row) (rank first) same)) ∙ e in
          ap (λ b. cond b (Some first) (At key rows)) (sym first_too)

      never : is_same (rank row) (rank first) ≡ false → is_same (rank first) key ≡ true → is_same (rank row) key ≡ true → ⊥
      never other f r =
          let same : rank row ≡ rank first = same-is (rank row) key r ∙ sym (same-is (rank first) key f) in
          false≢true (sym other ∙ (bytes_eq-Decides (rank row) (rank first)).1 same)

      by_tests : (b s : Bool) → is_same (rank row) (rank first) ≡ s → At key (with_row rank row rows) ≡ cond (is_same (rank row) key) (Some row) (At key rows)
          → At key (cond b (row ∷ first ∷ rows) (cond s (row ∷ rows) (first ∷ with_row rank row rows))) ≡ cond (is_same (rank row) key) (Some row) (At key (first ∷ rows))
      by_tests true s e rest = refl
      by_tests false true e rest = replaced e (is_same (rank row) key) refl
      by_tests false false e rest =
          ap (λ o. cond (is_same (rank first) key) (Some first) o) rest
          ∙ either_order (is_same (rank first) key) (is_same (rank row) key) (Some first) (Some row) (At key rows) (never e)

  pub found-without : (key dropped : List ℕ) (rows : List X) → At key (without_row rank dropped rows) ≡ cond (is_same dropped key) None (At key rows)
  found-without key dropped [] = nothing (is_same dropped key)
    where
      nothing : (b : Bool) → ◌≡◌ {A = Option X} None (cond b None None)
      nothing true = refl
      nothing false = refl
  found-without key dropped (first ∷ rows) = by_test (is_same (rank first) dropped) refl (found-without key dropped rows)
    where
      gone : is_same (rank first) dropped ≡ true → (d : Bool) → is_same dropped key ≡ d
          → cond d None (At key rows) ≡ cond d None (cond (is_same (rank first) key) (Some first) (At key rows))
      gone same true e = refl
      gone same false e =
          let first_too : is_same (rank first) key ≡ false = ap (λ l. is_same l key) (same-is (rank first) dropped same) ∙ e in
          ap (λ b. cond b (Some first) (At key rows)) (sym first_too)

      never : is_same (rank first) dropped ≡ false → is_same (rank first) key ≡ true → is_same dropped key ≡ true → ⊥
      never other f d =
          let same : rank first ≡ dropped = same-is (rank first) key f ∙ sym (same-is dropped key d) in
          false≢true (sym other ∙ (bytes_eq-Decides (rank first) dropped).1 same)

      by_test : (b : Bool) → is_same (rank first) dropped ≡ b → At key (without_row rank dropped rows) ≡ cond (is_same dropped key) None (At key rows)
          → At key (cond (not b) (first ∷ without_row rank dropped rows) (without_row rank dropped rows)) ≡ cond (is_same dropped key) None (At key (first ∷ rows))
      by_test true e rest = rest ∙ gone e (is_same dropped key) refl
      by_test false e rest =
          ap (λ o. cond (is_same (rank first) key) (Some first) o) rest
          ∙ either_order (is_same (rank first) key) (is_same dropped key) (Some first) None (At key rows) (never e)

  -- nothing is found under a key before the first row's
  pub none-before : (key : List ℕ) (first : X) (rows : List X) → comes_before key (rank first) ≡ true → rises_from rank first rows ≡ true → At key (first ∷ rows) ≡ None
  none-before key first [] before rising = ap (λ b. cond b (Some first) None) (before-other_way key (rank first) before)
  none-before key first (next ∷ rows) before rising =
      let parts = and_parts (comes_before (rank first) (rank next)) (rises_from rank next rows) rising in
      ap (λ b. cond b (Some first) (At key (next ∷ rows))) (before-other_way key (rank first) before)
      ∙ none-before key next rows (before-trans key (rank first) (rank next) before parts.0) parts.1

  -- nor is the first row's key found after it
  pub none-behind : (first : X) (rows : List X) → rises_from rank first rows ≡ true → At (rank first) rows ≡ None
  none-behind first [] rising = refl
  none-behind first (next ∷ rows) rising =
      let parts = and_parts (comes_before (rank first) (rank next)) (rises_from rank next rows) rising in
      none-before (rank first) next rows parts.0 parts.1

  pub rises-rest : (first : X) (rows : List X) → rises_from rank first rows ≡ true → rises rank rows ≡ true
  rises-rest first [] rising = refl
  rises-rest first (next ∷ rows) rising = (and_parts (comes_before (rank first) (rank next)) (rises_from rank next rows) rising).1

  pub first-found : (first : X) (rows : List X) → At (rank first) (first ∷ rows) ≡ Some first
  first-found first rows = ap (λ b. cond b (Some first) (At (rank first) rows)) (same-itself (rank first))

  abbrev AllFound : List X → List X → Type 0
  AllFound xs ys = (key : List ℕ) → At key xs ≡ At key ys

  pub one_list : (xs ys : List X) → rises rank xs ≡ true → rises rank ys ≡ true → AllFound xs ys → xs ≡ ys
  one_list [] [] p q found = refl
  one_list [] (y ∷ ys) p q found = let none : None ≡ Some y = found (rank y) ∙ first-found y ys in cc
  one_list (x ∷ xs) [] p q found = let none : None ≡ Some x = sym (found (rank x)) ∙ first-found x xs in cc
  one_list (x ∷ xs) (y ∷ ys) p q found =
      elim (cases_Bool (comes_before (rank x) (rank y))) [
        | inl before ↦
            let none : None ≡ Some x = sym (none-before (rank x) y ys before q) ∙ sym (found (rank x)) ∙ first-found x xs in
            cc
        | inr behind ↦ elim (cases_Bool (is_same (rank x) (rank y))) [
          | inr other ↦
              let after = before-total (rank x) (rank y) behind other in
              let none : None ≡ Some y = sym (none-before (rank y) x xs after p) ∙ found (rank y) ∙ first-found y ys in
              cc
          | inl same ↦
              let is = same-is (rank x) (rank y) same in
              let firsts : Some x ≡ Some y =
              sym (first-found x xs) ∙ found (rank x) ∙ ap (λ l. At l (y ∷ ys)) is ∙ first-found y ys
              in
              let first : x ≡ y = cc in
              let rest = one_list xs ys (rises-rest x xs p) (rises-rest y ys q) (rest_found is) in
              λ i. first i ∷ rest i
        ]
      ]
    where
      rest_found : rank x ≡ rank y → AllFound xs ys
      rest_found is key = by_test (is_same (rank x) key) refl
        where
          by_test : (b : Bool) → is_same (rank x) key ≡ b → At key xs ≡ At key ys
          by_test true e =
              let here = same-is (rank x) key e in
              ap (λ l. At l xs) (sym here) ∙ none-behind x xs p ∙ sym (none-behind y ys q) ∙ ap (λ l. At l ys) (sym is ∙ here)
          by_test false e =
              let y_too : is_same (rank y) key ≡ false = ap (λ l. is_same l key) (sym is) ∙ e in
              ap (λ b. cond b (Some x) (At key xs)) (sym e) ∙ found key ∙ ap (λ b. cond b (Some y) (At key ys)) y_too
