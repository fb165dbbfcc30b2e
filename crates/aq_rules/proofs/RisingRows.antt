-- Rows that rise by a rank: a list of two parts, how many there are once one is put or dropped, and what holds of each.
use Rattle.std.proofs.Common.{◌≡◌, ℕ, ◌+◌, ◌≤◌, Bool, true, false, not, cond, Some, None, List, [], ◌∷◌, ◌++◌, length, refl, ap, sym, ◌∙◌, arith}
use Rattle.std.specs.List.{AllByRecursion}
use Rattle.std.proofs.lemmas.Bool.{and_parts}
use Rattle.std.proofs.lemmas.List.Elements.{filter-append}
use Rattle.std.proofs.lemmas.Slice.Eq.{bytes_eq-Decides}
use Rattle.aq_rules.specs.Office.RowOrder.{before-trans}
use Rattle.aq_rules.specs.Office.Office.{is_same, comes_before, rises, rises_from, row_at, with_row, without_row}
use Rattle.aq_rules.proofs.Lookups.{before-back, before-other, before-other_way, same-flip, rises-rest, none-before}

module _ {X : Type 0} (rank : X → List ℕ) where
  -- ---- a list of two parts

  pub with_row-past : (row : X) (es fs : List X) → AllByRecursion (λ e. comes_before (rank e) (rank row) ≡ true) es → with_row rank row (es ++ fs) ≡ es ++ with_row rank row fs
  with_row-past row [] fs all = refl
  with_row-past row (e ∷ es) fs all =
      ap (λ b. cond b (row ∷ e ∷ es ++ fs) (cond (is_same (rank row) (rank e)) (row ∷ es ++ fs) (e ∷ with_row rank row (es ++ fs)))) (before-back (rank e) (rank row) all.0)
      ∙ ap (λ b. cond b (row ∷ es ++ fs) (e ∷ with_row rank row (es ++ fs))) (before-other_way (rank e) (rank row) all.0)
      ∙ ap (λ (l : List X). e ∷ l) (with_row-past row es fs all.1)

  with_row-first : (row : X) (fs : List X) → AllByRecursion (λ f. comes_before (rank row) (rank f) ≡ true) fs → with_row rank row fs ≡ row ∷ fs
  with_row-first row [] all = refl
  with_row-first row (f ∷ fs) all =
      ap (λ b. cond b (row ∷ f ∷ fs) (cond (is_same (rank row) (rank f)) (row ∷ fs) (f ∷ with_row rank row fs))) all.0

  pub with_row-before : (row : X) (es fs : List X) → AllByRecursion (λ f. comes_before (rank row) (rank f) ≡ true) fs → with_row rank row (es ++ fs) ≡ with_row rank row es ++ fs
  with_row-before row [] fs all = with_row-first row fs all
  with_row-before row (e ∷ es) fs all = by_tests (with_row-before row es fs all) (comes_before (rank row) (rank e)) (is_same (rank row) (rank e))
    where
      by_tests : with_row rank row (es ++ fs) ≡ with_row rank row es ++ fs → (b c : Bool) → cond b (row ∷ e ∷ es ++ fs) (cond c (row ∷ es ++ fs) (e ∷ with_row rank row (es ++ fs))) ≡ cond b (row ∷ e ∷ es) (cond c (row ∷ es) (e ∷ with_row rank row es)) ++ fs
      by_tests rest true c = refl
      by_tests rest false true = refl
      by_tests rest false false = ap (λ (l : List X). e ∷ l) rest

  module _ (key : List ℕ) where
    -- none has the key
    abbrev pub AreOthers : List X → Type 0
    AreOthers rows = AllByRecursion (λ row. is_same (rank row) key ≡ false) rows

    pub without_row-none : (es : List X) → AreOthers es → without_row rank key es ≡ es
    without_row-none [] all = refl
    without_row-none (e ∷ es) all =
        ap (λ b. cond (not b) (e ∷ without_row rank key es) (without_row rank key es)) all.0
        ∙ ap (λ (l : List X). e ∷ l) (without_row-none es all.1)

    pub without_row-past : (es fs : List X) → AreOthers es → without_row rank key (es ++ fs) ≡ es ++ without_row rank key fs
    without_row-past es fs all =
        filter-append (λ row. not (is_same (rank row) key)) es fs ∙ ap (λ (l : List X). l ++ without_row rank key fs) (without_row-none es all)

    pub without_row-before : (es fs : List X) → AreOthers fs → without_row rank key (es ++ fs) ≡ without_row rank key es ++ fs
    without_row-before es fs all =
        filter-append (λ row. not (is_same (rank row) key)) es fs ∙ ap (λ (l : List X). without_row rank key es ++ l) (without_row-none fs all)

    pub row_at-none : (es : List X) → AreOthers es → row_at rank key es ≡ None
    row_at-none [] all = refl
    row_at-none (e ∷ es) all = ap (λ b. cond b (Some e) (row_at rank key es)) all.0 ∙ row_at-none es all.1

    pub row_at-past : (es fs : List X) → AreOthers es → row_at rank key (es ++ fs) ≡ row_at rank key fs
    row_at-past [] fs all = refl
    row_at-past (e ∷ es) fs all = ap (λ b. cond b (Some e) (row_at rank key (es ++ fs))) all.0 ∙ row_at-past es fs all.1

    pub row_at-before : (es fs : List X) → AreOthers fs → row_at rank key (es ++ fs) ≡ row_at rank key es
    row_at-before [] fs all = row_at-none fs all
    row_at-before (e ∷ es) fs all = ap (cond (is_same (rank e) key) (Some e)) (row_at-before es fs all)

    -- rows before the key, and rows after it, are others
    pub others-before : (es : List X) → AllByRecursion (λ e. comes_before (rank e) key ≡ true) es → AreOthers es
    others-before [] all = tt
    others-before (e ∷ es) all = (before-other (rank e) key all.0, others-before es all.1)

    pub others-after : (es : List X) → AllByRecursion (λ e. comes_before key (rank e) ≡ true) es → AreOthers es
    others-after [] all = tt
    others-after (e ∷ es) all = (before-other_way key (rank e) all.0, others-after es all.1)

  -- ---- rows that rise

  -- the rows after the first come after it, and after what it comes after
  all_after : (key : List ℕ) (first : X) (rows : List X) → comes_before key (rank first) ≡ true → rises_from rank first rows ≡ true → AllByRecursion (λ e. comes_before key (rank e) ≡ true) rows
  all_after key first [] before rising = tt
  all_after key first (next ∷ rows) before rising =
      let parts = and_parts (comes_before (rank first) (rank next)) (rises_from rank next rows) rising in
      let later = before-trans key (rank first) (rank next) before parts.0 in
      (later, all_after key next rows later parts.1)

  pub all_later : (first : X) (rows : List X) → rises_from rank first rows ≡ true → AllByRecursion (λ e. comes_before (rank first) (rank e) ≡ true) rows
  all_later first [] rising = tt
  all_later first (next ∷ rows) rising =
      let parts = and_parts (comes_before (rank first) (rank next)) (rises_from rank next rows) rising in
      (parts.0, all_after (rank first) next rows parts.0 parts.1)

  -- ---- how many

  pub length-with_row-new : (row : X) (rows : List X) → row_at rank (rank row) rows ≡ None → length (with_row rank row rows) ≡ length rows + 1
  length-with_row-new row [] none = refl
  length-with_row-new row (e ∷ es) none = by_tests (length-with_row-new row es) (comes_before (rank row) (rank e)) (is_same (rank e) (rank row)) (same-flip (rank row) (rank e)) none
    where
      by_tests : (row_at rank (rank row) es ≡ None → length (with_row rank row es) ≡ length es + 1) → (b c : Bool) → is_same (rank row) (rank e) ≡ c → cond c (Some e) (row_at rank (rank row) es) ≡ None → length (cond b (row ∷ e ∷ es) (cond (is_same (rank row) (rank e)) (row ∷ es) (e ∷ with_row rank row es))) ≡ length (e ∷ es) + 1
      by_tests rest true c other none = omega arith
      by_tests rest false true other none = cc
      by_tests rest false false other none =
          let more = rest none in
          ap (λ t. length (cond t (row ∷ es) (e ∷ with_row rank row es))) other ∙ omega arith

  pub length-with_row-there : (row there : X) (rows : List X) → rises rank rows ≡ true → row_at rank (rank row) rows ≡ Some there → length (with_row rank row rows) ≡ length rows
  length-with_row-there row there [] rising found = cc
  length-with_row-there row there (e ∷ es) rising found = by_tests (length-with_row-there row there es (rises-rest rank e es rising)) (comes_before (rank row) (rank e)) (is_same (rank row) (rank e)) refl refl
    where
      by_tests : (row_at rank (rank row) es ≡ Some there → length (with_row rank row es) ≡ length es) → (b c : Bool) → comes_before (rank row) (rank e) ≡ b → is_same (rank row) (rank e) ≡ c → length (cond b (row ∷ e ∷ es) (cond c (row ∷ es) (e ∷ with_row rank row es))) ≡ length (e ∷ es)
      by_tests rest true c before same =
          let none = none-before rank (rank row) e es before rising in
          let no : None ≡ Some there = sym none ∙ found in
          cc
      by_tests rest false true before same = refl
      by_tests rest false false before other =
          let later : row_at rank (rank row) es ≡ Some there = ap (λ t. cond t (Some e) (row_at rank (rank row) es)) (sym (same-flip (rank e) (rank row) ∙ other)) ∙ found in
          let less = rest later in
          omega arith

  pub length-without_row : (key : List ℕ) (there : X) (rows : List X) → rises rank rows ≡ true → row_at rank key rows ≡ Some there → length (without_row rank key rows) + 1 ≡ length rows
  length-without_row key there [] rising found = cc
  length-without_row key there (e ∷ es) rising found = by_test (length-without_row key there es (rises-rest rank e es rising)) (is_same (rank e) key) refl
    where
      by_test : (row_at rank key es ≡ Some there → length (without_row rank key es) + 1 ≡ length es) → (b : Bool) → is_same (rank e) key ≡ b → length (cond (not b) (e ∷ without_row rank key es) (without_row rank key es)) + 1 ≡ length (e ∷ es)
      by_test rest true same =
          let is = (bytes_eq-Decides (rank e) key).0 same in
          let others : AreOthers key es = rw (sym is) (others-after (rank e) es (all_later e es rising)) in
          let left = ap length (without_row-none key es others) in
          omega arith
      by_test rest false other =
          let later : row_at rank key es ≡ Some there = ap (λ t. cond t (Some e) (row_at rank key es)) (sym other) ∙ found in
          let less = rest later in
          omega arith

  pub length-with_row-more : (row : X) (rows : List X) → length rows ≤ length (with_row rank row rows)
  length-with_row-more row [] = omega arith
  length-with_row-more row (e ∷ es) = by_tests (length-with_row-more row es) (comes_before (rank row) (rank e)) (is_same (rank row) (rank e))
    where
      by_tests : length es ≤ length (with_row rank row es) → (b c : Bool) → length (e ∷ es) ≤ length (cond b (row ∷ e ∷ es) (cond c (row ∷ es) (e ∷ with_row rank row es)))
      by_tests rest true c = omega arith
      by_tests rest false true = omega arith
      by_tests rest false false = omega (arith, rest)

  -- ---- what holds of each row

  pub all-with_row : (P : X → Type 0) (row : X) (rows : List X) → P row → AllByRecursion P rows → AllByRecursion P (with_row rank row rows)
  all-with_row P row [] new all = (new, tt)
  all-with_row P row (e ∷ es) new all = by_tests (all-with_row P row es new all.1) (comes_before (rank row) (rank e)) (is_same (rank row) (rank e))
    where
      by_tests : AllByRecursion P (with_row rank row es) → (b c : Bool) → AllByRecursion P (cond b (row ∷ e ∷ es) (cond c (row ∷ es) (e ∷ with_row rank row es)))
      by_tests rest true c = (new, all)
      by_tests rest false true = (new, all.1)
      by_tests rest false false = (all.0, rest)

  pub all-without_row : (P : X → Type 0) (key : List ℕ) (rows : List X) → AllByRecursion P rows → AllByRecursion P (without_row rank key rows)
  all-without_row P key [] all = tt
  all-without_row P key (e ∷ es) all = by_test (all-without_row P key es all.1) (is_same (rank e) key)
    where
      by_test : AllByRecursion P (without_row rank key es) → (b : Bool) → AllByRecursion P (cond (not b) (e ∷ without_row rank key es) (without_row rank key es))
      by_test rest true = rest
      by_test rest false = (all.0, rest)
