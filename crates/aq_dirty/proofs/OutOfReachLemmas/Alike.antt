-- Two lists in rising order in which each row that counts is found alike have the same rows that count, and so give the same.
use Rattle.std.proofs.Common.{◌≡◌, ℕ, Bool, true, false, cond, List, [], ◌∷◌, refl, sym, ap, ◌∙◌, subst}
use Rattle.std.specs.Prelude.{Option, Some, None, option_and_then}
use Rattle.std.specs.List.{filter, filter_map, cons_option}
use Rattle.std.proofs.lemmas.Option.{none-some}
use Rattle.aq_rules.specs.Office.Office.{row_at, rises, is_same}
use Rattle.aq_rules.specs.Office.RowOrder.{filter-rises}
use Rattle.aq_rules.proofs.Found.{some_is, find-passes}
use Rattle.aq_rules.proofs.Lookups.{same-is, none-behind, rises-rest, one_list}

-- ---- rows that count

module _ {X : Type 0} (rank : X → List ℕ) (keep : X → Bool) where
  abbrev if_kept : X → Option X
  if_kept x = cond (keep x) (Some x) None

  row-kept : (k : List ℕ) (xs : List X) → rises rank xs ≡ true → row_at rank k (filter keep xs) ≡ option_and_then if_kept (row_at rank k xs)
  row-kept k [] up = refl
  row-kept k (x ∷ xs) up = by (keep x) (is_same (rank x) k) refl refl (row-kept k xs (rises-rest rank x xs up))
    where
      by : (b c : Bool) → keep x ≡ b → is_same (rank x) k ≡ c → row_at rank k (filter keep xs) ≡ option_and_then if_kept (row_at rank k xs)
          → row_at rank k (cond b (x ∷ filter keep xs) (filter keep xs)) ≡ option_and_then if_kept (cond c (Some x) (row_at rank k xs))
      by true true keeps here rest = rw (here, keeps) refl
      by true false keeps here rest = rw here rest
      by false true keeps here rest =
          let none : row_at rank k xs ≡ None = subst (λ (l : List ℕ). row_at rank l xs ≡ None) (same-is (rank x) k here) (none-behind rank x xs up) in
          rest ∙ rw (none, keeps) refl
      by false false keeps here rest = rest

  kept-is : (o : Option X) (r : X) → option_and_then if_kept o ≡ Some r → (o ≡ Some r) × (keep r ≡ true)
  kept-is None r is = absurd (none-some r is)
  kept-is (Some x) r is = by (keep x) refl is
    where
      by : (b : Bool) → keep x ≡ b → cond b (Some x) None ≡ Some r → (Some x ≡ Some r) × (keep r ≡ true)
      by true keeps is = (is, subst (λ y. keep y ≡ true) (some_is x r is) keeps)
      by false keeps is = absurd (none-some r is)

  module _ (xs ys : List X) (up : rises rank xs ≡ true) (up_too : rises rank ys ≡ true) (alike : (r : X) → keep r ≡ true → row_at rank (rank r) xs ≡ row_at rank (rank r) ys) where
    found-alike : (k : List ℕ) → option_and_then if_kept (row_at rank k xs) ≡ option_and_then if_kept (row_at rank k ys)
    found-alike k = by (option_and_then if_kept (row_at rank k xs)) (option_and_then if_kept (row_at rank k ys)) refl refl
      where
        there : (rows : List X) (r : X) → option_and_then if_kept (row_at rank k rows) ≡ Some r → row_at rank k xs ≡ row_at rank k ys
        there rows r is =
            let kept = kept-is (row_at rank k rows) r is in
            subst (λ (l : List ℕ). row_at rank l xs ≡ row_at rank l ys) (same-is (rank r) k (find-passes (λ row. is_same (rank row) k) rows r kept.0)) (alike r kept.1)

        by : (o p : Option X) → option_and_then if_kept (row_at rank k xs) ≡ o → option_and_then if_kept (row_at rank k ys) ≡ p
            → option_and_then if_kept (row_at rank k xs) ≡ option_and_then if_kept (row_at rank k ys)
        by (Some r) p is are = ap (option_and_then if_kept) (there xs r is)
        by None (Some s) is are = ap (option_and_then if_kept) (there ys s are)
        by None None is are = is ∙ sym are

    pub kept-alike : filter keep xs ≡ filter keep ys
    kept-alike =
        one_list rank (filter keep xs) (filter keep ys) (filter-rises rank keep xs up) (filter-rises rank keep ys up_too)
        (λ k. row-kept k xs up ∙ found-alike k ∙ sym (row-kept k ys up_too))

-- ---- what they give

module _ {X Y : Type 0} (word : X → Option Y) (keep : X → Bool) (off : (x : X) → keep x ≡ false → word x ≡ None) where
  only-kept : (xs : List X) → filter_map word xs ≡ filter_map word (filter keep xs)
  only-kept [] = refl
  only-kept (x ∷ xs) = by (keep x) (off x) (only-kept xs)
    where
      by : (b : Bool) → (b ≡ false → word x ≡ None) → filter_map word xs ≡ filter_map word (filter keep xs)
          → cons_option (word x) (filter_map word xs) ≡ filter_map word (cond b (x ∷ filter keep xs) (filter keep xs))
      by true out rest = ap (cons_option (word x)) rest
      by false out rest = rw (out refl) rest

  pub given-alike : (xs ys : List X) → filter keep xs ≡ filter keep ys → filter_map word xs ≡ filter_map word ys
  given-alike xs ys same = only-kept xs ∙ ap (filter_map word) same ∙ sym (only-kept ys)

pub given-of_given : {X Y Z : Type 0} (word : Y → Option Z) (first : X → Option Y) (xs : List X) → filter_map word (filter_map first xs) ≡ filter_map (λ x. option_and_then word (first x)) xs
given-of_given word first [] = refl
given-of_given {Y = Y} {Z = Z} word first (x ∷ xs) = by (first x) (given-of_given word first xs)
  where
    by : (o : Option Y) → filter_map word (filter_map first xs) ≡ filter_map (λ z. option_and_then word (first z)) xs
        → filter_map word (cons_option o (filter_map first xs)) ≡ cons_option (option_and_then word o) (filter_map (λ z. option_and_then word (first z)) xs)
    by None rest = rest
    by (Some y) rest = ap (cons_option (word y)) rest

pub all-given : {X : Type 0} (xs : List X) → filter_map (λ x. Some x) xs ≡ xs
all-given [] = refl
all-given (x ∷ xs) = ap (λ l. x ∷ l) (all-given xs)
