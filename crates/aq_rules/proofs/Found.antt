-- What a test finds in a list in rising order stands under its own rank; so a test that holds in one list holds in another in which the same stands.
use Rattle.std.proofs.Common.{◌≡◌, ℕ, zero, suc, Bool, true, false, cond, ◌||◌, List, [], ◌∷◌, refl, sym, ap, ◌∙◌, subst, arith}
use Rattle.std.specs.Prelude.{Option, Some, None, find}
use Rattle.std.specs.List.{list_any, filter_map, cons_option, Contains}
use Rattle.std.proofs.lemmas.Bool.{false≢true}
use Rattle.std.proofs.lemmas.Option.{none-some}
use Rattle.aq_rules.specs.Office.Office.{is_same, rises, row_at}
use Rattle.aq_rules.proofs.Elements.{Every, every-to}
use Rattle.aq_rules.proofs.Lookups.{same-itself, same-is, none-behind, rises-rest}

pub some_is : {X : Type 0} (x y : X) → Some x ≡ Some y → x ≡ y
some_is x y e = cc

pub both_or_neither : (a b : Bool) → (a ≡ true → b ≡ true) → (b ≡ true → a ≡ true) → a ≡ b
both_or_neither true b onto back = sym (onto refl)
both_or_neither false true onto back = back refl
both_or_neither false false onto back = refl

-- ---- what a test finds

pub find-passes : {X : Type 0} (test : X → Bool) (rows : List X) (r : X) → find test rows ≡ Some r → test r ≡ true
find-passes test [] r found = absurd (none-some r found)
find-passes test (x ∷ rows) r found = by (test x) refl (find-passes test rows r) found
  where
    by : (b : Bool) → test x ≡ b → (find test rows ≡ Some r → test r ≡ true) → cond b (Some x) (find test rows) ≡ Some r → test r ≡ true
    by true is rest found = subst (λ y. test y ≡ true) (some_is x r found) is
    by false is rest found = rest found

any-find : {X : Type 0} (test : X → Bool) (rows : List X) → list_any test rows ≡ true → (r : X) × (find test rows ≡ Some r)
any-find test [] any = absurd (false≢true any)
any-find {X = X} test (x ∷ rows) any = by (test x) (any-find test rows) any
  where
    by : (b : Bool) → (list_any test rows ≡ true → (r : X) × (find test rows ≡ Some r)) → (b || list_any test rows) ≡ true → (r : X) × (cond b (Some x) (find test rows) ≡ Some r)
    by true rest any = (x, refl)
    by false rest any = rest any

pub any-of_found : {X : Type 0} (at test : X → Bool) (rows : List X) (r : X) → find at rows ≡ Some r → test r ≡ true → list_any test rows ≡ true
any-of_found at test [] r found holds = absurd (none-some r found)
any-of_found at test (x ∷ rows) r found holds = by (at x) (λ later. any-of_found at test rows r later holds) found
  where
    second : (b : Bool) → list_any test rows ≡ true → (b || list_any test rows) ≡ true
    second true any = refl
    second false any = any

    by : (b : Bool) → (find at rows ≡ Some r → list_any test rows ≡ true) → cond b (Some x) (find at rows) ≡ Some r → (test x || list_any test rows) ≡ true
    by true rest found = rw (subst (λ y. test y ≡ true) (sym (some_is x r found)) holds) refl
    by false rest found = second (test x) (rest found)

-- ---- in rising order

module _ {X : Type 0} (rank : X → List ℕ) where
  -- the row stands in the list, under its own rank
  abbrev pub Stands : List X → X → Type 0
  Stands rows r = row_at rank (rank r) rows ≡ Some r

  -- what stands after the first row stands in the whole list
  stands-after : (x r : X) (rows : List X) → rises rank (x ∷ rows) ≡ true → Stands rows r → Stands (x ∷ rows) r
  stands-after x r rows up at = by (is_same (rank x) (rank r)) refl
    where
      by : (b : Bool) → is_same (rank x) (rank r) ≡ b → cond b (Some x) (row_at rank (rank r) rows) ≡ Some r
      by true is = absurd (none-some r (sym (none-behind rank x rows up) ∙ ap (λ (k : List ℕ). row_at rank k rows) (same-is (rank x) (rank r) is) ∙ at))
      by false is = at

  stands-first : (x : X) (rows : List X) → Stands (x ∷ rows) x
  stands-first x rows = ap (λ b. cond b (Some x) (row_at rank (rank x) rows)) (same-itself (rank x))

  -- in a rising list each row is found under its own rank
  pub own-rows : (rows : List X) → rises rank rows ≡ true → Every (Stands rows) rows
  own-rows [] up = tt
  own-rows (x ∷ rows) up =
      (stands-first x rows, every-to (Stands rows) (Stands (x ∷ rows)) (λ r at. stands-after x r rows up at) rows (own-rows rows (rises-rest rank x rows up)))

  found-stands : (test : X → Bool) (rows : List X) (r : X) → rises rank rows ≡ true → find test rows ≡ Some r → Stands rows r
  found-stands test [] r up found = absurd (none-some r found)
  found-stands test (x ∷ rows) r up found = by (test x) (found-stands test rows r (rises-rest rank x rows up)) found
    where
      by : (b : Bool) → (find test rows ≡ Some r → Stands rows r) → cond b (Some x) (find test rows) ≡ Some r → Stands (x ∷ rows) r
      by true rest found = subst (λ y. Stands (x ∷ rows) y) (some_is x r found) (stands-first x rows)
      by false rest found = stands-after x r rows up (rest found)

  -- a test holds in one list, and each row on which it holds there stands in another and passes a second test: the second test holds in the other
  pub any-onto : (test other : X → Bool) (xs ys : List X) → rises rank xs ≡ true
      → ((r : X) → test r ≡ true → Stands xs r → (other r ≡ true) × Stands ys r)
      → list_any test xs ≡ true → list_any other ys ≡ true
  any-onto test other xs ys up onto any =
      let found = any-find test xs any in
      let there = onto found.0 (find-passes test xs found.0 found.1) (found-stands test xs found.0 up found.1) in
      any-of_found (λ row. is_same (rank row) (rank found.0)) other ys found.0 there.1 there.0

  -- ---- what a word gives of the rows

  module _ {Y : Type 0} (word : X → Option Y) where
    -- a row that stands in the list, and of which the word gives this
    pub record Given (rows : List X) (y : Y) : Type 0 where
      pub row : X
      pub gives : word row ≡ Some y
      pub stands : Stands rows row

    given-after : (x : X) (rows : List X) (y : Y) → rises rank (x ∷ rows) ≡ true → Given rows y → Given (x ∷ rows) y
    given-after x rows y up g = record { row = g.row; gives = g.gives; stands = stands-after x g.row rows up g.stands }

    given-by : (x : X) (rows : List X) (y : Y) (o : Option Y) → word x ≡ o → rises rank (x ∷ rows) ≡ true
        → (Contains (filter_map word rows) y → Given rows y) → Contains (cons_option o (filter_map word rows)) y → Given (x ∷ rows) y
    given-by x rows y None is up rest has = given-after x rows y up (rest has)
    given-by x rows y (Some z) is up rest (zero, within, here) =
        record { row = x; gives = is ∙ ap (λ (w : Y). Some w) here; stands = stands-first x rows }
    given-by x rows y (Some z) is up rest (suc k, within, here) = given-after x rows y up (rest (k, omega (arith, within), here))

    pub given : (rows : List X) (y : Y) → rises rank rows ≡ true → Contains (filter_map word rows) y → Given rows y
    given [] y up (k, within, here) = absurd (omega (arith, within))
    given (x ∷ rows) y up has = given-by x rows y (word x) refl up (given rows y (rises-rest rank x rows up)) has

-- what a word gives of a row that is found is among what it gives of all
pub listed : {X Y : Type 0} (word : X → Option Y) (at : X → Bool) (rows : List X) (r : X) (y : Y) → find at rows ≡ Some r → word r ≡ Some y → Contains (filter_map word rows) y
listed word at [] r y found gives = absurd (none-some r found)
listed {Y = Y} word at (x ∷ rows) r y found gives = by (at x) (λ later. listed word at rows r y later gives) found
  where
    here : (o : Option Y) → o ≡ Some y → Contains (cons_option o (filter_map word rows)) y
    here None e = absurd (none-some y e)
    here (Some z) e = (zero, omega arith, some_is z y e)

    later : (o : Option Y) → Contains (filter_map word rows) y → Contains (cons_option o (filter_map word rows)) y
    later None has = has
    later (Some z) (k, within, there) = (suc k, omega (arith, within), there)

    by : (b : Bool) → (find at rows ≡ Some r → Contains (filter_map word rows) y) → cond b (Some x) (find at rows) ≡ Some r → Contains (cons_option (word x) (filter_map word rows)) y
    by true rest found = here (word x) (ap word (some_is x r found) ∙ gives)
    by false rest found = later (word x) (rest found)
