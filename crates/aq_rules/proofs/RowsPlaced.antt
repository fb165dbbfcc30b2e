-- A row put into a list of rows at its place, and rows dropped from a list: what counts, tests and look-ups say of the list after.
use Rattle.std.proofs.Common.{◌≡◌, ℕ, ◌+◌, ◌≤◌, Bool, true, false, cond, ◌&&◌, ◌||◌, List, [], ◌∷◌, ◌++◌, length, Some, None, Option, refl, sym, ap, ◌∙◌, arith, inl, inr}
use Rattle.std.specs.Prelude.{find, filter, count_by, is_some}
use Rattle.std.specs.List.{list_all, list_any}
use Rattle.std.proofs.lemmas.Bool.{false≢true, and_from, and_parts, cases_Bool}
use Rattle.std.proofs.lemmas.List.Sums.{sum_by-cons}
use Rattle.std.proofs.lemmas.Slice.Eq.{bytes_eq-Decides}
use Rattle.aq_rules.specs.Lines.Spellings.{◌>>=◌}
use Rattle.aq_rules.specs.Office.Office.{is_same, comes_before, rises, row_at, with_row}
use Rattle.aq_rules.proofs.Lookups.{same-is, same-flip, rises-rest, none-before}

pub is_same-refl : (a b : List ℕ) → a ≡ b → is_same a b ≡ true
is_same-refl a b h = (bytes_eq-Decides a b).1 h

-- ---- a list in two parts, and an item between them

module _ {X : Type 0} where
  pub all_joined : (p : X → Bool) (front back : List X) (x : X) → p x ≡ true → list_all p (front ++ back) ≡ true → list_all p (front ++ x ∷ back) ≡ true
  all_joined p [] back x h k = and_from (p x) (list_all p back) h k
  all_joined p (y ∷ front) back x h k =
      let parts = and_parts (p y) (list_all p (front ++ back)) k in
      and_from (p y) (list_all p (front ++ x ∷ back)) parts.0 (all_joined p front back x h parts.1)

  pub all_at : (p : X → Bool) (front back : List X) (x : X) → list_all p (front ++ x ∷ back) ≡ true → p x ≡ true
  all_at p [] back x h = (and_parts (p x) (list_all p back) h).0
  all_at p (y ∷ front) back x h = all_at p front back x (and_parts (p y) (list_all p (front ++ x ∷ back)) h).1

  pub all_rest : (p : X → Bool) (front back : List X) (x : X) → list_all p (front ++ x ∷ back) ≡ true → list_all p (front ++ back) ≡ true
  all_rest p [] back x h = (and_parts (p x) (list_all p back) h).1
  all_rest p (y ∷ front) back x h =
      let parts = and_parts (p y) (list_all p (front ++ x ∷ back)) h in
      and_from (p y) (list_all p (front ++ back)) parts.0 (all_rest p front back x parts.1)

  pub all_weaker : (p q : X → Bool) (xs : List X) → ((x : X) → p x ≡ true → q x ≡ true) → list_all p xs ≡ true → list_all q xs ≡ true
  all_weaker p q [] go h = refl
  all_weaker p q (x ∷ xs) go h =
      let parts = and_parts (p x) (list_all p xs) h in
      and_from (q x) (list_all q xs) (go x parts.0) (all_weaker p q xs go parts.1)

  -- a test that each item passes where it stands
  pub all_standing : (p : X → Bool) (xs : List X) → ((x : X) (front back : List X) → xs ≡ front ++ x ∷ back → p x ≡ true) → list_all p xs ≡ true
  all_standing p [] h = refl
  all_standing p (x ∷ xs) h =
      and_from (p x) (list_all p xs) (h x [] xs refl)
      (all_standing p xs (λ z front back e. h z (x ∷ front) back (ap (λ l. x ∷ l) e)))

  pub any_joined : (p : X → Bool) (front back : List X) (x : X) → list_any p (front ++ back) ≡ true → list_any p (front ++ x ∷ back) ≡ true
  any_joined p [] back x h = rw h (either (p x))
    where
      either : (b : Bool) → (b || true) ≡ true
      either true = refl
      either false = refl
  any_joined p (y ∷ front) back x h = more (p y) (list_any p (front ++ back)) (list_any p (front ++ x ∷ back)) h (any_joined p front back x)
    where
      more : (b c d : Bool) → (b || c) ≡ true → (c ≡ true → d ≡ true) → (b || d) ≡ true
      more true c d h go = refl
      more false c d h go = go h

  pub any_alike : (p : X → Bool) (front back : List X) (x y : X) → p x ≡ p y → list_any p (front ++ x ∷ back) ≡ list_any p (front ++ y ∷ back)
  any_alike p [] back x y e = ap (λ b. b || list_any p back) e
  any_alike p (z ∷ front) back x y e = ap (λ b. p z || b) (any_alike p front back x y e)

  pub is_some-find : (p : X → Bool) (xs : List X) → is_some (find p xs) ≡ list_any p xs
  is_some-find p [] = refl
  is_some-find p (x ∷ xs) = choose (p x) (is_some-find p xs)
    where
      choose : (b : Bool) → is_some (find p xs) ≡ list_any p xs → is_some (cond b (Some x) (find p xs)) ≡ (b || list_any p xs)
      choose true e = refl
      choose false e = e

  pub find_passed : (p : X → Bool) (front back : List X) (x : X) → p x ≡ false → find p (front ++ x ∷ back) ≡ find p (front ++ back)
  find_passed p [] back x e = ap (λ b. cond b (Some x) (find p back)) e
  find_passed p (y ∷ front) back x e = ap (λ o. cond (p y) (Some y) o) (find_passed p front back x e)

  pub find_alike : {Y : Type 0} (p : X → Bool) (g : X → Option Y) (front back : List X) (x y : X) → p x ≡ p y → g x ≡ g y
      → (find p (front ++ x ∷ back) >>= g) ≡ (find p (front ++ y ∷ back) >>= g)
  find_alike p g [] back x y e f = choose (p x) (p y) e
    where
      choose : (a b : Bool) → a ≡ b → (cond a (Some x) (find p back) >>= g) ≡ (cond b (Some y) (find p back) >>= g)
      choose true true h = f
      choose true false h = cc
      choose false true h = cc
      choose false false h = refl
  find_alike p g (z ∷ front) back x y e f = choose (p z) (find_alike p g front back x y e f)
    where
      choose : (a : Bool) → (find p (front ++ x ∷ back) >>= g) ≡ (find p (front ++ y ∷ back) >>= g)
          → (cond a (Some z) (find p (front ++ x ∷ back)) >>= g) ≡ (cond a (Some z) (find p (front ++ y ∷ back)) >>= g)
      choose true h = refl
      choose false h = h

  pub find_none-first : (p : X → Bool) (x : X) (xs : List X) → find p (x ∷ xs) ≡ None → (p x ≡ false) × (find p xs ≡ None)
  find_none-first p x xs none = choose (p x) none
    where
      choose : (b : Bool) → cond b (Some x) (find p xs) ≡ None → (b ≡ false) × (find p xs ≡ None)
      choose true h = cc
      choose false h = (refl, h)

  pub count-cons : (p : X → Bool) (x : X) (xs : List X) → count_by p (x ∷ xs) ≡ cond (p x) 1 0 + count_by p xs
  count-cons p x xs = sum_by-cons (λ y. cond (p y) 1 0) x xs

  pub count_joined : (p : X → Bool) (front back : List X) (x : X) → count_by p (front ++ x ∷ back) ≡ count_by p (front ++ back) + cond (p x) 1 0
  count_joined p [] back x = omega (arith, count-cons p x back)
  count_joined p (y ∷ front) back x =
      omega (arith, count-cons p y (front ++ x ∷ back), count-cons p y (front ++ back), count_joined p front back x)

  pub count_alike : (p : X → Bool) (front back : List X) (x y : X) → p x ≡ p y → count_by p (front ++ x ∷ back) ≡ count_by p (front ++ y ∷ back)
  count_alike p front back x y e =
      count_joined p front back x ∙ ap (λ b. count_by p (front ++ back) + cond b 1 0) e ∙ sym (count_joined p front back y)

  pub counted_once : (p : X → Bool) (front back : List X) (x : X) → p x ≡ true → 1 ≤ count_by p (front ++ x ∷ back)
  counted_once p front back x h =
      let here : cond {A = ℕ} (p x) 1 0 ≡ 1 = ap (λ b. cond {A = ℕ} b 1 0) h in
      omega (arith, count_joined p front back x)

  -- none is counted if a wider search finds none
  pub count_none : (p q : X → Bool) (xs : List X) → ((x : X) → p x ≡ true → q x ≡ true) → find q xs ≡ None → count_by p xs ≡ 0
  count_none p q [] h none = refl
  count_none p q (x ∷ xs) h none =
      let parts = find_none-first q x xs none in
      let rest = count_none p q xs h parts.1 in
      choose (p x) refl parts.0 rest
    where
      choose : (b : Bool) → p x ≡ b → q x ≡ false → count_by p xs ≡ 0 → count_by p (x ∷ xs) ≡ 0
      choose true here not_wide none = absurd (false≢true (sym not_wide ∙ h x here))
      choose false there not_wide none =
          let nothing : cond {A = ℕ} (p x) 1 0 ≡ 0 = ap (λ b. cond {A = ℕ} b 1 0) there in
          omega (arith, count-cons p x xs)

  -- ---- rows that are kept

  pub filter_all : (p keep : X → Bool) (xs : List X) → list_all p xs ≡ true → list_all p (filter keep xs) ≡ true
  filter_all p keep [] h = refl
  filter_all p keep (x ∷ xs) h =
      let parts = and_parts (p x) (list_all p xs) h in
      choose (keep x) parts.0 (filter_all p keep xs parts.1)
    where
      choose : (b : Bool) → p x ≡ true → list_all p (filter keep xs) ≡ true → list_all p (cond b (x ∷ filter keep xs) (filter keep xs)) ≡ true
      choose true h k = and_from (p x) _ h k
      choose false h k = k

  pub filter_keeps : (keep : X → Bool) (xs : List X) → list_all keep (filter keep xs) ≡ true
  filter_keeps keep [] = refl
  filter_keeps keep (x ∷ xs) = choose (keep x) refl (filter_keeps keep xs)
    where
      choose : (b : Bool) → keep x ≡ b → list_all keep (filter keep xs) ≡ true → list_all keep (cond b (x ∷ filter keep xs) (filter keep xs)) ≡ true
      choose true h rest = and_from (keep x) _ h rest
      choose false h rest = rest

  pub filter_twice : (keep keeps : X → Bool) (xs : List X) → filter keeps (filter keep xs) ≡ filter (λ x. keep x && keeps x) xs
  filter_twice keep keeps [] = refl
  filter_twice keep keeps (x ∷ xs) = choose (keep x) (filter_twice keep keeps xs)
    where
      choose : (b : Bool) → filter keeps (filter keep xs) ≡ filter (λ x. keep x && keeps x) xs
          → filter keeps (cond b (x ∷ filter keep xs) (filter keep xs))
          ≡ cond (b && keeps x) (x ∷ filter (λ x. keep x && keeps x) xs) (filter (λ x. keep x && keeps x) xs)
      choose true e = ap (λ l. cond (keeps x) (x ∷ l) l) e
      choose false e = e

  pub find-filter : (p keep : X → Bool) (xs : List X) → ((x : X) → p x ≡ true → keep x ≡ true) → find p (filter keep xs) ≡ find p xs
  find-filter p keep [] h = refl
  find-filter p keep (x ∷ xs) h = choose (keep x) (p x) (h x) (find-filter p keep xs h) refl refl
    where
      choose : (a b : Bool) → (p x ≡ true → keep x ≡ true) → find p (filter keep xs) ≡ find p xs → keep x ≡ a → p x ≡ b
          → find p (cond a (x ∷ filter keep xs) (filter keep xs)) ≡ cond (p x) (Some x) (find p xs)
      choose true b go e k t = ap (λ o. cond (p x) (Some x) o) e
      choose false true go e k t = absurd (false≢true (sym k ∙ go t))
      choose false false go e k t = e ∙ sym (ap (λ c. cond c (Some x) (find p xs)) t)

  pub any-filter : (p keep : X → Bool) (xs : List X) → ((x : X) → p x ≡ true → keep x ≡ true) → list_any p (filter keep xs) ≡ list_any p xs
  any-filter p keep xs h =
      sym (is_some-find p (filter keep xs)) ∙ ap (λ o. is_some o) (find-filter p keep xs h) ∙ is_some-find p xs

  pub count-filter : (p keep : X → Bool) (xs : List X) → count_by p (filter keep xs) ≤ count_by p xs
  count-filter p keep [] = omega arith
  count-filter p keep (x ∷ xs) = choose (keep x) (count-filter p keep xs)
    where
      choose : (b : Bool) → count_by p (filter keep xs) ≤ count_by p xs → count_by p (cond b (x ∷ filter keep xs) (filter keep xs)) ≤ count_by p (x ∷ xs)
      choose true h = omega (arith, count-cons p x (filter keep xs), count-cons p x xs)
      choose false h = omega (arith, count-cons p x xs)

-- ---- a row at its place

-- a list with an item more
pub record Inserted {X : Type 0} (row : X) (rows now : List X) : Type 0 where
  pub front : List X
  pub back : List X
  pub before : rows ≡ front ++ back
  pub after : now ≡ front ++ row ∷ back

-- a list with an item in the place of another
pub record Replaced {X : Type 0} (old row : X) (rows now : List X) : Type 0 where
  pub front : List X
  pub back : List X
  pub before : rows ≡ front ++ old ∷ back
  pub after : now ≡ front ++ row ∷ back

module _ {X : Type 0} (rank : X → List ℕ) where
  pub with_row-all : (p : X → Bool) (row : X) (rows : List X) → p row ≡ true → list_all p rows ≡ true → list_all p (with_row rank row rows) ≡ true
  with_row-all p row [] h k = and_from (p row) true h refl
  with_row-all p row (first ∷ rows) h k =
      let parts = and_parts (p first) (list_all p rows) k in
      choose (comes_before (rank row) (rank first)) (is_same (rank row) (rank first)) parts.0 parts.1 (with_row-all p row rows h parts.1)
    where
      choose : (a b : Bool) → p first ≡ true → list_all p rows ≡ true → list_all p (with_row rank row rows) ≡ true
          → list_all p (cond a (row ∷ first ∷ rows) (cond b (row ∷ rows) (first ∷ with_row rank row rows))) ≡ true
      choose true b f r later = and_from (p row) _ h (and_from (p first) _ f r)
      choose false true f r later = and_from (p row) _ h r
      choose false false f r later = and_from (p first) _ f later

  pub length-with_row : (row : X) (rows : List X) → length (with_row rank row rows) ≤ length rows + 1
  length-with_row row [] = omega arith
  length-with_row row (first ∷ rows) =
      choose (comes_before (rank row) (rank first)) (is_same (rank row) (rank first)) (length-with_row row rows)
    where
      choose : (a b : Bool) → length (with_row rank row rows) ≤ length rows + 1
          → length (cond a (row ∷ first ∷ rows) (cond b (row ∷ rows) (first ∷ with_row rank row rows))) ≤ length (first ∷ rows) + 1
      choose true b h = omega arith
      choose false true h = omega arith
      choose false false h = omega arith

  -- a row whose rank is not there comes between two parts of the list
  pub with_row-new : (row : X) (rows : List X) → row_at rank (rank row) rows ≡ None → Inserted row rows (with_row rank row rows)
  with_row-new row [] none = record { front = []; back = []; before = refl; after = refl }
  with_row-new row (first ∷ rows) none =
      let parts = find_none-first (λ x. is_same (rank x) (rank row)) first rows none in
      choose (comes_before (rank row) (rank first)) (is_same (rank row) (rank first)) refl parts.0 (with_row-new row rows parts.1)
    where
      choose : (a b : Bool) → is_same (rank row) (rank first) ≡ b → is_same (rank first) (rank row) ≡ false → Inserted row rows (with_row rank row rows)
          → Inserted row (first ∷ rows) (cond a (row ∷ first ∷ rows) (cond b (row ∷ rows) (first ∷ with_row rank row rows)))
      choose true b t none h = record { front = []; back = first ∷ rows; before = refl; after = refl }
      choose false true t none h = absurd (false≢true (sym none ∙ same-flip (rank first) (rank row) ∙ t))
      choose false false t none h =
          record { front = first ∷ h.front; back = h.back; before = ap (λ l. first ∷ l) h.before; after = ap (λ l. first ∷ l) h.after }

  -- a row whose rank is there takes the place of the one with its rank
  pub with_row-old : (old row : X) (rows : List X) → rises rank rows ≡ true → row_at rank (rank row) rows ≡ Some old → Replaced old row rows (with_row rank row rows)
  with_row-old old row [] rise is = cc
  with_row-old old row (first ∷ rows) rise is =
      choose (comes_before (rank row) (rank first)) (is_same (rank row) (rank first)) refl refl (with_row-old old row rows (rises-rest rank first rows rise))
    where
      choose : (a b : Bool) → comes_before (rank row) (rank first) ≡ a → is_same (rank row) (rank first) ≡ b
          → (row_at rank (rank row) rows ≡ Some old → Replaced old row rows (with_row rank row rows))
          → Replaced old row (first ∷ rows) (cond a (row ∷ first ∷ rows) (cond b (row ∷ rows) (first ∷ with_row rank row rows)))
      choose true b s t h =
          let none : None ≡ Some old = sym (none-before rank (rank row) first rows s rise) ∙ is in
          cc
      choose false true s t h =
          let here = same-flip (rank first) (rank row) ∙ t in
          let found : Some first ≡ Some old = sym (ap (λ c. cond c (Some first) (row_at rank (rank row) rows)) here) ∙ is in
          let same : first ≡ old = cc in
          record { front = []; back = rows; before = ap (λ x. x ∷ rows) same; after = refl }
      choose false false s t h =
          elim (cases_Bool (is_same (rank first) (rank row))) [
            | inl here ↦ absurd (false≢true (sym t ∙ same-flip (rank row) (rank first) ∙ here))
            | inr there ↦
                let rest = h (sym (ap (λ c. cond c (Some first) (row_at rank (rank row) rows)) there) ∙ is) in
                record { front = first ∷ rest.front; back = rest.back; before = ap (λ l. first ∷ l) rest.before; after = ap (λ l. first ∷ l) rest.after }
          ]

  -- what is found stays if a row with another rank comes
  pub row_at-inserted : (row : X) (rows : List X) (key : List ℕ) (found : X) → row_at rank (rank row) rows ≡ None → row_at rank key rows ≡ Some found
      → row_at rank key (with_row rank row rows) ≡ Some found
  row_at-inserted row rows key found none is =
      let placed = with_row-new row rows none in
      elim (cases_Bool (is_same (rank row) key)) [
        | inl same ↦
            let none_there : None ≡ Some found = sym none ∙ ap (λ k. row_at rank k rows) (same-is (rank row) key same) ∙ is in
            cc
        | inr other ↦
            ap (λ l. row_at rank key l) placed.after
            ∙ find_passed (λ x. is_same (rank x) key) placed.front placed.back row other
            ∙ sym (ap (λ l. row_at rank key l) placed.before) ∙ is
      ]
