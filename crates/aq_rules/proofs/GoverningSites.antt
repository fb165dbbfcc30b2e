-- The least of some sites, and the governing one of some rows.
use Rattle.std.proofs.Common.{◌≡◌, ℕ, zero, suc, ◌<◌, Bool, true, false, cond, ◌||◌, List, [], ◌∷◌, length, map, get_or, refl, sym, ap, ◌∙◌, inl, inr, subst, arith}
use Rattle.std.specs.Prelude.{ℤ, int_lt, Option, Some, None, is_some, option_and_then, MatchOption, IsSomeAnd, All, Contains, fold, filter}
use Rattle.std.specs.Int.{int_max}
use Rattle.std.specs.List.{list_any, filter_map, cons_option}
use Rattle.std.specs.Option.{option_map_or}
use Rattle.std.specs.Ordering.{int_eq}
use Rattle.std.proofs.lemmas.Bool.{false≢true, cases_Bool}
use Rattle.std.proofs.lemmas.Bool.Decides.{Decides-int_eq}
use Rattle.std.proofs.lemmas.List.Elements.{All-cons, All-tail}
use Rattle.aq_base.specs.Site.{Site}
use Rattle.aq_rules.specs.Lists.{greater, greatest}
use Rattle.aq_rules.specs.DesignValues.{value_in}
use Rattle.aq_rules.specs.Office.Office.{site_numbers, comes_before, is_same}
use Rattle.aq_rules.specs.Office.RowOrder.{before-total, before-trans}
use Rattle.aq_rules.specs.Areas.AreaValue.{SiteValue, site_in, greatest_value, has_value, lower_site, least_site, governing_site}
use Rattle.aq_rules.proofs.Lookups.{same-is}
use Rattle.aq_rules.proofs.Spans.{before-itself}

-- ---- the least site

abbrev IsBefore : Site → Site → Type 0
IsBefore a b = comes_before (site_numbers a) (site_numbers b) ≡ true

abbrev NoneBefore : Site → Site → Type 0
NoneBefore r site = comes_before (site_numbers site) (site_numbers r) ≡ false

abbrev IsLeast : List Site → Site → Type 0
IsLeast sites r = Contains sites r × All (NoneBefore r) sites

-- a site after one that has none before it
after-least : (a b r : Site) → IsBefore b a → NoneBefore r b → NoneBefore r a
after-least a b r before none =
    elim (cases_Bool (comes_before (site_numbers a) (site_numbers r))) [
      | inl first ↦ absurd (false≢true (sym none ∙ before-trans (site_numbers b) (site_numbers a) (site_numbers r) before first))
      | inr not_first ↦ not_first
    ]

not-before-least : (a b r : Site) → comes_before (site_numbers b) (site_numbers a) ≡ false → NoneBefore r a → NoneBefore r b
not-before-least a b r behind none =
    elim (cases_Bool (is_same (site_numbers b) (site_numbers a))) [
      | inl same ↦ ap (λ l. comes_before l (site_numbers r)) (same-is (site_numbers b) (site_numbers a) same) ∙ none
      | inr other ↦ after-least b a r (before-total (site_numbers b) (site_numbers a) behind other) none
    ]

in_two : (a b r : Site) (xs : List Site) (t : Bool) (k : ℕ) → k < length (cond t b a ∷ xs) → get_or (cond t b a ∷ xs) k r ≡ r → Contains (a ∷ b ∷ xs) r
in_two a b r xs true zero within e = (1, omega arith, e)
in_two a b r xs false zero within e = (0, omega arith, e)
in_two a b r xs t (suc k) within e = (suc (suc k), omega arith, e)

least-joins : (a b r : Site) (xs : List Site) (t : Bool) → comes_before (site_numbers b) (site_numbers a) ≡ t → IsLeast (cond t b a ∷ xs) r → IsLeast (a ∷ b ∷ xs) r
least-joins a b r xs true before h =
    let here : NoneBefore r b = h.1 0 b (omega arith) in
    (in_two a b r xs true h.0.0 h.0.1 h.0.2, All-cons (NoneBefore r) a (b ∷ xs) (after-least a b r before here) (All-cons (NoneBefore r) b xs here (All-tail (NoneBefore r) b xs h.1)))
least-joins a b r xs false behind h =
    let here : NoneBefore r a = h.1 0 a (omega arith) in
    (in_two a b r xs false h.0.0 h.0.1 h.0.2, All-cons (NoneBefore r) a (b ∷ xs) here (All-cons (NoneBefore r) b xs (not-before-least a b r behind here) (All-tail (NoneBefore r) a xs h.1)))

least-some : (a b : Site) (xs : List Site) (o : Option Site) → IsSomeAnd o (IsLeast (cond (comes_before (site_numbers b) (site_numbers a)) b a ∷ xs)) → IsSomeAnd o (IsLeast (a ∷ b ∷ xs))
least-some a b xs None h = h
least-some a b xs (Some r) h = least-joins a b r xs (comes_before (site_numbers b) (site_numbers a)) refl h

not-before-itself : (a : Site) → NoneBefore a a
not-before-itself a =
    elim (cases_Bool (comes_before (site_numbers a) (site_numbers a))) [ inl first ↦ absurd (before-itself (site_numbers a) first) | inr not_first ↦ not_first ]

least-from : (a : Site) (xs : List Site) → IsSomeAnd (fold lower_site (Some a) xs) (IsLeast (a ∷ xs))
least-from a [] = ((0, omega arith, refl), All-cons (NoneBefore a) a [] (not-before-itself a) (λ k d within. absurd (omega (arith, within))))
least-from a (b ∷ xs) =
    least-some a b xs (fold lower_site (Some (cond (comes_before (site_numbers b) (site_numbers a)) b a)) xs)
    (least-from (cond (comes_before (site_numbers b) (site_numbers a)) b a) xs)

least-matches : (xs : List Site) (o : Option Site) → IsSomeAnd o (IsLeast xs) → MatchOption o (xs ≡ []) (IsLeast xs)
least-matches xs None h = absurd h
least-matches xs (Some r) h = h

pub least_site-is : (sites : List Site) → MatchOption (least_site sites) (sites ≡ []) (IsLeast sites)
least_site-is [] = refl
least_site-is (a ∷ xs) = least-matches (a ∷ xs) (fold lower_site (Some a) xs) (least-from a xs)

-- ---- a row governs if a row has a value

is_itself : (v : ℤ) → int_eq v v ≡ true
is_itself v = (Decides-int_eq v v).1 refl

of_two : (a b r : ℤ) (t rest : Bool) → (int_eq r (cond t a b) || rest) ≡ true → (int_eq r a || (int_eq r b || rest)) ≡ true
of_two a b r t rest h = by_tests t (int_eq r a) (int_eq r b) refl refl h
  where
    by_tests : (t p q : Bool) → int_eq r a ≡ p → int_eq r b ≡ q → (int_eq r (cond t a b) || rest) ≡ true → (p || (q || rest)) ≡ true
    by_tests true true q x y h = refl
    by_tests true false true x y h = refl
    by_tests true false false x y h = ap (λ p. p || rest) (sym x) ∙ h
    by_tests false true q x y h = refl
    by_tests false false q x y h = ap (λ p. p || rest) (sym y) ∙ h

greatest-among : (a r : ℤ) (xs : List ℤ) → fold greater (Some a) xs ≡ Some r → (int_eq r a || list_any (int_eq r) xs) ≡ true
greatest-among a r [] is = let same : a ≡ r = cc in subst (λ v. (int_eq r v || false) ≡ true) (sym same) (ap (λ p. p || false) (is_itself r))
greatest-among a r (b ∷ xs) is = of_two a b r (int_lt b a) (list_any (int_eq r) xs) (greatest-among (int_max a b) r xs is)

greatest-any : (r : ℤ) (values : List ℤ) → greatest values ≡ Some r → list_any (int_eq r) values ≡ true
greatest-any r [] is = cc
greatest-any r (v ∷ vs) is = greatest-among v r vs is

any-rows : (v : ℤ) (rows : List SiteValue) → list_any (int_eq v) (filter_map (λ (row : SiteValue). value_in row.1) rows) ≡ list_any (has_value v) rows
any-rows v [] = refl
any-rows v (row ∷ rows) = by_value (value_in row.1) (any-rows v rows)
  where
    by_value : (o : Option ℤ) → list_any (int_eq v) (filter_map (λ (row : SiteValue). value_in row.1) rows) ≡ list_any (has_value v) rows
        → list_any (int_eq v) (cons_option o (filter_map (λ (row : SiteValue). value_in row.1) rows)) ≡ (option_map_or (int_eq v) o false || list_any (has_value v) rows)
    by_value None rest = rest
    by_value (Some w) rest = ap (λ b. int_eq v w || b) rest

some-least : (a : Site) (xs : List Site) → is_some (fold lower_site (Some a) xs) ≡ true
some-least a [] = refl
some-least a (b ∷ xs) = some-least (cond (comes_before (site_numbers b) (site_numbers a)) b a) xs

some-passes : (p : SiteValue → Bool) (rows : List SiteValue) → list_any p rows ≡ true → is_some (least_site (map site_in (filter p rows))) ≡ true
some-passes p [] any = absurd (false≢true any)
some-passes p (row ∷ rows) any = by_test (p row) any (some-passes p rows)
  where
    by_test : (t : Bool) → (t || list_any p rows) ≡ true → (list_any p rows ≡ true → is_some (least_site (map site_in (filter p rows))) ≡ true)
        → is_some (least_site (map site_in (cond t (row ∷ filter p rows) (filter p rows)))) ≡ true
    by_test true any rest = some-least (site_in row) (map site_in (filter p rows))
    by_test false any rest = rest any

pub governing-some : (rows : List SiteValue) → is_some (governing_site rows) ≡ is_some (greatest_value rows)
governing-some rows = by_value (greatest_value rows) refl
  where
    by_value : (o : Option ℤ) → greatest_value rows ≡ o
        → is_some (option_and_then (λ value. least_site (map site_in (filter (has_value value) rows))) o) ≡ is_some o
    by_value None is = refl
    by_value (Some v) is = some-passes (has_value v) rows (sym (any-rows v rows) ∙ greatest-any v (filter_map (λ (row : SiteValue). value_in row.1) rows) is)
