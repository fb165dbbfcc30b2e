-- The greatest value and the governing site of some rows and one more.
use Rattle.std.proofs.Common.{◌≡◌, Bool, true, false, cond, List, [], ◌∷◌, ◌++◌, map, refl, sym, ap, ◌∙◌, inl, inr, arith}
use Rattle.std.specs.Prelude.{ℤ, ◌<ℤ◌, int_lt, Option, Some, None, ⊤, option_and_then, fold, filter}
use Rattle.std.specs.List.{filter_map, cons_option}
use Rattle.std.specs.Option.{option_map_or}
use Rattle.std.specs.Ordering.{int_eq}
use Rattle.std.proofs.lemmas.Int.{ints}
use Rattle.std.proofs.lemmas.Bool.{cases_Bool}
use Rattle.std.proofs.lemmas.Bool.Decides.{Decides-int_eq}
use Rattle.aq_base.specs.Site.{Site}
use Rattle.aq_rules.specs.Lists.{greater}
use Rattle.aq_rules.specs.DesignValues.{value_in}
use Rattle.aq_rules.specs.Areas.AreaValue.{SiteValue, site_in, greatest_value, has_value, lower_site, least_site, governing_site}
use Rattle.aq_area.specs.AreaRows.{greater_of, governing_with}

abbrev value_of : SiteValue → Option ℤ
value_of row = value_in row.1

abbrev values : List SiteValue → List ℤ
values rows = filter_map value_of rows

-- ---- the greatest value

greatest-from : (acc : Option ℤ) (rows : List SiteValue) (row : SiteValue) → fold greater acc (values (rows ++ row ∷ [])) ≡ greater_of (fold greater acc (values rows)) (value_of row)
greatest-from acc [] row = by_value (value_of row) acc
  where
    by_value : (w a : Option ℤ) → fold greater a (cons_option w []) ≡ greater_of a w
    by_value None None = refl
    by_value None (Some a) = refl
    by_value (Some w) None = refl
    by_value (Some w) (Some a) = refl
greatest-from acc (r ∷ rows) row = by_value (value_of r) (λ a. greatest-from a rows row)
  where
    by_value : (o : Option ℤ) → ((a : Option ℤ) → fold greater a (values (rows ++ row ∷ [])) ≡ greater_of (fold greater a (values rows)) (value_of row))
        → fold greater acc (cons_option o (values (rows ++ row ∷ []))) ≡ greater_of (fold greater acc (cons_option o (values rows))) (value_of row)
    by_value None rest = rest acc
    by_value (Some v) rest = rest (greater acc v)

pub greatest-push : (rows : List SiteValue) (row : SiteValue) → greatest_value (rows ++ row ∷ []) ≡ greater_of (greatest_value rows) (value_of row)
greatest-push rows row = greatest-from None rows row

-- ---- no row has a value above the greatest

abbrev Below : ℤ → Option ℤ → Type 0
Below x None = ⊤
Below x (Some v) = v <ℤ x

abbrev AllBelow : ℤ → List SiteValue → Type 0
AllBelow x [] = ⊤
AllBelow x (row ∷ rows) = Below x (value_of row) × AllBelow x rows

both-below : (x v : ℤ) (acc : Option ℤ) → Below x (greater acc v) → Below x acc × Below x (Some v)
both-below x v None h = (tt, h)
both-below x v (Some a) h = by_test (int_lt v a) refl h
  where
    by_test : (t : Bool) → int_lt v a ≡ t → cond t a v <ℤ x → (a <ℤ x) × (v <ℤ x)
    by_test true e h = (h, grind (arith, ints, e, h))
    by_test false e h = (grind (arith, ints, e, h), h)

all-below : (x : ℤ) (acc : Option ℤ) (rows : List SiteValue) → Below x (fold greater acc (values rows)) → Below x acc × AllBelow x rows
all-below x acc [] h = (h, tt)
all-below x acc (row ∷ rows) h = by_value (value_of row) (λ a. all-below x a rows) h
  where
    by_value : (o : Option ℤ) → ((a : Option ℤ) → Below x (fold greater a (values rows)) → Below x a × AllBelow x rows)
        → Below x (fold greater acc (cons_option o (values rows))) → Below x acc × (Below x o × AllBelow x rows)
    by_value None rest h = let all = rest acc h in (all.0, (tt, all.1))
    by_value (Some v) rest h =
        let all = rest (greater acc v) h in
        let both = both-below x v acc all.0 in
        (both.0, (both.1, all.1))

other-value : (x v : ℤ) → v <ℤ x → int_eq x v ≡ false
other-value x v below =
    elim (cases_Bool (int_eq x v)) [ inl same ↦ (let e : x ≡ v = (Decides-int_eq x v).0 same in absurd (omega (arith, ints, e, below))) | inr other ↦ other ]

none-has : (x : ℤ) (rows : List SiteValue) → AllBelow x rows → filter (has_value x) rows ≡ []
none-has x [] below = refl
none-has x (row ∷ rows) below = by_value (value_of row) below.0 (none-has x rows below.1)
  where
    by_value : (o : Option ℤ) → Below x o → filter (has_value x) rows ≡ []
        → cond (option_map_or (int_eq x) o false) (row ∷ filter (has_value x) rows) (filter (has_value x) rows) ≡ []
    by_value None h rest = rest
    by_value (Some v) h rest = ap (λ t. cond t (row ∷ filter (has_value x) rows) (filter (has_value x) rows)) (other-value x v h) ∙ rest

-- ---- the least site with a value

abbrev least_with : List SiteValue → ℤ → Option Site
least_with rows x = least_site (map site_in (filter (has_value x) rows))

least-from : (acc : Option Site) (x : ℤ) (rows : List SiteValue) (row : SiteValue)
    → fold lower_site acc (map site_in (filter (has_value x) (rows ++ row ∷ [])))
    ≡ cond (has_value x row) (lower_site (fold lower_site acc (map site_in (filter (has_value x) rows))) (site_in row)) (fold lower_site acc (map site_in (filter (has_value x) rows)))
least-from acc x [] row = by_test (has_value x row)
  where
    by_test : (t : Bool) → fold lower_site acc (map site_in (cond t (row ∷ []) [])) ≡ cond t (lower_site acc (site_in row)) acc
    by_test true = refl
    by_test false = refl
least-from acc x (r ∷ rows) row = by_test (has_value x r) (λ a. least-from a x rows row)
  where
    by_test : (t : Bool)
        → ((a : Option Site) → fold lower_site a (map site_in (filter (has_value x) (rows ++ row ∷ [])))
        ≡ cond (has_value x row) (lower_site (fold lower_site a (map site_in (filter (has_value x) rows))) (site_in row)) (fold lower_site a (map site_in (filter (has_value x) rows))))
        → fold lower_site acc (map site_in (cond t (r ∷ filter (has_value x) (rows ++ row ∷ [])) (filter (has_value x) (rows ++ row ∷ []))))
        ≡ cond (has_value x row) (lower_site (fold lower_site acc (map site_in (cond t (r ∷ filter (has_value x) rows) (filter (has_value x) rows)))) (site_in row))
        (fold lower_site acc (map site_in (cond t (r ∷ filter (has_value x) rows) (filter (has_value x) rows))))
    by_test true rest = rest (lower_site acc (site_in r))
    by_test false rest = rest acc

-- the governing site of what has one value more, by the least site with each value
joined : (site : Site) (with_value : ℤ → Option Site) (g w : Option ℤ) → ((x : ℤ) → Below x g → with_value x ≡ None)
    → option_and_then (λ x. cond (option_map_or (int_eq x) w false) (lower_site (with_value x) site) (with_value x)) (greater_of g w) ≡ governing_with (option_and_then with_value g) g site w
joined site with_value None None none = refl
joined site with_value (Some g) None none = refl
joined site with_value None (Some w) none = rw ((Decides-int_eq w w).1 refl, none w tt) refl
joined site with_value (Some g) (Some w) none = by_tests (int_lt w g) (int_lt g w) refl refl
  where
    at_same : (g w : ℤ) → g ≡ w → with_value w ≡ with_value g
    at_same g w e = ap with_value (sym e)

    by_tests : (t s : Bool) → int_lt w g ≡ t → int_lt g w ≡ s
        → cond (int_eq (cond t g w) w) (lower_site (with_value (cond t g w)) site) (with_value (cond t g w)) ≡ cond t (with_value g) (cond s (Some site) (lower_site (with_value g) site))
    by_tests true s below above = let less : w <ℤ g = grind (arith, ints, below) in rw (other-value g w less) refl
    by_tests false true below above = let less : g <ℤ w = grind (arith, ints, above) in rw ((Decides-int_eq w w).1 refl, none w less) refl
    by_tests false false below above =
        let same : g ≡ w = grind (arith, ints, below, above) in
        rw ((Decides-int_eq w w).1 refl, at_same g w same) refl

pub governing-push : (rows : List SiteValue) (row : SiteValue) → governing_site (rows ++ row ∷ []) ≡ governing_with (governing_site rows) (greatest_value rows) (site_in row) (value_of row)
governing-push rows row =
    ap (option_and_then (least_with (rows ++ row ∷ []))) (greatest-push rows row)
    ∙ ap (λ (f : ℤ → Option Site). option_and_then f (greater_of (greatest_value rows) (value_of row))) (λ i x. least-from None x rows row i)
    ∙ joined (site_in row) (least_with rows) (greatest_value rows) (value_of row)
    (λ x below. ap (λ l. least_site (map site_in l)) (none-has x rows (all-below x None rows below).1))
