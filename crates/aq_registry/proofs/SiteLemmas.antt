-- The monitors of a site lie together, and sites follow one another as their monitors do.
use Rattle.std.proofs.Common.{◌≡◌, ℕ, ◌+◌, Bool, true, false, ◌&&◌, ◌==◌, List, [], ◌∷◌, cond, Option, Some, None, is_some, refl, ap, sym, ◌∙◌, arith}
use Rattle.std.specs.Prelude.{◌||◌, not, find, nat_lt}
use mathlib.Core.Path.{fun_ext}
use Rattle.std.specs.declared.cmp.Ordering.{Ordering}
use Rattle.std.specs.declared.cmp.Ordering.TheVariants.{Less, Equal, Greater}
use Rattle.std.specs.Ordering.{nat_cmp, ordering_then, is_le, is_gt}
use Rattle.std.specs.List.{list_any}
use Rattle.std.specs.Option.{option_and_then}
use Rattle.std.proofs.lemmas.Bool.{false≢true}
use Rattle.std.proofs.lemmas.Bool.Decides.{nat_tests}
use Rattle.aq_base.specs.Site.{Site}
use Rattle.aq_base.specs.declared.office.OfficeRecord.{OfficeRecord}
use Rattle.aq_base.specs.declared.office.OfficeRecord.TheVariants.{Monitor, Primary}
use Rattle.aq_rules.specs.Office.Monitors.{is_same_site}
use Rattle.aq_rules.specs.Office.Office.{key_of, parameter_number, site_numbers, is_same, with_site, sites_of}
use Rattle.aq_rules.specs.Office.Questions.{site_above, next_site}
use Rattle.aq_registry.specs.declared.place.Place.{Place}
use Rattle.aq_registry.specs.Places.{of_kind, of_site, behind_site, behind_sites, place_of, place_cmp, is_of_site, lies_between, IsSpan}
use Rattle.aq_registry.specs.Registry.{site_in}
use Rattle.aq_registry.proofs.SeriesLemmas.{between-then, between-whole, none_below, same-front, less}
use Rattle.aq_registry.proofs.QuestionLemmas.{first_given-found, any-found}

-- ---- a site's part

below-then : (n : ℕ) (o : Ordering) → is_le o ≡ true → is_le (ordering_then (nat_cmp 0 n) o) ≡ true
below-then n o h = grind (arith, nat_tests)

below-both : (m n : ℕ) → is_le (ordering_then (nat_cmp 0 m) (nat_cmp 0 n)) ≡ true
below-both m n = below-then m (nat_cmp 0 n) (none_below n)

and_true : (a : Bool) → (a && true) ≡ a
and_true true = refl
and_true false = refl

three : (k a b c : Bool) → (k && (a && (b && c))) ≡ (((k && a) && b) && c)
three true true true c = refl
three true true false c = refl
three true false b c = refl
three false a b c = refl

site-places : (kind : ℕ) (site : Site) (r : OfficeRecord) → lies_between (of_site kind site 0 0) (behind_site kind site) r ≡ is_of_site kind site r
site-places kind site r =
    let p = place_of (key_of r) in
    let rest = ordering_then (nat_cmp 0 p.parameter) (nat_cmp 0 p.part) in
    between-then kind p.kind _ _ _ (between-then site.state p.state _ _ _ (between-then site.county p.county _ _ _
    (between-whole site.number p.number rest rest (below-both p.parameter p.part) ∙ ap (λ b. (p.number == site.number) && b) (below-both p.parameter p.part) ∙ and_true (p.number == site.number))))
    ∙ three (p.kind == kind) (p.state == site.state) (p.county == site.county) (p.number == site.number)

pub IsSpan_site : (kind : ℕ) (site : Site) → IsSpan (of_site kind site 0 0) (behind_site kind site)
IsSpan_site kind site =
    ap is_gt (same-front kind _ ∙ same-front site.state _ ∙ same-front site.county _ ∙ ap (λ o. ordering_then o Equal) (less site.number (site.number + 1) (omega arith)))

-- ---- the registered sites

pub flipped : (a b : Site) → is_same_site a b ≡ is_same_site b a
flipped a b = grind (arith, nat_tests)

pub numbers : (a b : Site) → is_same (site_numbers a) (site_numbers b) ≡ is_same_site a b
numbers a b =
    let at : (x y z : Bool) → (x && (y && (z && true))) ≡ (x && y && z) = λ x y z.
    elim x as (λ x. (x && (y && (z && true))) ≡ (x && y && z)) [
      | true ↦ elim y as (λ y. (y && (z && true)) ≡ (true && y && z)) [ true ↦ and_true z | false ↦ refl ]
      | false ↦ refl
    ]
    in
    at (a.state == b.state) (a.county == b.county) (a.number == b.number)

same_through : (site a b : Site) → is_same_site site b ≡ true → is_same_site a b ≡ true → is_same_site site a ≡ true
same_through site a b h k = grind (arith, nat_tests)

or_true : (a : Bool) → (a || true) ≡ true
or_true true = refl
or_true false = refl

is_there : (site b : Site) (sites : List Site) → is_same_site site b ≡ true → list_any (λ other. is_same (site_numbers other) (site_numbers b)) sites ≡ true → list_any (is_same_site site) sites ≡ true
is_there site b [] h there = there
is_there site b (a ∷ sites) h there =
    let at : (x : Bool) → is_same (site_numbers a) (site_numbers b) ≡ x → (x || list_any (λ other. is_same (site_numbers other) (site_numbers b)) sites) ≡ true → (is_same_site site a || list_any (is_same_site site) sites) ≡ true =
    elim [
      | true ↦ λ same _. ap (λ x. x || list_any (is_same_site site) sites) (same_through site a b h (sym (numbers a b) ∙ same))
      | false ↦ λ _ rest. ap (λ x. is_same_site site a || x) (is_there site b sites h rest) ∙ or_true (is_same_site site a)
    ]
    in
    at (is_same (site_numbers a) (site_numbers b)) refl there

any-with_site : (site b : Site) (sites : List Site) → list_any (is_same_site site) (with_site b sites) ≡ (is_same_site site b || list_any (is_same_site site) sites)
any-with_site site b sites =
    let at : (x y : Bool) → list_any (λ other. is_same (site_numbers other) (site_numbers b)) sites ≡ x → is_same_site site b ≡ y → list_any (is_same_site site) (cond x sites (b ∷ sites)) ≡ (y || list_any (is_same_site site) sites) = λ x y.
    elim x as (λ x. list_any (λ other. is_same (site_numbers other) (site_numbers b)) sites ≡ x → is_same_site site b ≡ y → list_any (is_same_site site) (cond x sites (b ∷ sites)) ≡ (y || list_any (is_same_site site) sites)) [
      | true ↦ elim y as (λ y. list_any (λ other. is_same (site_numbers other) (site_numbers b)) sites ≡ true → is_same_site site b ≡ y → list_any (is_same_site site) sites ≡ (y || list_any (is_same_site site) sites)) [
        | true ↦ λ there same. is_there site b sites same there
        | false ↦ λ _ _. refl
      ]
      | false ↦ λ _ same. ap (λ z. z || list_any (is_same_site site) sites) same
    ]
    in
    at (list_any (λ other. is_same (site_numbers other) (site_numbers b)) sites) (is_same_site site b) refl refl

site-tells : (site b : Site) → is_same_site site b ≡ ((b.state == site.state) && (b.county == site.county) && (b.number == site.number))
site-tells site b = flipped site b

any-sites : (rows : List OfficeRecord) (site : Site) → list_any (is_same_site site) (sites_of rows) ≡ list_any (is_of_site 1 site) rows
any-sites [] site = refl
any-sites (Monitor id duration eligible ∷ rows) site =
    any-with_site site id.site (sites_of rows)
    ∙ ap (λ x. x || list_any (is_same_site site) (sites_of rows)) (site-tells site id.site)
    ∙ ap (λ x. ((id.site.state == site.state) && (id.site.county == site.county) && (id.site.number == site.number)) || x) (any-sites rows site)
any-sites (r ∷ rows) site = any-sites rows site

pub site_found : (rows : List OfficeRecord) (site : Site) → list_any (is_same_site site) (sites_of rows) ≡ is_some (find (lies_between (of_site 1 site 0 0) (behind_site 1 site)) rows)
site_found rows site =
    any-sites rows site ∙ any-found (is_of_site 1 site) rows
    ∙ ap (λ (q : OfficeRecord → Bool). is_some (find q rows)) (sym (fun_ext (site-places 1 site)))

-- ---- sites in order

le-then : (m n : ℕ) (o : Ordering) (b : Bool) → is_le o ≡ b → is_le (ordering_then (nat_cmp m n) o) ≡ (nat_lt m n || ((m == n) && b))
le-then m n o b h =
    elim (nat_lt m n) as (λ l. is_le (ordering_then (cond l Less (cond (m == n) Equal Greater)) o) ≡ (l || ((m == n) && b))) [
      | true ↦ refl
      | false ↦ elim (m == n) as (λ e. is_le (ordering_then (cond e Equal Greater) o) ≡ (e && b)) [ true ↦ h | false ↦ refl ]
    ]

le-next : (m n : ℕ) (o : Ordering) → is_le o ≡ true → is_le (ordering_then (nat_cmp (m + 1) n) o) ≡ (nat_lt m n || ((m == n) && false))
le-next m n o h = grind (arith, nat_tests)

-- a place of the kinds after monitors
pub all-below : (p : Place) → is_le (ordering_then (nat_cmp 0 p.state) (ordering_then (nat_cmp 0 p.county) (ordering_then (nat_cmp 0 p.number) (ordering_then (nat_cmp 0 p.parameter) (nat_cmp 0 p.part))))) ≡ true
all-below p = below-then p.state _ (below-then p.county _ (below-then p.number _ (below-then p.parameter _ (none_below p.part))))

pub not_both : (a b : Bool) → b ≡ true → (a && not b) ≡ false
not_both true b h = ap not h
not_both false b h = refl

site-says : (after : Option Site) (r : OfficeRecord) → lies_between (behind_sites after) (of_kind 2) r ≡ true → is_some (site_in r) ≡ true
site-says after (Monitor id duration eligible) h = refl
site-says after (Primary site pollutant from poc) h = absurd (false≢true (sym (not_both (is_le (place_cmp (behind_sites after) (place_of (key_of (Primary site pollutant from poc))))) (is_le (place_cmp (of_kind 2) (place_of (key_of (Primary site pollutant from poc))))) (all-below (place_of (key_of (Primary site pollutant from poc))))) ∙ h))
site-says after r h = absurd (false≢true (sym (not_both (is_le (place_cmp (behind_sites after) (place_of (key_of r)))) true refl) ∙ h))

site-after : (after : Option Site) (r : OfficeRecord) → site_above after r ≡ cond (lies_between (behind_sites after) (of_kind 2) r) (site_in r) None
site-after None (Monitor id duration eligible) =
    ap (λ b. cond (b && true) (Some id.site) None) (sym (all-below (place_of (key_of (Monitor id duration eligible)))))
site-after (Some other) (Monitor id duration eligible) =
    ap (λ b. cond b (Some id.site) None)
    (sym (and_true (is_le (place_cmp (behind_site 1 other) (place_of (key_of (Monitor id duration eligible)))))
    ∙ le-then other.state id.site.state _ _ (le-then other.county id.site.county _ _ (le-next other.number id.site.number _ (below-both (parameter_number id.pollutant) id.poc)))))
site-after after (Primary site pollutant from poc) =
    ap (λ b. cond b None None) (sym (not_both (is_le (place_cmp (behind_sites after) (place_of (key_of (Primary site pollutant from poc))))) (is_le (place_cmp (of_kind 2) (place_of (key_of (Primary site pollutant from poc))))) (all-below (place_of (key_of (Primary site pollutant from poc))))))
site-after after r =
    ap (λ b. cond b None None) (sym (not_both (is_le (place_cmp (behind_sites after) (place_of (key_of r)))) true refl))

pub next_site_found : (rows : List OfficeRecord) (after : Option Site) → next_site rows after ≡ option_and_then site_in (find (lies_between (behind_sites after) (of_kind 2)) rows)
unfolding next_site
next_site_found rows after = first_given-found (site_above after) site_in (lies_between (behind_sites after) (of_kind 2)) (site-after after) (site-says after) rows

pub IsSpan_sites : (after : Option Site) → IsSpan (behind_sites after) (of_kind 2)
IsSpan_sites None = refl
IsSpan_sites (Some site) = refl
