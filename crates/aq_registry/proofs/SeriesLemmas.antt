-- Records of one kind, site and parameter lie together.
use Rattle.std.proofs.Common.{◌≡◌, ℕ, ◌+◌, ◌≤◌, Bool, true, false, ◌&&◌, ◌==◌, List, refl, ap, ◌∙◌, arith}
use Rattle.std.specs.Prelude.{not, find, filter, count_by, nat_le, nat_lt}
use mathlib.Core.Path.{fun_ext}
use Rattle.std.specs.declared.cmp.Ordering.{Ordering}
use Rattle.std.specs.declared.cmp.Ordering.TheVariants.{Less, Equal, Greater}
use Rattle.std.specs.Ordering.{nat_cmp, ordering_then, is_eq, is_le, is_gt}
use Rattle.std.proofs.lemmas.Bool.Decides.{nat_tests}
use Rattle.aq_base.specs.Site.{Site}
use Rattle.aq_base.specs.declared.office.OfficeRecord.{OfficeRecord}
use Rattle.aq_rules.specs.Office.Office.{key_of}
use Rattle.aq_registry.specs.declared.place.Place.{Place}
use Rattle.aq_registry.specs.Places.{of_site, place_of, is_of, is_of_from, is_of_between, lies_between, IsSpan}

-- ---- numbers

pub eq-flipped : (m n : ℕ) → is_eq (nat_cmp m n) ≡ (n == m)
eq-flipped m n = grind (arith, nat_tests)

pub itself : (n : ℕ) → nat_cmp n n ≡ Equal
itself n = grind (arith, nat_tests)

pub less : (m n : ℕ) → m + 1 ≤ n → nat_cmp m n ≡ Less
less m n h = grind (arith, nat_tests)

-- between two places with the same number in front
pub between-then : (m n : ℕ) (o u : Ordering) (b : Bool) → (is_le o && not (is_le u)) ≡ b → (is_le (ordering_then (nat_cmp m n) o) && not (is_le (ordering_then (nat_cmp m n) u))) ≡ ((n == m) && b)
between-then m n o u b h =
    let at : (p : Ordering) → (is_le (ordering_then p o) && not (is_le (ordering_then p u))) ≡ (is_eq p && (is_le o && not (is_le u))) =
    elim [ Less ↦ refl | Equal ↦ refl | Greater ↦ refl ]
    in
    at (nat_cmp m n) ∙ ap (λ c. c && (is_le o && not (is_le u))) (eq-flipped m n) ∙ ap (λ c. (n == m) && c) h

between-parts : (from end n : ℕ) → (is_le (nat_cmp from n) && not (is_le (nat_cmp end n))) ≡ (nat_le from n && nat_lt n end)
between-parts from end n = grind (arith, nat_tests)

-- with a later number after it at the end
pub between-whole : (m n : ℕ) (o u : Ordering) → is_le u ≡ true → (is_le (ordering_then (nat_cmp m n) o) && not (is_le (ordering_then (nat_cmp (m + 1) n) u))) ≡ ((n == m) && is_le o)
between-whole m n o u h = grind (arith, nat_tests)

pub none_below : (n : ℕ) → is_le (nat_cmp 0 n) ≡ true
none_below n = grind (arith, nat_tests)

is_le-from : (from n : ℕ) → is_le (nat_cmp from n) ≡ nat_le from n
is_le-from from n = grind (arith, nat_tests)

-- ---- tests in a row

pub and-assoc : (a b c : Bool) → (a && (b && c)) ≡ ((a && b) && c)
and-assoc true b c = refl
and-assoc false b c = refl

five : (k a b c d e : Bool) → (k && (a && (b && (c && (d && e))))) ≡ (((((k && a) && b) && c) && d) && e)
five k a b c d e = and-assoc k a _ ∙ and-assoc (k && a) b _ ∙ and-assoc ((k && a) && b) c _ ∙ and-assoc (((k && a) && b) && c) d e

six : (k a b c d e f : Bool) → (k && (a && (b && (c && (d && (e && f)))))) ≡ ((((((k && a) && b) && c) && d) && e) && f)
six k a b c d e f = five k a b c d (e && f) ∙ and-assoc ((((k && a) && b) && c) && d) e f

-- ---- places

from-places : (kind : ℕ) (site : Site) (parameter from : ℕ) (r : OfficeRecord) → lies_between (of_site kind site parameter from) (of_site kind site (parameter + 1) 0) r ≡ is_of_from kind site parameter from r
from-places kind site parameter from r =
    let p = place_of (key_of r) in
    between-then kind p.kind _ _ _ (between-then site.state p.state _ _ _ (between-then site.county p.county _ _ _ (between-then site.number p.number _ _ _
    (between-whole parameter p.parameter (nat_cmp from p.part) (nat_cmp 0 p.part) (none_below p.part) ∙ ap (λ b. (p.parameter == parameter) && b) (is_le-from from p.part)))))
    ∙ five (p.kind == kind) (p.state == site.state) (p.county == site.county) (p.number == site.number) (p.parameter == parameter) (nat_le from p.part)

between-places : (kind : ℕ) (site : Site) (parameter from end : ℕ) (r : OfficeRecord) → lies_between (of_site kind site parameter from) (of_site kind site parameter end) r ≡ is_of_between kind site parameter from end r
between-places kind site parameter from end r =
    let p = place_of (key_of r) in
    between-then kind p.kind _ _ _ (between-then site.state p.state _ _ _ (between-then site.county p.county _ _ _ (between-then site.number p.number _ _ _
    (between-then parameter p.parameter (nat_cmp from p.part) (nat_cmp end p.part) _ (between-parts from end p.part)))))
    ∙ six (p.kind == kind) (p.state == site.state) (p.county == site.county) (p.number == site.number) (p.parameter == parameter) (nat_le from p.part) (nat_lt p.part end)

pub same-front : (n : ℕ) (o : Ordering) → ordering_then (nat_cmp n n) o ≡ o
same-front n o = ap (λ p. ordering_then p o) (itself n)

pub span-front : (kind : ℕ) (site : Site) (o : Ordering) → ordering_then (nat_cmp kind kind) (ordering_then (nat_cmp site.state site.state) (ordering_then (nat_cmp site.county site.county) (ordering_then (nat_cmp site.number site.number) o))) ≡ o
span-front kind site o = same-front kind _ ∙ same-front site.state _ ∙ same-front site.county _ ∙ same-front site.number o

pub IsSpan-from : (kind : ℕ) (site : Site) (parameter from : ℕ) → IsSpan (of_site kind site parameter from) (of_site kind site (parameter + 1) 0)
IsSpan-from kind site parameter from =
    ap is_gt (span-front kind site (ordering_then (nat_cmp parameter (parameter + 1)) (nat_cmp from 0)) ∙ ap (λ p. ordering_then p (nat_cmp from 0)) (less parameter (parameter + 1) (omega arith)))

not_greater : (m n : ℕ) → m ≤ n → is_gt (nat_cmp m n) ≡ false
not_greater m n h = grind (arith, nat_tests)

pub IsSpan-between : (kind : ℕ) (site : Site) (parameter from end : ℕ) → from ≤ end → IsSpan (of_site kind site parameter from) (of_site kind site parameter end)
IsSpan-between kind site parameter from end h =
    ap is_gt (span-front kind site (ordering_then (nat_cmp parameter parameter) (nat_cmp from end)) ∙ same-front parameter (nat_cmp from end)) ∙ not_greater from end h

-- ---- what is found

pub find-from : (kind : ℕ) (site : Site) (parameter from : ℕ) (start end : Place) (rows : List OfficeRecord) → start ≡ of_site kind site parameter from → end ≡ of_site kind site (parameter + 1) 0 → find (lies_between start end) rows ≡ find (is_of_from kind site parameter from) rows
find-from kind site parameter from start end rows begins ends =
    ap (λ s. find (lies_between s end) rows) begins
    ∙ ap (λ e. find (lies_between (of_site kind site parameter from) e) rows) ends
    ∙ ap (λ q. find q rows) (fun_ext (from-places kind site parameter from))

pub filter-between : (kind : ℕ) (site : Site) (parameter from until : ℕ) (start end : Place) (rows : List OfficeRecord) → start ≡ of_site kind site parameter from → end ≡ of_site kind site parameter until → filter (lies_between start end) rows ≡ filter (is_of_between kind site parameter from until) rows
filter-between kind site parameter from until start end rows begins ends =
    ap (λ s. filter (lies_between s end) rows) begins
    ∙ ap (λ e. filter (lies_between (of_site kind site parameter from) e) rows) ends
    ∙ ap (λ q. filter q rows) (fun_ext (between-places kind site parameter from until))

from_none : (a : Bool) (n : ℕ) → (a && nat_le 0 n) ≡ a
from_none a n = grind (arith, nat_tests)

pub count-series : (kind : ℕ) (site : Site) (parameter : ℕ) (start end : Place) (rows : List OfficeRecord) → start ≡ of_site kind site parameter 0 → end ≡ of_site kind site (parameter + 1) 0 → count_by (lies_between start end) rows ≡ count_by (is_of kind site parameter) rows
count-series kind site parameter start end rows begins ends =
    ap (λ s. count_by (lies_between s end) rows) begins
    ∙ ap (λ e. count_by (lies_between (of_site kind site parameter 0) e) rows) ends
    ∙ ap (λ q. count_by q rows) (fun_ext (λ r. from-places kind site parameter 0 r ∙ from_none (is_of kind site parameter r) (place_of (key_of r)).part))

pub count-span : (kind : ℕ) (site : Site) (parameter from until : ℕ) (start end : Place) (rows : List OfficeRecord) → start ≡ of_site kind site parameter from → end ≡ of_site kind site parameter until → count_by (lies_between start end) rows ≡ count_by (is_of_between kind site parameter from until) rows
count-span kind site parameter from until start end rows begins ends =
    ap (λ s. count_by (lies_between s end) rows) begins
    ∙ ap (λ e. count_by (lies_between (of_site kind site parameter from) e) rows) ends
    ∙ ap (λ q. count_by q rows) (fun_ext (between-places kind site parameter from until))
