-- Years and their quarters, place by place.
use Rattle.std.proofs.Common.{◌≡◌, ℕ, ◌<◌, List, [], ◌∷◌, ◌++◌, length, map, get_or, refl, sym, ap, ◌∙◌, arith}
use Rattle.std.specs.Prelude.{Option, Some, None, option_map, option_and_then, slice_get, zip}
use Rattle.std.specs.List.{flat_map}
use Rattle.std.proofs.lemmas.Option.{slice_get-get_or}
use Rattle.std.proofs.lemmas.List.{append-nil, map-append}
use Rattle.aq_rules.specs.Lists.{all_of}
use Rattle.aq_rules.specs.Particles.Substitution.{Matched, same_part, matched}
use Rattle.aq_rules.specs.Kept.Summaries.{PmQuarter, PmYear}
use Rattle.aq_rules.specs.Kept.SummaryVerdicts.{of_summaries}
use Rattle.aq_verdict.specs.Filled.{joined_three}

-- three places of a list of three, and four of one of four
pub three-of : {X : Type 0} (xs : List X) (a b c : X) → length xs ≡ 3 → xs ≡ get_or xs 0 a ∷ get_or xs 1 b ∷ get_or xs 2 c ∷ []
three-of (x ∷ y ∷ z ∷ []) a b c three = refl
three-of [] a b c three = absurd (omega (arith, three))
three-of (x ∷ []) a b c three = absurd (omega (arith, three))
three-of (x ∷ y ∷ []) a b c three = absurd (omega (arith, three))
three-of (x ∷ y ∷ z ∷ w ∷ xs) a b c three = absurd (omega (arith, three))

pub four-of : {X : Type 0} (xs : List X) (a b c d : X) → length xs ≡ 4 → xs ≡ get_or xs 0 a ∷ get_or xs 1 b ∷ get_or xs 2 c ∷ get_or xs 3 d ∷ []
four-of (x ∷ y ∷ z ∷ w ∷ []) a b c d four = refl
four-of [] a b c d four = absurd (omega (arith, four))
four-of (x ∷ []) a b c d four = absurd (omega (arith, four))
four-of (x ∷ y ∷ []) a b c d four = absurd (omega (arith, four))
four-of (x ∷ y ∷ z ∷ []) a b c d four = absurd (omega (arith, four))
four-of (x ∷ y ∷ z ∷ w ∷ v ∷ xs) a b c d four = absurd (omega (arith, four))

-- the same part of three years
pub same-part : (years : List PmYear) (part : ℕ) (a b c : PmYear) (qa qb qc : List PmQuarter) (p q r : PmQuarter) → years ≡ a ∷ b ∷ c ∷ []
    → qa ≡ a.quarters → qb ≡ b.quarters → qc ≡ c.quarters → part < length qa → part < length qb → part < length qc
    → get_or qa part p ∷ get_or qb part q ∷ get_or qc part r ∷ [] ≡ same_part of_summaries years part
same-part years part a b c qa qb qc p q r three ha hb hc wa wb wc =
    let sa = ap (λ qs. slice_get qs part) (sym ha) ∙ slice_get-get_or qa part p wa in
    let sb = ap (λ qs. slice_get qs part) (sym hb) ∙ slice_get-get_or qb part q wb in
    let sc = ap (λ qs. slice_get qs part) (sym hc) ∙ slice_get-get_or qc part r wc in
    rw three (rw (sa, sb, sc) refl)

pub part-within : (qs ps : List PmQuarter) (part : ℕ) → ps ≡ qs → length qs ≡ 4 → part < 4 → part < length ps
part-within qs ps part same four within = rw same (rw four within)

-- ---- all of some options

all_of-append : {X : Type 0} (xs ys : List (Option X)) → all_of (xs ++ ys) ≡ option_and_then (λ x. option_map (λ y. x ++ y) (all_of ys)) (all_of xs)
all_of-append [] ys = same (all_of ys)
  where
    same : {X : Type 0} (o : Option (List X)) → o ≡ option_map (λ y. [] ++ y) o
    same None = refl
    same (Some y) = refl
all_of-append (None ∷ xs) ys = refl
all_of-append (Some x ∷ xs) ys = ap (option_map (λ others. x ∷ others)) (all_of-append xs ys) ∙ by_first x (all_of xs) (all_of ys)
  where
    by_first : {X : Type 0} (x : X) (o p : Option (List X))
        → option_map (λ others. x ∷ others) (option_and_then (λ a. option_map (λ b. a ++ b) p) o) ≡ option_and_then (λ a. option_map (λ b. a ++ b) p) (option_map (λ others. x ∷ others) o)
    by_first x None p = refl
    by_first x (Some a) None = refl
    by_first x (Some a) (Some b) = refl

pub all_of-three : {X : Type 0} (xs ys zs : List (Option X)) → joined_three (all_of xs) (all_of ys) (all_of zs) ≡ all_of (xs ++ (ys ++ zs))
all_of-three xs ys zs =
    sym (all_of-append xs (ys ++ zs) ∙ ap (λ p. option_and_then (λ a. option_map (λ b. a ++ b) p) (all_of xs)) (all_of-append ys zs) ∙ by_each (all_of xs) (all_of ys) (all_of zs))
  where
    by_each : {X : Type 0} (a b c : Option (List X))
        → option_and_then (λ x. option_map (λ y. x ++ y) (option_and_then (λ y. option_map (λ z. y ++ z) c) b)) a ≡ joined_three a b c
    by_each None b c = refl
    by_each (Some a) None c = refl
    by_each (Some a) (Some b) None = refl
    by_each (Some a) (Some b) (Some c) = refl

-- what is said of each part of three years, in one list
pub map-three : {X Y : Type 0} (f : X → Y) (g : PmYear → List X) (years : List PmYear) (a b c : PmYear) → years ≡ a ∷ b ∷ c ∷ []
    → map f (g a) ++ (map f (g b) ++ map f (g c)) ≡ map f (flat_map g years)
map-three f g years a b c three =
    sym (ap (λ l. map f (flat_map g l)) three ∙ map-append f (g a) (g b ++ (g c ++ [])) ∙ ap (λ l. map f (g a) ++ l) (map-append f (g b) (g c ++ []) ∙ ap (λ l. map f (g b) ++ map f l) (append-nil (g c))))

-- what is said of a year's quarters with those that match them
pub map-matched : {Y : Type 0} (f : Matched of_summaries → Y) (years : List PmYear) (year : PmYear) (qs : List PmQuarter) (a b c d : PmQuarter) (first second third fourth : Y) → qs ≡ year.quarters → length year.quarters ≡ 4
    → first ≡ f (get_or qs 0 a, same_part of_summaries years 0) → second ≡ f (get_or qs 1 b, same_part of_summaries years 1)
    → third ≡ f (get_or qs 2 c, same_part of_summaries years 2) → fourth ≡ f (get_or qs 3 d, same_part of_summaries years 3)
    → first ∷ second ∷ third ∷ fourth ∷ [] ≡ map f (matched of_summaries years year)
map-matched f years year qs a b c d first second third fourth same four is_first is_second is_third is_fourth =
    let all : qs ≡ get_or qs 0 a ∷ get_or qs 1 b ∷ get_or qs 2 c ∷ get_or qs 3 d ∷ [] = four-of qs a b c d (ap length same ∙ four) in
    (λ i. is_first i ∷ is_second i ∷ is_third i ∷ is_fourth i ∷ [])
    ∙ sym (ap (λ l. map f (zip l (map (same_part of_summaries years) (0 ∷ 1 ∷ 2 ∷ 3 ∷ [])))) (sym same ∙ all))

-- and of all of some options
pub all-three : {X Y : Type 0} (f : X → Option Y) (g : PmYear → List X) (years : List PmYear) (a b c : PmYear) (first second third all : Option (List Y)) → length years ≡ 3 → all ≡ joined_three first second third
    → first ≡ all_of (map f (g (get_or years 0 a))) → second ≡ all_of (map f (g (get_or years 1 b))) → third ≡ all_of (map f (g (get_or years 2 c)))
    → all ≡ all_of (map f (flat_map g years))
all-three f g years a b c first second third all three is is_first is_second is_third =
    let x = get_or years 0 a in
    let y = get_or years 1 b in
    let z = get_or years 2 c in
    is ∙ (λ i. joined_three (is_first i) (is_second i) (is_third i))
    ∙ all_of-three (map f (g x)) (map f (g y)) (map f (g z)) ∙ ap all_of (map-three f g years x y z (three-of years a b c three))
