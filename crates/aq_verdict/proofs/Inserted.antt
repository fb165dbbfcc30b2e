-- Values in places, and one more that joins them.
use Rattle.std.proofs.Common.{◌≡◌, ℕ, zero, suc, ◌+◌, ◌≤◌, ◌<◌, Bool, true, false, cond, ◌&&◌, List, [], ◌∷◌, ◌++◌, length, take, replicate, get_or, refl, sym, ap, ◌∙◌, add-one, arith}
use Rattle.std.specs.Prelude.{Option, Some, None, ℤ, int_lt, int_le, slice_get}
use Rattle.std.proofs.lemmas.Bool.{and_from, and_parts, false≢true}
use Rattle.std.proofs.lemmas.Int.{ints}
use Rattle.std.proofs.Math.Seq.{take-nil}
use Rattle.aq_rules.specs.Lists.{ranked_in, ranked}
use Rattle.aq_rules.specs.Kept.Summaries.{falls}
use Rattle.aq_verdict.specs.Top.{given, is_no_higher, descends}
use Rattle.aq_verdict.specs.Places.{descends-rest, given-empty}
use Rattle.aq_verdict.specs.Inserted.{inserted, is_higher, higher, lower, moved, joined}

-- ---- places that descend do so with one more value

le-trans : (x y z : ℤ) → int_le y x ≡ true → int_le z y ≡ true → int_le z x ≡ true
le-trans x y z h k = grind (arith, ints)

no_higher-trans : (a b c : Option ℤ) → is_no_higher a b ≡ true → is_no_higher b c ≡ true → is_no_higher a c ≡ true
no_higher-trans a b None h k = refl
no_higher-trans None None (Some z) h k = k
no_higher-trans None (Some y) (Some z) h k = h
no_higher-trans (Some x) None (Some z) h k = absurd (false≢true k)
no_higher-trans (Some x) (Some y) (Some z) h k = le-trans x y z h k

lt-le : (x y : ℤ) → int_lt y x ≡ true → int_le y x ≡ true
lt-le x y h = grind (arith, ints)

not_lt-le : (x y : ℤ) → int_lt y x ≡ false → int_le x y ≡ true
not_lt-le x y h = grind (arith, ints)

le-not_lt : (x y : ℤ) → int_le y x ≡ true → int_lt x y ≡ false
le-not_lt x y h = grind (arith, ints)

le-itself : (x : ℤ) → int_le x x ≡ true
le-itself x = grind (arith, ints)

no_higher-itself : (a : Option ℤ) → is_no_higher a a ≡ true
no_higher-itself None = refl
no_higher-itself (Some x) = le-itself x

-- what is higher is above both
higher-first : (p x : Option ℤ) → is_no_higher (higher p x) p ≡ true
higher-first None x = refl
higher-first (Some a) None = le-itself a
higher-first (Some a) (Some b) = by_test (int_lt b a) refl
  where
    by_test : (t : Bool) → int_lt b a ≡ t → is_no_higher (cond t (Some a) (Some b)) (Some a) ≡ true
    by_test true h = le-itself a
    by_test false h = not_lt-le a b h

lower-first : (p x : Option ℤ) → is_no_higher p (lower p x) ≡ true
lower-first None x = refl
lower-first (Some a) None = refl
lower-first (Some a) (Some b) = by_test (int_lt b a) refl
  where
    by_test : (t : Bool) → int_lt b a ≡ t → is_no_higher (Some a) (cond t (Some b) (Some a)) ≡ true
    by_test true h = lt-le a b h
    by_test false h = le-itself a

-- a place is above the higher of two that it is above
above-higher : (p q x : Option ℤ) → is_no_higher p q ≡ true → is_no_higher p x ≡ true → is_no_higher p (higher q x) ≡ true
above-higher p q x h k = by_test (is_higher q x)
  where
    by_test : (t : Bool) → is_no_higher p (cond t q x) ≡ true
    by_test true = h
    by_test false = k

descends-moved : (top p v : Option ℤ) (ps : List (Option ℤ)) → is_no_higher top p ≡ true → descends (p ∷ ps) ≡ true → descends (top ∷ moved p v ps) ≡ true
descends-moved top p v [] h d = refl
descends-moved top p v (q ∷ ps) h d =
    let next : is_no_higher p (higher q (lower p v)) ≡ true = above-higher p q (lower p v) (and_parts (is_no_higher p q) (descends (q ∷ ps)) d).0 (lower-first p v) in
    and_from (is_no_higher top (higher q (lower p v))) (descends (higher q (lower p v) ∷ moved q v ps))
    (no_higher-trans top p (higher q (lower p v)) h next)
    (descends-moved (higher q (lower p v)) q v ps (higher-first q (lower p v)) (descends-rest p (q ∷ ps) d))

pub descends-joined : (v : Option ℤ) (ps : List (Option ℤ)) → descends ps ≡ true → descends (joined v ps) ≡ true
descends-joined v [] d = refl
descends-joined v (p ∷ ps) d = descends-moved (higher p v) p v ps (higher-first p v) d

-- ---- what the places give

-- nothing moves below an empty place
moved-empty : (v : ℤ) (ps : List (Option ℤ)) → descends (None ∷ ps) ≡ true → given (moved None (Some v) ps) ≡ []
moved-empty v [] d = refl
moved-empty v (None ∷ ps) d = refl
moved-empty v (Some a ∷ ps) d = absurd (false≢true d)

-- below a place that the value takes, each place takes the value above it
moved-below : (v a : ℤ) (ps : List (Option ℤ)) → int_lt v a ≡ false → descends (Some a ∷ ps) ≡ true → given (moved (Some a) (Some v) ps) ≡ take (length ps) (a ∷ given ps)
moved-below v a [] h d = refl
moved-below v a (None ∷ ps) h d =
    rw h (ap (λ (l : List ℤ). a ∷ l) (moved-empty v ps (descends-rest (Some a) (None ∷ ps) d) ∙ sym (take-nil (length ps))))
moved-below v a (Some b ∷ ps) h d =
    let order : int_le b a ≡ true = (and_parts (int_le b a) (descends (Some b ∷ ps)) d).0 in
    let not_above : int_lt a b ≡ false = le-not_lt a b order in
    let further : int_lt v b ≡ false = further_down v a b h order in
    rw (h, not_above) (ap (λ (l : List ℤ). a ∷ l) (moved-below v b ps further (descends-rest (Some a) (Some b ∷ ps) d)))
  where
    further_down : (v a b : ℤ) → int_lt v a ≡ false → int_le b a ≡ true → int_lt v b ≡ false
    further_down v a b h k = grind (arith, ints)

-- below a place that stays, the value joins the others
moved-on : (v a : ℤ) (ps : List (Option ℤ)) → int_lt v a ≡ true → moved (Some a) (Some v) ps ≡ joined (Some v) ps
moved-on v a [] h = refl
moved-on v a (p ∷ ps) h = rw h refl

pub given-joined : (v : ℤ) (ps : List (Option ℤ)) → descends ps ≡ true → given (joined (Some v) ps) ≡ take (length ps) (ranked_in v (given ps))
given-joined v [] d = refl
given-joined v (None ∷ ps) d = ap (λ (l : List ℤ). v ∷ l) (moved-empty v ps d ∙ sym (take-nil (length ps)))
given-joined v (Some a ∷ ps) d = by_test (int_lt v a) refl (given-joined v ps (descends-rest (Some a) ps d))
  where
    by_test : (t : Bool) → int_lt v a ≡ t → given (joined (Some v) ps) ≡ take (length ps) (ranked_in v (given ps))
        → given (cond t (Some a) (Some v) ∷ moved (Some a) (Some v) ps) ≡ take (suc (length ps)) (cond t (a ∷ ranked_in v (given ps)) (v ∷ a ∷ given ps))
    by_test true h rest = ap (λ (l : List ℤ). a ∷ l) (ap given (moved-on v a ps h) ∙ rest)
    by_test false h rest = ap (λ (l : List ℤ). v ∷ l) (moved-below v a ps h d)

few-itself : (n : ℕ) (xs : List ℤ) → length xs ≤ n → take n xs ≡ xs
few-itself zero [] few = refl
few-itself zero (x ∷ xs) few = absurd (omega (arith, few))
few-itself (suc n) [] few = refl
few-itself (suc n) (x ∷ xs) few = ap (λ (l : List ℤ). x ∷ l) (few-itself n xs (omega (arith, few)))

pub length-given : (ps : List (Option ℤ)) → length (given ps) ≤ length ps
length-given [] = omega arith
length-given (None ∷ ps) = omega arith
length-given (Some v ∷ ps) = omega (arith, length-given ps)

-- the value of a place is that of the list
pub given-at : (ps : List (Option ℤ)) (k : ℕ) (d : Option ℤ) → descends ps ≡ true → k < length ps → get_or ps k d ≡ slice_get (given ps) k
given-at [] k d falls within = absurd (omega (arith, within))
given-at (None ∷ ps) zero d falls within = refl
given-at (None ∷ ps) (suc k) d falls within =
    given-at ps k d (descends-rest None ps falls) (omega (arith, within)) ∙ ap (λ l. slice_get l k) (given-empty ps falls)
given-at (Some v ∷ ps) zero d falls within = refl
given-at (Some v ∷ ps) (suc k) d falls within = given-at ps k d (descends-rest (Some v) ps falls) (omega (arith, within))

-- ---- more values join the greatest ones

take-twice : (n : ℕ) (xs : List ℤ) → take n (take (suc n) xs) ≡ take n xs
take-twice zero xs = refl
take-twice (suc n) [] = refl
take-twice (suc n) (x ∷ xs) = ap (λ (l : List ℤ). x ∷ l) (take-twice n xs)

take-same : (n : ℕ) (xs : List ℤ) → take n (take n xs) ≡ take n xs
take-same zero xs = refl
take-same (suc n) [] = refl
take-same (suc n) (x ∷ xs) = ap (λ (l : List ℤ). x ∷ l) (take-same n xs)

take-fewer : (n : ℕ) (x : ℤ) (xs : List ℤ) → take n (x ∷ take n xs) ≡ take n (x ∷ xs)
take-fewer zero x xs = refl
take-fewer (suc n) x xs = ap (λ (l : List ℤ). x ∷ l) (take-twice n xs)

-- the first ones of the list with a value are those of the first ones with it
take-ranked_in : (n : ℕ) (v : ℤ) (xs : List ℤ) → take n (ranked_in v (take n xs)) ≡ take n (ranked_in v xs)
take-ranked_in zero v xs = refl
take-ranked_in (suc n) v [] = refl
take-ranked_in (suc n) v (x ∷ xs) = by_test (int_lt v x) (take-ranked_in n v xs)
  where
    by_test : (t : Bool) → take n (ranked_in v (take n xs)) ≡ take n (ranked_in v xs)
        → take (suc n) (cond t (x ∷ ranked_in v (take n xs)) (v ∷ x ∷ take n xs)) ≡ take (suc n) (cond t (x ∷ ranked_in v xs) (v ∷ x ∷ xs))
    by_test true rest = ap (λ (l : List ℤ). x ∷ l) rest
    by_test false rest = ap (λ (l : List ℤ). v ∷ l) (take-fewer n x xs)

pub take-inserted : (n : ℕ) (vs xs : List ℤ) → take n (inserted vs (take n xs)) ≡ take n (inserted vs xs)
take-inserted n [] xs = take-same n xs
take-inserted n (v ∷ vs) xs =
    sym (take-ranked_in n v (inserted vs (take n xs))) ∙ ap (λ l. take n (ranked_in v l)) (take-inserted n vs xs) ∙ take-ranked_in n v (inserted vs xs)

-- one copy more
pub one-more : (n k : ℕ) (v : ℤ) (xs top next : List ℤ) → top ≡ take n (inserted (replicate k v) xs) → next ≡ take n (ranked_in v top) → next ≡ take n (inserted (replicate (k + 1) v) xs)
one-more n k v xs top next is step =
    let more : replicate (k + 1) v ≡ v ∷ replicate k v = ap (λ m. replicate m v) (add-one k) in
    rw more (step ∙ ap (λ l. take n (ranked_in v l)) is ∙ take-ranked_in n v (inserted (replicate k v) xs))

pub inserted-append : (us vs xs : List ℤ) → inserted us (inserted vs xs) ≡ inserted (us ++ vs) xs
inserted-append [] vs xs = refl
inserted-append (u ∷ us) vs xs = ap (ranked_in u) (inserted-append us vs xs)

-- ---- the list of all of them

pub ranked-inserted : (vs xs : List ℤ) → ranked (vs ++ xs) ≡ inserted vs (ranked xs)
unfolding ranked
ranked-inserted [] xs = refl
ranked-inserted (v ∷ vs) xs = ap (ranked_in v) (ranked-inserted vs xs)

on_top : (x y : ℤ) (ys : List ℤ) → int_le y x ≡ true → ranked_in x (y ∷ ys) ≡ x ∷ y ∷ ys
on_top x y ys h = let k : int_lt x y ≡ false = le-not_lt x y h in rw k refl

pub ranked-itself : (xs : List ℤ) → falls xs ≡ true → ranked xs ≡ xs
unfolding ranked
ranked-itself [] h = refl
ranked-itself (x ∷ []) h = refl
ranked-itself (x ∷ y ∷ xs) h =
    let order = and_parts (int_le y x) (falls (y ∷ xs)) h in
    ap (ranked_in x) (ranked-itself (y ∷ xs) order.1) ∙ on_top x y xs order.0

-- the same place of the first ones and of all
pub take-at : (n k : ℕ) (xs : List ℤ) → k < n → slice_get (take n xs) k ≡ slice_get xs k
take-at zero k xs within = absurd (omega (arith, within))
take-at (suc n) k [] within = refl
take-at (suc n) zero (x ∷ xs) within = refl
take-at (suc n) (suc k) (x ∷ xs) within = take-at n k xs (omega (arith, within))

-- places give no more values than they are
pub take-given : (n : ℕ) (ps : List (Option ℤ)) (xs : List ℤ) → length ps ≡ n → given ps ≡ xs → xs ≡ take n xs
take-given n ps xs many is = rw (sym is) (sym (few-itself n (given ps) (omega (arith, length-given ps, many))))
