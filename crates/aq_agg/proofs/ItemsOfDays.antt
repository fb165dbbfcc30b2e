-- What days give, once one of them gives something else.
use Rattle.std.proofs.Common.{◌≡◌, ◌≢◌, ℕ, zero, suc, ◌+◌, ◌-◌, ◌<◌, ◌≤◌, List, [], ◌∷◌, ◌++◌, length, refl, ap, sym, subst, ◌∙◌, arith}
use Rattle.std.specs.Prelude.{Option, Some, None, filter_map}
use Rattle.std.specs.List.{cons_option, range_with_len}
use Rattle.std.specs.List.Sorted.{IsPermutation}
use Rattle.std.proofs.lemmas.List.{length-append}
use Rattle.std.proofs.lemmas.List.Elements.{filter_map-append}
use Rattle.std.proofs.lemmas.List.FromFn.{length-range_with_len}
use Rattle.std.proofs.lemmas.List.Sorted.{IsPermutation-middle, IsPermutation-refl, IsPermutation-sym}
use Rattle.aq_agg.specs.Bags.{with_item}

-- a range, cut at one of its numbers
pub cut : (a k m : ℕ) → range_with_len a (k + suc m) ≡ range_with_len a k ++ (a + k) ∷ range_with_len (a + k + 1) m
cut a zero m =
    let all : 0 + suc m ≡ suc m = omega arith in
    let e : a ≡ a + 0 = omega arith in
    ap (range_with_len a) all ∙ ap (λ n. n ∷ range_with_len (n + 1) m) e
cut a (suc k) m =
    let all : suc k + suc m ≡ suc (k + suc m) = omega arith in
    let e : a + 1 + k ≡ a + suc k = omega arith in
    ap (range_with_len a) all ∙ ap (λ (l : List ℕ). a ∷ l) (cut (a + 1) k m ∙ ap (λ n. range_with_len (a + 1) k ++ n ∷ range_with_len (n + 1) m) e)

pub range-joined : (a m n : ℕ) → range_with_len a (m + n) ≡ range_with_len a m ++ range_with_len (a + m) n
range-joined a zero n = let first : a ≡ a + 0 = omega arith in let all : 0 + n ≡ n = omega arith in ap (range_with_len a) all ∙ ap (λ k. range_with_len k n) first
range-joined a (suc m) n =
    let all : suc m + n ≡ suc (m + n) = omega arith in
    let next : a + 1 + m ≡ a + suc m = omega arith in
    ap (range_with_len a) all ∙ ap (λ l. a ∷ l) (range-joined (a + 1) m n ∙ ap (λ k. range_with_len (a + 1) m ++ range_with_len k n) next)

module _ {X : Type 0} where
  pub same_items : (f g : ℕ → Option X) (a n : ℕ) → ((k : ℕ) → a ≤ k → k < a + n → f k ≡ g k) → filter_map f (range_with_len a n) ≡ filter_map g (range_with_len a n)
  same_items f g a zero same = refl
  same_items f g a (suc n) same =
      let rest = same_items f g (a + 1) n (λ k low high. same k (omega (arith, low)) (omega (arith, high))) in
      λ i. cons_option (same a (omega arith) (omega arith) i) (rest i)

  abbrev no_item : Option X
  no_item = None

  pub no_items : {Y : Type 0} (xs : List Y) → filter_map (λ (y : Y). no_item) xs ≡ []
  no_items [] = refl
  no_items (x ∷ xs) = no_items xs

  pub few_items : (h : ℕ → Option X) (days : List ℕ) → length (filter_map h days) ≤ length days
  few_items h [] = omega arith
  few_items h (day ∷ days) = by (h day) (few_items h days)
    where
      by : (o : Option X) → length (filter_map h days) ≤ length days → length (cons_option o (filter_map h days)) ≤ length (day ∷ days)
      by None few = omega (arith, few)
      by (Some x) few = omega (arith, few)

  in_front : (o : Option X) (xs ys : List X) → IsPermutation (xs ++ cons_option o ys) (with_item o (xs ++ ys))
  in_front None xs ys = IsPermutation-refl (xs ++ ys)
  in_front (Some x) xs ys = IsPermutation-middle xs x ys

  -- the items of days, and those of the same days once one of them gives another item
  pub record Changed (f g : ℕ → Option X) (day : ℕ) (days : List ℕ) : Type 0 where
    pub rest : List X
    pub before : IsPermutation (filter_map f days) (with_item (f day) rest)
    pub after : IsPermutation (with_item (g day) rest) (filter_map g days)
    pub few : length rest < length days

  pub changed : (f g : ℕ → Option X) (a n day : ℕ) → a ≤ day → day < a + n → ((k : ℕ) → k ≢ day → f k ≡ g k) → Changed f g day (range_with_len a n)
  changed f g a n day low high same =
      let k : ℕ = day - a in
      let m : ℕ = n - (k + 1) in
      let all : k + suc m ≡ n = omega (arith, low, high) in
      let here : a + k ≡ day = omega (arith, low) in
      subst (Changed f g day) (ap (range_with_len a) all)
      (subst (λ d. Changed f g d (range_with_len a (k + suc m))) here (at k m here))
    where
      rests : (k m : ℕ) → a + k ≡ day → filter_map g (range_with_len a k) ++ filter_map g (range_with_len (a + k + 1) m) ≡ filter_map f (range_with_len a k) ++ filter_map f (range_with_len (a + k + 1) m)
      rests k m here = λ i. same_items g f a k (λ j l h. sym (same j (λ e. omega (arith, h, e, here)))) i ++ same_items g f (a + k + 1) m (λ j l h. sym (same j (λ e. omega (arith, l, e, here)))) i

      at : (k m : ℕ) → a + k ≡ day → Changed f g (a + k) (range_with_len a (k + suc m))
      at k m here =
          let front = range_with_len a k in
          let back = range_with_len (a + k + 1) m in
          let parts : (h : ℕ → Option X) → filter_map h (range_with_len a (k + suc m)) ≡ filter_map h front ++ cons_option (h (a + k)) (filter_map h back)
          = λ h. ap (filter_map h) (cut a k m) ∙ filter_map-append h front ((a + k) ∷ back) in
          record {
            rest = filter_map f front ++ filter_map f back;
            before = subst (λ (l : List X). IsPermutation l (with_item (f (a + k)) (filter_map f front ++ filter_map f back))) (sym (parts f)) (in_front (f (a + k)) (filter_map f front) (filter_map f back));
            after =
                subst (λ (l : List X). IsPermutation (with_item (g (a + k)) (filter_map f front ++ filter_map f back)) l) (sym (parts g))
                (subst (λ (l : List X). IsPermutation (with_item (g (a + k)) l) (filter_map g front ++ cons_option (g (a + k)) (filter_map g back))) (rests k m here)
                (IsPermutation-sym (filter_map g front ++ cons_option (g (a + k)) (filter_map g back)) (with_item (g (a + k)) (filter_map g front ++ filter_map g back))
                (in_front (g (a + k)) (filter_map g front) (filter_map g back))));
            few =
                let one = few_items f front in
                let two = few_items f back in
                let all = length-append (filter_map f front) (filter_map f back) in
                omega (arith, one, two, all, length-range_with_len a k, length-range_with_len (a + k + 1) m, length-range_with_len a (k + suc m));
          }
